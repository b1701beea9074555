-- What the words on names and values are to one another.
use Rattle.std.proofs.Common.{◌≡◌, ℕ, ◌+◌, ◌≤◌, Bool, true, false, not, cond, List, [], ◌∷◌, ◌++◌, length, filter, Some, None, option_map, bytes_eq, nat_lt, position, refl, ◌∙◌, ap, arith}
use Rattle.std.specs.List.{find, position_or_len}
use Rattle.std.proofs.lemmas.Bool.Decides.{nat_tests}
use Rattle.std.proofs.lemmas.Slice.Eq.{bytes_eq-Decides}
use Rattle.cx_table.proofs.EntryLaws.{bytes_eq-sym}
use Rattle.cx_table.specs.NameTable.{Entries, names_of, index_of, value_of, with_entry, without_entry}

-- what is found at no position is found nowhere
none_past : {X : Type 0} (p : X → Bool) (xs : List X) → position p xs ≡ None → length xs ≤ position_or_len p xs
none_past p xs e = elim (nat_lt (position_or_len p xs) (length xs)) as (λ b. nat_lt (position_or_len p xs) (length xs) ≡ b → cond b (Some (position_or_len p xs)) None ≡ None → length xs ≤ position_or_len p xs) [
  | true ↦ λ t n. absurd cc
  | false ↦ λ t n. grind (arith, nat_tests, t)
] refl e

module _ {V : Type 0} where
  past_all : (name : List ℕ) (v : V) (es : Entries V) → length (names_of es) ≤ position_or_len (bytes_eq name) (names_of es)
      → with_entry name v es ≡ es ++ (name, v) ∷ []
  unfolding with_entry
  past_all name v [] h = refl
  past_all name v (e ∷ es) h = by (bytes_eq name e.0) refl h (past_all name v es)
    where
      by : (b : Bool) → bytes_eq name e.0 ≡ b → length (e.0 ∷ names_of es) ≤ cond (not b) (1 + position_or_len (bytes_eq name) (names_of es)) 0
          → (length (names_of es) ≤ position_or_len (bytes_eq name) (names_of es) → with_entry name v es ≡ es ++ (name, v) ∷ [])
          → cond (bytes_eq e.0 name) ((name, v) ∷ es) (e ∷ with_entry name v es) ≡ e ∷ (es ++ (name, v) ∷ [])
      by true t k rest = absurd (omega arith)
      by false t k rest = rw (bytes_eq-sym e.0 name ∙ t) (ap (λ x. e ∷ x) (rest (omega arith)))

  -- a new name goes last
  pub with_entry-new : (name : List ℕ) (v : V) (es : Entries V) → index_of es name ≡ None → with_entry name v es ≡ es ++ (name, v) ∷ []
  unfolding index_of
  with_entry-new name v es e = past_all name v es (none_past (bytes_eq name) (names_of es) e)

  -- a name has the value that it is given
  pub value_of-with_entry : (name : List ℕ) (v : V) (es : Entries V) → value_of (with_entry name v es) name ≡ Some v
  unfolding value_of with_entry
  value_of-with_entry name v [] = rw ((bytes_eq-Decides name name).1 refl) refl
  value_of-with_entry name v (e ∷ es) = by (bytes_eq e.0 name) refl (value_of-with_entry name v es)
    where
      by : (b : Bool) → bytes_eq e.0 name ≡ b → option_map (λ x. x.1) (find (λ x. bytes_eq x.0 name) (with_entry name v es)) ≡ Some v
          → option_map (λ x. x.1) (find (λ x. bytes_eq x.0 name) (cond b ((name, v) ∷ es) (e ∷ with_entry name v es))) ≡ Some v
      by true t h = rw ((bytes_eq-Decides name name).1 refl) refl
      by false t h = rw t h

  -- a name that is taken out has none
  pub value_of-without_entry : (name : List ℕ) (es : Entries V) → value_of (without_entry name es) name ≡ None
  unfolding value_of without_entry
  value_of-without_entry name [] = refl
  value_of-without_entry name (e ∷ es) = by (bytes_eq e.0 name) refl (value_of-without_entry name es)
    where
      by : (b : Bool) → bytes_eq e.0 name ≡ b → option_map (λ x. x.1) (find (λ x. bytes_eq x.0 name) (filter (λ x. not (bytes_eq x.0 name)) es)) ≡ None
          → option_map (λ x. x.1) (find (λ x. bytes_eq x.0 name) (cond (not b) (e ∷ filter (λ x. not (bytes_eq x.0 name)) es) (filter (λ x. not (bytes_eq x.0 name)) es))) ≡ None
      by true t h = h
      by false t h = rw t h

  -- and another name keeps its value
  pub value_of-with_entry_other : (name other : List ℕ) (v : V) (es : Entries V) → bytes_eq name other ≡ false → value_of (with_entry name v es) other ≡ value_of es other
  unfolding value_of with_entry
  value_of-with_entry_other name other v [] d = rw d refl
  value_of-with_entry_other name other v (e ∷ es) d = by (bytes_eq e.0 name) refl (value_of-with_entry_other name other v es d)
    where
      by : (b : Bool) → bytes_eq e.0 name ≡ b
          → option_map (λ x. x.1) (find (λ x. bytes_eq x.0 other) (with_entry name v es)) ≡ option_map (λ x. x.1) (find (λ x. bytes_eq x.0 other) es)
          → option_map (λ x. x.1) (find (λ x. bytes_eq x.0 other) (cond b ((name, v) ∷ es) (e ∷ with_entry name v es)))
          ≡ option_map (λ x. x.1) (find (λ x. bytes_eq x.0 other) (e ∷ es))
      by true t h = rw ((bytes_eq-Decides e.0 name).0 t, d) refl
      by false t h = over (bytes_eq e.0 other) h
        where
          over : (c : Bool) → option_map (λ x. x.1) (find (λ x. bytes_eq x.0 other) (with_entry name v es)) ≡ option_map (λ x. x.1) (find (λ x. bytes_eq x.0 other) es)
              → option_map (λ x. x.1) (cond c (Some e) (find (λ x. bytes_eq x.0 other) (with_entry name v es)))
              ≡ option_map (λ x. x.1) (cond c (Some e) (find (λ x. bytes_eq x.0 other) es))
          over true h = refl
          over false h = h
