-- The values of names in lists that are put together, mapped and filtered.
use Rattle.std.proofs.Common.{◌≡◌, ℕ, zero, suc, Bool, true, false, cond, List, [], ◌∷◌, ◌++◌, map, filter, take, Option, Some, None, option_map, bytes_eq, refl, sym, ◌∙◌, ap, subst}
use Rattle.std.specs.List.{find, slice_get, IsDistinct, AllByRecursion}
use Rattle.std.specs.Option.{option_or}
use Rattle.std.proofs.lemmas.Slice.Eq.{bytes_eq-Decides}
use Rattle.cx_table.proofs.EntryLaws.{bytes_eq-sym}
use Rattle.cx_table.specs.NameTable.{Entries, HasDistinctNames, names_of, value_of, with_entry}

module _ {V : Type 0} where
  pub value_of-none : (name : List ℕ) → value_of {V = V} [] name ≡ None
  unfolding value_of
  value_of-none name = refl

  pub value_of-cons : (e : List ℕ × V) (es : Entries V) (name : List ℕ) → value_of (e ∷ es) name ≡ cond (bytes_eq e.0 name) (Some e.1) (value_of es name)
  unfolding value_of
  value_of-cons e es name = by (bytes_eq e.0 name)
    where
      by : (b : Bool) → option_map (λ x. x.1) (cond b (Some e) (find (λ x. bytes_eq x.0 name) es)) ≡ cond b (Some e.1) (option_map (λ x. x.1) (find (λ x. bytes_eq x.0 name) es))
      by true = refl
      by false = refl

  pub value_of-append : (es fs : Entries V) (name : List ℕ) → value_of (es ++ fs) name ≡ option_or (value_of es name) (value_of fs name)
  value_of-append [] fs name = rw (value_of-none name) refl
  value_of-append (e ∷ es) fs name =
      rw (value_of-cons e (es ++ fs) name, value_of-cons e es name) (by (bytes_eq e.0 name) (value_of-append es fs name))
    where
      by : (b : Bool) → value_of (es ++ fs) name ≡ option_or (value_of es name) (value_of fs name)
          → cond b (Some e.1) (value_of (es ++ fs) name) ≡ option_or (cond b (Some e.1) (value_of es name)) (value_of fs name)
      by true h = refl
      by false h = h

  -- a name that is none of these has no value
  pub absent : (name : List ℕ) (es : Entries V) → AllByRecursion (λ y. bytes_eq name y ≡ false) (names_of es) → value_of es name ≡ None
  absent name [] h = value_of-none name
  absent name (e ∷ es) h = rw (value_of-cons e es name, bytes_eq-sym e.0 name, h.0) (absent name es h.1)

  -- a name without a value goes last
  pub with_entry-absent : (name : List ℕ) (v : V) (es : Entries V) → value_of es name ≡ None → with_entry name v es ≡ es ++ (name, v) ∷ []
  unfolding with_entry
  with_entry-absent name v [] n = refl
  with_entry-absent name v (e ∷ es) n = by (bytes_eq e.0 name) (sym (value_of-cons e es name) ∙ n) (with_entry-absent name v es)
    where
      by : (b : Bool) → cond b (Some e.1) (value_of es name) ≡ None → (value_of es name ≡ None → with_entry name v es ≡ es ++ (name, v) ∷ [])
          → cond b ((name, v) ∷ es) (e ∷ with_entry name v es) ≡ e ∷ (es ++ (name, v) ∷ [])
      by true n rest = absurd (cc)
      by false n rest = ap (λ t. e ∷ t) (rest n)

  -- a name with a value keeps its place
  pub with_entry-append : (name : List ℕ) (v w : V) (es fs : Entries V) → value_of es name ≡ Some w → with_entry name v (es ++ fs) ≡ with_entry name v es ++ fs
  unfolding with_entry
  with_entry-append name v w [] fs n = absurd (cc (value_of-none name))
  with_entry-append name v w (e ∷ es) fs n = by (bytes_eq e.0 name) (sym (value_of-cons e es name) ∙ n) (with_entry-append name v w es fs)
    where
      by : (b : Bool) → cond b (Some e.1) (value_of es name) ≡ Some w → (value_of es name ≡ Some w → with_entry name v (es ++ fs) ≡ with_entry name v es ++ fs)
          → cond b ((name, v) ∷ (es ++ fs)) (e ∷ with_entry name v (es ++ fs)) ≡ cond b ((name, v) ∷ es) (e ∷ with_entry name v es) ++ fs
      by true n rest = refl
      by false n rest = ap (λ t. e ∷ t) (rest n)

  -- ---- the entry at an index

  name_at : (P : List ℕ → Type 0) (es : Entries V) (i : ℕ) (e : List ℕ × V) → slice_get es i ≡ Some e → AllByRecursion P (names_of es) → P e.0
  name_at P [] i e n h = absurd (cc)
  name_at P (x ∷ es) zero e n h = subst P (let f : x ≡ e = cc in ap (λ (t : List ℕ × V). t.0) f) h.0
  name_at P (x ∷ es) (suc i) e n h = name_at P es i e n h.1

  -- the name at an index is none of those before it
  pub new_at : (es : Entries V) (i : ℕ) (e : List ℕ × V) → HasDistinctNames es → slice_get es i ≡ Some e → value_of (take i es) e.0 ≡ None
  unfolding IsDistinct
  new_at [] i e d n = absurd (cc)
  new_at (x ∷ es) zero e d n = value_of-none e.0
  new_at (x ∷ es) (suc i) e d n =
      rw (value_of-cons x (take i es) e.0, name_at (λ y. bytes_eq x.0 y ≡ false) es i e n d.0) (new_at es i e d.1 n)

module _ {V W : Type 0} (f : List ℕ → V → W) where
  -- each value as f has it at its name
  abbrev pub by_name : Entries V → Entries W
  by_name es = map (λ e. (e.0, f e.0 e.1)) es

  pub value_of-by_name : (es : Entries V) (name : List ℕ) → value_of (by_name es) name ≡ option_map (f name) (value_of es name)
  value_of-by_name [] name = rw (value_of-none {V = W} name, value_of-none {V = V} name) refl
  value_of-by_name (e ∷ es) name =
      rw (value_of-cons (e.0, f e.0 e.1) (by_name es) name, value_of-cons e es name) (by (bytes_eq e.0 name) refl (value_of-by_name es name))
    where
      by : (b : Bool) → bytes_eq e.0 name ≡ b → value_of (by_name es) name ≡ option_map (f name) (value_of es name)
          → cond b (Some (f e.0 e.1)) (value_of (by_name es) name) ≡ option_map (f name) (cond b (Some e.1) (value_of es name))
      by true t h = ap (λ n. Some (f n e.1)) ((bytes_eq-Decides e.0 name).0 t)
      by false t h = h

  pub names_of-by_name : (es : Entries V) → names_of (by_name es) ≡ names_of es
  names_of-by_name [] = refl
  names_of-by_name (e ∷ es) = ap (λ t. e.0 ∷ t) (names_of-by_name es)

module _ {V : Type 0} (p : List ℕ → Bool) where
  kept : (b t u : Bool) (x : V) (in_all in_kept : Option V) → (b ≡ true → t ≡ u) → in_kept ≡ cond u in_all None
      → cond t (cond b (Some x) in_kept) in_kept ≡ cond u (cond b (Some x) in_all) None
  kept true true true x a k h e = refl
  kept true true false x a k h e = absurd (cc (h refl))
  kept true false true x a k h e = absurd (cc (h refl))
  kept true false false x a k h e = e
  kept false true u x a k h e = e
  kept false false u x a k h e = e

  -- the value of a name among those that pass
  pub value_of-filter : (es : Entries V) (name : List ℕ) → value_of (filter (λ e. p e.0) es) name ≡ cond (p name) (value_of es name) None
  value_of-filter [] name = rw (value_of-none {V = V} name) (by (p name) None)
    where
      by : (b : Bool) (o : Option V) → o ≡ cond b o o
      by true o = refl
      by false o = refl
  value_of-filter (e ∷ es) name =
      split (p e.0) ∙ (rw (value_of-cons e (filter (λ x. p x.0) es) name, value_of-cons e es name)
      (kept (bytes_eq e.0 name) (p e.0) (p name) e.1 (value_of es name) (value_of (filter (λ x. p x.0) es) name)
      (λ t. ap p ((bytes_eq-Decides e.0 name).0 t)) (value_of-filter es name)))
    where
      split : (b : Bool) → value_of (cond b (e ∷ filter (λ x. p x.0) es) (filter (λ x. p x.0) es)) name
          ≡ cond b (value_of (e ∷ filter (λ x. p x.0) es) name) (value_of (filter (λ x. p x.0) es) name)
      split true = refl
      split false = refl
