-- The words on names and values, where each value is seen as another: for a view of a table.
use Rattle.std.proofs.Common.{◌≡◌, ℕ, Bool, true, false, not, cond, List, [], ◌∷◌, map, filter, Some, option_map, bytes_eq, refl, ap}
use Rattle.std.specs.List.{find}
use Rattle.cx_table.specs.NameTable.{Entries, value_of, with_entry, without_entry}

module _ {V W : Type 0} (f : V → W) where
  -- each value as f has it
  abbrev pub mapped : Entries V → Entries W
  mapped entries = map (λ e. (e.0, f e.1)) entries

  pub value_of-mapped : (entries : Entries V) (name : List ℕ) → value_of (mapped entries) name ≡ option_map f (value_of entries name)
  unfolding value_of
  value_of-mapped [] name = refl
  value_of-mapped (e ∷ es) name = by (bytes_eq e.0 name) (value_of-mapped es name)
    where
      by : (b : Bool) → option_map (λ x. x.1) (find (λ x. bytes_eq x.0 name) (mapped es)) ≡ option_map f (option_map (λ x. x.1) (find (λ x. bytes_eq x.0 name) es))
          → option_map (λ x. x.1) (cond b (Some (e.0, f e.1)) (find (λ x. bytes_eq x.0 name) (mapped es)))
          ≡ option_map f (option_map (λ x. x.1) (cond b (Some e) (find (λ x. bytes_eq x.0 name) es)))
      by true h = refl
      by false h = h

  pub with_entry-mapped : (name : List ℕ) (v : V) (entries : Entries V) → mapped (with_entry name v entries) ≡ with_entry name (f v) (mapped entries)
  unfolding with_entry
  with_entry-mapped name v [] = refl
  with_entry-mapped name v (e ∷ es) = by (bytes_eq e.0 name) (with_entry-mapped name v es)
    where
      by : (b : Bool) → mapped (with_entry name v es) ≡ with_entry name (f v) (mapped es)
          → mapped (cond b ((name, v) ∷ es) (e ∷ with_entry name v es)) ≡ cond b ((name, f v) ∷ mapped es) ((e.0, f e.1) ∷ with_entry name (f v) (mapped es))
      by true h = refl
      by false h = ap (λ t. (e.0, f e.1) ∷ t) h

  pub without_entry-mapped : (name : List ℕ) (entries : Entries V) → mapped (without_entry name entries) ≡ without_entry name (mapped entries)
  unfolding without_entry
  without_entry-mapped name [] = refl
  without_entry-mapped name (e ∷ es) = by (not (bytes_eq e.0 name)) (without_entry-mapped name es)
    where
      by : (b : Bool) → mapped (filter (λ x. not (bytes_eq x.0 name)) es) ≡ filter (λ x. not (bytes_eq x.0 name)) (mapped es)
          → mapped (cond b (e ∷ filter (λ x. not (bytes_eq x.0 name)) es) (filter (λ x. not (bytes_eq x.0 name)) es))
          ≡ cond b ((e.0, f e.1) ∷ filter (λ x. not (bytes_eq x.0 name)) (mapped es)) (filter (λ x. not (bytes_eq x.0 name)) (mapped es))
      by true h = ap (λ t. (e.0, f e.1) ∷ t) h
      by false h = h
