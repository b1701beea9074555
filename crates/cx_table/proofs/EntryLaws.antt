-- What `indexmap` says of its entries, said of the pairs of names and values.
use Rattle.std.proofs.Common.{◌≡◌, ℕ, Bool, true, false, not, cond, List, [], ◌∷◌, map, Option, Some, None, option_map, is_some, position, Bor, Vec, Global, bytes_eq, refl, sym, ◌∙◌, ap, subst, ◌+◌}
use Rattle.std.specs.List.{find, IsDistinct, AllByRecursion, position_or_len}
use Rattle.std.specs.Option.{option_copied}
use Rattle.std.specs.Map.{keys_of, lookup, remove_entry}
use Rattle.std.proofs.lemmas.Slice.Eq.{bytes_eq-Decides}
use Rattle.std.proofs.lemmas.List.{length-map}
use Rattle.indexmap.specs.IndexMap.{insert_entry}
use Rattle.cx_table.specs.NameTable.{Entries, HasDistinctNames, names_of, index_of, value_of, with_entry, without_entry}

abbrev Key : Type 0
Key = Vec ℕ Global

abbrev Same : Key → Key → Bool
Same a b = bytes_eq a.items b.items

both_or_neither : (x y : Bool) → (x ≡ true → y ≡ true) → (y ≡ true → x ≡ true) → x ≡ y
both_or_neither true y h k = sym (h refl)
both_or_neither false true h k = k refl
both_or_neither false false h k = refl

pub bytes_eq-sym : (a b : List ℕ) → bytes_eq a b ≡ bytes_eq b a
bytes_eq-sym a b =
    both_or_neither (bytes_eq a b) (bytes_eq b a) (λ h. (bytes_eq-Decides b a).1 (sym ((bytes_eq-Decides a b).0 h)))
    (λ h. (bytes_eq-Decides a b).1 (sym ((bytes_eq-Decides b a).0 h)))

position_or_len_map : {X Y : Type 0} (f : X → Y) (p : Y → Bool) (xs : List X) → position_or_len p (map f xs) ≡ position_or_len (λ x. p (f x)) xs
position_or_len_map f p [] = refl
position_or_len_map f p (x ∷ xs) = ap (λ n. cond (not (p (f x))) (1 + n) 0) (position_or_len_map f p xs)

position_map : {X Y : Type 0} (f : X → Y) (p : Y → Bool) (xs : List X) → position p (map f xs) ≡ position (λ x. p (f x)) xs
position_map f p xs = rw (position_or_len_map f p xs, length-map xs f) refl

all_others : (k : Key) (ks : List Key) → AllByRecursion (λ y. Same k y ≡ false) ks → AllByRecursion (λ y. bytes_eq k.items y ≡ false) (map (λ k. k.items) ks)
all_others k [] h = tt
all_others k (x ∷ ks) h = (h.0, all_others k ks h.1)

distinct_keys : (ks : List Key) → IsDistinct Same ks → IsDistinct bytes_eq (map (λ k. k.items) ks)
unfolding IsDistinct
distinct_keys [] h = tt
distinct_keys (k ∷ ks) h = (all_others k ks h.0, distinct_keys ks h.1)

module _ {V : Type 0} where
  abbrev entry : Key × V → List ℕ × V
  entry e = (e.0.items, e.1)

  lookup_is : (name : List ℕ) (es : List (Key × V)) → lookup (λ k. bytes_eq name k.items) es ≡ value_of (map entry es) name
  unfolding value_of
  lookup_is name [] = refl
  lookup_is name (e ∷ es) =
      subst (λ b. cond b (Some e.1) (lookup (λ k. bytes_eq name k.items) es)
      ≡ option_map (λ x. x.1) (cond (bytes_eq e.0.items name) (Some (entry e)) (find (λ x. bytes_eq x.0 name) (map entry es)))) (bytes_eq-sym e.0.items name)
      (by (bytes_eq e.0.items name) (lookup_is name es))
    where
      by : (b : Bool) → lookup (λ k. bytes_eq name k.items) es ≡ option_map (λ x. x.1) (find (λ x. bytes_eq x.0 name) (map entry es))
          → cond b (Some e.1) (lookup (λ k. bytes_eq name k.items) es)
          ≡ option_map (λ x. x.1) (cond b (Some (entry e)) (find (λ x. bytes_eq x.0 name) (map entry es)))
      by true h = refl
      by false h = h

  -- the value that a look-up gives
  pub found : (name : List ℕ) (es : List (Key × V)) (entries : Entries V) (r : Option V) → r ≡ lookup (λ k. bytes_eq name k.items) es
      → map entry es ≡ entries → r ≡ value_of entries name
  found name es entries r e v = e ∙ (lookup_is name es ∙ ap (λ t. value_of t name) v)

  -- the same, by an owned name
  pub found_same : (k : Key) (name : List ℕ) (es : List (Key × V)) (entries : Entries V) (r : Option V) → r ≡ lookup (Same k) es
      → k.items ≡ name → map entry es ≡ entries → r ≡ value_of entries name
  found_same k name es entries r e f v = found k.items es entries r e v ∙ ap (value_of entries) f

  -- whether a look-up gives a value
  pub some_found : (name : List ℕ) (es : List (Key × V)) (entries : Entries V) (r : Option (Bor V)) → option_copied r ≡ lookup (λ k. bytes_eq name k.items) es
      → map entry es ≡ entries → is_some r ≡ is_some (value_of entries name)
  some_found name es entries r e v = some_copied r ∙ ap is_some (found name es entries (option_copied r) e v)
    where
      some_copied : (r : Option (Bor V)) → is_some r ≡ is_some (option_copied r)
      some_copied None = refl
      some_copied (Some x) = refl

  names_are : (es : List (Key × V)) → names_of (map entry es) ≡ map (λ k. k.items) (keys_of es)
  names_are [] = refl
  names_are (e ∷ es) = ap (λ t. e.0.items ∷ t) (names_are es)

  -- the index that a look-up gives
  pub found_at : (name : List ℕ) (es : List (Key × V)) (entries : Entries V) (r : Option ℕ) → r ≡ position (λ k. bytes_eq name k.items) (keys_of es)
      → map entry es ≡ entries → r ≡ index_of entries name
  unfolding index_of
  found_at name es entries r e v =
      e ∙ (sym (position_map (λ k. k.items) (bytes_eq name) (keys_of es)) ∙ (ap (position (bytes_eq name)) (sym (names_are es)) ∙ ap (λ t. position (bytes_eq name) (names_of t)) v))

  -- no name stands twice
  pub distinct : (es : List (Key × V)) (entries : Entries V) → IsDistinct Same (keys_of es) → map entry es ≡ entries → HasDistinctNames entries
  distinct es entries d v = subst HasDistinctNames v (subst (IsDistinct bytes_eq) (sym (names_are es)) (distinct_keys (keys_of es) d))

  insert_is : (k : Key) (w : V) (es : List (Key × V)) → map entry (insert_entry Same es k w) ≡ with_entry k.items w (map entry es)
  unfolding with_entry
  insert_is k w [] = refl
  insert_is k w (e ∷ es) =
      subst (λ b. map entry (cond b ((e.0, w) ∷ es) (e ∷ insert_entry Same es k w))
      ≡ cond (bytes_eq e.0.items k.items) ((k.items, w) ∷ map entry es) (entry e ∷ with_entry k.items w (map entry es)))
      (bytes_eq-sym e.0.items k.items) (by (bytes_eq e.0.items k.items) refl (insert_is k w es))
    where
      by : (b : Bool) → bytes_eq e.0.items k.items ≡ b
          → map entry (insert_entry Same es k w) ≡ with_entry k.items w (map entry es)
          → map entry (cond b ((e.0, w) ∷ es) (e ∷ insert_entry Same es k w))
          ≡ cond b ((k.items, w) ∷ map entry es) (entry e ∷ with_entry k.items w (map entry es))
      by true t h = ap (λ n. (n, w) ∷ map entry es) ((bytes_eq-Decides e.0.items k.items).0 t)
      by false t h = ap (λ t'. entry e ∷ t') h

  -- the entries after an insertion
  pub inserted : (k : Key) (w : V) (name : List ℕ) (es new : List (Key × V)) (entries : Entries V) → new ≡ insert_entry Same es k w
      → k.items ≡ name → map entry es ≡ entries → map entry new ≡ with_entry name w entries
  inserted k w name es new entries e f v = ap (map entry) e ∙ (insert_is k w es ∙ (ap (λ n. with_entry n w (map entry es)) f ∙ ap (with_entry name w) v))

  filter_cons : (name : List ℕ) (x : List ℕ × V) (xs : Entries V) (b : Bool) → bytes_eq x.0 name ≡ b
      → without_entry name (x ∷ xs) ≡ cond b (without_entry name xs) (x ∷ without_entry name xs)
  unfolding without_entry
  filter_cons name x xs true e = rw e refl
  filter_cons name x xs false e = rw e refl

  none_out : (name : List ℕ) → without_entry {V = V} name [] ≡ []
  unfolding without_entry
  none_out name = refl

  -- where a name is not, nothing is taken out
  absent_stays : (name : List ℕ) (es : List (Key × V)) → lookup (λ k. bytes_eq name k.items) es ≡ None → without_entry name (map entry es) ≡ map entry es
  absent_stays name [] h = none_out name
  absent_stays name (e ∷ es) h = by (bytes_eq name e.0.items) refl h (absent_stays name es)
    where
      by : (b : Bool) → bytes_eq name e.0.items ≡ b → cond b (Some e.1) (lookup (λ k. bytes_eq name k.items) es) ≡ None
          → (lookup (λ k. bytes_eq name k.items) es ≡ None → without_entry name (map entry es) ≡ map entry es)
          → without_entry name (entry e ∷ map entry es) ≡ entry e ∷ map entry es
      by true t n rest = absurd cc
      by false t n rest = filter_cons name (entry e) (map entry es) false (bytes_eq-sym e.0.items name ∙ t) ∙ ap (λ x. entry e ∷ x) (rest n)

  -- taking the first entry of a name out leaves the others
  first_out : (name : List ℕ) (es : List (Key × V)) → lookup (λ k. bytes_eq name k.items) (remove_entry (λ k. bytes_eq name k.items) es) ≡ None
      → map entry (remove_entry (λ k. bytes_eq name k.items) es) ≡ without_entry name (map entry es)
  first_out name [] h = sym (absent_stays name [] refl)
  first_out name (e ∷ es) h = by (bytes_eq name e.0.items) refl h (first_out name es)
    where
      by : (b : Bool) → bytes_eq name e.0.items ≡ b
          → lookup (λ k. bytes_eq name k.items) (cond b es (e ∷ remove_entry (λ k. bytes_eq name k.items) es)) ≡ None
          → (lookup (λ k. bytes_eq name k.items) (remove_entry (λ k. bytes_eq name k.items) es) ≡ None
          → map entry (remove_entry (λ k. bytes_eq name k.items) es) ≡ without_entry name (map entry es))
          → map entry (cond b es (e ∷ remove_entry (λ k. bytes_eq name k.items) es)) ≡ without_entry name (entry e ∷ map entry es)
      by true t n rest = sym (filter_cons name (entry e) (map entry es) true (bytes_eq-sym e.0.items name ∙ t) ∙ absent_stays name es n)
      by false t n rest =
          ap (λ x. entry e ∷ x) (rest (subst (λ b. cond b (Some e.1) (lookup (λ k. bytes_eq name k.items) (remove_entry (λ k. bytes_eq name k.items) es)) ≡ None) t n))
          ∙ sym (filter_cons name (entry e) (map entry es) false (bytes_eq-sym e.0.items name ∙ t))

  -- the entries after a removal
  pub removed : (name : List ℕ) (es new : List (Key × V)) (entries : Entries V) → new ≡ remove_entry (λ k. bytes_eq name k.items) es
      → lookup (λ k. bytes_eq name k.items) new ≡ None → map entry es ≡ entries → map entry new ≡ without_entry name entries
  removed name es new entries e n v =
      ap (map entry) e ∙ (first_out name es (subst (λ t. lookup (λ k. bytes_eq name k.items) t ≡ None) e n) ∙ ap (without_entry name) v)
