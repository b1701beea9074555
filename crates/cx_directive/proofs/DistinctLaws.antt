-- Names of which no two are one.
use Rattle.std.proofs.Common.{◌≡◌, ℕ, Bool, true, false, not, cond, ◌&&◌, ◌||◌, ◌↔◌, List, [], ◌∷◌, ◌++◌, Option, Some, is_some, option_map, bytes_eq, refl, sym, ◌∙◌, ap, ap₂}
use Rattle.std.proofs.lemmas.List.Folds.{list_any-append}
use Rattle.std.specs.List.{AllByRecursion, IsDistinct, find, list_any}
use Rattle.cx_table.proofs.EntryLaws.{bytes_eq-sym}
use Rattle.cx_table.specs.NameTable.{Entries, names_of, value_of, with_entry}
use Rattle.cx_directive.specs.Defines.{are_distinct}

-- ---- a set of names

module _ {V : Type 0} where
  -- a name has a value where it is one of the names
  value_any : (entries : Entries V) (name : List ℕ) → is_some (value_of entries name) ≡ list_any (bytes_eq name) (names_of entries)
  unfolding value_of
  value_any [] name = refl
  value_any (e ∷ es) name = by (bytes_eq e.0 name) (bytes_eq name e.0) (bytes_eq-sym e.0 name) (value_any es name)
    where
      by : (b c : Bool) → b ≡ c → is_some (option_map (λ x. x.1) (find (λ x. bytes_eq x.0 name) es)) ≡ list_any (bytes_eq name) (names_of es)
          → is_some (option_map (λ x. x.1) (cond b (Some e) (find (λ x. bytes_eq x.0 name) es))) ≡ (c || list_any (bytes_eq name) (names_of es))
      by true true e h = refl
      by true false e h = absurd cc
      by false true e h = absurd cc
      by false false e h = h

  -- a new name goes last
  new_last : (entries : Entries V) (name : List ℕ) (v : V) → list_any (bytes_eq name) (names_of entries) ≡ false
      → names_of (with_entry name v entries) ≡ names_of entries ++ name ∷ []
  unfolding with_entry
  new_last [] name v h = refl
  new_last (e ∷ es) name v h = by (bytes_eq e.0 name) (bytes_eq name e.0) (bytes_eq-sym e.0 name) h (new_last es name v)
    where
      by : (b c : Bool) → b ≡ c → (c || list_any (bytes_eq name) (names_of es)) ≡ false
          → (list_any (bytes_eq name) (names_of es) ≡ false → names_of (with_entry name v es) ≡ names_of es ++ name ∷ [])
          → names_of (cond b ((name, v) ∷ es) (e ∷ with_entry name v es)) ≡ e.0 ∷ (names_of es ++ name ∷ [])
      by true true e h k = absurd cc
      by true false e h k = absurd cc
      by false true e h k = absurd cc
      by false false d h k = ap (λ x. e.0 ∷ x) (k h)

  pub is_new : (entries : Entries V) (name copy : List ℕ) (before : Option V) (b : Bool) → before ≡ value_of entries copy → is_some before ≡ not b → copy ≡ name
      → b ≡ not (list_any (bytes_eq name) (names_of entries))
  is_new entries name copy before b h n e =
      turned (is_some before) b n ∙ ap not (ap is_some h ∙ (ap (λ x. is_some (value_of entries x)) e ∙ value_any entries name))
    where
      turned : (x y : Bool) → x ≡ not y → y ≡ not x
      turned true true e = absurd cc
      turned true false e = refl
      turned false true e = refl
      turned false false e = absurd cc

  pub new_names : (entries new : Entries V) (name copy : List ℕ) (v : V) (b : Bool) → b ≡ not (list_any (bytes_eq name) (names_of entries)) → copy ≡ name
      → new ≡ with_entry copy v entries → b ≡ true → names_of new ≡ names_of entries ++ name ∷ []
  new_names entries new name copy v b h c e t =
      let absent : list_any (bytes_eq name) (names_of entries) ≡ false = un (list_any (bytes_eq name) (names_of entries)) (sym h ∙ t) in
      ap (λ (x : Entries V). names_of x) (e ∙ ap (λ x. with_entry x v entries) c) ∙ new_last entries name v absent
    where
      un : (x : Bool) → not x ≡ true → x ≡ false
      un true h = absurd cc
      un false h = refl

-- ---- names after others

-- no name is one of those before it
abbrev pub distinct_after : List (List ℕ) → List (List ℕ) → Bool
distinct_after front [] = true
distinct_after front (name ∷ names) = not (list_any (bytes_eq name) front) && distinct_after (front ++ name ∷ []) names

-- none of the names is one of the others
abbrev pub none_among : List (List ℕ) → List (List ℕ) → Bool
none_among front [] = true
none_among front (name ∷ names) = not (list_any (bytes_eq name) front) && none_among front names

among_pushed : (front : List (List ℕ)) (name : List ℕ) (names : List (List ℕ))
    → none_among (front ++ name ∷ []) names ≡ (none_among front names && not (list_any (bytes_eq name) names))
among_pushed front name [] = refl
among_pushed front name (x ∷ xs) =
    ap₂ (λ (a b : Bool). not a && b) (list_any-append (bytes_eq x) front (name ∷ []) ∙ ap (λ b. list_any (bytes_eq x) front || (b || false)) (bytes_eq-sym x name)) (among_pushed front name xs)
    ∙ by (list_any (bytes_eq x) front) (bytes_eq name x) (none_among front xs) (list_any (bytes_eq name) xs)
  where
    by : (a b c d : Bool) → (not (a || (b || false)) && (c && not d)) ≡ ((not a && c) && not (b || d))
    by true b c d = refl
    by false true true d = refl
    by false true false d = refl
    by false false true d = refl
    by false false false d = refl

after_is : (front names : List (List ℕ)) → distinct_after front names ≡ (are_distinct names && none_among front names)
after_is front [] = refl
after_is front (x ∷ xs) =
    ap (λ b. not (list_any (bytes_eq x) front) && b) (after_is (front ++ x ∷ []) xs ∙ ap (λ b. are_distinct xs && b) (among_pushed front x xs))
    ∙ by (list_any (bytes_eq x) front) (are_distinct xs) (none_among front xs) (list_any (bytes_eq x) xs)
  where
    by : (a b c d : Bool) → (not a && (b && (c && not d))) ≡ ((not d && b) && (not a && c))
    by true true c true = refl
    by true true c false = refl
    by true false c true = refl
    by true false c false = refl
    by false true true true = refl
    by false true true false = refl
    by false true false true = refl
    by false true false false = refl
    by false false c true = refl
    by false false c false = refl

pub after_none : (names : List (List ℕ)) → distinct_after [] names ≡ are_distinct names
after_none names = after_is [] names ∙ (ap (λ b. are_distinct names && b) (none names) ∙ by (are_distinct names))
  where
    none : (names : List (List ℕ)) → none_among [] names ≡ true
    none [] = refl
    none (x ∷ xs) = none xs

    by : (b : Bool) → (b && true) ≡ b
    by true = refl
    by false = refl

-- ---- the words of std

apart : (p : List ℕ → Bool) (names : List (List ℕ)) → list_any p names ≡ false → AllByRecursion (λ x. p x ≡ false) names
apart p [] h = tt
apart p (x ∷ xs) h = (left (p x) (list_any p xs) h, apart p xs (right (p x) (list_any p xs) h))
  where
    left : (a b : Bool) → (a || b) ≡ false → a ≡ false
    left true b h = absurd cc
    left false b h = refl

    right : (a b : Bool) → (a || b) ≡ false → b ≡ false
    right true b h = absurd cc
    right false b h = h

not_any : (p : List ℕ → Bool) (names : List (List ℕ)) → AllByRecursion (λ x. p x ≡ false) names → list_any p names ≡ false
not_any p [] h = refl
not_any p (x ∷ xs) h = ap₂ (λ (a b : Bool). a || b) h.0 (not_any p xs h.1)

both : (a b : Bool) → (not a && b) ≡ true → (a ≡ false) × (b ≡ true)
both true b h = absurd cc
both false b h = (refl, h)

pub distinct_names : (names : List (List ℕ)) → are_distinct names ≡ true → IsDistinct bytes_eq names
unfolding IsDistinct
distinct_names [] h = tt
distinct_names (x ∷ xs) h =
    let two = both (list_any (bytes_eq x) xs) (are_distinct xs) h in (apart (bytes_eq x) xs two.0, distinct_names xs two.1)

pub names_distinct : (names : List (List ℕ)) → IsDistinct bytes_eq names → are_distinct names ≡ true
unfolding IsDistinct
names_distinct [] h = refl
names_distinct (x ∷ xs) h = ap₂ (λ (a b : Bool). not a && b) (not_any (bytes_eq x) xs h.0) (names_distinct xs h.1)

-- names are distinct exactly where the test answers so
pub distinct_exactly : (names : List (List ℕ)) → (are_distinct names ≡ true) ↔ IsDistinct bytes_eq names
distinct_exactly names = (distinct_names names, names_distinct names)

pub front_distinct : (names more : List (List ℕ)) → are_distinct (names ++ more) ≡ true → are_distinct names ≡ true
front_distinct [] more h = refl
front_distinct (x ∷ xs) more h =
    let two = both (list_any (bytes_eq x) (xs ++ more)) (are_distinct (xs ++ more)) h in
    ap₂ (λ (a b : Bool). not a && b)
    (less (list_any (bytes_eq x) xs) (list_any (bytes_eq x) more) (sym (list_any-append (bytes_eq x) xs more) ∙ two.0))
    (front_distinct xs more two.1)
  where
    less : (a b : Bool) → (a || b) ≡ false → a ≡ false
    less true b h = absurd cc
    less false b h = refl
