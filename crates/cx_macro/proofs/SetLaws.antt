-- Hide sets to which nothing is added, and from which nothing is taken.
use Rattle.std.proofs.Common.{◌≡◌, ℕ, ◌+◌, ◌<◌, Bool, true, false, not, cond, ◌&&◌, ◌||◌, List, [], ◌∷◌, ◌++◌, filter, length, take, get_or, bytes_eq, refl, sym, ◌∙◌, ap, ap₂, subst}
use Rattle.std.proofs.lemmas.List.{append-nil, append_assoc, take_more}
use Rattle.std.proofs.lemmas.List.Folds.{list_any-append}
use Rattle.std.proofs.lemmas.Slice.Eq.{bytes_eq-Decides}
use Rattle.std.specs.List.{list_all, list_any}
use Rattle.cx_macro.specs.Hiding.{common, is_among, united, with_name}

-- no names with others
others_alone : (others : List (List ℕ)) → filter (λ name. not (is_among [] name)) others ≡ others
others_alone [] = refl
others_alone (o ∷ os) = ap (λ x. o ∷ x) (others_alone os)

pub united_none : (others : List (List ℕ)) → united [] others ≡ others
unfolding united
united_none others = others_alone others

pub united_empty : (names others : List (List ℕ)) → length names ≡ 0 → united names others ≡ others
united_empty [] others e = united_none others
united_empty (name ∷ names) others e = absurd cc

pub ruleset without_names = (united_none, united_empty)

-- names with others that are all among them
none_left : (names others : List (List ℕ)) → list_all (is_among names) others ≡ true → filter (λ name. not (is_among names name)) others ≡ []
none_left names [] h = refl
none_left names (o ∷ os) h = by (is_among names o) h (λ g. none_left names os g)
  where
    by : (b : Bool) → (b && list_all (is_among names) os) ≡ true
        → (list_all (is_among names) os ≡ true → filter (λ name. not (is_among names name)) os ≡ [])
        → cond (not b) (o ∷ filter (λ name. not (is_among names name)) os) (filter (λ name. not (is_among names name)) os) ≡ []
    by true h next = next h
    by false h next = absurd cc

pub united_within : (names others : List (List ℕ)) → list_all (is_among names) others ≡ true → united names others ≡ names
unfolding united
united_within names others h = ap (λ x. names ++ x) (none_left names others h) ∙ append-nil names

pub ruleset unions = (united_empty, united_within)

-- names with one that is among them, and with another
pub with_same : (name : List ℕ) (names : List (List ℕ)) → is_among names name ≡ true → united names (name ∷ []) ≡ names
with_same name names h = united_within names (name ∷ []) (ap (λ b. b && true) h)

pub with_other : (name : List ℕ) (names : List (List ℕ)) → is_among names name ≡ false → united names (name ∷ []) ≡ names ++ name ∷ []
unfolding united
with_other name names h = ap (λ b. names ++ cond (not b) (name ∷ []) []) h

pub ruleset one_more = (with_same, with_other)

-- what names have in common with themselves
among_rest : (front rest : List (List ℕ)) (name : List ℕ) → is_among (front ++ name ∷ rest) name ≡ true
among_rest front rest name =
    list_any-append (bytes_eq name) front (name ∷ rest)
    ∙ at (is_among front name) (bytes_eq name name) (is_among rest name) ((bytes_eq-Decides name name).1 refl)
  where
    at : (a b c : Bool) → b ≡ true → (a || (b || c)) ≡ true
    at true b c e = refl
    at false b c e = ap (λ x. x || c) e

all_kept : (front rest : List (List ℕ)) → filter (is_among (front ++ rest)) rest ≡ rest
all_kept front [] = refl
all_kept front (name ∷ rest) =
    ap (λ b. cond b (name ∷ filter (is_among (front ++ name ∷ rest)) rest) (filter (is_among (front ++ name ∷ rest)) rest)) (among_rest front rest name)
    ∙ ap (λ x. name ∷ x) (ap (λ x. filter (is_among x) rest) (sym (append_assoc front (name ∷ []) rest)) ∙ all_kept (front ++ name ∷ []) rest)

pub common_same : (names others : List (List ℕ)) → names ≡ others → common names others ≡ names
unfolding common
common_same names others e = ap (λ x. filter (is_among x) names) (sym e) ∙ all_kept [] names

-- names that are one so far, and one more of each
pub same_more : (xs ys : List (List ℕ)) (i : ℕ) (x y : List ℕ) (differ : Bool) → take i xs ≡ take i ys → length xs ≡ length ys → i < length xs
    → x ≡ get_or xs i x → y ≡ get_or ys i y → differ ≡ not (bytes_eq x y) → differ ≡ false → take (i + 1) xs ≡ take (i + 1) ys
same_more xs ys i x y differ front long below at other is fails =
    let same : x ≡ y = (bytes_eq-Decides x y).0 (passed (bytes_eq x y) (sym is ∙ fails)) in
    take_more xs i x below
    ∙ (ap₂ (λ (a : List (List ℕ)) (b : List ℕ). a ++ b ∷ []) front (sym at ∙ (same ∙ other)) ∙ sym (take_more ys i y (subst (λ n. i < n) long below)))
  where
    passed : (b : Bool) → not b ≡ false → b ≡ true
    passed true h = refl
    passed false h = absurd cc
