-- Laws of what `--enable=` switches on.
use Rattle.std.proofs.Common.{◌≡◌, ℕ, List, [], ◌∷◌, Bool, true, false, ◌||◌, Bor, Option, None, Some, get_or, ◌≢◌, refl, arith}
use Rattle.std.specs.Prelude.{MatchOption}
use Rattle.std.specs.List.{slice_split}
use Rattle.std.proofs.lemmas.List.Splits.{slice_split_first, slice_split_none}
use Rattle.std.proofs.lemmas.Str.Pattern.{IsSplitOnceResult, split_once_first, split_parts}
use Rattle.std.proofs.lemmas.Grind.{get_or_default_zero}
use Rattle.std.proofs.lemmas.Bool.Decides.{nat_tests}
use Rattle.cx_options.specs.declared.enabled.Enabled.{Enabled}
use Rattle.cx_options.specs.Arguments.{enabled_by, enabled_alone, is_comma, joined, nothing, with_others}
use Rattle.cx_options.specs.Shapes.Naming.{names_of}

-- nothing is added to what the names of a list switch on
pub with_nothing : (o : Option Enabled) → with_others (Some nothing) o ≡ o
with_nothing None = refl
with_nothing (Some e) = refl

or_assoc : (a b c : Bool) → ((a || b) || c) ≡ (a || (b || c))
or_assoc true b c = refl
or_assoc false b c = refl

pub with_one_more : (a b : Enabled) (o : Option Enabled) → with_others (Some (joined a b)) o ≡ with_others (Some a) (with_others (Some b) o)
with_one_more a b None = refl
with_one_more a b (Some c) =
    simp or_assoc

pub enabled_cons : (name : List ℕ) (names : List (List ℕ)) → enabled_by (name ∷ names) ≡ with_others (enabled_alone name) (enabled_by names)
unfolding enabled_by
enabled_cons name names = refl

pub enabled_none : enabled_by [] ≡ Some nothing
unfolding enabled_by
enabled_none = refl

pub names_all : (names : Bor (List ℕ)) → names_of (Some names) ≡ slice_split is_comma names.now
unfolding names_of
names_all names = refl

pub names_none : names_of None ≡ []
unfolding names_of
names_none = refl

pub ruleset enabled_laws = (with_nothing, with_one_more, enabled_cons, enabled_none, names_all, names_none)

other_byte : (b : ℕ) → b ≢ 44 → is_comma b ≡ false
other_byte b e = grind (arith, nat_tests)

-- what `split_once` answers at a comma: the first name, and the names behind it
pub split_once_names : (names : List ℕ) (r : Option (Bor (List ℕ) × Bor (List ℕ))) → IsSplitOnceResult 44 names r
    → MatchOption r (slice_split is_comma names ≡ names ∷ []) (λ x. slice_split is_comma names ≡ x.0.now ∷ slice_split is_comma x.1.now)
split_once_names names None h =
    slice_split_none is_comma names (λ k d l.
    let none = split_parts 44 names None h (omega arith) in
    let zero = get_or_default_zero names k d l in
    rw zero (other_byte (get_or names k 0) (none k l)))
split_once_names names (Some x) h =
    let parts = split_once_first 44 names (Some x) h (omega arith) in
    rw (slice_split_first is_comma names 0 parts.0, parts.1, parts.2)
