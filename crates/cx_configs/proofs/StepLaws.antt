-- What is remembered of lists that were found.
use Rattle.std.proofs.Common.{◌≡◌, ℕ, List, [], ◌∷◌, Bool, true, false, cond, Bor, Vec, Global, Option, Some, None, is_some, map, refl, sym, ap, ◌∙◌, subst, true≢false}
use Rattle.std.specs.Prelude.{◌&&◌, IfSome, if◌then◌else◌, bytes_eq, nat_eq, slice_get}
use Rattle.std.specs.Option.{option_eq}
use Rattle.std.specs.BTreeSet.{BTreeSet}
use Rattle.std.specs.Map.{lookup}
use Rattle.std.specs.Cmp.Lexicographic.{pointwise}
use Rattle.std.proofs.lemmas.Option.{slice_get-map}
use Rattle.std.proofs.lemmas.Bool.Decides.{Decides-eqb}
use Rattle.indexmap.specs.IndexMap.{insert_entry}
use Rattle.indexmap.specs.IndexSet.{insert_key}
use Rattle.cx_configs.specs.Configurations.{has_names}
use Rattle.cx_configs.specs.Questions.{Name}
use Rattle.cx_configs.specs.Shapes.Found.{AreFound, Found, IsFound, IsListed, names_at, names_in}
use Rattle.cx_configs.specs.Shapes.Lists.{with_list}
use Rattle.cx_configs.specs.Shapes.Sets.{with_all}
use Rattle.cx_configs.proofs.FoundLaws.{Grows, all_found_grown, both, grows_with_list, listed_grown, names_grown, same_lists, with_given}
use Rattle.cx_configs.proofs.SetLaws.{inserted_last, same_names}

abbrev pub Lists : Type 0
Lists = List (List Name)

abbrev pub Names : Type 0
Names = List (Bor (List ℕ))

abbrev pub same_keys : Names → Names → Bool
same_keys a b = pointwise (λ x y. pointwise nat_eq x.now y.now) a b

abbrev pub seen : Names → List Name
seen names = map (λ n. n.now) names

keys_are : (a b : Names) → same_keys a b ≡ true → seen a ≡ seen b
keys_are a b e = same_lists (seen a) (seen b) (sym (same_names a b) ∙ e)

abbrev pub Step : Type 0
Step = Option ℕ × Vec (Bor (List ℕ)) Global

abbrev pub same_step : Step → Step → Bool
same_step a b = option_eq nat_eq a.0 b.0 && same_keys a.1.items b.1.items

abbrev pub found_by : Step × ℕ → Found
found_by e = record { around = e.0.0; added = seen e.0.1.items; number = e.1 }

same_option : (a b : Option ℕ) → option_eq nat_eq a b ≡ true → a ≡ b
same_option None None e = refl
same_option None (Some y) e = absurd (true≢false (sym e))
same_option (Some x) None e = absurd (true≢false (sym e))
same_option (Some x) (Some y) e = ap (λ n. Some n) ((Decides-eqb x y).0 e)

-- what holds of one step holds of another that is the same
step_is : (P : Found → Type 0) (a b : Step) (number : ℕ) → same_step a b ≡ true
    → P (found_by (a, number)) → P (found_by (b, number))
step_is P a b number e p =
    let parts = both (option_eq nat_eq a.0 b.0) (same_keys a.1.items b.1.items) e in
    subst (λ added. P (record { around = b.0; added = added; number = number })) (keys_are a.1.items b.1.items parts.1)
    (subst (λ around. P (record { around = around; added = seen a.1.items; number = number })) (same_option a.0 b.0 parts.0) p)

step_was : (P : Found → Type 0) (a b : Step) (number : ℕ) → same_step a b ≡ true
    → P (found_by (b, number)) → P (found_by (a, number))
step_was P a b number e p =
    let parts = both (option_eq nat_eq a.0 b.0) (same_keys a.1.items b.1.items) e in
    subst (λ added. P (record { around = a.0; added = added; number = number })) (sym (keys_are a.1.items b.1.items parts.1))
    (subst (λ around. P (record { around = around; added = seen b.1.items; number = number })) (sym (same_option a.0 b.0 parts.0)) p)

pub found_is : (lists : Lists) (step : Step) (es : List (Step × ℕ)) → AreFound lists (map found_by es)
    → IfSome (lookup (same_step step) es) (λ number. IsFound lists (found_by (step, number)))
found_is lists step [] h = tt
found_is lists step (e ∷ es) h = by (same_step step e.0) refl (found_is lists step es h.1)
  where
    by : (b : Bool) → same_step step e.0 ≡ b
        → IfSome (lookup (same_step step) es) (λ number. IsFound lists (found_by (step, number)))
        → IfSome (cond b (Some e.1) (lookup (same_step step) es)) (λ number. IsFound lists (found_by (step, number)))
    by true same rest = step_was (IsFound lists) step e.0 e.1 same h.0
    by false same rest = rest

found_more : (lists : Lists) (es : List (Step × ℕ)) (step : Step) (number : ℕ) → AreFound lists (map found_by es)
    → IsFound lists (found_by (step, number)) → AreFound lists (map found_by (insert_entry same_step es step number))
found_more lists [] step number all p = (p, tt)
found_more lists (e ∷ es) step number all p = by (same_step step e.0) refl (found_more lists es step number all.1 p)
  where
    by : (b : Bool) → same_step step e.0 ≡ b → AreFound lists (map found_by (insert_entry same_step es step number))
        → AreFound lists (map found_by (if b then (e.0, number) ∷ es else e ∷ insert_entry same_step es step number))
    by true same rest = (step_is (IsFound lists) step e.0 number same p, all.1)
    by false same rest = (all.0, rest)

abbrev pub Tree : Type 0
Tree = BTreeSet (Bor (List ℕ))

abbrev pub same_tree : Tree → Tree → Bool
same_tree a b = same_keys a.keys b.keys

abbrev pub seen_lists : List Tree → Lists
seen_lists trees = map (λ k. map (λ n. n.now) k.keys) trees

-- A list is put in.
module _ (before after : List Tree) (lists : Lists) (tree : Tree) (names : List Name)
    (are : seen_lists before ≡ lists) (tree_is : seen tree.keys ≡ names) (put : after ≡ insert_key same_tree before tree)
    (given : has_names names ≡ true) where
  pub put_lists : seen_lists after ≡ with_list None lists names
  put_lists =
      ap seen_lists put
      ∙ inserted_last (λ k. map (λ n. n.now) k.keys) same_tree (pointwise bytes_eq) (λ a b. same_names a.keys b.keys) before tree
      ∙ ap (λ ls. insert_key (pointwise bytes_eq) ls (seen tree.keys)) are
      ∙ ap (insert_key (pointwise bytes_eq) lists) tree_is
      ∙ sym (with_given lists names given)

  pub put_grows : Grows lists (seen_lists after)
  put_grows = subst (Grows lists) (sym put_lists) (grows_with_list lists names)

  pub put_kept : (es : List (Step × ℕ)) → AreFound (seen_lists before) (map found_by es)
      → AreFound (seen_lists after) (map found_by es)
  put_kept es all =
      all_found_grown put_grows (map found_by es) (subst (λ ls. AreFound ls (map found_by es)) are all)

  module _ (number : ℕ) (k : Tree) (stored : slice_get after number ≡ Some k) (same : same_tree tree k ≡ true) where
    at : slice_get (seen_lists after) number ≡ Some names
    at =
        slice_get-map (λ k. map (λ n. n.now) k.keys) after number
        ∙ ap (λ found. elim found [ None ↦ None | Some x ↦ Some (seen x.keys) ]) stored
        ∙ ap (λ ns. Some ns) (sym (keys_are tree.keys k.keys same) ∙ tree_is)

    pub put_listed : IsListed (seen_lists after) (Some number)
    put_listed = ap is_some at

    pub put_names : names_at (seen_lists after) (Some number) ≡ names
    put_names = ap names_in at

    put_is_found : (step : Step) → IsListed lists step.0 → names ≡ with_all (names_at lists step.0) (seen step.1.items)
        → IsFound (seen_lists after) (found_by (step, number))
    put_is_found step around is = record {
      around = listed_grown put_grows step.0 around;
      listed = put_listed;
      names =
          put_names ∙ is
          ∙ ap (λ ns. with_all ns (seen step.1.items)) (sym (names_grown put_grows step.0 around));
    }

    pub put_found : (step : Step) (es now : List (Step × ℕ)) → IsListed lists step.0
        → names ≡ with_all (names_at lists step.0) (seen step.1.items) → AreFound (seen_lists before) (map found_by es)
        → now ≡ insert_entry same_step es step number → AreFound (seen_lists after) (map found_by now)
    put_found step es now around is all e =
        subst (λ entries. AreFound (seen_lists after) (map found_by entries)) (sym e)
        (found_more (seen_lists after) es step number (put_kept es all) (put_is_found step around is))
