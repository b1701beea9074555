-- What the merged library knows of a name.
use Rattle.std.proofs.Common.{◌≡◌, ℕ, ◌+◌, ◌≤◌, arith, true, false, ◌||◌, List, Option, Some, None, is_some, option_map, IfSome, IsSomeAnd, refl, ◌∙◌, ap}
use Rattle.std.specs.Option.{option_map_or}
use Rattle.cx_table.specs.NameTable.{Entries, value_of}
use Rattle.cx_library.specs.declared.described.Described.{Described}
use Rattle.cx_library.specs.declared.known.Known.{Known}
use Rattle.cx_library.specs.Joined.{joined, latest}
use Rattle.cx_library.specs.Known.{GroupedSame, IsGroupedBelow, IsGroupedFrom, SaysSame, is_grouped, over, renumbered}
use Rattle.cx_library.specs.Library.{Contents, IsLibrary, all_renumbered, function_of, is_grouped_in, merged}
use Rattle.cx_library.proofs.NameLaws.{value_of-by_name}
use Rattle.cx_library.proofs.JoinLaws.{both, value_of-joined}
use Rattle.cx_library.proofs.MergeLaws.{is_grouped-renumbered}

-- ---- one name in two lists

module _ {V : Type 0} where
  pub both_latest : (o : Option V) (v : V) → both latest o (Some v) ≡ Some v
  both_latest None v = refl
  both_latest (Some x) v = refl

  pub both-none : (over : V → V → V) (o : Option V) → both over o None ≡ o
  both-none over None = refl
  both-none over (Some x) = refl

  pub later_value : (earlier later : Entries V) (name : List ℕ) (v : V) → value_of later name ≡ Some v → value_of (joined latest earlier later) name ≡ Some v
  later_value earlier later name v e = value_of-joined latest earlier later name ∙ rw e (both_latest (value_of earlier name) v)

  pub same_value : (over : V → V → V) (earlier later : Entries V) (name : List ℕ) → value_of later name ≡ None → value_of (joined over earlier later) name ≡ value_of earlier name
  same_value over earlier later name e = value_of-joined over earlier later name ∙ rw e (both-none over (value_of earlier name))

module _ (earlier later : Contents) (name : List ℕ) where
  known_of_merged : value_of (merged earlier later).functions name ≡ both over (value_of earlier.functions name) (option_map (renumbered earlier.groups) (value_of later.functions name))
  unfolding merged
  known_of_merged =
      value_of-joined over earlier.functions (all_renumbered earlier.groups later.functions) name
      ∙ ap (both over (value_of earlier.functions name)) (value_of-by_name (λ _. renumbered earlier.groups) later.functions name)

  -- ---- the later wins

  pub later_says : (known : Known) → value_of later.functions name ≡ Some known → known.stated ≡ true → IsSomeAnd (function_of (merged earlier later) name) (SaysSame known.described)
  later_says known e s = rw (known_of_merged, e) (by (value_of earlier.functions name))
    where
      by : (o : Option Known) → IsSomeAnd (option_map (λ k. k.described) (both over o (Some (renumbered earlier.groups known)))) (SaysSame known.described)
      by None = refl
      by (Some k) = rw s refl

  pub later_groups : (known : Known) → value_of later.functions name ≡ Some known → is_grouped known.described ≡ true
      → IsSomeAnd (function_of (merged earlier later) name) (GroupedSame (renumbered earlier.groups known).described)
  later_groups known e g = rw (known_of_merged, e) (by (value_of earlier.functions name))
    where
      by : (o : Option Known) → IsSomeAnd (option_map (λ k. k.described) (both over o (Some (renumbered earlier.groups known)))) (GroupedSame (renumbered earlier.groups known).described)
      by None = (refl, refl)
      by (Some k) = rw (is_grouped-renumbered earlier.groups known, g) (refl, refl)

  -- ---- the other part stays

  pub earlier_says : (d : Described) (known : Known) → function_of earlier name ≡ Some d → value_of later.functions name ≡ Some known → known.stated ≡ false
      → IsSomeAnd (function_of (merged earlier later) name) (SaysSame d)
  earlier_says d known f e s = rw (known_of_merged, e) (by (value_of earlier.functions name) f)
    where
      by : (o : Option Known) → option_map (λ k. k.described) o ≡ Some d → IsSomeAnd (option_map (λ k. k.described) (both over o (Some (renumbered earlier.groups known)))) (SaysSame d)
      by None f = absurd (cc)
      by (Some k) f = let same : k.described ≡ d = cc in rw (s, same) refl

  pub earlier_groups : (d : Described) (known : Known) → function_of earlier name ≡ Some d → value_of later.functions name ≡ Some known → is_grouped known.described ≡ false
      → IsSomeAnd (function_of (merged earlier later) name) (GroupedSame d)
  earlier_groups d known f e g = rw (known_of_merged, e) (by (value_of earlier.functions name) f)
    where
      by : (o : Option Known) → option_map (λ k. k.described) o ≡ Some d → IsSomeAnd (option_map (λ k. k.described) (both over o (Some (renumbered earlier.groups known)))) (GroupedSame d)
      by None f = absurd (cc)
      by (Some k) f = let same : k.described ≡ d = cc in rw (is_grouped-renumbered earlier.groups known, g, same) (refl, refl)

  -- ---- what is not named

  pub function_stays : value_of later.functions name ≡ None → function_of (merged earlier later) name ≡ function_of earlier name
  function_stays e = rw (known_of_merged, e, both-none over (value_of earlier.functions name)) refl

  -- ---- the numbers of groups

  from_raised : (o : Option ℕ) → IfSome (option_map (λ n. earlier.groups + n) o) (λ n. earlier.groups ≤ n)
  from_raised None = tt
  from_raised (Some n) = omega arith

  no_group : (d : Described) → is_grouped d ≡ false → (d.allocates ≡ None) × (d.frees ≡ None)
  no_group d g = by d.allocates d.frees g
    where
      by : (a f : Option ℕ) → (is_some a || is_some f) ≡ false → (a ≡ None) × (f ≡ None)
      by None None g = (refl, refl)
      by None (Some n) g = absurd (cc)
      by (Some n) f g = absurd (cc)

  pub groups_below : IsLibrary earlier → is_grouped_in later name ≡ false → IfSome (function_of (merged earlier later) name) (IsGroupedBelow earlier.groups)
  groups_below l g = rw known_of_merged (by (value_of earlier.functions name) (value_of later.functions name) (l.groups name) g)
    where
      by : (e o : Option Known) → IfSome (option_map (λ k. k.described) e) (IsGroupedBelow earlier.groups) → option_map_or is_grouped (option_map (λ k. k.described) o) false ≡ false
          → IfSome (option_map (λ k. k.described) (both over e (option_map (renumbered earlier.groups) o))) (IsGroupedBelow earlier.groups)
      by None None h g = tt
      by None (Some k) h g = let n = no_group k.described g in rw (n.0, n.1) (tt, tt)
      by (Some e) None h g = h
      by (Some e) (Some k) h g = rw (is_grouped-renumbered earlier.groups k, g) h

  pub groups_from : is_grouped_in later name ≡ true → IfSome (function_of (merged earlier later) name) (IsGroupedFrom earlier.groups)
  groups_from g = rw known_of_merged (by (value_of earlier.functions name) (value_of later.functions name) g)
    where
      by : (e o : Option Known) → option_map_or is_grouped (option_map (λ k. k.described) o) false ≡ true
          → IfSome (option_map (λ k. k.described) (both over e (option_map (renumbered earlier.groups) o))) (IsGroupedFrom earlier.groups)
      by e None g = absurd (cc)
      by None (Some k) g = (from_raised k.described.allocates, from_raised k.described.frees)
      by (Some e) (Some k) g = rw (is_grouped-renumbered earlier.groups k, g) (from_raised k.described.allocates, from_raised k.described.frees)
