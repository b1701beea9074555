-- What holds of every library.
use Rattle.std.proofs.Common.{◌≡◌, ℕ, ◌+◌, ◌<◌, ◌==◌, arith, Bool, true, false, cond, List, Option, Some, None, option_map, IfSome, Result, Ok, Err, OnOk, OnErr, bytes_eq, refl}
use Rattle.std.specs.List.{IsDistinct}
use Rattle.std.specs.Prelude.{unwrap_or}
use Rattle.std.proofs.lemmas.Slice.Eq.{bytes_eq-Decides}
use Rattle.cx_table.proofs.TableLaws.{value_of-with_entry, value_of-with_entry_other}
use Rattle.cx_table.specs.NameTable.{Entries, HasDistinctNames, value_of, with_entry}
use Rattle.cx_library.specs.declared.known.Known.{Known}
use Rattle.cx_library.specs.Joined.{joined}
use Rattle.cx_library.specs.Known.{IsGroupedBelow, in_group, is_grouped, over, renumbered, unknown}
use Rattle.cx_library.specs.Library.{Contents, IsLibrary, all_renumbered, empty}
use Rattle.cx_library.proofs.NameLaws.{value_of-none, value_of-by_name}
use Rattle.cx_library.proofs.JoinLaws.{both, value_of-joined}

pub empty_is_library : IsLibrary empty
unfolding IsDistinct
empty_is_library = record { functions = tt; defines = tt; pods = tt; groups = λ name. rw (value_of-none {V = Known} name) tt }

-- the memory group of what is known of a name
pub known_below : (library : Contents) (name : List ℕ) → IsLibrary library → IsGroupedBelow library.groups (unwrap_or (value_of library.functions name) unknown).described
known_below library name l = by (value_of library.functions name) (l.groups name)
  where
    by : (o : Option Known) → IfSome (option_map (λ k. k.described) o) (IsGroupedBelow library.groups) → IsGroupedBelow library.groups (unwrap_or o unknown).described
    by None h = (tt, tt)
    by (Some k) h = h

pub in_group_below : (group groups : ℕ) (o : Option ℕ) → IfSome o (λ n. n < groups) → IfSome (in_group group o) (λ n. n < groups)
in_group_below group groups None h = tt
in_group_below group groups (Some n) h = by (n == group)
  where
    by : (b : Bool) → IfSome (cond b (Some n) None) (λ n. n < groups)
    by true = h
    by false = tt

-- a library after a change of what is known of a name
pub function_changed : (library : Contents) (name : List ℕ) (known : Known) (new : Entries Known) → IsLibrary library → new ≡ with_entry name known library.functions
    → HasDistinctNames new → IsGroupedBelow library.groups known.described → IsLibrary (record library { functions = new })
function_changed library name known new l e d g = record { functions = d; defines = l.defines; pods = l.pods; groups = λ other. rw e (by other (bytes_eq name other) refl) }
  where
    by : (other : List ℕ) (b : Bool) → bytes_eq name other ≡ b
        → IfSome (option_map (λ k. k.described) (value_of (with_entry name known library.functions) other)) (IsGroupedBelow library.groups)
    by other true t = rw (← (bytes_eq-Decides name other).0 t, value_of-with_entry name known library.functions) g
    by other false t = rw (value_of-with_entry_other name other known library.functions t) (l.groups other)

-- the same after a call that may be refused
pub function_put : {T E : Type 0} (r : Result T E) (library : Contents) (name : List ℕ) (known : Known) (new : Entries Known) → IsLibrary library
    → OnOk r (new ≡ with_entry name known library.functions) → OnErr r (new ≡ library.functions) → OnOk r (HasDistinctNames new)
    → IsGroupedBelow library.groups known.described → IsLibrary (record library { functions = new })
function_put (Ok x) library name known new l e n d g = function_changed library name known new l e d g
function_put (Err x) library name known new l e n d g = rw n l

module _ (m n : ℕ) where
  below_more : (o : Option ℕ) → IfSome o (λ k. k < m) → IfSome o (λ k. k < m + n)
  below_more None h = tt
  below_more (Some k) h = omega arith

  below_raised : (o : Option ℕ) → IfSome o (λ k. k < n) → IfSome (option_map (λ k. m + k) o) (λ k. k < m + n)
  below_raised None h = tt
  below_raised (Some k) h = omega arith

  -- the memory groups of what two libraries know of a name
  both_below : (e l : Option Known) → IfSome (option_map (λ k. k.described) e) (IsGroupedBelow m) → IfSome (option_map (λ k. k.described) l) (IsGroupedBelow n)
      → IfSome (option_map (λ k. k.described) (both over e (option_map (renumbered m) l))) (IsGroupedBelow (m + n))
  both_below None None g h = tt
  both_below None (Some l) g h = (below_raised l.described.allocates h.0, below_raised l.described.frees h.1)
  both_below (Some e) None g h = (below_more e.described.allocates g.0, below_more e.described.frees g.1)
  both_below (Some e) (Some l) g h = by (is_grouped (renumbered m l).described)
    where
      by : (b : Bool) → IfSome (cond b (renumbered m l).described e.described).allocates (λ k. k < m + n) × IfSome (cond b (renumbered m l).described e.described).frees (λ k. k < m + n)
      by true = (below_raised l.described.allocates h.0, below_raised l.described.frees h.1)
      by false = (below_more e.described.allocates g.0, below_more e.described.frees g.1)

-- the memory groups of what two libraries know
pub joined_below : (earlier later : Contents) → IsLibrary earlier → IsLibrary later → (name : List ℕ)
    → IfSome (option_map (λ k. k.described) (value_of (joined over earlier.functions (all_renumbered earlier.groups later.functions)) name)) (IsGroupedBelow (earlier.groups + later.groups))
joined_below earlier later e l name =
    rw (value_of-joined over earlier.functions (all_renumbered earlier.groups later.functions) name, value_of-by_name (λ _. renumbered earlier.groups) later.functions name)
    (both_below earlier.groups later.groups (value_of earlier.functions name) (value_of later.functions name) (e.groups name) (l.groups name))
