-- What two libraries know of functions.
use Rattle.std.proofs.Common.{◌≡◌, ℕ, ◌+◌, ◌<◌, List, ◌≤◌, length, take, Option, Some, None, option_map, IfSome}
use Rattle.std.specs.List.{slice_get}
use Rattle.std.specs.Option.{option_map_or}
use Rattle.std.proofs.lemmas.List.{length-map, take_all}
use Rattle.std.proofs.lemmas.Option.{slice_get-map}
use Rattle.cx_table.specs.NameTable.{Entries, HasDistinctNames, value_of, with_entry}
use Rattle.cx_library.specs.declared.known.Known.{Known}
use Rattle.cx_library.specs.Joined.{joined}
use Rattle.cx_library.specs.Known.{over, renumbered}
use Rattle.cx_library.specs.Library.{all_renumbered}
use Rattle.cx_library.proofs.NameLaws.{names_of-by_name}
use Rattle.cx_library.proofs.JoinLaws.{step}

abbrev one_renumbered : ℕ → List ℕ × Known → List ℕ × Known
one_renumbered groups e = (e.0, renumbered groups e.1)

length-renumbered : (groups : ℕ) (later : Entries Known) → length (all_renumbered groups later) ≡ length later
length-renumbered groups later = length-map later (one_renumbered groups)

pub distinct_renumbered : (groups : ℕ) (functions : Entries Known) → HasDistinctNames functions → HasDistinctNames (all_renumbered groups functions)
distinct_renumbered groups functions d = rw (names_of-by_name (λ _. renumbered groups) functions) d

-- the functions after the name at an index
pub known_step : (earlier later : Entries Known) (groups : ℕ) (table new : Entries Known) (i : ℕ) → HasDistinctNames earlier → HasDistinctNames later → i < length later
    → table ≡ joined over earlier (take i (all_renumbered groups later))
    → IfSome (slice_get later i) (λ e. new ≡ with_entry e.0 (option_map_or (λ k. over k (renumbered groups e.1)) (value_of table e.0) (renumbered groups e.1)) table)
    → new ≡ joined over earlier (take (i + 1) (all_renumbered groups later))
known_step earlier later groups table new i d e h t s =
    step over earlier (all_renumbered groups later) table new i d (distinct_renumbered groups later e)
    (rw (length-renumbered groups later) h) t
    (rw (slice_get-map (one_renumbered groups) later i) (by (slice_get later i) s))
  where
    by : (o : Option (List ℕ × Known)) → IfSome o (λ e. new ≡ with_entry e.0 (option_map_or (λ k. over k (renumbered groups e.1)) (value_of table e.0) (renumbered groups e.1)) table)
        → IfSome {T = List ℕ × Known} (option_map (one_renumbered groups) o) (λ e. new ≡ with_entry e.0 (option_map_or (λ k. over k e.1) (value_of table e.0) e.1) table)
    by None s = tt
    by (Some x) s = s

-- all names of the later list
pub all_taken : (groups : ℕ) (later : Entries Known) (i : ℕ) → length later ≤ i → take i (all_renumbered groups later) ≡ all_renumbered groups later
all_taken groups later i h = take_all i (all_renumbered groups later) (rw (length-renumbered groups later) h)
