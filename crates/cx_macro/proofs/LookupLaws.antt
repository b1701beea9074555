-- The parameters of a macro in a table of their names.
use Rattle.std.proofs.Common.{◌≡◌, ℕ, ◌+◌, ◌<◌, Bool, true, false, List, [], ◌∷◌, take, length, Option, is_some, bytes_eq, get_or, refl, sym, ⊎_elim}
use Rattle.std.proofs.lemmas.Bool.{cases_Bool}
use Rattle.std.proofs.lemmas.List.{length-map}
use Rattle.std.specs.List.{IsDistinct}
use Rattle.cx_table.specs.NameTable.{Entries, index_of, names_of, with_entry}
use Rattle.cx_macro.proofs.DefinableLaws.{AreNames, one_name, same_names}

pub counted : {V : Type 0} (entries : Entries V) → length entries ≡ length (names_of entries)
counted {V} entries = sym (length-map entries (λ (x : List ℕ × V). x.0))

-- one of distinct names more
pub next_name : {V : Type 0} (entries new : Entries V) (v : V) (name copy : List ℕ) (names : List (List ℕ)) (i : ℕ) (other : List ℕ)
    → IsDistinct bytes_eq names → AreNames entries (take i names) → i < length names → name ≡ get_or names i other → copy ≡ name
    → new ≡ with_entry copy v entries → AreNames new (take (i + 1) names)
next_name entries new v name copy names i other d a below at same e =
    ⊎_elim
    (λ (t : is_some (index_of entries name) ≡ true). absurd (same_names entries name names i other (is_some (index_of entries name)) a below at refl t d))
    (λ (f : is_some (index_of entries name) ≡ false). one_name entries new v name copy names i other (is_some (index_of entries name)) a below at same refl f e)
    (cases_Bool (is_some (index_of entries name)))
