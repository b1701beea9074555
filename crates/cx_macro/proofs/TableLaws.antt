-- The table of macros, as it is seen.
use Rattle.std.proofs.Common.{◌≡◌, ℕ, List, Option, Some, None, option_map, Bor, refl, sym, ◌∙◌, ap}
use Rattle.std.specs.Option.{option_copied}
use Rattle.cx_table.proofs.ValueLaws.{mapped, value_of-mapped, with_entry-mapped, without_entry-mapped}
use Rattle.cx_table.specs.NameTable.{Entries, value_of, with_entry, without_entry}
use Rattle.cx_macro.specs.declared.stored.Stored.{Stored}
use Rattle.cx_macro.specs.Macros.{Definition, Table}
use Rattle.cx_macro.specs.Stored.{definition_of}

copied : (r : Option (Bor Stored)) → option_map (λ s. definition_of s.now) r ≡ option_map definition_of (option_copied r)
copied None = refl
copied (Some s) = refl

pub found : (name : List ℕ) (entries : Entries Stored) (table : Table) (r : Option (Bor Stored)) → option_copied r ≡ value_of entries name
    → mapped definition_of entries ≡ table → option_map (λ s. definition_of s.now) r ≡ value_of table name
found name entries table r e v =
    copied r ∙ (ap (option_map definition_of) e ∙ (sym (value_of-mapped definition_of entries name) ∙ ap (λ t. value_of t name) v))

pub taken : (name : List ℕ) (entries new : Entries Stored) (table : Table) → new ≡ without_entry name entries → mapped definition_of entries ≡ table
    → mapped definition_of new ≡ without_entry name table
taken name entries new table e v = ap (mapped definition_of) e ∙ (without_entry-mapped definition_of name entries ∙ ap (without_entry name) v)

pub defines : (name : List ℕ) (s : Stored) (d : Definition) (entries new : Entries Stored) (table : Table) → new ≡ with_entry name s entries
    → definition_of s ≡ d → mapped definition_of entries ≡ table → mapped definition_of new ≡ with_entry name d table
defines name s d entries new table e f v =
    ap (mapped definition_of) e ∙ (with_entry-mapped definition_of name s entries
    ∙ (ap (λ x. with_entry name x (mapped definition_of entries)) f ∙ ap (with_entry name d) v))
