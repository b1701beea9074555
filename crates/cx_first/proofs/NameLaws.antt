-- Names in a table of names alone.
use Rattle.std.proofs.Common.{◌≡◌, ℕ, ◌+◌, ◌<◌, List, [], ◌∷◌, ◌++◌, map, take, length, Option, None, Some, option_map, slice_get, refl, sym, ◌∙◌, ap}
use Rattle.std.proofs.lemmas.List.{map-append, take_more}
use Rattle.std.proofs.lemmas.Option.{slice_get-map, slice_get-get_or, slice_get_within, get_or_from_slice_get}
use Rattle.cx_table.specs.NameTable.{Entries, names_of, with_entry}
use Rattle.cx_table.specs.NameTable as table
use Rattle.cx_table.proofs.TableLaws.{with_entry-new}
use Rattle.cx_first.specs.Names.{Names, index_of}

-- the index of a name is that among the names
index_is : (entries : Entries (Unit {0})) (name : List ℕ) → table.index_of entries name ≡ index_of (names_of entries) name
unfolding index_of table.index_of
index_is entries name = refl

pub found : (entries : Entries (Unit {0})) (names : Names) (name : List ℕ) (r : Option ℕ) → names_of entries ≡ names
    → r ≡ table.index_of entries name → r ≡ index_of names name
found entries names name r m e = e ∙ (index_is entries name ∙ ap (λ n. index_of n name) m)

-- the names after a new one
pub declared : (entries new : Entries (Unit {0})) (names : Names) (name : List ℕ) → names_of entries ≡ names
    → new ≡ with_entry name tt entries → index_of names name ≡ None → names_of new ≡ names ++ name ∷ []
declared entries new names name m e absent =
    let none : table.index_of entries name ≡ None = index_is entries name ∙ (ap (λ n. index_of n name) m ∙ absent) in
    ap names_of (e ∙ with_entry-new name tt entries none) ∙ (map-append (λ e. e.0) entries ((name, tt) ∷ []) ∙ ap (λ n. n ++ name ∷ []) m)

-- the names up to the next one
pub next_name : (entries : Entries (Unit {0})) (names : Names) (i : ℕ) (name : List ℕ) → names_of entries ≡ names
    → Some (name, tt) ≡ slice_get entries i → take (i + 1) names ≡ take i names ++ name ∷ []
next_name entries names i name m e =
    let at : slice_get (names_of entries) i ≡ Some name = slice_get-map (λ e. e.0) entries i ∙ ap (option_map (λ e. e.0)) (sym e) in
    let here : slice_get names i ≡ Some name = ap (λ n. slice_get n i) (sym m) ∙ at in
    take_more names i name (slice_get_within names i name here)
    ∙ ap (λ n. take i names ++ n ∷ []) (get_or_from_slice_get names i name name here)

-- there is an entry at each index below their count
pub some_entry : (entries : Entries (Unit {0})) (i : ℕ) → i < length entries → slice_get entries i ≡ None → ⊥
some_entry entries i h e = absurd (cc (slice_get-get_or entries i ([], tt) h, e))
