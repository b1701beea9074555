-- Sets of paths, by the names that a table has.
use Rattle.std.proofs.Common.{◌≡◌, ℕ, List, [], ◌∷◌, ◌++◌, Bool, true, false, cond, Some, is_some, option_map, refl, sym, ap, ◌∙◌, subst, bytes_eq}
use Rattle.std.specs.Prelude.{◌||◌, if◌then◌else◌}
use Rattle.std.specs.List.{find, list_any}
use Rattle.indexmap.specs.IndexSet.{insert_key}
use Rattle.cx_table.specs.NameTable.{Entries, names_of, value_of, with_entry}
use Rattle.cx_table.proofs.EntryLaws.{bytes_eq-sym}

abbrev Names : Type 0
Names = Entries (Unit {0})

-- a name has a value where it is among the names
named : (name : List ℕ) (es : Names) → is_some (value_of es name) ≡ list_any (bytes_eq name) (names_of es)
unfolding value_of
named name [] = refl
named name (e ∷ es) =
    subst (λ b. is_some (option_map (λ x. x.1) (cond b (Some e) (find (λ x. bytes_eq x.0 name) es)))
    ≡ (bytes_eq name e.0 || list_any (bytes_eq name) (names_of es)))
    (bytes_eq-sym name e.0) (by (bytes_eq name e.0) (named name es))
  where
    by : (b : Bool)
        → is_some (option_map (λ x. x.1) (find (λ x. bytes_eq x.0 name) es)) ≡ list_any (bytes_eq name) (names_of es)
        → is_some (option_map (λ x. x.1) (cond b (Some e) (find (λ x. bytes_eq x.0 name) es)))
        ≡ (b || list_any (bytes_eq name) (names_of es))
    by true h = refl
    by false h = h

-- another name goes last
named_last : (name : List ℕ) (es : Names) → is_some (value_of es name) ≡ false
    → names_of (with_entry name tt es) ≡ names_of es ++ name ∷ []
unfolding value_of with_entry
named_last name [] h = refl
named_last name (e ∷ es) h = by (bytes_eq e.0 name) h (named_last name es)
  where
    by : (b : Bool)
        → is_some (option_map (λ x. x.1) (cond b (Some e) (find (λ x. bytes_eq x.0 name) es))) ≡ false
        → (is_some (option_map (λ x. x.1) (find (λ x. bytes_eq x.0 name) es)) ≡ false
        → names_of (with_entry name tt es) ≡ names_of es ++ name ∷ [])
        → names_of (cond b ((name, tt) ∷ es) (e ∷ with_entry name tt es)) ≡ e.0 ∷ (names_of es ++ name ∷ [])
    by true h rest = absurd cc
    by false h rest = ap (λ ns. e.0 ∷ ns) (rest h)

-- a path that is there changes nothing
pub path_there : (es : Names) (paths set : List (List ℕ)) (path : List ℕ) → names_of es ≡ paths → paths ≡ set
    → is_some (value_of es path) ≡ true → set ≡ insert_key bytes_eq set path
path_there es paths set path names view has =
    sym (ap (λ b. if b then set else set ++ path ∷ [])
    (ap (list_any (bytes_eq path)) (sym (names ∙ view)) ∙ sym (named path es) ∙ has))

-- another goes last
pub path_new : (es : Names) (paths set : List (List ℕ)) (path : List ℕ) (new : List (List ℕ))
    → names_of es ≡ paths → paths ≡ set
    → is_some (value_of es path) ≡ false → new ≡ paths ++ path ∷ [] → new ≡ insert_key bytes_eq set path
path_new es paths set path new names view lacks pushed =
    pushed ∙ ap (λ ps. ps ++ path ∷ []) view
    ∙ sym (ap (λ b. if b then set else set ++ path ∷ [])
    (ap (list_any (bytes_eq path)) (sym (names ∙ view)) ∙ sym (named path es) ∙ lacks))

-- and its name too
pub name_new : (es more : Names) (paths : List (List ℕ)) (path : List ℕ) (new : List (List ℕ))
    → names_of es ≡ paths → is_some (value_of es path) ≡ false
    → more ≡ with_entry path tt es → new ≡ paths ++ path ∷ [] → names_of more ≡ new
name_new es more paths path new names lacks inserted pushed =
    ap names_of inserted ∙ named_last path es lacks ∙ ap (λ ns. ns ++ path ∷ []) names ∙ sym pushed
