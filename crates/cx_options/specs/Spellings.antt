-- How the options are spelt, and where the argument of each stands (the Cppcheck manual, "Command
-- line options").
use Rattle.std.specs.Prelude.{ℕ, ◌+◌, List, [], ◌∷◌, Bool, true, false, ◌&&◌, if◌then◌else◌, Option, Some, None, codes, drop, length, nat_eq}
use Rattle.std.specs.List.{find, starts_with}
use Rattle.std.specs.Option.{option_map}
use Rattle.cx_options.specs.declared.spelling.Form.{Form}
use Rattle.cx_options.specs.declared.spelling.Form.TheVariants.{Alone, Joined, Assigned}
use Rattle.cx_options.specs.declared.spelling.Purpose.{Purpose}
use Rattle.cx_options.specs.declared.spelling.Purpose.TheVariants as purpose

-- what an option is spelt as, where its argument stands, and what it is for
abbrev pub Row : Type 0
Row = List ℕ × Form × Purpose

-- the options
abbrev pub table : List Row
table =
    (codes "-D", Joined, purpose.Define)
    ∷ (codes "-U", Joined, purpose.Undefine)
    ∷ (codes "-I", Joined, purpose.Folder)
    ∷ (codes "-q", Alone, purpose.Quiet)
    ∷ (codes "--quiet", Alone, purpose.Quiet)
    ∷ (codes "--enable=", Assigned, purpose.Enable)
    ∷ (codes "--file-list=", Assigned, purpose.FileList)
    ∷ (codes "--error-exitcode=", Assigned, purpose.ErrorExitcode)
    ∷ (codes "--force", Alone, purpose.Force)
    ∷ (codes "--max-configs=", Assigned, purpose.MaxConfigs)
    ∷ (codes "--std=", Assigned, purpose.Standard)
    ∷ (codes "--language=", Assigned, purpose.Language) ∷ []

-- a word that is an option: the option's form and purpose, and what of the word is behind it
pub record Spelt : Type 0 where
  pub form : Form
  pub purpose : Purpose
  pub rest : List ℕ

abbrev pub is_empty : List ℕ → Bool
is_empty [] = true
is_empty (b ∷ bs) = false

-- whether an option of a form may have this behind it in its word: nothing, if it stands alone
abbrev pub may_have : Form → List ℕ → Bool
may_have Alone rest = is_empty rest
may_have Joined rest = true
may_have Assigned rest = true

-- a word begins with the spelling of a row, and has behind it what may be there
unfoldable pub is_spelt : List ℕ → Row → Bool
is_spelt word row =
    starts_with nat_eq word row.0 && may_have row.1 (drop (length row.0) word)

-- a word as the option of a row
abbrev pub by_row : List ℕ → Row → Spelt
by_row word row = record { form = row.1; purpose = row.2; rest = drop (length row.0) word }

-- the option that a word is
unfoldable pub spelt_as : List ℕ → Option Spelt
spelt_as word = option_map (by_row word) (find (is_spelt word) table)

-- whether an option of a form, with this behind it in its word, has its argument in the next word
abbrev pub is_in_next : Form → List ℕ → Bool
is_in_next Alone rest = false
is_in_next Joined rest = is_empty rest
is_in_next Assigned rest = false

-- the argument of an option: the rest of its word, or the next word
abbrev pub argument : Spelt → Option (List ℕ) → Option (List ℕ)
argument s next = if is_in_next s.form s.rest then next else Some s.rest

-- whether a word takes the next one along
abbrev pub takes_next_by : Option Spelt → Bool
takes_next_by None = false
takes_next_by (Some s) = is_in_next s.form s.rest

unfoldable pub takes_next : List ℕ → Bool
takes_next word = takes_next_by (spelt_as word)

-- a word with the number that it has, counted from 0, and the word that it takes along
pub record Given : Type 0 where
  pub word : ℕ
  pub text : List ℕ
  pub next : Option (List ℕ)

-- The words, each option with the argument in the next word that it takes along; the first of them
-- has this number.
unfoldable pub givens : ℕ → List (List ℕ) → List Given
givens n [] = []
givens n (w ∷ []) = record { word = n; text = w; next = None } ∷ []
givens n (w ∷ next ∷ ws) =
    if takes_next w then record { word = n; text = w; next = Some next } ∷ givens (n + 2) ws
    else record { word = n; text = w; next = None } ∷ givens (n + 1) (next ∷ ws)
