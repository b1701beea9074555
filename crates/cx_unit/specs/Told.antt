-- What is told of a configuration of a unit.
use Rattle.std.specs.Prelude.{◌≡◌, ℕ, List, [], ◌∷◌, ◌++◌, Bool, true, false, Ok, Err, if◌then◌else◌, map}
use Rattle.std.specs.List.{flat_map, list_all}
use Rattle.cx_base.specs.declared.finding.Finding.{Finding}
use Rattle.cx_tokens.specs.declared.token.Token.{Token}
use Rattle.cx_directive.specs.declared.include.IncludeName.{IncludeName}
use Rattle.cx_finding.specs.Distinct.{distinct}
use Rattle.cx_finding.specs.Kinds.{missing_include}
use Rattle.cx_first.specs.Grammar.{IsFirstText}
use Rattle.cx_first.specs.Tree.{Source}
use Rattle.cx_pre.specs.declared.config.Config.{Config}
use Rattle.cx_pre.specs.declared.fault.PreFault.{PreFault}
use Rattle.cx_pre.specs.declared.fault.PreFault.TheVariants.{ErrorDirective}
use Rattle.cx_pre.specs.Choosing.{IsChosen}
use Rattle.cx_pre.specs.Stages.{Answer}
use Rattle.cx_shelf.specs.declared.shelf.Shelf.{Shelf}
use Rattle.cx_unit.specs.declared.told.Told.{Told}
use Rattle.cx_unit.specs.declared.told.Told.TheVariants.{Dropped, Findings}
use Rattle.cx_unit.specs.Faults.{fault_finding}
use Rattle.cx_unit.specs.First.{Finds}

-- the includes that lead to no file
abbrev pub missing_findings : List IncludeName → List Finding
missing_findings names = map (λ n. missing_include n.name n.quoted n.at) names

abbrev pub is_error : PreFault → Bool
is_error (ErrorDirective at text) = true
is_error _ = false

-- a configuration that reaches an `error` is dropped; of any other fault that alone is told, behind
-- the missing includes
unfoldable pub told_of_fault : List IncludeName → PreFault → Told
told_of_fault missing fault =
    if is_error fault then Dropped (fault_finding fault)
    else Findings (missing_findings missing ++ fault_finding fault ∷ [])

-- What is told of a configuration of the unit with this number on the shelf: its first fault, or
-- what is found in the first text that its tokens are.
pub data IsTold (shelf : Shelf) (unit : ℕ) (config : Config) : Told → Type 0 where
  of_fault : (a : Answer) (fault : PreFault) → IsChosen shelf unit config a
      → a.tokens ≡ Err fault → IsTold shelf unit config (told_of_fault a.missing fault)
  of_text : (a : Answer) (tokens : List Token) (source : Source) (found : List Finding)
      → IsChosen shelf unit config a → a.tokens ≡ Ok tokens → IsFirstText tokens source
      → Finds source found
      → IsTold shelf unit config (Findings (missing_findings a.missing ++ found))

-- the tokens of a configuration are no first text
pub record IsForeign (shelf : Shelf) (unit : ℕ) (config : Config) : Type 0 where
  pub answer : Answer
  pub chosen : IsChosen shelf unit config answer
  pub tokens : List Token
  pub is : answer.tokens ≡ Ok tokens
  pub foreign : (source : Source) → IsFirstText tokens source → ⊥

abbrev pub is_dropped : Told → Bool
is_dropped (Dropped finding) = true
is_dropped (Findings findings) = false

abbrev pub findings_in : Told → List Finding
findings_in (Dropped finding) = []
findings_in (Findings findings) = findings

abbrev pub first_error : List Told → List Finding
first_error (Dropped finding ∷ tolds) = finding ∷ []
first_error _ = []

-- The findings of all configurations in order, each once; where each was dropped, the `error` of
-- the first.
unfoldable pub findings_of : List Told → List Finding
findings_of tolds =
    if list_all is_dropped tolds then first_error tolds
    else distinct (flat_map findings_in tolds)
