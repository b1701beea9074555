-- What is found in a first text: the node at which its runs are stuck.
use Rattle.std.specs.Prelude.{◌≡◌, ℕ, List, [], ◌∷◌, Some}
use Rattle.cx_base.specs.declared.finding.Finding.{Finding}
use Rattle.cx_base.specs.declared.finding.Word.{Word}
use Rattle.cx_base.specs.declared.finding.Word.TheVariants.{Text}
use Rattle.cx_base.specs.declared.id.Id.{Id}
use Rattle.cx_base.specs.declared.id.Id.TheVariants.{UninitVar, ZeroDiv, IntegerOverflow}
use Rattle.cx_finding.specs.Kinds.{finding}
use Rattle.cx_first.specs.declared.evaluation.Undefined.{Undefined}
use Rattle.cx_first.specs.declared.evaluation.Undefined.TheVariants.{Uninitialized, ZeroDivisor, Overflow}
use Rattle.cx_first.specs.declared.nodes.Node.{Node}
use Rattle.cx_first.specs.declared.runs.RunEnd.{RunEnd}
use Rattle.cx_first.specs.declared.runs.RunEnd.TheVariants.{Finished, Stuck}
use Rattle.cx_first.specs.Nodes.{node_of}
use Rattle.cx_first.specs.Runs.{Ends, IsStuck}
use Rattle.cx_first.specs.Tree.{Source}

abbrev pub id_of : Undefined → Id
id_of Uninitialized = UninitVar
id_of ZeroDivisor = ZeroDiv
id_of Overflow = IntegerOverflow

abbrev pub words_of : Undefined → List ℕ → List Word
words_of Uninitialized text = Text text ∷ []
words_of ZeroDivisor text = []
words_of Overflow text = Text text ∷ []

-- the finding of a node that has no value, at the node's place
abbrev pub finding_of : Undefined → Node → Finding
finding_of cause node = finding (id_of cause) node.place (words_of cause node.text)

-- the finding is that of the node of this number in this statement, at which the runs of the text
-- are stuck
pub record IsFindingAt (source : Source) (statement node : ℕ) (found : Finding) : Type 0 where
  pub cause : Undefined
  pub stuck : IsStuck source statement node cause
  pub told : Node
  pub stands : node_of source statement node ≡ Some told
  pub is : found ≡ finding_of cause told

-- the findings where the longest run ends so
abbrev pub FindsBy : Source → RunEnd → List Finding → Type 0
FindsBy source Finished findings = findings ≡ []
FindsBy source (Stuck statement node cause) findings =
    (found : Finding) × IsFindingAt source statement node found × (findings ≡ found ∷ [])

-- the findings in a first text: none where its longest run comes to the end, else that of the node
-- where it stops
abbrev pub Finds : Source → List Finding → Type 0
Finds source findings = (end : RunEnd) × Ends source end × FindsBy source end findings
