-- What is told of a configuration, by what is chosen.
use Rattle.std.proofs.Common.{◌≡◌, ℕ, List, ◌++◌, Ok, Err, refl, subst, sym}
use Rattle.cx_base.specs.declared.finding.Finding.{Finding}
use Rattle.cx_directive.specs.declared.include.IncludeName.{IncludeName}
use Rattle.cx_pre.specs.declared.config.Config.{Config}
use Rattle.cx_pre.specs.declared.fault.PreFault.{PreFault}
use Rattle.cx_pre.specs.Choosing.{IsChosen}
use Rattle.cx_pre.specs.Stages.{answer_by}
use Rattle.cx_shelf.specs.declared.shelf.Shelf.{Shelf}
use Rattle.cx_tokens.specs.declared.token.Token.{Token}
use Rattle.cx_tokens.specs.Nodes.{TokenNodes, tokens}
use Rattle.cx_unit.specs.declared.told.Told.{Told}
use Rattle.cx_unit.specs.declared.told.Told.TheVariants.{Findings}
use Rattle.cx_unit.specs.Shapes.Found.{FindsIn, IsNoText}
use Rattle.cx_unit.specs.Told.{IsForeign, IsTold, missing_findings, of_fault, of_text, told_of_fault}

module _ (shelf : Shelf) (unit : ℕ) (config : Config) (missing : List IncludeName) where
  pub faulty_told : (fault : PreFault) (told : Told) → IsChosen shelf unit config (answer_by (record { tokens = Err fault; missing = missing }))
      → told ≡ told_of_fault missing fault → IsTold shelf unit config told
  faulty_told fault told chosen e =
      subst (IsTold shelf unit config) (sym e) (of_fault (answer_by (record { tokens = Err fault; missing = missing })) fault chosen refl)

  pub text_told : (list : TokenNodes) (taken : List Token) (found all : List Finding)
      → IsChosen shelf unit config (answer_by (record { tokens = Ok list; missing = missing }))
      → taken ≡ tokens list.nodes → FindsIn taken found → all ≡ missing_findings missing ++ found → IsTold shelf unit config (Findings all)
  text_told list taken found all chosen t f e =
      let finds = subst (λ ts. FindsIn ts found) t f in
      subst (λ fs. IsTold shelf unit config (Findings fs)) (sym e)
      (of_text (answer_by (record { tokens = Ok list; missing = missing })) (tokens list.nodes) finds.0 found chosen refl finds.1 finds.2)

  pub foreign_told : (list : TokenNodes) (taken : List Token)
      → IsChosen shelf unit config (answer_by (record { tokens = Ok list; missing = missing }))
      → taken ≡ tokens list.nodes → IsNoText taken → IsForeign shelf unit config
  foreign_told list taken chosen t none = record {
    answer = answer_by (record { tokens = Ok list; missing = missing });
    chosen = chosen;
    tokens = tokens list.nodes;
    is = refl;
    foreign = subst IsNoText t none;
  }
