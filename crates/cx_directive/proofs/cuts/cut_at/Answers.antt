use Rattle.std.proofs.Common.{◌+◌, ◌∙◌, Some, ap, option_map, take}
use Rattle.std.proofs.lemmas.List.{take_rest}
use Rattle.cx_tokens.specs.Brackets.{is_punctuator}
use Rattle.cx_directive.specs.Operands.{tokens_of}
use Rattle.cx_directive.proofs.CutLaws.{cut_none, cut_some}
use Rattle.cx_directive.proofs.cuts.cut_at.Goals as goal

pub returns-in_err-index-clause-parts : goal.returns-in_err-index-clause-parts
returns-in_err-index-clause-parts c =
    ap (option_map _) c.from_residual.ensures ∙ cut_none (is_punctuator c.args.mark.now) c.args.pieces.now c.in_err-index.ensures

pub returns-clause-parts : goal.returns-clause-parts
returns-clause-parts c =
    ap (λ x. Some (tokens_of (take c.in_ok-index.index c.args.pieces.now), tokens_of x)) (take_rest c.args.pieces.now (c.in_ok-index.index + 1))
    ∙ cut_some (is_punctuator c.args.mark.now) c.args.pieces.now c.in_ok-index.index c.in_ok-index.ensures
