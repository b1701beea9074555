use Rattle.std.proofs.Common.{◌≡◌, true, false, ap, sym, ◌∙◌}
use Rattle.cx_asking.specs.Asking.{may_be_asked}
use Rattle.cx_asking.specs.Shapes.Asks.{is_known}
use Rattle.cx_asking.proofs.AskLaws.{asked_by, cut_asking, cut_behind, full_asked, known_asked, on_error}
use Rattle.cx_asking.proofs.walk.ask_once.Goals as goal

pub returns-then-is_known-clause-all : goal.returns-then-is_known-clause-all
returns-then-is_known-clause-all g c =
    known_asked c.args.limits.now c.args.purpose c.args.path.now c.args.asked (g.F.Files.state c.args.files.now)
    (ap (λ s. is_known s c.args.path.now) (sym c.answers.ensures.answers) ∙ sym c.is_known.ensures ∙ c.if-is_known.true)

pub returns-then-not-may_be_asked-clause-all : goal.returns-then-not-may_be_asked-clause-all
returns-then-not-may_be_asked-clause-all g c =
    full_asked c.args.limits.now c.args.purpose c.args.path.now c.args.asked (g.F.Files.state c.args.files.now)
    (sym c.may_be_asked.ensures ∙ c.if-not-may_be_asked.true)

pub returns-in_err-answer-clause-cut : goal.returns-in_err-answer-clause-cut
returns-in_err-answer-clause-cut g c =
    let known : is_known c.args.asked.seen c.args.path.now ≡ false = ap (λ s. is_known s c.args.path.now) (sym c.answers.ensures.answers) ∙ sym c.is_known.ensures ∙ c.if-is_known.false in
    let may : may_be_asked c.args.limits.now c.args.asked.seen c.args.purpose ≡ true = sym c.may_be_asked.ensures ∙ c.if-not-may_be_asked.false in
    on_error c.from_residual.result _
    (cut_asking c.args.limits.now c.args.purpose c.args.path.now c.args.asked (g.F.Files.state c.args.files.now) (g.F.Files.state c.ask_path.new.files)
    known may c.in_err-answer.ensures.cut)

pub returns-in_err-path-clause-cut : goal.returns-in_err-path-clause-cut
returns-in_err-path-clause-cut g c =
    let known : is_known c.args.asked.seen c.args.path.now ≡ false = ap (λ s. is_known s c.args.path.now) (sym c.answers.ensures.answers) ∙ sym c.is_known.ensures ∙ c.if-is_known.false in
    let may : may_be_asked c.args.limits.now c.args.asked.seen c.args.purpose ≡ true = sym c.may_be_asked.ensures ∙ c.if-not-may_be_asked.false in
    cut_behind c.args.limits.now c.args.purpose c.args.path.now c.from_residual-in_err-path.result c.args.asked c.in_ok-answer.answer c.kept.result
    (g.F.Files.state c.args.files.now) (g.F.Files.state c.ask_path.new.files) known may c.kept.ensures c.in_ok-answer.ensures.answer

pub returns-clause-all : goal.returns-clause-all
returns-clause-all g c =
    let known : is_known c.args.asked.seen c.args.path.now ≡ false = ap (λ s. is_known s c.args.path.now) (sym c.answers.ensures.answers) ∙ sym c.is_known.ensures ∙ c.if-is_known.false in
    let may : may_be_asked c.args.limits.now c.args.asked.seen c.args.purpose ≡ true = sym c.may_be_asked.ensures ∙ c.if-not-may_be_asked.false in
    asked_by c.args.limits.now c.args.purpose c.args.path.now c.push.result c.args.asked c.in_ok-answer.answer c.kept.result c.in_ok-path.path
    (g.F.Files.state c.args.files.now) (g.F.Files.state c.ask_path.new.files) known may c.kept.ensures c.in_ok-path.ensures c.in_ok-answer.ensures.answer c.push.ensures

pub returns-clause-cut : goal.returns-clause-cut
returns-clause-cut g c =
    let known : is_known c.args.asked.seen c.args.path.now ≡ false = ap (λ s. is_known s c.args.path.now) (sym c.answers.ensures.answers) ∙ sym c.is_known.ensures ∙ c.if-is_known.false in
    let may : may_be_asked c.args.limits.now c.args.asked.seen c.args.purpose ≡ true = sym c.may_be_asked.ensures ∙ c.if-not-may_be_asked.false in
    cut_behind c.args.limits.now c.args.purpose c.args.path.now c.push.result c.args.asked c.in_ok-answer.answer c.kept.result
    (g.F.Files.state c.args.files.now) (g.F.Files.state c.ask_path.new.files) known may c.kept.ensures c.in_ok-answer.ensures.answer
