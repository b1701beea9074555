use Rattle.std.proofs.Common.{◌≡◌, ap, length, subst, sym}
use Rattle.cx_asking.specs.Answers.{IsBelow, kept}
use Rattle.cx_asking.proofs.IndexLaws.{more_gathered}
use Rattle.cx_asking.proofs.asked.Asked.push.Goals as goal

pub invariant_of-result : goal.invariant_of-result
invariant_of-result c =
    let seen : c.args.self.seen ≡ c.self.inside.answers = ap (λ g. g.seen) (sym c.self.view_is) in
    more_gathered c.args.limits.now c.self.inside.answers c.in_ok-answers.answers c.self.inside.shelf.files c.in_ok-shelf.shelf
    c.self.inside.faults.items c.push.new.self.items c.in_ok-shelf.fault
    c.self.inside.kept c.bytes_kept.result (length c.as_slice-number.result.now) (record { path = c.args.path; answer = c.args.answer })
    c.self.invariant (ap length c.as_slice-number.ensures) c.in_ok-shelf.ensures
    (subst (λ s. IsBelow c.args.limits.now (kept s) c.args.answer) seen c.requires.below) c.requires.short
    c.in_ok-answers.ensures c.in_ok-push.ensures.items c.bytes_kept.ensures
