use Rattle.std.proofs.Common.{◌≡◌, ◌<◌, ◌≤◌, ◌∙◌, ap, subst, length, get_or}
use Rattle.cx_shelf.specs.Closures.{with_file}
use Rattle.cx_shelf.proofs.ReachLaws.{none_followed, one_followed, all_followed}
use Rattle.cx_shelf.proofs.closures.closure.Goals as goal

pub loop-file-init : goal.loop-file-init
loop-file-init c = none_followed c.args.shelf.now c.args.unit c.insert.new.self.keys
    (c.in_ok-insert.ensures.keys ∙ ap (λ files. with_file files c.args.unit) c.with_hasher-files.ensures.empty)

pub loop-file-preserved : goal.loop-file-preserved
loop-file-preserved c =
    one_followed c.args.shelf.now c.args.unit c.loop-file.followed c.in-Some.field-0.now c.loop-file.files.keys c.follow.new.files.keys c.loop-file.invariant
    (subst (λ files. c.loop-file.followed < length files) c.as_slice.ensures.keys c.in-Some.ensures.lookup.3.0)
    (subst (λ files. c.in-Some.field-0.now ≡ get_or files c.loop-file.followed c.in-Some.field-0.now) c.as_slice.ensures.keys (c.in-Some.ensures.lookup.3.1 c.in-Some.field-0.now))
    c.in_ok-follow.ensures

pub returns : goal.returns
returns c =
    c.in_ok-from_slice.ensures.items ∙ c.as_slice-2.ensures.keys
    ∙ all_followed c.args.shelf.now c.args.unit c.loop-file.followed c.loop-file.files.keys c.loop-file.invariant
    (subst (λ files. length files ≤ c.loop-file.followed) c.as_slice.ensures.keys c.in_default.ensures.lookup.3)
