use Rattle.std.proofs.Common.{◌≡◌, None, ap, length, sym, ◌∙◌}
use Rattle.cx_asking.specs.Wishes.{look_up}
use Rattle.cx_asking.proofs.IndexLaws.{folder_more, indexed_as, other_more}
use Rattle.cx_asking.proofs.answers.Answers.with.Goals as goal
use Rattle.cx_asking.proofs.answers.Answers.with.Goals.{then-folder+in_ok-push-2, else-folder}

pub invariant_of-result : goal.invariant_of-result
invariant_of-result c =
    let new : look_up c.self.inside.seen c.args.path ≡ None = ap (λ s. look_up s c.args.path) c.self.view_is ∙ c.requires in
    elim c.if-folder.branch [
      | then-folder+in_ok-push-2 w ↦
          indexed_as _ c.push.new.self _ c.add.new.paths _ c.if-folder.folders.items
          c.in_ok-push.ensures.ok c.in_ok-add.ensures (ap (λ v. v.items) w.folders-is ∙ w.in_ok-push-2.ensures.items)
          (folder_more c.self.inside.seen c.self.inside.paths c.self.inside.folders.items c.args.path c.args.answer (length w.as_slice.result.now) c.self.invariant new
          (sym c.is_folder-folder.ensures ∙ w.if-folder.true) (ap length (w.as_slice.ensures ∙ c.in_ok-push.ensures.ok)))
      | else-folder w ↦
          indexed_as _ c.push.new.self _ c.add.new.paths _ c.if-folder.folders.items
          c.in_ok-push.ensures.ok c.in_ok-add.ensures (ap (λ v. v.items) w.folders-is)
          (other_more c.self.inside.seen c.self.inside.paths c.self.inside.folders.items c.args.path c.args.answer c.self.invariant new
          (sym c.is_folder-folder.ensures ∙ w.if-folder.false))
    ]
