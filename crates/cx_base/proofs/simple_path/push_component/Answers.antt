use Rattle.std.proofs.Common.{◌∙◌, ◌-◌, ap, length, sym, take}
use Rattle.cx_base.specs.Shapes.SimplePath.{ends_plain, texts_of}
use Rattle.cx_base.proofs.SimplePathLaws.{cancelled, without_is}
use Rattle.cx_base.proofs.simple_path.push_component.Goals as goal

pub returns-then-ends_plain : goal.returns-then-ends_plain
returns-then-ends_plain c =
    ap texts_of c.truncate.ensures.items
    ∙ ap (λ n. texts_of (take n c.args.left.now.items))
    (c.saturating_sub.ensures ∙ ap (λ n. n - 1) (c.len.ensures ∙ sym c.as_slice.ensures.len ∙ ap length c.as_slice.ensures.value))
    ∙ without_is c.args.left.now.items
    ∙ sym (cancelled (texts_of c.args.left.now.items) c.args.component.now (sym c.is_parent.ensures ∙ c.if-is_parent.true)
    (ap (λ l. ends_plain (texts_of l)) (sym c.as_slice.ensures.value) ∙ sym c.ends_plain.ensures ∙ c.if-ends_plain.true))
