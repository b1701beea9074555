use Rattle.std.proofs.Common.{sym, ◌∙◌}
use Rattle.cx_macro.proofs.PastingLaws.{left_is_empty, right_is_empty, sides_fail, sides_join}
use Rattle.cx_macro.proofs.pasting.join_sides.Goals as goal

pub returns-in_default : goal.returns-in_default
returns-in_default c = right_is_empty _ _ (sym c.from_vec-rest.ensures ∙ c.in_default.ensures.0)

pub returns-in-None : goal.returns-in-None
returns-in-None c = sides_fail _ _ _ _ _ _ _ c.in-Some-pop_last.ensures (sym c.from_vec-rest.ensures ∙ c.in-Some.ensures) c.in_ok-join.ensures c.in-None.is

pub returns-in_ok-append-in-Some-2 : goal.returns-in_ok-append-in-Some-2
returns-in_ok-append-in-Some-2 c =
    let h = c.in_ok-append-in-Some-2.ensures.items in
    let k = c.in_ok-push-in-Some-2.ensures.items in
    sides_join _ _ _ _ _ _ _ _ _ c.in-Some-pop_last.ensures (sym c.from_vec-rest.ensures ∙ c.in-Some.ensures) c.in_ok-join.ensures c.in-Some-2.is
    (let v = c.into_vec-in-Some-2.ensures in cc)

pub returns-in_default-pop_last : goal.returns-in_default-pop_last
returns-in_default-pop_last c =
    left_is_empty _ _ _ c.in_default-pop_last.ensures (let a = c.into_vec.ensures in let b = c.in_ok-push.ensures.ok in let d = c.in-Some.ensures in cc)
