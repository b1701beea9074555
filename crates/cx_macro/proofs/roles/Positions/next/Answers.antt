use Rattle.std.proofs.Common.{sym}
use Rattle.cx_macro.proofs.RoleLaws.{next_position}
use Rattle.cx_macro.proofs.roles.Positions.next.Goals as goal

pub returns : goal.returns
returns c =
    let cut = c.in_ok-before.ensures.cases in
    next_position c.self.inside.index c.self.inside.tokens.now c.in_ok-before.before.now c.in_ok-before.rest.now c.in_ok-token.after.now c.in_ok-token.token.now
    c.args.self.now (sym c.self.view_is) cut.1 cut.2 c.in_ok-token.ensures
