use Rattle.std.proofs.Common.{◌≡◌, ◌∙◌, ◌&&◌, true, false, ap, subst, sym}
use Rattle.cx_tokens.specs.Nodes.{nodes_after}
use Rattle.cx_tokens.specs.Simplified.{is_string}
use Rattle.cx_tokens.specs.Shapes.Sweeping.{Plain, begins_string, staying_nodes}
use Rattle.cx_tokens.proofs.GoneLaws.{staying_token}
use Rattle.cx_tokens.proofs.SweepSteps.{none_and, sweeps_one}
use Rattle.cx_tokens.proofs.simplify.keep.Goals as goal

pub returns-then-not-is_string-clause-swept : goal.returns-then-not-is_string-clause-swept
returns-then-not-is_string-clause-swept c =
    let nodes = c.args.list.now.nodes in
    let n = c.args.node in
    let s = c.requires.stays in
    let t = c.token.result.now in
    let k : is_string t.kind ≡ false = cc in
    let here : is_string s.node.token.kind ≡ false = subst (λ u. is_string u.kind ≡ false) (staying_token n nodes t c.requires.live s c.token.ensures) k in
    sweeps_one nodes n c.next.result s (ap (λ b. b && begins_string (staying_nodes Plain (nodes_after n nodes))) here) c.next.ensures.node

pub returns-in_default-clause-swept : goal.returns-in_default-clause-swept
returns-in_default-clause-swept c =
    let s = c.requires.stays in
    sweeps_one c.args.list.now.nodes c.args.node c.next-in_default.result s (none_and (is_string s.node.token.kind) _ c.in_default.ensures) c.next-in_default.ensures.node

pub returns-clause-swept : goal.returns-clause-swept
returns-clause-swept c =
    let nodes = c.args.list.now.nodes in
    let s = c.requires.stays in
    let t = c.token.result.now in
    let k : is_string t.kind ≡ true = sym c.is_string.ensures ∙ c.if-not-is_string.false in
    c.put_run.ensures s (subst (λ u. is_string u.kind ≡ true) (staying_token c.args.node nodes t c.requires.live s c.token.ensures) k)
