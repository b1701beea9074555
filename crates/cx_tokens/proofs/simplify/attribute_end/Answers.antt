use Rattle.std.proofs.Common.{◌≡◌, ◌∙◌, sym, true, false, codes}
use Rattle.cx_tokens.specs.Brackets.{is_punctuator}
use Rattle.cx_tokens.proofs.GoneLaws.{gone_attribute, gone_last, gone_other, no_partner}
use Rattle.cx_tokens.proofs.simplify.attribute_end.Goals as goal

pub returns-in_default : goal.returns-in_default
returns-in_default c = gone_last c.args.word c.args.list.now.nodes c.next.result c.requires.live c.requires.attribute c.in_default.is c.next.ensures.node

pub returns-then-not-is_punctuator : goal.returns-then-not-is_punctuator
returns-then-not-is_punctuator c =
    let t = c.token.result.now in
    let b : is_punctuator (codes "(") t ≡ false = cc in
    gone_other c.args.word c.in-Some.bracket c.args.list.now.nodes c.next.result t c.requires.live c.are_numbered.ensures.distinct c.requires.attribute c.in-Some.is c.next.ensures.node c.token.ensures b

pub returns-in-None : goal.returns-in-None
returns-in-None c =
    let t = c.token.result.now in
    let b : is_punctuator (codes "(") t ≡ true = sym c.is_punctuator.ensures ∙ c.if-not-is_punctuator.false in
    absurd (no_partner c.args.word c.in-Some.bracket c.args.list.now.nodes c.next.result c.partner.result t c.requires.live c.are_numbered.ensures.distinct c.requires.paired c.in-Some.is c.next.ensures.node c.token.ensures b c.in-None.is c.partner.ensures.node)

pub returns-in-Some-partner : goal.returns-in-Some-partner
returns-in-Some-partner c =
    let t = c.token.result.now in
    let b : is_punctuator (codes "(") t ≡ true = sym c.is_punctuator.ensures ∙ c.if-not-is_punctuator.false in
    gone_attribute c.args.word c.in-Some.bracket c.in-Some-partner.end c.args.list.now.nodes c.next.result c.partner.result t c.requires.live c.are_numbered.ensures.distinct c.requires.paired c.requires.attribute c.in-Some.is c.next.ensures.node
    c.token.ensures b c.in-Some-partner.is c.partner.ensures.node
