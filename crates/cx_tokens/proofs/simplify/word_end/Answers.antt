use Rattle.std.proofs.Common.{◌≡◌, ◌∙◌, sym, false}
use Rattle.cx_tokens.specs.Simplified.{attribute_words, is_word_of}
use Rattle.cx_tokens.proofs.GoneLaws.{gone_lone, staying_is}
use Rattle.cx_tokens.proofs.simplify.word_end.Goals as goal

pub returns-then-is_lone_word : goal.returns-then-is_lone_word
returns-then-is_lone_word c =
    gone_lone c.args.node c.args.list.now.nodes c.token-token.result.now c.requires.live c.token-token.ensures (sym c.is_lone_word.ensures ∙ c.if-is_lone_word.true)

pub returns-then-not-is_attribute_word : goal.returns-then-not-is_attribute_word
returns-then-not-is_attribute_word c =
    let t = c.token-token.result.now in
    let a : is_word_of attribute_words t ≡ false = cc in
    staying_is c.args.node c.args.list.now.nodes t c.requires.live c.token-token.ensures a (sym c.is_lone_word.ensures ∙ c.if-is_lone_word.false)
