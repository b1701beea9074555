use Rattle.std.proofs.Common.{◌≡◌, drop, bytes_eq}
use Rattle.std.specs.List.{list_any}
use Rattle.cx_tokens.specs.Simplified.{attribute_words}
use Rattle.cx_tokens.proofs.simplify.is_attribute_word.Given as goal

abbrev pub invariant-loop-word : goal.invariant-loop-word
invariant-loop-word l = list_any (λ w. bytes_eq l.token.text w.now) (drop l.word-index l.word-items) ≡ list_any (bytes_eq l.token.text) attribute_words
