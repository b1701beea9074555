-- What is told of a refused word is what is told in front of it, the word, and what is told behind it.
use Rattle.std.proofs.Common.{◌≡◌, ℕ, List, ◌++◌, refl}
use Rattle.cx_options.specs.declared.fault.WordKind.{WordKind}
use Rattle.cx_options.specs.declared.fault.WordKind.TheVariants as kind
use Rattle.cx_options.specs.Shapes.Telling.{text_after, text_before}
use Rattle.cx_options.specs.Texts.{refusal_text}

pub refusal_text_parts : (k : WordKind) (word : List ℕ) → refusal_text k word ≡ text_before k ++ word ++ text_after k
unfolding refusal_text
refusal_text_parts kind.Unknown word = refl
refusal_text_parts kind.MissingValue word = refl
refusal_text_parts kind.BadNumber word = refl
refusal_text_parts kind.BadName word = refl
refusal_text_parts kind.BadValue word = refl
refusal_text_parts kind.BadTemplate word = refl
refusal_text_parts kind.BadSpec word = refl
refusal_text_parts kind.TooMany word = refl
