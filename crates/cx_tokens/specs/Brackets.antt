-- Bracket pairs of a token list.
use Rattle.std.specs.Prelude.{◌≡◌, ℕ, List, [], ◌∷◌, ◌++◌, Bool, true, false, ◌&&◌, Some, None, codes, bytes_eq}
use Rattle.std.specs.List.{list_any}
use Rattle.cx_base.specs.declared.place.Place.{Place}
use Rattle.cx_tokens.specs.declared.token.Kind.{Kind}
use Rattle.cx_tokens.specs.declared.token.Kind.TheVariants.{Punct}
use Rattle.cx_tokens.specs.declared.token.Token.{Token}
use Rattle.cx_tokens.specs.Nodes.{TokenNode}

-- the opening brackets, each with the closing bracket that fits it (C11 6.4.6)
abbrev pub bracket_pairs : List (List ℕ × List ℕ)
bracket_pairs = (codes "(", codes ")") ∷ (codes "[", codes "]") ∷ (codes "{", codes "}") ∷ []

abbrev pub is_punct : Kind → Bool
is_punct Punct = true
is_punct _ = false

-- a punctuator of this text
unfoldable pub is_punctuator : List ℕ → Token → Bool
is_punctuator text t = is_punct t.kind && bytes_eq text t.text

-- an opening bracket
unfoldable pub opens : Token → Bool
opens t = list_any (λ pair. is_punctuator pair.0 t) bracket_pairs

-- a closing bracket
unfoldable pub closes : Token → Bool
closes t = list_any (λ pair. is_punctuator pair.1 t) bracket_pairs

-- an opening bracket and a closing one of one kind
unfoldable pub fits : Token → Token → Bool
fits a b = list_any (λ pair. is_punctuator pair.0 a && is_punctuator pair.1 b) bracket_pairs

-- IsNested tokens: each bracket has the one that matches it.
pub data IsNested : List Token → Type 0 where
  nothing : IsNested []
  other : {t : Token} {rest : List Token} → opens t ≡ false → closes t ≡ false → IsNested rest
      → IsNested (t ∷ rest)
  pair : {all : List Token} (a b : Token) (inner rest : List Token) → all ≡ a ∷ (inner ++ b ∷ rest)
      → fits a b ≡ true → IsNested inner → IsNested rest → IsNested all

-- IsPaired nodes: the brackets are nested, the two of each pair are partners, and no other node has
-- a partner.
pub data IsPaired : List TokenNode → Type 0 where
  nothing : IsPaired []
  other : {x : TokenNode} {rest : List TokenNode} → opens x.token ≡ false → closes x.token ≡ false
      → x.partner ≡ None → IsPaired rest → IsPaired (x ∷ rest)
  pair : {all : List TokenNode} (a b : TokenNode) (inner rest : List TokenNode)
      → all ≡ a ∷ (inner ++ b ∷ rest) → fits a.token b.token ≡ true
      → a.partner ≡ Some b.number → b.partner ≡ Some a.number → IsPaired inner → IsPaired rest
      → IsPaired all

-- IsOpen tokens left: all brackets of the tokens are matched but for these opening ones, the
-- innermost first.
pub data IsOpen : List Token → List Token → Type 0 where
  none : {all : List Token} → IsNested all → IsOpen all []
  more : {all left : List Token} {a : Token} (front inner : List Token) → all ≡ front ++ a ∷ inner
      → IsOpen front left → opens a ≡ true → IsNested inner → IsOpen all (a ∷ left)

-- a closing bracket does not fit the innermost open one, or none is open
abbrev pub DoesNotFit : List Token → Token → Type 0
DoesNotFit [] b = Unit {0}
DoesNotFit (a ∷ left) b = fits a b ≡ false

-- Where the brackets of tokens are not nested: at the first closing one that does not fit, else at
-- the last one left open.
pub data IsUnpaired : List Token → Place → Type 0 where
  unfit : {all : List Token} (b : Token) (front rest left : List Token) → all ≡ front ++ b ∷ rest
      → IsOpen front left → closes b ≡ true → DoesNotFit left b → IsUnpaired all b.place
  left_open : {all : List Token} (a : Token) (left : List Token) → IsOpen all (a ∷ left)
      → IsUnpaired all a.place
