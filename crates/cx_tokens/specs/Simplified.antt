-- A token list without what says nothing of a program's values, and with adjacent strings joined.
use Rattle.std.specs.Prelude.{◌≡◌, ℕ, ◌-◌, List, [], ◌∷◌, ◌++◌, Bool, true, false, if◌then◌else◌, ◌&&◌, ◌||◌, ◌↔◌, Some, length, take, drop, codes, bytes_eq}
use Rattle.std.specs.List.{list_any}
use Rattle.cx_tokens.specs.declared.token.Kind.{Kind}
use Rattle.cx_tokens.specs.declared.token.Kind.TheVariants.{Name, String}
use Rattle.cx_tokens.specs.declared.token.Token.{Token}
use Rattle.cx_tokens.specs.Nodes.{TokenNode}
use Rattle.cx_tokens.specs.Brackets.{is_punctuator}

-- the words that go, with a round bracket where one stands directly after
abbrev pub attribute_words : List (List ℕ)
attribute_words = codes "__attribute__" ∷ codes "__declspec" ∷ codes "_Pragma" ∷ []

-- the words that go alone
abbrev pub lone_words : List (List ℕ)
lone_words =
    codes "inline" ∷ codes "__inline" ∷ codes "__inline__" ∷ codes "register" ∷ codes "auto"
    ∷ codes "_Noreturn" ∷ codes "restrict" ∷ codes "__restrict" ∷ codes "__extension__" ∷ []

abbrev pub is_name : Kind → Bool
is_name Name = true
is_name _ = false

-- a name that is one of these words
unfoldable pub is_word_of : List (List ℕ) → Token → Bool
is_word_of words t = is_name t.kind && list_any (bytes_eq t.text) words

-- a word that goes
unfoldable pub is_erased_word : Token → Bool
is_erased_word t = is_word_of attribute_words t || is_word_of lone_words t

-- the nodes begin with a round bracket
abbrev pub begins_round : List TokenNode → Bool
begins_round [] = false
begins_round (x ∷ xs) = is_punctuator (codes "(") x.token

-- IsUnadorned nodes left: what is left of nodes when their attributes and lone words are gone.
pub data IsUnadorned : List TokenNode → List TokenNode → Type 0 where
  nothing : IsUnadorned [] []
  -- an attribute: a word of one, and a round bracket directly after it up to its partner
  attribute : {nodes left : List TokenNode} (word a b : TokenNode) (inner rest : List TokenNode)
      → nodes ≡ word ∷ a ∷ (inner ++ b ∷ rest) → is_word_of attribute_words word.token ≡ true
      → is_punctuator (codes "(") a.token ≡ true → a.partner ≡ Some b.number → IsUnadorned rest left
      → IsUnadorned nodes left
  -- a word of an attribute with no such bracket
  bare_word : {word : TokenNode} {rest left : List TokenNode}
      → is_word_of attribute_words word.token ≡ true → begins_round rest ≡ false
      → IsUnadorned rest left → IsUnadorned (word ∷ rest) left
  lone_word : {word : TokenNode} {rest left : List TokenNode}
      → is_word_of lone_words word.token ≡ true → IsUnadorned rest left
      → IsUnadorned (word ∷ rest) left
  other : {x : TokenNode} {rest left : List TokenNode} → is_erased_word x.token ≡ false
      → IsUnadorned rest left → IsUnadorned (x ∷ rest) (x ∷ left)

abbrev pub is_string : Kind → Bool
is_string String = true
is_string _ = false

-- how many bytes each string of a token has between its quotes
abbrev pub parts_of : List ℕ → List ℕ → List ℕ
parts_of text [] = (length text - 2) ∷ []
parts_of text parts = parts

-- two strings as one, without the quotes between, at the place of the first (C11 5.1.1.2, phase 6)
unfoldable pub joined : Token → Token → Token
joined a b = record {
  kind = a.kind;
  text = take (length a.text - 1) a.text ++ drop 1 b.text;
  place = a.place;
  hide = a.hide;
  space = a.space;
  parts = parts_of a.text a.parts ++ parts_of b.text b.parts;
  digraph = false;
}

-- a node that the strings directly after it join, and the nodes after these
unfoldable pub with_strings : TokenNode → List TokenNode → List TokenNode
with_strings x [] = x ∷ []
with_strings x (y ∷ ys) =
    if is_string x.token.kind && is_string y.token.kind then
    with_strings
    (record { number = x.number; token = joined x.token y.token; partner = x.partner }) ys
    else x ∷ with_strings y ys

-- nodes with adjacent strings joined, from left to right
abbrev pub strings_joined : List TokenNode → List TokenNode
strings_joined [] = []
strings_joined (x ∷ xs) = with_strings x xs

-- What is simplified: no attributes, no lone words, and adjacent strings joined.
abbrev pub IsSimplified : List TokenNode → List TokenNode → Type 0
IsSimplified old new = (left : List TokenNode) × IsUnadorned old left × (new ≡ strings_joined left)

-- A front of the nodes is simplified, and the rest is as it was. What is left to do leads to the
-- same end.
pub record IsPartlySimplified (old new : List TokenNode) : Type 0 where
  pub front : List TokenNode
  pub done : List TokenNode
  pub rest : List TokenNode
  pub whole : old ≡ front ++ rest
  pub front_done : IsSimplified front done
  pub made : new ≡ done ++ rest
  pub same_end : (end : List TokenNode) → IsSimplified new end ↔ IsSimplified old end
