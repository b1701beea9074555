-- How a token list is simplified, one node after another. `staying_nodes` and `all_joined_to_end`
-- are joined to IsSimplified of Simplified by UnadornedLaws.swept_simplified.
use Rattle.std.specs.Prelude.{◌≡◌, ℕ, ◌<◌, List, [], ◌∷◌, ◌++◌, Bool, true, false, not, if◌then◌else◌, ◌&&◌, ◌==◌, Option, Some, None, codes, length}
use Rattle.std.specs.List.{IsDistinct}
use Rattle.cx_tokens.specs.declared.token.Token.{Token}
use Rattle.cx_tokens.specs.Nodes.{TokenNode, first_of, is_live, nodes_after, nodes_from, numbers, token_of}
use Rattle.cx_tokens.specs.Brackets.{IsPaired, is_punctuator}
use Rattle.cx_tokens.specs.Simplified.{attribute_words, begins_round, is_string, is_word_of, joined, lone_words}

-- What stands directly before a node: nothing that goes, a word of an attribute, with which a round
-- bracket goes, or a part of what goes with a word, up to the node of this number.
pub data State : Type 0 where
  Plain : State
  AfterWord : State
  Within : ℕ → State

abbrev pub skipping : Option ℕ → State
skipping None = Plain
skipping (Some n) = Within n

-- the state at a node
unfoldable pub state_at : State → TokenNode → State
state_at AfterWord x = if is_punctuator (codes "(") x.token then skipping x.partner else Plain
state_at state x = state

-- a node that stays
unfoldable pub node_stays : State → TokenNode → Bool
node_stays Plain x = not (is_word_of attribute_words x.token) && not (is_word_of lone_words x.token)
node_stays state x = false

-- the state after a node
unfoldable pub state_after : State → TokenNode → State
state_after (Within n) x = if x.number == n then Plain else Within n
state_after state x = if is_word_of attribute_words x.token then AfterWord else Plain

-- the nodes that stay
unfoldable pub staying_nodes : State → List TokenNode → List TokenNode
staying_nodes state [] = []
staying_nodes state (x ∷ xs) =
    if node_stays (state_at state x) x then x ∷ staying_nodes (state_after (state_at state x) x) xs
    else staying_nodes (state_after (state_at state x) x) xs

unfoldable pub state_after_all : State → List TokenNode → State
state_after_all state [] = state
state_after_all state (x ∷ xs) = state_after_all (state_after (state_at state x) x) xs

unfoldable pub with_text : TokenNode → List ℕ → List ℕ → TokenNode
with_text x text parts = record {
  number = x.number;
  token = record {
    kind = x.token.kind;
    text = text;
    place = x.token.place;
    hide = x.token.hide;
    space = x.token.space;
    parts = parts;
    digraph = false;
  };
  partner = x.partner;
}

-- two strings as one node
unfoldable pub joined_node : TokenNode → TokenNode → TokenNode
joined_node x y =
    record { number = x.number; token = joined x.token y.token; partner = x.partner }

unfoldable pub are_strings : TokenNode → TokenNode → Bool
are_strings x y = is_string x.token.kind && is_string y.token.kind

-- nodes with one more at the end, or joined to the last
unfoldable pub joined_to_end : List TokenNode → TokenNode → List TokenNode
joined_to_end [] y = y ∷ []
joined_to_end (x ∷ []) y = if are_strings x y then joined_node x y ∷ [] else x ∷ y ∷ []
joined_to_end (x ∷ z ∷ xs) y = x ∷ joined_to_end (z ∷ xs) y

unfoldable pub all_joined_to_end : List TokenNode → List TokenNode → List TokenNode
all_joined_to_end made [] = made
all_joined_to_end made (x ∷ xs) = all_joined_to_end (joined_to_end made x) xs

-- Nodes are simplified up to one that stays.
pub record IsStopped (old nodes : List TokenNode) : Type 0 where
  pub front : List TokenNode
  pub next : TokenNode
  pub rest : List TokenNode
  pub whole : old ≡ front ++ next ∷ rest
  pub made : nodes ≡ all_joined_to_end [] (staying_nodes Plain front) ++ next ∷ rest
  pub stays : node_stays (state_at (state_after_all Plain front) next) next ≡ true

-- ---- along the links

-- nothing that goes is open in front of these nodes
abbrev pub IsPlainAt : State → List TokenNode → Type 0
IsPlainAt Plain rest = Unit {0}
IsPlainAt AfterWord rest = begins_round rest ≡ false
IsPlainAt (Within n) rest = ⊥

abbrev pub begins_string : List TokenNode → Bool
begins_string [] = false
begins_string (x ∷ xs) = is_string x.token.kind

abbrev pub ends_string : List TokenNode → Bool
ends_string [] = false
ends_string (x ∷ []) = is_string x.token.kind
ends_string (x ∷ y ∷ xs) = ends_string (y ∷ xs)

-- a node with the strings of others joined to it
unfoldable pub joined_all : TokenNode → List TokenNode → TokenNode
joined_all x [] = x
joined_all x (y ∷ ys) = joined_all (joined_node x y) ys

abbrev pub AllStrings : List TokenNode → Type 0
AllStrings [] = Unit {0}
AllStrings (x ∷ xs) = (is_string x.token.kind ≡ true) × AllStrings xs

-- A front of the nodes is simplified, up to a link, and the rest is as it was.
pub record IsSwept (old nodes : List TokenNode) (at : Option ℕ) : Type 0 where
  pub front : List TokenNode
  pub rest : List TokenNode
  pub whole : old ≡ front ++ rest
  pub made : nodes ≡ all_joined_to_end [] (staying_nodes Plain front) ++ rest
  pub plain : IsPlainAt (state_after_all Plain front) rest
  pub apart : (ends_string (all_joined_to_end [] (staying_nodes Plain front))
      && begins_string (staying_nodes Plain rest)) ≡ false
  pub at_is : at ≡ first_of rest

-- what is simplified up to a link is so up to a later one, in new nodes
pub record SweepsOn (all old new : List TokenNode) (n : ℕ) (next : Option ℕ)
    (s : IsSwept all old (Some n)) : Type 0 where
  pub swept : IsSwept all new next
  pub shorter : length swept.rest < length s.rest

unfoldable pub Sweeps : List TokenNode → List TokenNode → ℕ → Option ℕ → Type 0
Sweeps old new n next =
    (all : List TokenNode) → IsPaired all → IsDistinct (λ a b. a == b) (numbers all)
    → (s : IsSwept all old (Some n)) → SweepsOn all old new n next s

-- What goes, from one node to another.
pub record IsGone (nodes : List TokenNode) (n last : ℕ) : Type 0 where
  pub gone : List TokenNode
  pub rest : List TokenNode
  pub whole : nodes_from n nodes ≡ gone ++ rest
  pub after : nodes_after last nodes ≡ rest
  pub order : is_live last (nodes_from n nodes) ≡ true
  pub some : 0 < length gone
  pub none_stay : staying_nodes Plain gone ≡ []
  pub plain : IsPlainAt (state_after_all Plain gone) rest

-- A node that stays where nothing in front of it has it go.
pub record IsStaying (nodes : List TokenNode) (n : ℕ) : Type 0 where
  pub node : TokenNode
  pub here : nodes_from n nodes ≡ node ∷ nodes_after n nodes
  pub stays : node_stays Plain node ≡ true

-- What stands behind a node goes, up to a link.
pub record IsSkipped (nodes : List TokenNode) (n : ℕ) (next : Option ℕ) : Type 0 where
  pub gone : List TokenNode
  pub rest : List TokenNode
  pub whole : nodes_after n nodes ≡ gone ++ rest
  pub none_stay : staying_nodes Plain gone ≡ []
  pub plain : IsPlainAt (state_after_all Plain gone) rest
  pub at_is : next ≡ first_of rest

-- The next node behind one that stays is a string, of number m.
pub record IsNextString (nodes : List TokenNode) (n m : ℕ) : Type 0 where
  pub gone : List TokenNode
  pub string : TokenNode
  pub whole : nodes_after n nodes ≡ gone ++ string ∷ nodes_after m nodes
  pub number_is : string.number ≡ m
  pub none_stay : staying_nodes Plain gone ≡ []
  pub plain : IsPlainAt (state_after_all Plain gone) (string ∷ nodes_after m nodes)
  pub is_string : is_string string.token.kind ≡ true

-- the next node behind one that stays is no string, or there is none
abbrev pub HasNoString : List TokenNode → ℕ → Type 0
HasNoString nodes n = begins_string (staying_nodes Plain (nodes_after n nodes)) ≡ false

-- The strings behind a string, up to one, with the text and the parts of all of them.
pub record IsJoined (nodes : List TokenNode) (n : ℕ) (text parts : List ℕ) (last : ℕ) : Type 0 where
  pub node : TokenNode
  pub middle : List TokenNode
  pub second : TokenNode
  pub others : List TokenNode
  pub here : nodes_from n nodes ≡ node ∷ nodes_after n nodes
  pub whole : nodes_after n nodes ≡ middle ++ nodes_after last nodes
  pub inside : is_live last middle ≡ true
  pub stay : staying_nodes Plain middle ≡ second ∷ others
  pub strings : AllStrings (second ∷ others)
  pub plain : IsPlainAt (state_after_all Plain middle) (nodes_after last nodes)
  pub text_is : text ≡ (joined_all node (second ∷ others)).token.text
  pub parts_are : parts ≡ (joined_all node (second ∷ others)).token.parts
  pub some : 0 < length parts

-- All strings behind a string, with the text and the parts of all of them.
abbrev pub IsRun : List TokenNode → ℕ → List ℕ → List ℕ → ℕ → Type 0
IsRun nodes n text parts last = IsJoined nodes n text parts last × HasNoString nodes last

-- the token of a number is a string
abbrev pub IsStringAt : List TokenNode → ℕ → Type 0
IsStringAt nodes n = (t : Token) × (token_of n nodes ≡ Some t) × (is_string t.kind ≡ true)

-- a number, if its token is a string
abbrev pub StringOf : List TokenNode → ℕ → Option ℕ → Type 0
StringOf nodes n None = (t : Token) → token_of n nodes ≡ Some t → is_string t.kind ≡ false
StringOf nodes n (Some m) = (m ≡ n) × IsStringAt nodes n

-- a node with another text
unfoldable pub SetsText : ℕ → List ℕ → List ℕ → List TokenNode → List TokenNode → Type 0
SetsText n text parts old new =
    (a b : List TokenNode) (x : TokenNode) → old ≡ a ++ x ∷ b → x.number ≡ n
    → new ≡ a ++ with_text x text parts ∷ b
