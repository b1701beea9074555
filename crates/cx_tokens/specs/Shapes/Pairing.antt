-- How brackets are paired along the links, from left to right. `unpaired_place` is joined to
-- IsUnpaired and IsNested of Brackets by BracketLaws.unpaired_fault and BracketLaws.nested_no_fault,
-- and IsHalfPaired to IsPaired by PairLaws.
use Rattle.std.specs.Prelude.{◌≡◌, ℕ, ◌≤◌, List, [], ◌∷◌, ◌++◌, Bool, true, false, if◌then◌else◌, ◌==◌, Option, Some, None, length, map, reverse}
use Rattle.std.specs.List.{IsDistinct, slice_get}
use Rattle.cx_base.specs.declared.place.Place.{Place}
use Rattle.cx_tokens.specs.declared.slots.Slot.{Slot}
use Rattle.cx_tokens.specs.declared.token.Token.{Token}
use Rattle.cx_tokens.specs.Nodes.{TokenNode, first_of, tokens}
use Rattle.cx_tokens.specs.Brackets.{IsNested, IsPaired, closes, fits, opens}
use Rattle.cx_tokens.specs.Shapes.Links.{FreeLinked, Linked}

-- The innermost open bracket of a list, of number j, and what is in front of it and in it.
pub record Innermost (IsInner : List TokenNode → Type 0) (all : List TokenNode) (j : ℕ)
    (left : List Token) (Before : List TokenNode → List Token → Type 0) : Type 0 where
  pub bracket : TokenNode
  pub front : List TokenNode
  pub inner : List TokenNode
  pub lefts : List Token
  pub whole : all ≡ front ++ bracket ∷ inner
  pub number_is : bracket.number ≡ j
  pub is_left : left ≡ bracket.token ∷ lefts
  pub is_opening : opens bracket.token ≡ true
  pub inner_is : IsInner inner
  pub before_it : Before front lefts

-- the brackets of these numbers are open, the innermost first, and IsInner holds of what stands
-- between them
abbrev pub AreOpen : (List TokenNode → Type 0) → List TokenNode → List ℕ → List Token → Type 0
AreOpen IsInner all [] left = IsInner all × (left ≡ [])
AreOpen IsInner all (j ∷ js) left =
    Innermost IsInner all j left (λ front lefts. AreOpen IsInner front js lefts)

abbrev pub AreNested : List TokenNode → Type 0
AreNested nodes = IsNested (tokens nodes)

-- nodes that are read, with the numbers of the brackets left open, the innermost last
pub record IsRead (nodes : List TokenNode) (stack : List ℕ) : Type 0 where
  pub left : List Token
  pub are_open : AreOpen AreNested nodes (reverse stack) left

abbrev pub fits_first : List Token → Token → Bool
fits_first [] b = false
fits_first (a ∷ left) b = fits a b

abbrev pub without_first : List Token → List Token
without_first [] = []
without_first (a ∷ left) = left

abbrev pub place_first : List Token → Option Place
place_first [] = None
place_first (a ∷ left) = Some a.place

-- where tokens after open brackets are not nested
unfoldable pub unpaired_place : List Token → List Token → Option Place
unpaired_place left [] = place_first left
unpaired_place left (t ∷ ts) =
    if opens t then unpaired_place (t ∷ left) ts
    else if closes t then
    (if fits_first left t then unpaired_place (without_first left) ts else Some t.place)
    else unpaired_place left ts

-- a slot has a token
abbrev pub IsUsed : List Slot → ℕ → Type 0
IsUsed slots n = (x : Slot) × (t : Token) × (slice_get slots n ≡ Some x) × (x.token ≡ Some t)

-- the token of a slot
abbrev pub IsTokenAt : List Slot → ℕ → Token → Type 0
IsTokenAt slots n token = (x : Slot) → slice_get slots n ≡ Some x → x.token ≡ Some token

-- Slots with linked nodes from a link on, which are no more than the slots.
pub record IsChain (slots : List Slot) (first : Option ℕ) : Type 0 where
  pub nodes : List TokenNode
  pub linked : Linked slots None nodes None
  pub first_is : first ≡ first_of nodes
  pub numbered : IsDistinct (λ a b. a == b) (map (λ x. x.number) nodes)
  pub few : length nodes ≤ length slots

-- Linked nodes of which those in front of one are read.
pub record IsReadTo (slots : List Slot) (number : ℕ) (stack : List ℕ) : Type 0 where
  pub front : List TokenNode
  pub node : TokenNode
  pub rest : List TokenNode
  pub linked : Linked slots None (front ++ node ∷ rest) None
  pub number_is : node.number ≡ number
  pub read : IsRead front stack

-- Nodes of which those in front of a link are read.
pub record IsReading (nodes : List TokenNode) (at : Option ℕ) (stack : List ℕ) : Type 0 where
  pub front : List TokenNode
  pub rest : List TokenNode
  pub whole : nodes ≡ front ++ rest
  pub at_is : at ≡ first_of rest
  pub read : IsRead front stack
  pub few : length stack ≤ length front

-- Linked nodes of which those in front of one are paired but for the brackets left open, and
-- nothing is unpaired from that one on.
pub record IsHalfPaired (slots : List Slot) (number : ℕ) (stack : List ℕ) : Type 0 where
  pub front : List TokenNode
  pub node : TokenNode
  pub rest : List TokenNode
  pub linked : Linked slots None (front ++ node ∷ rest) None
  pub numbered : IsDistinct (λ a b. a == b) (map (λ x. x.number) (front ++ node ∷ rest))
  pub number_is : node.number ≡ number
  pub left : List Token
  pub are_open : AreOpen IsPaired front (reverse stack) left
  pub all_fit : unpaired_place left (node.token ∷ tokens rest) ≡ None

-- the number and the token of a node
abbrev pub number_and_token : TokenNode → ℕ × Token
number_and_token x = (x.number, x.token)

-- a node with another partner
unfoldable pub with_partner : TokenNode → Option ℕ → TokenNode
with_partner x partner = record { number = x.number; token = x.token; partner = partner }

-- Slots with other partners: the nodes in front of the rest are paired but for the brackets left
-- open, and nothing is unpaired in the rest.
pub record IsPairedTo (old slots : List Slot) (stack : List ℕ) (nodes rest : List TokenNode)
    : Type 0 where
  pub front : List TokenNode
  pub left : List Token
  pub linked : Linked slots None (front ++ rest) None
  pub are_open : AreOpen IsPaired front (reverse stack) left
  pub all_fit : unpaired_place left (tokens rest) ≡ None
  pub named : map number_and_token (front ++ rest) ≡ map number_and_token nodes
  pub frees : (ns : List ℕ) → FreeLinked old ns → FreeLinked slots ns
  pub long : length slots ≡ length old

-- The nodes in front of a link are paired, with a stack that has no more brackets than they are.
pub record IsPairing (old slots : List Slot) (at : Option ℕ) (stack : List ℕ)
    (nodes : List TokenNode) : Type 0 where
  pub rest : List TokenNode
  pub at_is : at ≡ first_of rest
  pub paired : IsPairedTo old slots stack nodes rest
  pub few : length stack ≤ length paired.front

-- Slots whose nodes are paired, and which are the same in all else.
pub record IsMated (old slots : List Slot) (nodes : List TokenNode) : Type 0 where
  pub mated : List TokenNode
  pub linked : Linked slots None mated None
  pub paired : IsPaired mated
  pub named : map number_and_token mated ≡ map number_and_token nodes
  pub frees : (ns : List ℕ) → FreeLinked old ns → FreeLinked slots ns
  pub long : length slots ≡ length old
