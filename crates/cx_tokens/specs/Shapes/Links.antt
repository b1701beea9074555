-- How nodes are linked by index. `walk` is the list of nodes that contracts see, which IsLinks
-- tells.
use Rattle.std.specs.Prelude.{◌≡◌, ℕ, zero, suc, ◌+◌, ◌<◌, ◌≤◌, List, [], ◌∷◌, ◌++◌, Option, Some, None, IfSome, ◌==◌, false, if◌then◌else◌, length}
use Rattle.std.specs.List.{IsDistinct, slice_get}
use Rattle.cx_tokens.specs.declared.slots.Slot.{Slot}
use Rattle.cx_tokens.specs.declared.token.Token.{Token}
use Rattle.cx_tokens.specs.Nodes.{AreNew, IsTokenList, TokenNode, first_of, new_nodes, nodes_after, nodes_from, nodes_to}

-- the first of nodes, or what follows them
abbrev pub first_or : List TokenNode → Option ℕ → Option ℕ
first_or [] q = q
first_or (y ∷ ys) q = Some y.number

-- the last of nodes, or what precedes them
abbrev pub last_or : List TokenNode → Option ℕ → Option ℕ
last_or [] p = p
last_or (y ∷ ys) p = last_or ys (Some y.number)

-- the slot of a node that stands between two others
abbrev pub slot_of : TokenNode → Option ℕ → Option ℕ → Slot
slot_of y p q = record { token = Some y.token; partner = y.partner; previous = p; next = q }

abbrev pub free_slot : Option ℕ → Slot
free_slot q = record { token = None; partner = None; previous = None; next = q }

-- each node has the slot that the list gives it, between a node before and one after the list
abbrev pub Linked : List Slot → Option ℕ → List TokenNode → Option ℕ → Type 0
Linked slots p [] q = Unit {0}
Linked slots p (y ∷ ys) q =
    (slice_get slots y.number ≡ Some (slot_of y p (first_or ys q)))
    × Linked slots (Some y.number) ys q

abbrev pub first_free : List ℕ → Option ℕ
first_free [] = None
first_free (n ∷ ns) = Some n

-- each of these slots is free and leads to the next
abbrev pub FreeLinked : List Slot → List ℕ → Type 0
FreeLinked slots [] = Unit {0}
FreeLinked slots (n ∷ ns) =
    (slice_get slots n ≡ Some (free_slot (first_free ns))) × FreeLinked slots ns

abbrev pub node_then : ℕ → Option Token → Option ℕ → List TokenNode → List TokenNode
node_then n None partner rest = []
node_then n (Some token) partner rest =
    record { number = n; token = token; partner = partner } ∷ rest

abbrev pub links_of : Option Slot → Option ℕ
links_of None = None
links_of (Some x) = x.next

abbrev pub node_of_slot : ℕ → Option Slot → List TokenNode → List TokenNode
node_of_slot n None rest = []
node_of_slot n (Some x) rest = node_then n x.token x.partner rest

-- so many nodes, from a link on
unfoldable pub walk : ℕ → Option ℕ → List Slot → List TokenNode
walk zero o slots = []
walk (suc k) None slots = []
walk (suc k) (Some n) slots =
    node_of_slot n (slice_get slots n) (walk k (links_of (slice_get slots n)) slots)

-- What holds of each linked list.
pub record IsLinks (slots : List Slot) (first : Option ℕ) (len : ℕ) (free : Option ℕ) (spare : ℕ)
    : Type 0 where
  pub nodes : List TokenNode
  pub frees : List ℕ
  pub linked : Linked slots None nodes None
  pub first_is : first ≡ first_of nodes
  pub len_is : len ≡ length nodes
  pub is_list : IsTokenList nodes
  pub free_linked : FreeLinked slots frees
  pub free_is : free ≡ first_free frees
  pub spare_is : spare ≡ length frees
  pub distinct : IsDistinct (λ a b. a == b) frees
  pub all : len + spare ≡ length slots
  pub few : length slots ≤ 4294967295

-- What holds of each token list: its links, and a stack for open brackets that has room for all
-- nodes, and is empty.
pub record IsValidList (slots : List Slot) (first : Option ℕ) (len : ℕ) (free : Option ℕ)
    (spare room : ℕ) (open_ones : List ℕ) : Type 0 where
  pub links : IsLinks slots first len free spare
  pub enough : length slots ≤ room
  pub none_open : open_ones ≡ []

-- ---- writes

-- slots of which the one at an index is changed
unfoldable pub changed : ℕ → (Slot → Slot) → List Slot → List Slot
changed n f [] = []
changed zero f (x ∷ xs) = f x ∷ xs
changed (suc n) f (x ∷ xs) = x ∷ changed n f xs

abbrev pub with_next : Option ℕ → Slot → Slot
with_next q x = record { token = x.token; partner = x.partner; previous = x.previous; next = q }

abbrev pub with_previous : Option ℕ → Slot → Slot
with_previous p x = record { token = x.token; partner = x.partner; previous = p; next = x.next }

abbrev pub with_mate : Option ℕ → Slot → Slot
with_mate m x = record { token = x.token; partner = m; previous = x.previous; next = x.next }

-- a slot whose token has another text, of several strings
abbrev pub token_with : List ℕ → List ℕ → Option Token → Option Token
token_with text parts None = None
token_with text parts (Some t) = Some (record {
  kind = t.kind;
  text = text;
  place = t.place;
  hide = t.hide;
  space = t.space;
  parts = parts;
  digraph = false;
})

abbrev pub with_slot_text : List ℕ → List ℕ → Slot → Slot
with_slot_text text parts x =
    record {
      token = token_with text parts x.token;
      partner = x.partner;
      previous = x.previous;
      next = x.next;
    }

-- a change of the slot of a number, where there is one
unfoldable pub changed_at : Option ℕ → (Slot → Slot) → List Slot → List Slot
changed_at None f slots = slots
changed_at (Some n) f slots = changed n f slots

-- the link to the first node, when the one after a node is set
unfoldable pub first_set : Option ℕ → Option ℕ → Option ℕ → Option ℕ
first_set None q first = q
first_set (Some n) q first = first

-- the slots with a node put in a free one, between two others
unfoldable pub put_between : Option ℕ → TokenNode → Option ℕ → List Slot → List Slot
put_between p x q slots =
    changed_at q (with_previous (Some x.number))
    (changed_at p (with_next (Some x.number)) (changed x.number (λ old. slot_of x p q) slots))

-- the slots with one made free, that stood between two others
unfoldable pub taken_between : Option ℕ → ℕ → Option ℕ → Option ℕ → List Slot → List Slot
taken_between p n q free slots =
    changed_at q (with_previous p)
    (changed_at p (with_next q) (changed n (λ old. free_slot free) slots))

-- a node without its partner, if it has the number
unfoldable pub parted_at : Option ℕ → TokenNode → TokenNode
parted_at None x = x
parted_at (Some m) x =
    if x.number == m then record { number = x.number; token = x.token; partner = None } else x

-- the link from a node, or from the start
unfoldable pub next_link : Option ℕ → Option ℕ → List Slot → Option ℕ
next_link None first slots = first
next_link (Some n) first slots = links_of (slice_get slots n)

-- a link leads to a slot
abbrev pub IsWithin : List Slot → Option ℕ → Type 0
IsWithin slots o = IfSome o (λ n. n < length slots)

-- the slots with one made free, whose neighbours and partner do not lead to it any more
unfoldable pub released : ℕ → Slot → Option ℕ → List Slot → List Slot
released n x free slots =
    changed_at x.partner (with_mate None) (taken_between x.previous n x.next free slots)

-- linked nodes
pub record IsPut (s : List Slot) (first : Option ℕ) (len : ℕ) (free : Option ℕ) (spare : ℕ)
    (nodes : List TokenNode) : Type 0 where
  pub links : IsLinks s first len free spare
  pub nodes_are : links.nodes ≡ nodes

-- slots of which so many more are free
unfoldable pub IsAdded : List Slot → Option ℕ → List Slot → Option ℕ → ℕ → Type 0
IsAdded s free t last more =
    (first : Option ℕ) (len spare : ℕ) (h : IsLinks s first len free spare)
    → IsPut t first len last (spare + more) h.nodes

-- the list with new nodes of tokens after the one with a number
abbrev pub PutsAfter : ℕ → List Token → List TokenNode → List TokenNode → Type 0
PutsAfter n wanted old new =
    (numbers : List ℕ) × AreNew numbers wanted old
    × (new ≡ nodes_to n old ++ (new_nodes numbers wanted ++ nodes_after n old))

-- the nodes from a link on
abbrev pub rest_from : Option ℕ → List TokenNode → List TokenNode
rest_from None nodes = []
rest_from (Some n) nodes = nodes_from n nodes
