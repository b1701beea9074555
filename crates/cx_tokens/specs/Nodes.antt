-- A token list, as the list of its nodes, and the edits of it.
use Rattle.std.specs.Prelude.{◌≡◌, ℕ, List, [], ◌∷◌, ◌++◌, Bool, true, if◌then◌else◌, ◌==◌, Option, Some, None, length, map}
use Rattle.std.specs.List.{IsDistinct, find, list_any}
use Rattle.std.specs.Option.{option_map}
use Rattle.cx_tokens.specs.declared.token.Token.{Token}

-- A node: its number, its token, and the number of its bracket partner, where it has one.
pub record TokenNode : Type 0 where
  pub number : ℕ
  pub token : Token
  pub partner : Option ℕ

abbrev pub tokens : List TokenNode → List Token
tokens nodes = map (λ x. x.token) nodes

abbrev pub numbers : List TokenNode → List ℕ
numbers nodes = map (λ x. x.number) nodes

-- the number is that of a node of the list
abbrev pub is_live : ℕ → List TokenNode → Bool
is_live n nodes = list_any (λ x. x.number == n) nodes

-- the node with a number
abbrev pub node_of : ℕ → List TokenNode → Option TokenNode
node_of n nodes = find (λ x. x.number == n) nodes

-- the token of the node with a number
abbrev pub token_of : ℕ → List TokenNode → Option Token
token_of n nodes = option_map (λ x. x.token) (node_of n nodes)

-- the nodes before the one with a number
unfoldable pub nodes_before : ℕ → List TokenNode → List TokenNode
nodes_before n [] = []
nodes_before n (x ∷ xs) = if x.number == n then [] else x ∷ nodes_before n xs

-- the nodes after the one with a number
unfoldable pub nodes_after : ℕ → List TokenNode → List TokenNode
nodes_after n [] = []
nodes_after n (x ∷ xs) = if x.number == n then xs else nodes_after n xs

-- the node with a number, and those after it
unfoldable pub nodes_from : ℕ → List TokenNode → List TokenNode
nodes_from n [] = []
nodes_from n (x ∷ xs) = if x.number == n then x ∷ xs else nodes_from n xs

-- the nodes before the one with a number, and that one
unfoldable pub nodes_to : ℕ → List TokenNode → List TokenNode
nodes_to n [] = []
nodes_to n (x ∷ xs) = if x.number == n then x ∷ [] else x ∷ nodes_to n xs

abbrev pub first_of : List TokenNode → Option ℕ
first_of [] = None
first_of (x ∷ xs) = Some x.number

abbrev pub last_of : List TokenNode → Option ℕ
last_of [] = None
last_of (x ∷ []) = Some x.number
last_of (x ∷ y ∷ xs) = last_of (y ∷ xs)

-- the partner of the node with a number
abbrev pub partner_in : Option TokenNode → Option ℕ
partner_in None = None
partner_in (Some x) = x.partner

abbrev pub partner_of : ℕ → List TokenNode → Option ℕ
partner_of n nodes = partner_in (node_of n nodes)

-- a partner that is no node of the list counts as none
abbrev pub live_partner : List TokenNode → Option ℕ → Option ℕ
live_partner nodes None = None
live_partner nodes (Some n) = if is_live n nodes then Some n else None

-- nodes of which each keeps a partner that is a node of the list, and no other
unfoldable pub with_live_partners : List TokenNode → List TokenNode
with_live_partners nodes =
    map
    (λ x. record {
      number = x.number;
      token = x.token;
      partner = live_partner nodes x.partner;
    }) nodes

-- the list with a node more, after the one with a number, or first
abbrev pub inserted : Option ℕ → TokenNode → List TokenNode → List TokenNode
inserted None x nodes = x ∷ nodes
inserted (Some n) x nodes = nodes_to n nodes ++ x ∷ nodes_after n nodes

-- the list without the node of a number, whose partner has none from then on
abbrev pub erased : ℕ → List TokenNode → List TokenNode
erased n nodes = with_live_partners (nodes_before n nodes ++ nodes_after n nodes)

-- a node that has just been put in
abbrev pub new_node : ℕ → Token → TokenNode
new_node n token = record { number = n; token = token; partner = None }

-- tokens with these numbers, in order
abbrev pub new_nodes : List ℕ → List Token → List TokenNode
new_nodes (n ∷ ns) (token ∷ rest) = new_node n token ∷ new_nodes ns rest
new_nodes ns rest = []

-- the list with other nodes in the place of those from one number to another
abbrev pub spliced : ℕ → ℕ → List TokenNode → List TokenNode → List TokenNode
spliced start end replacement nodes =
    with_live_partners (nodes_before start nodes ++ (replacement ++ nodes_after end nodes))

-- Numbers for this many tokens, distinct, of which none is that of a node of the list.
pub record AreNew (numbers : List ℕ) (wanted : List Token) (nodes : List TokenNode) : Type 0 where
  pub one_each : length numbers ≡ length wanted
  pub distinct : IsDistinct (λ a b. a == b) numbers
  pub fresh : (n : ℕ) → list_any (λ m. m == n) numbers ≡ true → ¬ (is_live n nodes ≡ true)

-- The list with copies of tokens, of new numbers, in the place of the nodes from one number to
-- another.
abbrev pub SplicesCopies : ℕ → ℕ → List Token → List TokenNode → List TokenNode → Type 0
SplicesCopies start end copies old new =
    (numbers : List ℕ) × AreNew numbers copies old
    × (new ≡ spliced start end (new_nodes numbers copies) old)

-- A node stands at another or after it.
abbrev pub StandsFrom : ℕ → ℕ → List TokenNode → Type 0
StandsFrom start n nodes = is_live n (nodes_from start nodes) ≡ true

-- Each token list: the numbers are distinct, and a partner is a node whose partner is the one.
pub record IsTokenList (nodes : List TokenNode) : Type 0 where
  pub distinct : IsDistinct (λ a b. a == b) (map (λ x. x.number) nodes)
  pub mutual_partners : (n m : ℕ) → partner_of n nodes ≡ Some m → partner_of m nodes ≡ Some n

-- What a token list is: its nodes in order, and for how many more it has room.
pub record TokenNodes : Type 0 where
  pub nodes : List TokenNode
  pub spare : ℕ
