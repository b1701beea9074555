-- The definitions at small lists of tokens.
use Rattle.std.proofs.Common.{◌≡◌, ℕ, List, [], ◌∷◌, Option, Some, None, true, false, refl, codes, map, inl, inr}
use Rattle.cx_base.specs.declared.place.Place.{Place}
use Rattle.cx_tokens.specs.declared.token.Kind.{Kind}
use Rattle.cx_tokens.specs.declared.token.Kind.TheVariants.{Name, Punct, String}
use Rattle.cx_tokens.specs.declared.token.Token.{Token}
use Rattle.cx_tokens.specs.Brackets.{IsNested, IsPaired, IsUnpaired, closes, fits, is_punctuator, left_open, more, none, nothing, opens, other, pair, unfit}
use Rattle.cx_tokens.specs.Digraphs.{digraph_of, is_digraph, plain_text, spelling_of}
use Rattle.cx_tokens.specs.Nodes.{TokenNode, erased, first_of, inserted, last_of, new_node, nodes_after, nodes_before, nodes_from, nodes_to, partner_of, spliced, token_of, with_live_partners}
use Rattle.cx_tokens.specs.Simplified as simple
use Rattle.cx_tokens.specs.Simplified.{IsSimplified, is_erased_word, is_word_of, joined, strings_joined, with_strings}
use Rattle.cx_tokens.specs.Sublists.{IsSublist}

at : ℕ → Place
at column = record { file = 0; line = 1; column = column }

-- a token at a column
unfoldable token : Kind → List ℕ → ℕ → Token
token kind text column =
    record { kind = kind; text = text; place = record { file = 0; line = 1; column = column }; hide = []; space = false; parts = []; digraph = false }

-- a node whose number is the column of its token
unfoldable node : Kind → List ℕ → ℕ → Option ℕ → TokenNode
node kind text n partner = record { number = n; token = token kind text n; partner = partner }

-- ---- digraphs (C11 6.4.6, paragraph 3)

digraph_plain : map (plain_text Punct) (codes "<:" ∷ codes ":>" ∷ codes "<%" ∷ codes "%>" ∷ codes "%:" ∷ codes "%:%:" ∷ [])
    ≡ codes "[" ∷ codes "]" ∷ codes "{" ∷ codes "}" ∷ codes "#" ∷ codes "##" ∷ []
unfolding plain_text
digraph_plain = refl

plain_punctuators : map (plain_text Punct) (codes "<" ∷ codes ":" ∷ codes "%" ∷ codes "%:%" ∷ codes "[" ∷ []) ≡ codes "<" ∷ codes ":" ∷ codes "%" ∷ codes "%:%" ∷ codes "[" ∷ []
unfolding plain_text
plain_punctuators = refl

-- in a string the same bytes are no digraph
string_digraph : (plain_text String (codes "<:") ≡ codes "<:") × (is_digraph String (codes "<:") ≡ false) × (is_digraph Punct (codes "<:") ≡ true) × (is_digraph Punct (codes "[") ≡ false)
unfolding plain_text is_digraph
string_digraph = (refl, refl, refl, refl)

digraph_spelt : spelling_of (record (token Punct (codes "[") 1) { digraph = true }) ≡ codes "<:"
unfolding spelling_of digraph_of token
digraph_spelt = refl

bracket_spelt : spelling_of (token Punct (codes "[") 1) ≡ codes "["
unfolding spelling_of token
bracket_spelt = refl

-- ---- brackets

-- ( [ ] ) a
nested : IsNested (token Punct (codes "(") 1 ∷ token Punct (codes "[") 2 ∷ token Punct (codes "]") 3 ∷ token Punct (codes ")") 4 ∷ token Name (codes "a") 5 ∷ [])
unfolding token opens closes fits is_punctuator
nested =
    pair (token Punct (codes "(") 1) (token Punct (codes ")") 4) (token Punct (codes "[") 2 ∷ token Punct (codes "]") 3 ∷ []) (token Name (codes "a") 5 ∷ []) refl refl
    (pair (token Punct (codes "[") 2) (token Punct (codes "]") 3) [] [] refl refl nothing nothing)
    (other refl refl nothing)

-- ( ( ) : the first is left open
open_told : IsUnpaired (token Punct (codes "(") 1 ∷ token Punct (codes "(") 2 ∷ token Punct (codes ")") 3 ∷ []) (at 1)
unfolding token opens closes fits is_punctuator at
open_told =
    left_open (token Punct (codes "(") 1) []
    (more [] (token Punct (codes "(") 2 ∷ token Punct (codes ")") 3 ∷ []) refl (none nothing) refl
    (pair (token Punct (codes "(") 2) (token Punct (codes ")") 3) [] [] refl refl nothing nothing))

-- ( ] ) : the square bracket does not fit
unfit_told : IsUnpaired (token Punct (codes "(") 1 ∷ token Punct (codes "]") 2 ∷ token Punct (codes ")") 3 ∷ []) (at 2)
unfolding token opens closes fits is_punctuator at
unfit_told =
    unfit (token Punct (codes "]") 2) (token Punct (codes "(") 1 ∷ []) (token Punct (codes ")") 3 ∷ []) (token Punct (codes "(") 1 ∷ []) refl
    (more [] [] refl (none nothing) refl nothing) refl refl

-- a ) : nothing is open
closing_told : IsUnpaired (token Name (codes "a") 1 ∷ token Punct (codes ")") 2 ∷ []) (at 2)
unfolding token opens closes fits is_punctuator at
closing_told = unfit (token Punct (codes ")") 2) (token Name (codes "a") 1 ∷ []) [] [] refl (none (other refl refl nothing)) refl tt

-- ( a ) : the round brackets are partners
paired : IsPaired (node Punct (codes "(") 1 (Some 3) ∷ node Name (codes "a") 2 None ∷ node Punct (codes ")") 3 (Some 1) ∷ [])
unfolding node token opens closes fits is_punctuator
paired = pair (node Punct (codes "(") 1 (Some 3)) (node Punct (codes ")") 3 (Some 1)) (node Name (codes "a") 2 None ∷ []) [] refl refl refl refl (other refl refl refl nothing) nothing

-- ---- edits of ( a )

three : List TokenNode
three = node Punct (codes "(") 1 (Some 3) ∷ node Name (codes "a") 2 None ∷ node Punct (codes ")") 3 (Some 1) ∷ []

around : (nodes_before 2 three ≡ node Punct (codes "(") 1 (Some 3) ∷ []) × (nodes_after 2 three ≡ node Punct (codes ")") 3 (Some 1) ∷ [])
    × (nodes_to 2 three ≡ node Punct (codes "(") 1 (Some 3) ∷ node Name (codes "a") 2 None ∷ [])
    × (nodes_from 2 three ≡ node Name (codes "a") 2 None ∷ node Punct (codes ")") 3 (Some 1) ∷ [])
unfolding three node nodes_before nodes_after nodes_to nodes_from
around = (refl, refl, refl, refl)

told : (token_of 2 three ≡ Some (token Name (codes "a") 2)) × (token_of 4 three ≡ None) × (partner_of 1 three ≡ Some 3) × (partner_of 2 three ≡ None) × (first_of three ≡ Some 1) × (last_of three ≡ Some 3)
unfolding three node
told = (refl, refl, refl, refl, refl, refl)

put_first : inserted None (new_node 4 (token Name (codes "b") 4)) three ≡ node Name (codes "b") 4 None ∷ three
unfolding three node
put_first = refl

put_after : inserted (Some 1) (new_node 4 (token Name (codes "b") 4)) three
    ≡ node Punct (codes "(") 1 (Some 3) ∷ node Name (codes "b") 4 None ∷ node Name (codes "a") 2 None ∷ node Punct (codes ")") 3 (Some 1) ∷ []
unfolding three node nodes_to nodes_after
put_after = refl

-- the bracket that is left has no partner
taken_out : erased 1 three ≡ node Name (codes "a") 2 None ∷ node Punct (codes ")") 3 None ∷ []
unfolding three node nodes_before nodes_after with_live_partners
taken_out = refl

put_for_run : spliced 2 3 (new_node 4 (token Name (codes "b") 4) ∷ new_node 5 (token Name (codes "c") 5) ∷ []) three
    ≡ node Punct (codes "(") 1 None ∷ node Name (codes "b") 4 None ∷ node Name (codes "c") 5 None ∷ []
unfolding three node nodes_before nodes_after with_live_partners
put_for_run = refl

-- ---- what is simplified

-- static inline int f
inline_goes : IsSimplified (node Name (codes "static") 1 None ∷ node Name (codes "inline") 2 None ∷ node Name (codes "int") 3 None ∷ node Name (codes "f") 4 None ∷ [])
    (node Name (codes "static") 1 None ∷ node Name (codes "int") 3 None ∷ node Name (codes "f") 4 None ∷ [])
unfolding node token is_erased_word is_word_of with_strings
inline_goes = (
  node Name (codes "static") 1 None ∷ node Name (codes "int") 3 None ∷ node Name (codes "f") 4 None ∷ [],
  simple.other refl (simple.lone_word refl (simple.other refl (simple.other refl simple.nothing))),
  refl,
)

-- __attribute__ ( ( x ) ) int
attribute_goes : IsSimplified
    (node Name (codes "__attribute__") 1 None ∷ node Punct (codes "(") 2 (Some 6) ∷ node Punct (codes "(") 3 (Some 5) ∷ node Name (codes "x") 4 None
    ∷ node Punct (codes ")") 5 (Some 3) ∷ node Punct (codes ")") 6 (Some 2) ∷ node Name (codes "int") 7 None ∷ [])
    (node Name (codes "int") 7 None ∷ [])
unfolding node token is_erased_word is_word_of is_punctuator with_strings
attribute_goes = (
  node Name (codes "int") 7 None ∷ [],
  simple.attribute (node Name (codes "__attribute__") 1 None) (node Punct (codes "(") 2 (Some 6)) (node Punct (codes ")") 6 (Some 2))
      (node Punct (codes "(") 3 (Some 5) ∷ node Name (codes "x") 4 None ∷ node Punct (codes ")") 5 (Some 3) ∷ []) (node Name (codes "int") 7 None ∷ []) refl refl refl refl
      (simple.other refl simple.nothing),
  refl,
)

-- _Pragma ( "x" ) int g
pragma_goes : IsSimplified
    (node Name (codes "_Pragma") 1 None ∷ node Punct (codes "(") 2 (Some 4) ∷ node String (codes "\"x\"") 3 None ∷ node Punct (codes ")") 4 (Some 2)
    ∷ node Name (codes "int") 5 None ∷ node Name (codes "g") 6 None ∷ [])
    (node Name (codes "int") 5 None ∷ node Name (codes "g") 6 None ∷ [])
unfolding node token is_erased_word is_word_of is_punctuator with_strings
pragma_goes = (
  node Name (codes "int") 5 None ∷ node Name (codes "g") 6 None ∷ [],
  simple.attribute (node Name (codes "_Pragma") 1 None) (node Punct (codes "(") 2 (Some 4)) (node Punct (codes ")") 4 (Some 2)) (node String (codes "\"x\"") 3 None ∷ [])
      (node Name (codes "int") 5 None ∷ node Name (codes "g") 6 None ∷ []) refl refl refl refl (simple.other refl (simple.other refl simple.nothing)),
  refl,
)

-- __attribute__ [ x ]
square_stays : IsSimplified
    (node Name (codes "__attribute__") 1 None ∷ node Punct (codes "[") 2 (Some 4) ∷ node Name (codes "x") 3 None ∷ node Punct (codes "]") 4 (Some 2) ∷ [])
    (node Punct (codes "[") 2 (Some 4) ∷ node Name (codes "x") 3 None ∷ node Punct (codes "]") 4 (Some 2) ∷ [])
unfolding node token is_erased_word is_word_of is_punctuator with_strings
square_stays = (
  node Punct (codes "[") 2 (Some 4) ∷ node Name (codes "x") 3 None ∷ node Punct (codes "]") 4 (Some 2) ∷ [],
  simple.bare_word refl refl (simple.other refl (simple.other refl (simple.other refl simple.nothing))),
  refl,
)

-- "a" inline "b"
strings_meet : IsSimplified (node String (codes "\"a\"") 1 None ∷ node Name (codes "inline") 2 None ∷ node String (codes "\"b\"") 3 None ∷ [])
    (record { number = 1; token = record (token String (codes "\"ab\"") 1) { parts = 1 ∷ 1 ∷ [] }; partner = None } ∷ [])
unfolding node token is_erased_word is_word_of with_strings joined
strings_meet = (
  node String (codes "\"a\"") 1 None ∷ node String (codes "\"b\"") 3 None ∷ [],
  simple.other refl (simple.lone_word refl (simple.other refl simple.nothing)),
  refl,
)

-- "\x4" "1" : an escape ends in its own string
escape_ends : strings_joined (node String (codes "\"\\x4\"") 1 None ∷ node String (codes "\"1\"") 2 None ∷ node String (codes "\"\"") 3 None ∷ [])
    ≡ record { number = 1; token = record (token String (codes "\"\\x41\"") 1) { parts = 3 ∷ 1 ∷ 0 ∷ [] }; partner = None } ∷ []
unfolding node token with_strings joined
escape_ends = refl

-- ---- sublists

in_order : IsSublist {A = ℕ} (1 ∷ 3 ∷ []) (1 ∷ 2 ∷ 3 ∷ [])
in_order = inr (3 ∷ [], refl, inl (inr ([], refl, refl)))
