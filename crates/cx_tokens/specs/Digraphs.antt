-- Digraphs: punctuators of another spelling, the same in all else (C11 6.4.6, paragraph 3).
use Rattle.std.specs.Prelude.{ℕ, List, [], ◌∷◌, Bool, ◌&&◌, if◌then◌else◌, codes, bytes_eq}
use Rattle.std.specs.List.{find, list_any}
use Rattle.std.specs.Option.{option_map_or}
use Rattle.cx_tokens.specs.declared.token.Kind.{Kind}
use Rattle.cx_tokens.specs.declared.token.Token.{Token}
use Rattle.cx_tokens.specs.Brackets.{is_punct}

-- the digraphs, each with its plain form
abbrev pub digraphs : List (List ℕ × List ℕ)
digraphs =
    (codes "<:", codes "[") ∷ (codes ":>", codes "]") ∷ (codes "<%", codes "{")
    ∷ (codes "%>", codes "}") ∷ (codes "%:", codes "#") ∷ (codes "%:%:", codes "##") ∷ []

unfoldable pub is_digraph : Kind → List ℕ → Bool
is_digraph kind spelled = is_punct kind && list_any (λ pair. bytes_eq pair.0 spelled) digraphs

-- the text of a piece: its spelling, and of a digraph the plain form
unfoldable pub plain_text : Kind → List ℕ → List ℕ
plain_text kind spelled =
    if is_punct kind then
    option_map_or (λ pair. pair.1) (find (λ pair. bytes_eq pair.0 spelled) digraphs) spelled
    else spelled

-- the digraph of a plain form
unfoldable pub digraph_of : List ℕ → List ℕ
digraph_of plain =
    option_map_or (λ pair. pair.0) (find (λ pair. bytes_eq pair.1 plain) digraphs) plain

-- the bytes a token was spelt with
unfoldable pub spelling_of : Token → List ℕ
spelling_of token = if token.digraph then digraph_of token.text else token.text
