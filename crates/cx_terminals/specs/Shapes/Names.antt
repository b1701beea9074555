-- The names of tokens and their terminals, one token after the other.
use Rattle.std.specs.Prelude.{ℕ, ◌+◌, List, [], ◌∷◌, bytes_eq, fold, if◌then◌else◌}
use Rattle.indexmap.specs.IndexSet.{insert_key}
use Rattle.cx_tokens.specs.declared.token.Token.{Token}
use Rattle.cx_syntax_tree.specs.declared.terminals.Lexeme.{Lexeme}
use Rattle.cx_terminals.specs.Terminals.{is_identifier, is_no_keyword, keywords, looked_up, terminal_of}

-- names with a word, unless it is a keyword
abbrev pub with_word : List (List ℕ) → List ℕ → List (List ℕ)
with_word names text =
    if is_no_keyword (looked_up text keywords) then insert_key bytes_eq names text else names

-- names with that of a token, where it is an identifier
abbrev pub with_identifier : List (List ℕ) → Token → List (List ℕ)
with_identifier names t = if is_identifier t then insert_key bytes_eq names t.text else names

-- names with those of tokens
abbrev pub with_identifiers : List (List ℕ) → List Token → List (List ℕ)
with_identifiers names ts = fold with_identifier names ts

-- the lexemes of tokens, each by the names up to it
unfoldable pub lexemes_after : List (List ℕ) → ℕ → List Token → List Lexeme
lexemes_after names n [] = []
lexemes_after names n (t ∷ ts) =
    record { terminal = terminal_of (with_identifier names t) t; at = n }
    ∷ lexemes_after (with_identifier names t) (n + 1) ts
