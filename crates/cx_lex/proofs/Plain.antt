-- A piece that is no digraph has its spelling as its text.
use Rattle.std.proofs.Common.{◌≡◌, ℕ, List, [], ◌∷◌, Some, Bool, true, false, ◌&&◌, ◌||◌, cond, refl}
use Rattle.std.specs.Prelude.{bytes_eq}
use Rattle.std.specs.List.{find, list_any}
use Rattle.std.specs.Option.{option_map_or}
use Rattle.cx_tokens.specs.declared.token.Kind.{Kind}
use Rattle.cx_tokens.specs.Brackets.{is_punct}
use Rattle.cx_tokens.specs.Digraphs.{digraphs, is_digraph, plain_text}

none_found : (table : List (List ℕ × List ℕ)) (text : List ℕ) → list_any (λ pair. bytes_eq pair.0 text) table ≡ false
    → option_map_or (λ pair. pair.1) (find (λ pair. bytes_eq pair.0 text) table) text ≡ text
none_found [] text h = refl
none_found (pair ∷ rest) text h =
    elim (bytes_eq pair.0 text)
    as (λ b. (b || list_any (λ p. bytes_eq p.0 text) rest) ≡ false
    → option_map_or (λ p. p.1) (cond b (Some pair) (find (λ p. bytes_eq p.0 text) rest)) text ≡ text) [
      | true ↦ λ e. absurd cc
      | false ↦ λ e. none_found rest text e
    ] h

by_kind : (punct digraph : Bool) (plain text : List ℕ) → (punct && digraph) ≡ false → (digraph ≡ false → plain ≡ text) → cond punct plain text ≡ text
by_kind true digraph plain text h e = e h
by_kind false digraph plain text h e = refl

pub plain_is_spelling : (kind : Kind) (text : List ℕ) → is_digraph kind text ≡ false → plain_text kind text ≡ text
unfolding plain_text is_digraph
plain_is_spelling kind text h =
    by_kind (is_punct kind) (list_any (λ pair. bytes_eq pair.0 text) digraphs) _ text h (λ e. none_found digraphs text e)
