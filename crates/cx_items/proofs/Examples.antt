-- The definitions of this crate on small lists of parts, computed.
use Rattle.std.proofs.Common.{ℕ, List, [], ◌∷◌, refl}
use Rattle.cx_syntax_tree.specs.declared.terminals.Keyword.TheVariants as word
use Rattle.cx_syntax_tree.specs.declared.terminals.Punctuator.{Punctuator}
use Rattle.cx_syntax_tree.specs.declared.terminals.Punctuator.TheVariants as mark
use Rattle.cx_syntax_tree.specs.declared.terminals.Terminal.TheVariants as terminal_is
use Rattle.cx_syntax_tree.specs.declared.terminals.Lexeme.{Lexeme}
use Rattle.cx_items.specs.Brackets.{IsParts, Part, a_group, alone, group, no_parts}
use Rattle.cx_items.specs.Cutting.{Ends, at_body, at_semicolon, later}

abbrev punct : Punctuator → ℕ → Lexeme
punct m at = record { terminal = terminal_is.Punctuator m; at = at }

abbrev name : ℕ → ℕ → Lexeme
name n at = record { terminal = terminal_is.Name n; at = at }

abbrev key : ℕ → Lexeme
key at = record { terminal = terminal_is.Keyword word.Int; at = at }

abbrev pair : Punctuator → Punctuator → ℕ → Part
pair m n at = group (punct m at) [] (punct n at)

-- ( ) is one part
one_group : IsParts (punct mark.OpenRound 0 ∷ punct mark.CloseRound 1 ∷ [])
    (group (punct mark.OpenRound 0) [] (punct mark.CloseRound 1) ∷ [])
one_group =
    a_group refl
    (record { opening = mark.OpenRound; closing = mark.CloseRound; opens = refl; closes = refl; fits = refl })
    no_parts no_parts

-- f ( ) { } ends at its braces: what stands behind is another item
a_function : (rest : List Part)
    → Ends (alone (name 0 0) ∷ pair mark.OpenRound mark.CloseRound 1 ∷ pair mark.OpenCurly mark.CloseCurly 2 ∷ rest)
    (alone (name 0 0) ∷ pair mark.OpenRound mark.CloseRound 1 ∷ pair mark.OpenCurly mark.CloseCurly 2 ∷ []) rest
a_function rest = later (λ h. absurd cc) (λ b. absurd b.0) (at_body (refl, refl))

-- s { } ; ends at its ";": no round brackets stand before the braces
a_struct : (rest : List Part)
    → Ends (alone (name 0 0) ∷ pair mark.OpenCurly mark.CloseCurly 1 ∷ alone (punct mark.Semicolon 2) ∷ rest)
    (alone (name 0 0) ∷ pair mark.OpenCurly mark.CloseCurly 1 ∷ alone (punct mark.Semicolon 2) ∷ []) rest
a_struct rest =
    later (λ h. absurd cc) (λ b. absurd b.0)
    (later (λ h. absurd h) (λ b. absurd b.1) (at_semicolon refl))
