-- The outermost parts of tokens, by a count of the brackets that are open.
use Rattle.std.specs.Prelude.{ℕ, zero, suc, ◌+◌, ◌-◌, List, [], ◌∷◌, ◌++◌}
use Rattle.cx_syntax_tree.specs.declared.terminals.Punctuator.{Punctuator}
use Rattle.cx_syntax_tree.specs.declared.terminals.Punctuator.TheVariants as mark
use Rattle.cx_syntax_tree.specs.declared.terminals.Terminal.{Terminal}
use Rattle.cx_syntax_tree.specs.declared.terminals.Terminal.TheVariants as terminal_is
use Rattle.cx_syntax_tree.specs.declared.terminals.Lexeme.{Lexeme}
use Rattle.cx_items.specs.declared.outline.Outermost.{Outermost}
use Rattle.cx_items.specs.declared.outline.PartKind.{PartKind}
use Rattle.cx_items.specs.declared.outline.PartKind.TheVariants as part
use Rattle.cx_items.specs.declared.outline.Bracket.{Bracket}
use Rattle.cx_items.specs.declared.outline.Bracket.TheVariants as bracket

abbrev pub bracket_of_mark : Punctuator → Bracket
bracket_of_mark mark.OpenRound = bracket.Opening part.Round
bracket_of_mark mark.OpenCurly = bracket.Opening part.Braces
bracket_of_mark mark.OpenSquare = bracket.Opening part.Other
bracket_of_mark mark.CloseRound = bracket.Closing
bracket_of_mark mark.CloseCurly = bracket.Closing
bracket_of_mark mark.CloseSquare = bracket.Closing
bracket_of_mark mark.Semicolon = bracket.Plain part.Semicolon
bracket_of_mark mark.Equal = bracket.Plain part.Equal
bracket_of_mark _ = bracket.Plain part.Other

unfoldable pub bracket_of : Terminal → Bracket
bracket_of (terminal_is.Punctuator m) = bracket_of_mark m
bracket_of (terminal_is.Name n) = bracket.Plain part.Word
bracket_of (terminal_is.TypeName n) = bracket.Plain part.Word
bracket_of (terminal_is.Keyword k) = bracket.Plain part.Word
bracket_of _ = bracket.Plain part.Other

-- a part, where it stands in no brackets
abbrev pub outside : ℕ → PartKind → ℕ → List Outermost
outside zero kind first = record { kind = kind; first = first } ∷ []
outside (suc depth) kind first = []

-- what a token adds in so many brackets
abbrev pub added : ℕ → ℕ → Bracket → List Outermost
added depth n (bracket.Opening kind) = outside depth kind n
added depth n bracket.Closing = []
added depth n (bracket.Plain kind) = outside depth kind n

-- how many brackets are open behind a token
abbrev pub depth_behind : ℕ → Bracket → ℕ
depth_behind depth (bracket.Opening kind) = depth + 1
depth_behind depth bracket.Closing = depth - 1
depth_behind depth (bracket.Plain kind) = depth

-- the outermost parts of tokens in so many brackets, the first of which has this number
unfoldable pub outline : ℕ → ℕ → List Lexeme → List Outermost
outline depth n [] = []
outline depth n (p ∷ ts) =
    added depth n (bracket_of p.terminal)
    ++ outline (depth_behind depth (bracket_of p.terminal)) (n + 1) ts
