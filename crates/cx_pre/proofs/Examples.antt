-- The definitions, computed on small sources.
use Rattle.std.proofs.Common.{◌≡◌, ℕ, Bool, true, false, List, [], ◌∷◌, Some, None, Ok, Err, refl}
use Rattle.std.specs.Prelude.{codes}
use Rattle.cx_base.specs.declared.place.Place.{Place}
use Rattle.cx_tokens.specs.declared.token.Kind.{Kind}
use Rattle.cx_tokens.specs.declared.token.Kind.TheVariants.{Name, Number, Punct, Unclosed}
use Rattle.cx_tokens.specs.declared.token.Token.{Token}
use Rattle.cx_tokens.specs.Brackets.{is_punctuator}
use Rattle.cx_lex.specs.declared.piece.Piece.{Piece}
use Rattle.cx_table.specs.NameTable.{with_entry}
use Rattle.cx_macro.specs.Macros.{no_macros}
use Rattle.cx_lines.specs.Nesting.{place_of}
use Rattle.cx_lines.specs.declared.kind.LineKind.TheVariants as kind_is
use Rattle.cx_lines.specs.declared.nesting.NestingFault.TheVariants.{Stray, Unclosed as unclosed_section}
use Rattle.cx_directive.specs.Defines.{defined_by, definition_after, object_like}
use Rattle.cx_directive.specs.Operands.{spelled}
use Rattle.cx_pre.specs.declared.fault.PreFault.TheVariants.{BadDirective, ErrorDirective, StrayElse, UnclosedGroup, UnclosedLiteral}
use Rattle.cx_pre.specs.Choosing.{after_directive, at_end}
use Rattle.cx_pre.specs.Stages.{Stage, answer_of, is_once, stopped, through, unclosed_at}

place_at : ℕ → ℕ → Place
place_at l c = record { file = 0; line = l; column = c }

token : Kind → List ℕ → Bool → Place → Token
token kind text space place = record {
  kind = kind;
  text = text;
  place = place;
  hide = [];
  space = space;
  parts = [];
  digraph = false;
}

piece : Bool → Kind → List ℕ → Place → Piece
piece first kind text place = record {
  token = token kind text false place;
  first_on_line = first;
}

-- nothing was gone through but a `pragma once` in the second of two files
stage : Stage
stage = record {
  macros = no_macros;
  laid = 0;
  tokens = [];
  missing = [];
  once = false ∷ true ∷ [];
}

first_is_not_once : is_once 0 stage ≡ false
unfolding stage
first_is_not_once = refl

second_is_once : is_once 1 stage ≡ true
unfolding stage
second_is_once = refl

third_is_no_file : is_once 2 stage ≡ false
unfolding stage
third_is_no_file = refl

-- `# define A 1`, of which `1` may be left out
definition : List Piece → List Piece
definition body =
    piece true Punct (codes "#") (place_at 3 1) ∷ piece false Name (codes "define") (place_at 3 2)
    ∷ piece false Name (codes "A") (place_at 3 9) ∷ body

defines_nothing : after_directive kind_is.Define 0 stage (definition [])
    ≡ Some (through (record stage { macros = (codes "A", object_like []) ∷ [] }))
unfolding after_directive defined_by definition_after with_entry definition piece token stage
defines_nothing = refl

-- `# define` alone
no_definition : after_directive kind_is.Define 0 stage (piece true Punct (codes "#") (place_at 3 1) ∷ [])
    ≡ Some (stopped [] (BadDirective (place_at 3 1)))
unfolding after_directive defined_by place_of piece token stage
no_definition = refl

-- `# error x`
an_error : after_directive kind_is.Error 0 stage
    (piece true Punct (codes "#") (place_at 4 1) ∷ piece false Name (codes "error") (place_at 4 2) ∷ piece false Name (codes "x") (place_at 4 8) ∷ [])
    ≡ Some (stopped [] (ErrorDirective (place_at 4 1) (codes "x")))
unfolding after_directive spelled place_of piece token stage
an_error = refl

first_marked : after_directive kind_is.Once 0 stage [] ≡ Some (through (record stage { once = true ∷ true ∷ [] }))
unfolding after_directive stage
first_marked = refl

gone_through : at_end None stage ≡ through stage
gone_through = refl

stray_at_the_end : at_end (Some (Stray (place_at 9 1))) stage ≡ stopped [] (StrayElse (place_at 9 1))
unfolding stage
stray_at_the_end = refl

open_at_the_end : at_end (Some (unclosed_section (place_at 9 1))) stage ≡ stopped [] (UnclosedGroup (place_at 9 1))
unfolding stage
open_at_the_end = refl

-- of two quotes without an end the first is told
two_quotes : List Token
two_quotes =
    token Number (codes "1") false (place_at 1 1) ∷ token Unclosed (codes "'a") true (place_at 1 3)
    ∷ token Unclosed (codes "'b") true (place_at 2 1) ∷ []

quotes_are_told : answer_of (through (record stage { tokens = two_quotes }))
    ≡ record { tokens = Err (UnclosedLiteral (place_at 1 3)); missing = [] }
unfolding answer_of unclosed_at two_quotes token stage
quotes_are_told = refl

none_is_told : answer_of (through stage) ≡ record { tokens = Ok []; missing = [] }
unfolding answer_of unclosed_at stage
none_is_told = refl
