-- Examples of lines, of what they are, and of how sections nest (C11 6.10).
use Rattle.std.proofs.Common.{◌≡◌, ℕ, List, [], ◌∷◌, Bool, true, false, Some, None, codes, refl, ap}
use Rattle.cx_base.specs.declared.place.Place.{Place}
use Rattle.cx_tokens.specs.Brackets.{is_punctuator}
use Rattle.cx_tokens.specs.declared.token.Kind.{Kind}
use Rattle.cx_tokens.specs.declared.token.Kind.TheVariants.{Name, Number, Punct, String}
use Rattle.cx_lex.specs.declared.piece.Piece.{Piece}
use Rattle.cx_lines.specs.declared.kind.LineKind.TheVariants.{Text, If, Ifdef, Ifndef, Elif, Else, Endif, Include, Define, Undef, Error, Once, Passed, Bad}
use Rattle.cx_lines.specs.declared.nesting.NestingFault.TheVariants.{Stray, Unclosed}
use Rattle.cx_lines.specs.Kinds.{after_text, directive_kind, front_text, kind_after_hash, kind_of, named_kind, pragma_kind}
use Rattle.cx_lines.specs.Lines.{lines_of}
use Rattle.cx_lines.specs.Nesting.{AreNested, Line, after_section, extent_after, extent_of, from_part, group_line, is_stray, opening_line, place_of}
use Rattle.cx_lines.specs.Nesting.AreNested.{no_lines as nested_none, section as nested_section}
use Rattle.cx_lines.specs.Nesting.IsInner.{last_group, group_more}
use Rattle.cx_lines.specs.Whole.{AreWhole}
use Rattle.cx_lines.specs.Whole.AreWhole.{no_lines, section}
use Rattle.cx_lines.specs.Whole.IsBody.{one_group, with_elif, with_else}
use Rattle.cx_lines.specs.Whole.IsLast.{last}
use Rattle.cx_lines.proofs.WholeLaws.{whole_has_no_fault}

abbrev in_row : ℕ → Place
in_row row = record { file = 0; line = row; column = 1 }

abbrev piece : Bool → ℕ → Kind → List ℕ → Piece
piece first row kind text = record {
  token = record { kind = kind; text = text; place = in_row row; hide = []; space = false; parts = []; digraph = false };
  first_on_line = first;
}

-- `#` and a name
abbrev directive : ℕ → List ℕ → Line
directive row text = piece true row Punct (codes "#") ∷ piece false row Name text ∷ []

-- `#` and a token
abbrev marked : Kind → List ℕ → Line
marked kind text = piece true 1 Punct (codes "#") ∷ piece false 1 kind text ∷ []

-- `#`, a name and a token
abbrev followed : List ℕ → Kind → List ℕ → Line
followed text kind more =
    piece true 1 Punct (codes "#") ∷ piece false 1 Name text ∷ piece false 1 kind more ∷ []

abbrev an_if : ℕ → Line
an_if row = directive row (codes "if")

abbrev an_elif : ℕ → Line
an_elif row = directive row (codes "elif")

abbrev an_else : ℕ → Line
an_else row = directive row (codes "else")

abbrev an_endif : ℕ → Line
an_endif row = directive row (codes "endif")

abbrev text_in : ℕ → Line
text_in row = piece true row Name (codes "x") ∷ []

-- a line ends where a piece is the first on the next
two_lines : lines_of (piece true 1 Name (codes "a") ∷ piece false 1 Name (codes "b") ∷ piece true 3 Name (codes "c") ∷ [])
    ≡ (piece true 1 Name (codes "a") ∷ piece false 1 Name (codes "b") ∷ [])
    ∷ (piece true 3 Name (codes "c") ∷ []) ∷ []
unfolding lines_of
two_lines = refl

-- a directive begins with `#`, and its name says which it is
opening_names : (kind_of (an_if 1) ≡ If) × (kind_of (directive 1 (codes "ifdef")) ≡ Ifdef) × (kind_of (directive 1 (codes "ifndef")) ≡ Ifndef)
unfolding kind_of is_punctuator directive_kind kind_after_hash named_kind
opening_names = (refl, refl, refl)

further_names : (kind_of (an_elif 1) ≡ Elif) × (kind_of (an_else 1) ≡ Else) × (kind_of (an_endif 1) ≡ Endif)
unfolding kind_of is_punctuator directive_kind kind_after_hash named_kind
further_names = (refl, refl, refl)

other_names : (kind_of (directive 1 (codes "include")) ≡ Include) × (kind_of (directive 1 (codes "define")) ≡ Define)
    × (kind_of (directive 1 (codes "undef")) ≡ Undef) × (kind_of (directive 1 (codes "error")) ≡ Error)
unfolding kind_of is_punctuator directive_kind kind_after_hash named_kind
other_names = (refl, refl, refl, refl)

-- a name is text without `#`, and bad where no directive has it
text_and_bad : (kind_of (piece true 1 Name (codes "if") ∷ []) ≡ Text) × (kind_of (directive 1 (codes "iff")) ≡ Bad)
    × (kind_of (marked String (codes "if")) ≡ Bad)
unfolding kind_of is_punctuator directive_kind kind_after_hash named_kind
text_and_bad = (refl, refl, refl)

-- `#` alone, a line marker, `line`, and `include_next` say nothing
says_nothing : (kind_of (piece true 1 Punct (codes "#") ∷ []) ≡ Passed) × (kind_of (marked Number (codes "1")) ≡ Passed)
    × (kind_of (directive 1 (codes "line")) ≡ Passed) × (kind_of (directive 1 (codes "include_next")) ≡ Passed)
unfolding kind_of is_punctuator directive_kind kind_after_hash named_kind
says_nothing = (refl, refl, refl, refl)

-- `pragma once` by the name alone
pragmas : (kind_of (followed (codes "pragma") Name (codes "once")) ≡ Once) × (kind_of (followed (codes "pragma") Name (codes "pack")) ≡ Passed)
    × (kind_of (followed (codes "pragma") String (codes "once")) ≡ Passed) × (kind_of (directive 1 (codes "pragma")) ≡ Passed)
unfolding kind_of is_punctuator directive_kind kind_after_hash pragma_kind
pragmas = (refl, refl, refl, refl)

-- text goes up to the first directive
text_in_front : (front_text (text_in 1 ∷ an_if 2 ∷ text_in 3 ∷ []) ≡ text_in 1 ∷ [])
    × (after_text (text_in 1 ∷ an_if 2 ∷ text_in 3 ∷ []) ≡ an_if 2 ∷ text_in 3 ∷ [])
unfolding front_text after_text kind_of is_punctuator directive_kind kind_after_hash named_kind
text_in_front = (refl, refl)

-- a group is passed over with the sections in it, up to its own `else`
up_to_else : from_part 0 (an_if 1 ∷ an_else 2 ∷ an_endif 3 ∷ an_else 4 ∷ text_in 5 ∷ []) ≡ an_else 4 ∷ text_in 5 ∷ []
unfolding from_part kind_of is_punctuator directive_kind kind_after_hash named_kind
up_to_else = refl

-- and the rest of a section with its other groups
past_endif : after_section 0 (an_elif 1 ∷ an_if 2 ∷ an_endif 3 ∷ an_else 4 ∷ an_endif 5 ∷ text_in 6 ∷ []) ≡ text_in 6 ∷ []
unfolding after_section kind_of is_punctuator directive_kind kind_after_hash named_kind
past_endif = refl

-- sections that are closed
closed_sections : extent_of (an_if 1 ∷ an_elif 2 ∷ an_if 3 ∷ an_endif 4 ∷ an_else 5 ∷ an_endif 6 ∷ [])
    ≡ record { front = an_if 1 ∷ an_elif 2 ∷ an_if 3 ∷ an_endif 4 ∷ an_else 5 ∷ an_endif 6 ∷ []; fault = None }
unfolding extent_after is_stray group_line opening_line kind_of is_punctuator directive_kind kind_after_hash named_kind
closed_sections = refl

-- an `else` behind an `else`
second_else : extent_of (an_if 1 ∷ an_else 2 ∷ an_else 3 ∷ an_endif 4 ∷ [])
    ≡ record { front = an_if 1 ∷ an_else 2 ∷ []; fault = Some (Stray (in_row 3)) }
unfolding extent_after is_stray group_line opening_line place_of kind_of is_punctuator directive_kind kind_after_hash named_kind
second_else = refl

-- an `endif` alone
endif_alone : extent_of (text_in 1 ∷ an_endif 2 ∷ []) ≡ record { front = text_in 1 ∷ []; fault = Some (Stray (in_row 2)) }
unfolding extent_after is_stray group_line opening_line place_of kind_of is_punctuator directive_kind kind_after_hash named_kind
endif_alone = refl

-- of two sections that are open the inner one is told
two_open : extent_of (an_if 1 ∷ an_if 2 ∷ text_in 3 ∷ [])
    ≡ record { front = an_if 1 ∷ an_if 2 ∷ text_in 3 ∷ []; fault = Some (Unclosed (in_row 2)) }
unfolding extent_after is_stray group_line opening_line place_of kind_of is_punctuator directive_kind kind_after_hash named_kind
two_open = refl

-- and where the inner one is closed, the outer one, at the line that opened it
outer_open : extent_of (an_if 1 ∷ an_else 2 ∷ an_if 3 ∷ an_endif 4 ∷ [])
    ≡ record { front = an_if 1 ∷ an_else 2 ∷ an_if 3 ∷ an_endif 4 ∷ []; fault = Some (Unclosed (in_row 1)) }
unfolding extent_after is_stray group_line opening_line place_of kind_of is_punctuator directive_kind kind_after_hash named_kind
outer_open = refl

-- an `elif` behind an `else`, in a section within a group
elif_behind_else : extent_of (an_if 1 ∷ an_if 2 ∷ an_else 3 ∷ an_elif 4 ∷ an_endif 5 ∷ an_endif 6 ∷ [])
    ≡ record { front = an_if 1 ∷ an_if 2 ∷ an_else 3 ∷ []; fault = Some (Stray (in_row 4)) }
unfolding extent_after is_stray group_line opening_line place_of kind_of is_punctuator directive_kind kind_after_hash named_kind
elif_behind_else = refl

-- but one behind the section of that `else`
elif_behind_section : AreWhole (an_if 1 ∷ an_if 2 ∷ an_else 3 ∷ an_endif 4 ∷ an_elif 5 ∷ an_endif 6 ∷ [])
unfolding kind_of is_punctuator directive_kind kind_after_hash named_kind
elif_behind_section =
    section _ [] refl
    (with_elif (an_if 2 ∷ an_else 3 ∷ an_endif 4 ∷ []) (an_endif 6 ∷ []) (an_elif 5)
    (section (an_else 3 ∷ an_endif 4 ∷ []) [] refl (with_else [] (an_endif 4 ∷ []) (an_else 3) no_lines refl (last [] (an_endif 4) no_lines refl refl) refl) no_lines refl)
    refl (one_group [] (an_endif 6) no_lines refl refl) refl) no_lines refl

-- sections with two `else`s are nested, but not whole: nesting alone does not count them
abbrev two_elses : List Line
two_elses = an_if 1 ∷ an_else 2 ∷ an_else 3 ∷ an_endif 4 ∷ []

two_elses_are_nested : AreNested two_elses
unfolding kind_of is_punctuator directive_kind kind_after_hash named_kind
two_elses_are_nested =
    nested_section (an_else 2 ∷ an_else 3 ∷ an_endif 4 ∷ []) [] refl
    (group_more [] (an_else 3 ∷ an_endif 4 ∷ []) (an_else 2) nested_none refl
    (group_more [] (an_endif 4 ∷ []) (an_else 3) nested_none refl (last_group [] (an_endif 4) nested_none refl refl) refl) refl)
    nested_none refl

two_elses_are_not_whole : AreWhole two_elses → ⊥
two_elses_are_not_whole w =
    let e = ap (λ x. x.fault) (whole_has_no_fault two_elses w) in
    let f = ap (λ x. x.fault) second_else in
    absurd cc
