-- The definitions, computed on small conditions, sections and words.
use Rattle.std.proofs.Common.{◌≡◌, ℕ, List, [], ◌∷◌, ◌++◌, Bool, true, false, Option, None, Some, codes, refl, map, length}
use Rattle.cx_base.specs.declared.place.Place.{Place}
use Rattle.cx_tokens.specs.Brackets.{is_punctuator}
use Rattle.cx_tokens.specs.declared.token.Kind.{Kind}
use Rattle.cx_tokens.specs.declared.token.Kind.TheVariants as kind_is
use Rattle.cx_tokens.specs.declared.token.Token.{Token}
use Rattle.cx_lex.specs.declared.piece.Piece.{Piece}
use Rattle.cx_lines.specs.Kinds.{directive_kind, kind_after_hash, kind_of, named_kind}
use Rattle.cx_lines.specs.Nesting.{Line}
use Rattle.cx_base.specs.declared.define.Define.{Define}
use Rattle.cx_options.specs.declared.answer.Options.{Options}
use Rattle.cx_configs.specs.Configurations.{bound_of, defines_of, first_ones, name_lists, settled_names, sorted}
use Rattle.cx_configs.specs.Questions.{Name, asked_lists, condition_names, group_names, groups_behind, name_in_front, names_asked, names_of}

abbrev somewhere : Place
somewhere = record { file = 0; line = 1; column = 1 }

abbrev token : Kind → List ℕ → Token
token kind text = record { kind = kind; text = text; place = somewhere; hide = []; space = false; parts = []; digraph = false }

abbrev name : List ℕ → Token
name text = token kind_is.Name text

abbrev number : List ℕ → Token
number text = token kind_is.Number text

abbrev sign : List ℕ → Token
sign text = token kind_is.Punct text

abbrev A : Name
A = codes "A"

abbrev B : Name
B = codes "B"

abbrev C : Name
C = codes "C"

abbrev question : Token
question = name (codes "defined")

-- `!`
abbrev no : Token
no = sign (codes "!")

abbrev opening : Token
opening = sign (codes "(")

abbrev closing : Token
closing = sign (codes ")")

-- `( name )`
abbrev bracketed : Name → List Token
bracketed n = opening ∷ name n ∷ closing ∷ []

-- ---- conditions

-- `defined A` and `defined(A)`
bare : condition_names (question ∷ name A ∷ []) ≡ A ∷ []
unfolding condition_names names_asked name_in_front is_punctuator
bare = refl

in_brackets : condition_names (question ∷ bracketed A) ≡ A ∷ []
unfolding condition_names names_asked name_in_front is_punctuator
in_brackets = refl

-- `!defined A` and `!defined(A)`
negated : condition_names (no ∷ question ∷ name A ∷ []) ≡ []
unfolding condition_names names_asked name_in_front is_punctuator
negated = refl

negated_in_brackets : condition_names (no ∷ question ∷ bracketed A) ≡ []
unfolding condition_names names_asked name_in_front is_punctuator
negated_in_brackets = refl

-- `!(defined A)`: the `!` does not stand directly before it
negated_around : condition_names (no ∷ opening ∷ question ∷ name A ∷ closing ∷ []) ≡ A ∷ []
unfolding condition_names names_asked name_in_front is_punctuator
negated_around = refl

-- `! !defined B`
negated_twice : condition_names (no ∷ no ∷ question ∷ name B ∷ []) ≡ []
unfolding condition_names names_asked name_in_front is_punctuator
negated_twice = refl

-- `!A && defined B`
another_negated : condition_names (no ∷ name A ∷ sign (codes "&&") ∷ question ∷ name B ∷ []) ≡ B ∷ []
unfolding condition_names names_asked name_in_front is_punctuator
another_negated = refl

-- `defined(A) && defined B` and `!defined A || defined(B)`
both : condition_names (question ∷ (bracketed A ++ sign (codes "&&") ∷ question ∷ name B ∷ [])) ≡ A ∷ B ∷ []
unfolding condition_names names_asked name_in_front is_punctuator
both = refl

second_alone : condition_names (no ∷ question ∷ name A ∷ sign (codes "||") ∷ question ∷ bracketed B) ≡ B ∷ []
unfolding condition_names names_asked name_in_front is_punctuator
second_alone = refl

-- `defined`, `defined 3`, `defined ( A` and `defined ( )`: the first is a name alone
question_alone : condition_names (question ∷ []) ≡ codes "defined" ∷ []
unfolding condition_names names_asked name_in_front
question_alone = refl

before_number : condition_names (question ∷ number (codes "3") ∷ []) ≡ []
unfolding condition_names names_asked name_in_front is_punctuator
before_number = refl

unclosed : condition_names (question ∷ opening ∷ name A ∷ []) ≡ []
unfolding condition_names names_asked name_in_front is_punctuator
unclosed = refl

empty_brackets : condition_names (question ∷ opening ∷ closing ∷ name A ∷ []) ≡ []
unfolding condition_names names_asked name_in_front is_punctuator
empty_brackets = refl

-- `defined defined A`
question_asked : condition_names (question ∷ question ∷ name A ∷ []) ≡ codes "defined" ∷ A ∷ []
unfolding condition_names names_asked name_in_front is_punctuator
question_asked = refl

-- `A`, `A + 1`, `(A)`, `!A`, `1` and nothing
alone : condition_names (name A ∷ []) ≡ A ∷ []
unfolding condition_names names_asked name_in_front is_punctuator
alone = refl

in_sum : condition_names (name A ∷ sign (codes "+") ∷ number (codes "1") ∷ []) ≡ []
unfolding condition_names names_asked name_in_front is_punctuator
in_sum = refl

alone_in_brackets : condition_names (bracketed A) ≡ []
unfolding condition_names names_asked name_in_front is_punctuator
alone_in_brackets = refl

alone_negated : condition_names (no ∷ name A ∷ []) ≡ []
unfolding condition_names names_asked name_in_front is_punctuator
alone_negated = refl

number_alone : condition_names (number (codes "1") ∷ []) ≡ []
unfolding condition_names names_asked name_in_front is_punctuator
number_alone = refl

nothing_at_all : condition_names [] ≡ []
unfolding condition_names names_asked
nothing_at_all = refl

-- ---- lines

abbrev piece : Token → Piece
piece t = record { token = t; first_on_line = false }

-- a directive of this name with these tokens
abbrev directive : List ℕ → List Token → Line
directive word operands = record { token = sign (codes "#"); first_on_line = true } ∷ piece (name word) ∷ map piece operands

abbrev ifdef : Name → Line
ifdef n = directive (codes "ifdef") (name n ∷ [])

abbrev ifndef : Name → Line
ifndef n = directive (codes "ifndef") (name n ∷ [])

abbrev else_line : Line
else_line = directive (codes "else") []

abbrev end_line : Line
end_line = directive (codes "endif") []

-- a line of text
abbrev text : Name → Line
text n = piece (name n) ∷ []

-- `#ifdef A`, `#else`, `#ifdef C`
else_of_ifdef : asked_lists [] (ifdef A ∷ else_line ∷ ifdef C ∷ []) ≡ (A ∷ []) ∷ [] ∷ (C ∷ []) ∷ []
unfolding asked_lists groups_behind names_of group_names condition_names names_asked name_in_front kind_of directive_kind kind_after_hash named_kind is_punctuator
else_of_ifdef = refl

-- `#if defined A`, `#elif defined(B)`, `#ifdef C`
within_elif : asked_lists [] (directive (codes "if") (question ∷ name A ∷ []) ∷ directive (codes "elif") (question ∷ bracketed B) ∷ ifdef C ∷ []) ≡ (A ∷ []) ∷ (B ∷ []) ∷ (B ∷ C ∷ []) ∷ []
unfolding asked_lists groups_behind names_of group_names condition_names names_asked name_in_front kind_of directive_kind kind_after_hash named_kind is_punctuator
within_elif = refl

-- `#ifndef A`, `#elif defined(B)`, `#else`, `#ifdef C`
else_of_ifndef : asked_lists [] (ifndef A ∷ directive (codes "elif") (question ∷ bracketed B) ∷ else_line ∷ ifdef C ∷ []) ≡ [] ∷ (B ∷ []) ∷ (A ∷ []) ∷ (A ∷ C ∷ []) ∷ []
unfolding asked_lists groups_behind names_of group_names condition_names names_asked name_in_front kind_of directive_kind kind_after_hash named_kind is_punctuator
else_of_ifndef = refl

-- `#ifdef A`, `#ifdef A`
same_within : asked_lists [] (ifdef A ∷ ifdef A ∷ []) ≡ (A ∷ []) ∷ (A ∷ A ∷ []) ∷ []
unfolding asked_lists groups_behind names_of group_names condition_names names_asked name_in_front kind_of directive_kind kind_after_hash named_kind is_punctuator
same_within = refl

-- `#ifdef A`, a line, `#endif`, `#ifdef B`: behind a section it asks for nothing
behind_section : asked_lists [] (ifdef A ∷ text C ∷ end_line ∷ ifdef B ∷ []) ≡ (A ∷ []) ∷ (B ∷ []) ∷ []
unfolding asked_lists groups_behind names_of group_names condition_names names_asked name_in_front kind_of directive_kind kind_after_hash named_kind is_punctuator
behind_section = refl

-- `#if A`, `#if 1`, `#else`, `#endif`, `#ifdef B`
without_names : asked_lists [] (directive (codes "if") (name A ∷ []) ∷ directive (codes "if") (number (codes "1") ∷ []) ∷ else_line ∷ end_line ∷ ifdef B ∷ []) ≡ (A ∷ []) ∷ (A ∷ []) ∷ (A ∷ []) ∷ (A ∷ B ∷ []) ∷ []
unfolding asked_lists groups_behind names_of group_names condition_names names_asked name_in_front kind_of directive_kind kind_after_hash named_kind is_punctuator
without_names = refl

-- `#endif`, `#else`, `#ifdef` without a name, `#else`, `#else`, `#ifndef` without a name, `#else`
wrong_forms : asked_lists [] (end_line ∷ else_line ∷ directive (codes "ifdef") [] ∷ else_line ∷ else_line ∷ directive (codes "ifndef") [] ∷ else_line ∷ []) ≡ [] ∷ [] ∷ [] ∷ [] ∷ [] ∷ [] ∷ []
unfolding asked_lists groups_behind names_of group_names condition_names names_asked name_in_front kind_of directive_kind kind_after_hash named_kind is_punctuator
wrong_forms = refl

-- ---- configurations

abbrev define : Name → Define
define n = record { name = n; value = codes "1" }

-- the options of `-D` with these names, `-U` with those, and of how many are looked at
abbrev words : List Define → List Name → Bool → Option ℕ → Options
words defines undefined all most = record {
  paths = [];
  defines = defines;
  undefined = undefined;
  folders = [];
  quiet = false;
  warning = false;
  style = false;
  information = false;
  missing_include = false;
  lists = [];
  error_exitcode = 0;
  force = all;
  max_configs = most;
}

no_words : bound_of (words [] [] false None) ≡ Some 12
unfolding bound_of
no_words = refl

-- `-DA`
a_macro : bound_of (words (define A ∷ []) [] false None) ≡ Some 1
unfolding bound_of
a_macro = refl

-- `-DA --max-configs=2`, and `--force`
so_many : bound_of (words (define A ∷ []) [] false (Some 2)) ≡ Some 2
unfolding bound_of
so_many = refl

all_of_them : bound_of (words (define A ∷ []) [] true None) ≡ None
unfolding bound_of
all_of_them = refl

-- `-DA -DB -UA`
not_undefined : defines_of (define C ∷ []) (words (define A ∷ define B ∷ []) (A ∷ []) false None) ≡ define C ∷ define B ∷ []
unfolding defines_of
not_undefined = refl

in_order : sorted (B ∷ A ∷ codes "AB" ∷ B ∷ []) ≡ A ∷ codes "AB" ∷ B ∷ []
unfolding sorted
in_order = refl

each_once : first_ones ((B ∷ []) ∷ [] ∷ (A ∷ []) ∷ (B ∷ []) ∷ []) ≡ (B ∷ []) ∷ (A ∷ []) ∷ []
each_once = refl

-- a line `define` settles its name, also in a wrong form; so do the library, `-D` and `-U`
settled : settled_names ((directive (codes "define") (name A ∷ sign (codes "##") ∷ []) ∷ ifdef B ∷ []) ∷ []) (define C ∷ [])
    (words (define (codes "D") ∷ []) (codes "U" ∷ []) false None)
    ≡ codes "__FILE__" ∷ codes "__LINE__" ∷ codes "__STDC__" ∷ codes "__STDC_VERSION__" ∷ A ∷ C ∷ codes "D" ∷ codes "U" ∷ []
unfolding settled_names kind_of directive_kind kind_after_hash named_kind is_punctuator
settled = refl

-- `#ifdef B`, `#ifdef A` within it
nested : List Line
nested = ifdef B ∷ ifdef A ∷ end_line ∷ end_line ∷ []

one_within : name_lists (Some 12) [] (nested ∷ []) ≡ [] ∷ (B ∷ []) ∷ (A ∷ B ∷ []) ∷ []
unfolding name_lists sorted nested asked_lists groups_behind names_of group_names condition_names names_asked name_in_front kind_of directive_kind kind_after_hash named_kind is_punctuator
one_within = refl

-- with `-UA`
one_is_settled : name_lists (Some 12) (A ∷ []) (nested ∷ []) ≡ [] ∷ (B ∷ []) ∷ []
unfolding name_lists sorted nested asked_lists groups_behind names_of group_names condition_names names_asked name_in_front kind_of directive_kind kind_after_hash named_kind is_punctuator
one_is_settled = refl

-- with `-DA`
empty_alone : name_lists (Some 1) (A ∷ []) (nested ∷ []) ≡ [] ∷ []
unfolding name_lists sorted nested asked_lists groups_behind names_of group_names condition_names names_asked name_in_front kind_of directive_kind kind_after_hash named_kind is_punctuator
empty_alone = refl

-- a section that asks for the name of one letter, of this code
section : ℕ → List Line
section letter = ifdef (letter ∷ []) ∷ end_line ∷ []

thirteen : List Line
thirteen =
    section 97 ++ section 98 ++ section 99 ++ section 100 ++ section 101 ++ section 102 ++ section 103 ++ section 104 ++ section 105
    ++ section 106 ++ section 107 ++ section 108 ++ section 109

twelve_of_them : length (name_lists (Some 12) [] (thirteen ∷ [])) ≡ 12
unfolding name_lists sorted thirteen section asked_lists groups_behind names_of group_names condition_names names_asked name_in_front kind_of directive_kind kind_after_hash named_kind is_punctuator
twelve_of_them = refl

fourteen : length (name_lists None [] (thirteen ∷ [])) ≡ 14
unfolding name_lists sorted thirteen section asked_lists groups_behind names_of group_names condition_names names_asked name_in_front kind_of directive_kind kind_after_hash named_kind is_punctuator
fourteen = refl

two_of_them : name_lists (Some 2) [] (thirteen ∷ []) ≡ [] ∷ ((97 ∷ []) ∷ []) ∷ []
unfolding name_lists sorted thirteen section asked_lists groups_behind names_of group_names condition_names names_asked name_in_front kind_of directive_kind kind_after_hash named_kind is_punctuator
two_of_them = refl
