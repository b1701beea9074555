-- Texts that C11 (ISO/IEC 9899:2011) 6.4 prints, and what they fall into by the definition.
use Rattle.std.proofs.Common.{◌≡◌, ◌≢◌, ℕ, List, [], ◌∷◌, ◌++◌, Option, Some, None, Bool, true, false, refl, sym, ap, ◌∙◌, subst, codes, map, inl, inr}
use Rattle.std.specs.List.{AllByRecursion, list_any}
use Rattle.std.specs.Prelude.{bytes_eq}
use Rattle.std.proofs.lemmas.List.Elements.{All-nil, All-cons}
use Rattle.cx_base.specs.declared.place.Place.{Place}
use Rattle.cx_tokens.specs.declared.token.Kind.{Kind}
use Rattle.cx_tokens.specs.declared.token.Kind.TheVariants.{Name, Number, Char, String, Unclosed, Header, Punct, Other}
use Rattle.cx_tokens.specs.Digraphs.{is_digraph, plain_text}
use Rattle.cx_tokens.specs.Brackets.{is_punct}
use Rattle.cx_lex.specs.declared.before.Directive.TheVariants.{Nothing, Hash, Include}
use Rattle.cx_lex.specs.declared.character.Character.{Character}
use Rattle.cx_lex.specs.declared.front.Front.TheVariants.{OfPiece}
use Rattle.cx_lex.specs.Characters.{is_digit, is_nondigit, is_word}
use Rattle.cx_lex.specs.Elements.{AreMembers, IsComment, IsHeaderName, IsMember, IsOtherByte, IsQuoted, IsUnclosed, StandsNowhere, after_element, at_start, directive_after, is_separator}
use Rattle.cx_lex.specs.Forms.{IsLongest, IsToken, goes_on, punctuators}
use Rattle.cx_lex.specs.Lexing.{IsOnePiece, Lexes, Outcome, lexed, too_long, unclosed_comment}
use Rattle.cx_lex.specs.Lines.{characters, file_characters, place_after}
use Rattle.cx_lex.specs.WholeText.{without_deleted, without_newline}
use Rattle.cx_lex.specs.Shapes.Fronts.{comment_at, comment_scan, element_at, front_of, header_close, header_or, piece_at, piece_scan, plain_piece, rest_of, solid_at}
use Rattle.cx_lex.specs.Shapes.Scanning.{kept_if, longest, quoted_step, rest_after, rest_after_begin, scan_kind, scanned, step_of}
use Rattle.cx_lex.specs.Shapes.Quotes.{within_quotes}
use Rattle.cx_lex.proofs.LongestLaws.{table_contains}
use Rattle.cx_lex.proofs.MemberLaws.{members_within}
use Rattle.cx_lex.proofs.OnePiece.{found_one}
use Rattle.cx_lex.proofs.Outcomes.{after, lexes_run, outcome_at, piece_after, run}

abbrev at : ℕ → ℕ → Place
at line column = record { file = 0; line = line; column = column }

-- texts

-- the kinds and texts of the pieces, and the texts of the comments
abbrev Shown : Type 0
Shown = List (Kind × List ℕ) × List (List ℕ)

abbrev shown : Outcome → Option Shown
shown (lexed pieces comments) = Some (map (λ p. (p.token.kind, p.token.text)) pieces, map (λ c. c.text) comments)
shown _ = None

abbrev name : List ℕ → Kind × List ℕ
name text = (Name, text)

abbrev number : List ℕ → Kind × List ℕ
number text = (Number, text)

abbrev mark : List ℕ → Kind × List ℕ
mark text = (Punct, text)

abbrev Row : Type 0
Row = List ℕ × Shown

abbrev rows : List Row
rows =
    (codes "1Ex", (number (codes "1Ex") ∷ [], []))
    ∷ (codes "x+++++y", (name (codes "x") ∷ mark (codes "++") ∷ mark (codes "++") ∷ mark (codes "+") ∷ name (codes "y") ∷ [], []))
    ∷ (
      codes "0x3<1/a.h>1e2",
      (
        number (codes "0x3") ∷ mark (codes "<") ∷ number (codes "1") ∷ mark (codes "/") ∷ name (codes "a") ∷ mark (codes ".") ∷ name (codes "h") ∷ mark (codes ">")
            ∷ number (codes "1e2") ∷ [],
        [],
      ),
    )
    ∷ (codes "#include <1/a.h>", (mark (codes "#") ∷ name (codes "include") ∷ (Header, codes "<1/a.h>") ∷ [], []))
    ∷ (
      codes "#define const.member@$",
      (
        mark (codes "#") ∷ name (codes "define") ∷ name (codes "const") ∷ mark (codes ".") ∷ name (codes "member") ∷ (Other, codes "@") ∷ (Other, codes "$") ∷ [],
        [],
      ),
    )
    ∷ (codes "<::><%%>%:%:%:", (mark (codes "[") ∷ mark (codes "]") ∷ mark (codes "{") ∷ mark (codes "}") ∷ mark (codes "##") ∷ mark (codes "#") ∷ [], []))
    ∷ (codes "\"a//b\"", ((String, codes "\"a//b\"") ∷ [], []))
    ∷ (codes "// */", ([], codes " */" ∷ []))
    ∷ (codes "f = g/**//h;", (name (codes "f") ∷ mark (codes "=") ∷ name (codes "g") ∷ mark (codes "/") ∷ name (codes "h") ∷ mark (codes ";") ∷ [], [] ∷ []))
    ∷ (codes "//" ++ (92 ∷ 10 ∷ codes "i();"), ([], codes "i();" ∷ []))
    ∷ (codes "/" ++ (92 ∷ 10 ∷ codes "/ j();"), ([], codes " j();" ∷ []))
    ∷ (codes "/*//*/ l();", (name (codes "l") ∷ mark (codes "(") ∷ mark (codes ")") ∷ mark (codes ";") ∷ [], codes "//" ∷ []))
    ∷ (
      codes "m = n//**/o" ++ (10 ∷ codes " + p;"),
      (
        name (codes "m") ∷ mark (codes "=") ∷ name (codes "n") ∷ mark (codes "+") ∷ name (codes "p") ∷ mark (codes ";") ∷ [],
        codes "**/o" ∷ [],
      ),
    )
    ∷ (39 ∷ 92 ∷ 92 ∷ 39 ∷ codes " x", ((Char, 39 ∷ 92 ∷ 92 ∷ 39 ∷ []) ∷ name (codes "x") ∷ [], []))
    ∷ (39 ∷ 92 ∷ 39 ∷ codes " x", ((Unclosed, 39 ∷ 92 ∷ 39 ∷ codes " x") ∷ [], []))
    ∷ []

computed : map (λ (r : Row). shown (outcome_at 0 100 r.0)) rows ≡ map (λ (r : Row). Some r.1) rows
unfolding outcome_at run after piece_after element_at solid_at piece_at plain_piece header_or header_close piece_scan comment_scan comment_at scanned step_of kept_if quoted_step scan_kind rest_after rest_after_begin longest is_separator after_element directive_after plain_text is_digraph characters place_after is_word is_digit is_nondigit goes_on
computed = refl

-- whatever outcome the text of a row has by the definition, it shows what the row says
abbrev Holds : Row → Type 0
Holds r = (o : Outcome) → Lexes 0 100 r.0 o → shown o ≡ Some r.1

head_of : (x y : Option Shown) (xs ys : List (Option Shown)) → x ∷ xs ≡ y ∷ ys → x ≡ y
head_of x y xs ys e = cc

tail_of : (x y : Option Shown) (xs ys : List (Option Shown)) → x ∷ xs ≡ y ∷ ys → xs ≡ ys
tail_of x y xs ys e = cc

all_hold : (rs : List Row) → map (λ (r : Row). shown (outcome_at 0 100 r.0)) rs ≡ map (λ (r : Row). Some r.1) rs → AllByRecursion Holds rs
all_hold [] e = tt
all_hold (r ∷ rs) e = (
  λ o h. ap shown (sym (lexes_run 0 100 r.0 o h)) ∙ head_of _ _ _ _ e,
  all_hold rs (tail_of _ _ _ _ e),
)

rows_hold : AllByRecursion Holds rows
rows_hold = all_hold rows computed

-- a comment with no end, and a piece more than the limit, by their places
faults : outcome_at 0 100 (codes "a /*/") ∷ outcome_at 0 1 (codes "a b") ∷ [] ≡ unclosed_comment (at 1 3) ∷ too_long (at 1 3) ∷ []
unfolding outcome_at run after piece_after element_at solid_at piece_at plain_piece header_or header_close piece_scan comment_scan comment_at scanned step_of kept_if quoted_step scan_kind rest_after rest_after_begin longest is_separator after_element directive_after plain_text is_digraph characters place_after is_word is_digit is_nondigit goes_on
faults = refl

first_of : (a b c d : Outcome) → a ∷ b ∷ [] ≡ c ∷ d ∷ [] → a ≡ c
first_of a b c d e = cc

second_of : (a b c d : Outcome) → a ∷ b ∷ [] ≡ c ∷ d ∷ [] → b ≡ d
second_of a b c d e = cc

open_at : (o : Outcome) → Lexes 0 100 (codes "a /*/") o → o ≡ unclosed_comment (at 1 3)
open_at o h = sym (lexes_run 0 100 (codes "a /*/") o h) ∙ first_of _ _ _ _ faults

too_long_at : (o : Outcome) → Lexes 0 1 (codes "a b") o → o ≡ too_long (at 1 3)
too_long_at o h = sym (lexes_run 0 1 (codes "a b") o h) ∙ second_of _ _ _ _ faults

-- a digraph is one piece, whose text is the plain form

digraph_front : front_of (element_at Nothing (file_characters 0 (codes "%:"))) ≡ OfPiece (at 1 1) Punct (codes "%:")
unfolding front_of rest_of element_at solid_at piece_at plain_piece header_or header_close piece_scan comment_scan comment_at scanned step_of kept_if quoted_step scan_kind rest_after rest_after_begin longest is_separator plain_text characters place_after is_word is_digit is_nondigit goes_on
digraph_front = refl

digraph_rest : rest_of (element_at Nothing (file_characters 0 (codes "%:"))) ≡ []
unfolding front_of rest_of element_at solid_at piece_at plain_piece header_or header_close piece_scan comment_scan comment_at scanned step_of kept_if quoted_step scan_kind rest_after rest_after_begin longest is_separator plain_text characters place_after is_word is_digit is_nondigit goes_on
digraph_rest = refl

digraph_text : plain_text Punct (codes "%:") ≡ codes "#"
unfolding plain_text
digraph_text = refl

digraph_is_one : IsOnePiece (codes "%:") Punct (codes "#")
digraph_is_one = found_one (codes "%:") (at 1 1) Punct (codes "%:") (codes "#") (sym digraph_front) digraph_rest (sym digraph_text)
