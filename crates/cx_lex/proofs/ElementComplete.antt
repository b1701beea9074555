-- Whatever element stands in front of a text, the lexer finds it.
use Rattle.std.proofs.Common.{◌≡◌, ◌≢◌, ℕ, ◌≤◌, List, [], ◌∷◌, ◌++◌, Option, Some, None, Bool, true, false, not, ◌&&◌, ◌||◌, ◌==◌, refl, sym, ap, ap₂, ◌∙◌, subst, subst₂, arith, length, take, append_assoc, append-nil, codes, bytes_eq, Contains, ◌⊎◌, inl, inr, ⊎_elim}
use Rattle.std.specs.List.{list_all, list_any}
use Rattle.std.proofs.Math.Seq.{take-append_seam}
use Rattle.std.proofs.lemmas.List.{length-map}
use Rattle.std.proofs.lemmas.Bool.{and_parts, and_from, cond-true, cond-false, cases_Bool, eqb-true, or_cases}
use Rattle.std.proofs.lemmas.Bool.Decides.{nat_tests}
use Rattle.cx_tokens.specs.declared.token.Kind.{Kind}
use Rattle.cx_tokens.specs.declared.token.Kind.TheVariants.{Name, Number, Char, String, Unclosed, Header, Punct, Other}
use Rattle.cx_lex.specs.declared.before.Before.{Before}
use Rattle.cx_lex.specs.declared.before.Directive.{Directive}
use Rattle.cx_lex.specs.declared.before.Directive.TheVariants.{Include}
use Rattle.cx_lex.specs.declared.character.Character.{Character}
use Rattle.cx_lex.specs.declared.scan.Scan.{Scan}
use Rattle.cx_lex.specs.declared.scan.Scan.TheVariants.{InName, InNumber, InQuotes, InHeader, InLineComment, InBlockComment, Closed}
use Rattle.cx_lex.specs.Characters.{is_digit, is_nondigit, is_one_of, is_word}
use Rattle.cx_lex.proofs.MemberLaws.{members_within, within_end, within_more}
use Rattle.cx_lex.specs.Elements.{AreMembers, Element, EndsLine, HasForm, HasHeader, IsElement, IsPiece, IsQuoted, IsUnclosed, comment, is_separator, on_one_line, piece, separator, characters_of}
use Rattle.cx_lex.specs.Shapes.Quotes.{within_quotes}
use Rattle.cx_lex.specs.Forms.{GoesOn, IsLongest, goes_on, punctuators}
use Rattle.cx_lex.specs.Shapes.Fronts.{comment_at, comment_scan, element_at, found, header_close, header_or_plain, punctuator_or_byte, open_comment, piece_at, piece_scan, plain_piece, scanned_piece, solid_at}
use Rattle.cx_lex.specs.Lexing.{place_of}
use Rattle.cx_lex.specs.Lines.{bytes_of}
use Rattle.cx_lex.specs.Elements.{StandsNowhere}
use Rattle.cx_lex.specs.Shapes.Scanning.{FoundPunctuator, Scanned, is_closed, longest, scan_kind, scanned, table}
use Rattle.cx_lex.proofs.Blocks.{block_closes, open_block, star_after, star_behind}
use Rattle.cx_lex.proofs.ElementSound.{bytes_append, bytes_behind, closed_is, header_form, open_header}
use Rattle.cx_lex.proofs.FormLaws.{no_empty_punctuator, punctuator_no_word}
use Rattle.cx_lex.proofs.FrontLaws.{HeaderScan, NoMark, by_two, close_ways, comment_is, element_is, ended, header_is, header_scan, is_quote, kind_char, kind_name, kind_number, kind_open, kind_string, no_empty_name, no_mark, one_of, piece_is, plain_is, quote_one_of, scan_name, scan_none, scan_number, scan_quote, solid_comment, solid_end, solid_piece, line_mark, block_mark}
use Rattle.cx_lex.proofs.LongestLaws.{begins_number, contains_has, digit_first, dot_goes_on, head_same, longest_name, longest_number, none_stands, number_form, number_parts, or_left, punctuator_no_blank, punctuator_no_number, stands_bytes, table_any, table_contains, table_first, tail_same}
use Rattle.cx_lex.proofs.Quotes.{HeaderEnd, header_runs, quotes_close, runs_quotes, stops_quotes}
use Rattle.cx_lex.proofs.Runs.{Runs, is_scanned, last_of, runs_append, runs_line, runs_name, runs_number, scanned_runs, stops_closed, stops_line, stops_name, stops_number}
use Rattle.cx_lex.proofs.Texts.{longest_stands}
use Rattle.cx_lex.proofs.Well.{is_well}

-- first characters

abbrev no_blank : ℕ → Bool
no_blank b = not (((b == 32) || (b == 9)) || ((b == 11) || (b == 12)))

solid_code : (c : Character) → c.in_newline ≡ false → no_blank c.code ≡ true → is_separator c ≡ false
unfolding is_separator
solid_code c n h = grind arith

slash_solid : (c : Character) → is_well c ≡ true → c.code ≡ 47 → is_separator c ≡ false
unfolding is_well is_separator
slash_solid c w e = grind (arith, nat_tests)

-- two characters with these bytes
record Two (cs : List Character) (a b : ℕ) : Type 0 where
  one : Character
  other : Character
  is : cs ≡ one ∷ other ∷ []
  one_code : one.code ≡ a
  other_code : other.code ≡ b

two_of : (cs : List Character) (a b : ℕ) → bytes_of cs ≡ a ∷ b ∷ [] → Two cs a b
two_of [] a b e = absurd cc
two_of (c ∷ cs) a b e =
    let o = one_of cs b (tail_same c.code a (bytes_of cs) (b ∷ []) e) in
    record { one = c; other = o.character; is = ap (λ t. c ∷ t) o.is; one_code = head_same c.code a (bytes_of cs) (b ∷ []) e; other_code = o.code }

-- comments

element_solid : (d : Directive) (c : Character) (cs : List Character) → is_separator c ≡ false → element_at d (c ∷ cs) ≡ solid_at d c cs
element_solid d c cs n = element_is d c cs ∙ cond-false (is_separator c) (found (separator c) cs) (solid_at d c cs) n

line_complete : (d : Directive) (a b : Character) (text rest : List Character) → is_well a ≡ true → a.code ≡ 47 → b.code ≡ 47 → on_one_line text ≡ true → EndsLine rest
    → element_at d (a ∷ b ∷ (text ++ rest)) ≡ found (comment (a ∷ b ∷ []) text []) rest
line_complete d a b text rest w e f l h =
    let s = scanned_runs InLineComment InLineComment text rest (runs_line text l) (stops_line rest h) in
    element_solid d a (b ∷ (text ++ rest)) (slash_solid a w e)
    ∙ solid_comment d a b (text ++ rest) InLineComment (ap₂ comment_scan e f ∙ line_mark)
    ∙ ap (comment_at (a ∷ b ∷ [])) s
    ∙ comment_is (a ∷ b ∷ []) (record { taken = text; end = InLineComment; rest = rest }) InLineComment refl

block_complete : (d : Directive) (a b x y : Character) (text rest : List Character) → is_well a ≡ true → a.code ≡ 47 → b.code ≡ 42 → x.code ≡ 42 → y.code ≡ 47
    → StandsNowhere (codes "*/") (bytes_of text ++ codes "*") → element_at d (a ∷ b ∷ ((text ++ x ∷ y ∷ []) ++ rest)) ≡ found (comment (a ∷ b ∷ []) text (x ∷ y ∷ [])) rest
block_complete d a b x y text rest w e f g h n =
    let m : StandsNowhere (codes "*/") (bytes_of (text ++ x ∷ [])) = subst (StandsNowhere (codes "*/")) (ap (λ z. bytes_of text ++ z ∷ []) (sym g) ∙ sym (bytes_behind text x)) n in
    let star : star_after false (bytes_of (text ++ x ∷ [])) ≡ true = ap (star_after false) (bytes_behind text x) ∙ star_behind (bytes_of text) false x.code ∙ ap (λ z. z == 42) g in
    let r = subst (λ t. Runs (InBlockComment false) (text ++ x ∷ []) (InBlockComment t)) star (open_block (text ++ x ∷ []) false m) in
    let all = runs_append (InBlockComment false) (InBlockComment true) Closed (text ++ x ∷ []) (y ∷ []) r (block_closes y h) in
    let s = scanned_runs (InBlockComment false) Closed ((text ++ x ∷ []) ++ y ∷ []) rest all (stops_closed rest) in
    let t = by_two text x y ((text ++ x ∷ []) ++ y ∷ []) refl in
    element_solid d a (b ∷ ((text ++ x ∷ y ∷ []) ++ rest)) (slash_solid a w e)
    ∙ solid_comment d a b ((text ++ x ∷ y ∷ []) ++ rest) (InBlockComment false) (ap₂ comment_scan e f ∙ block_mark)
    ∙ ap (λ z. comment_at (a ∷ b ∷ []) (scanned (InBlockComment false) (z ++ rest))) (sym (append_assoc text (x ∷ []) (y ∷ [])))
    ∙ ap (comment_at (a ∷ b ∷ [])) s
    ∙ comment_is (a ∷ b ∷ []) (record { taken = (text ++ x ∷ []) ++ y ∷ []; end = Closed; rest = rest }) Closed refl
    ∙ ap₂ (λ u v. found (comment (a ∷ b ∷ []) u v) rest) t.0 t.1

open_by : (d : Directive) (a b : Character) (cs : List Character) → is_well a ≡ true → a.code ≡ 47 → b.code ≡ 42 → StandsNowhere (codes "*/") (bytes_of cs)
    → element_at d (a ∷ b ∷ cs) ≡ open_comment a.place []
open_by d a b cs w e f n =
    let s = scanned_runs (InBlockComment false) (InBlockComment (star_after false (bytes_of cs))) cs [] (open_block cs false n) tt in
    element_solid d a (b ∷ cs) (slash_solid a w e)
    ∙ solid_comment d a b cs (InBlockComment false) (ap₂ comment_scan e f ∙ block_mark)
    ∙ ap (λ z. comment_at (a ∷ b ∷ []) (scanned (InBlockComment false) z)) (sym (append-nil cs))
    ∙ ap (comment_at (a ∷ b ∷ [])) s
    ∙ comment_is (a ∷ b ∷ []) (record { taken = cs; end = InBlockComment (star_after false (bytes_of cs)); rest = [] }) (InBlockComment (star_after false (bytes_of cs))) refl

pub open_complete : (d : Directive) (cs : List Character) (inner : List ℕ) → list_all is_well cs ≡ true → bytes_of cs ≡ codes "/*" ++ inner → StandsNowhere (codes "*/") inner
    → element_at d cs ≡ open_comment (place_of cs) []
open_complete d [] inner w e n = absurd cc
open_complete d (a ∷ []) inner w e n = absurd cc
open_complete d (a ∷ b ∷ cs) inner w e n =
    open_by d a b cs (and_parts (is_well a) _ w).0 (head_same _ _ _ _ e) (head_same _ _ _ _ (tail_same _ _ _ _ e))
    (subst (StandsNowhere (codes "*/")) (sym (tail_same _ _ _ _ (tail_same _ _ _ _ e))) n)

-- pieces

-- a piece that no comment and no header name is
record Apart (d : Directive) (c : Character) (cs : List Character) : Type 0 where
  solid : is_separator c ≡ false
  no_mark : NoMark c cs

solid_apart : (d : Directive) (c : Character) (cs : List Character) → Apart d c cs → element_at d (c ∷ cs) ≡ piece_at d c cs
solid_apart d c [] p = element_solid d c [] p.solid ∙ solid_end d c
solid_apart d c (e ∷ cs) p = element_solid d c (e ∷ cs) p.solid ∙ solid_piece d c e cs p.no_mark

header_complete : (d : Directive) (c : Character) (xs rest : List Character) → d ≡ Include → HeaderScan c xs rest → piece_at d c (xs ++ rest) ≡ found (piece Header (c ∷ xs)) rest
header_complete d c xs rest e s =
    piece_is d c (xs ++ rest) (Some s.close) (ap (λ t. header_close t c.code) e ∙ s.closes)
    ∙ header_is c (xs ++ rest) (scanned (InHeader s.close) (xs ++ rest)) true (ap (λ (r : Scanned). is_closed r.end) s.scans)
    ∙ ap (λ (r : Scanned). found (piece Header (c ∷ r.taken)) r.rest) s.scans

-- where a header name is read, it stands
has_header : (d : Directive) (c : Character) (cs : List Character) (close : ℕ) → c.in_newline ≡ false → header_close d c.code ≡ Some close
    → is_closed (scanned (InHeader close) cs).end ≡ true → HasHeader d (c ∷ cs)
has_header d c cs close n h e =
    let s = scanned (InHeader close) cs in let r = is_scanned (InHeader close) cs in let q = header_runs s.taken close s.end r.runs in
    let w = close_ways d c.code close h in
    subst (λ t. HasHeader t (c ∷ cs)) (sym w.include) (
      c ∷ s.taken,
      s.rest,
      ap (λ t. c ∷ t) (sym r.whole),
      and_from _ _ (ap not n) q.0,
      ⊎_elim (λ (k : (s.end ≡ Closed) × HeaderEnd close s.taken). header_form c s.taken close w.quotes k.1)
          (λ k. absurd (open_header close (sym (closed_is s.end e) ∙ k.0))) q.1,
    )

plain_by : (d : Directive) (c : Character) (cs : List Character) (o : Option ℕ) → c.in_newline ≡ false → ¬ HasHeader d (c ∷ cs) → header_close d c.code ≡ o
    → header_or_plain c cs o ≡ plain_piece c cs
plain_by d c cs None n h e = refl
plain_by d c cs (Some close) n h e =
    ⊎_elim
    (λ (k : is_closed (scanned (InHeader close) cs).end ≡ true). absurd (h (has_header d c cs close n e k)))
    (λ (k : is_closed (scanned (InHeader close) cs).end ≡ false). header_is c cs (scanned (InHeader close) cs) false k)
    (cases_Bool (is_closed (scanned (InHeader close) cs).end))

plain_complete : (d : Directive) (c : Character) (cs : List Character) → c.in_newline ≡ false → ¬ HasHeader d (c ∷ cs) → piece_at d c cs ≡ plain_piece c cs
plain_complete d c cs n h = piece_is d c cs (header_close d c.code) refl ∙ plain_by d c cs (header_close d c.code) n h refl

by_scan : (c : Character) (xs rest : List Character) (scan end : Scan) (kind : Kind) → piece_scan c.code (xs ++ rest) ≡ Some scan
    → scanned scan (xs ++ rest) ≡ record { taken = xs; end = end; rest = rest } → scan_kind c.code end ≡ kind → plain_piece c (xs ++ rest) ≡ found (piece kind (c ∷ xs)) rest
by_scan c xs rest scan end kind h s k =
    plain_is c (xs ++ rest) (Some scan) h ∙ ap (scanned_piece c) s ∙ ap (λ t. found (piece t (c ∷ xs)) rest) k

name_no_quote : (b : ℕ) → is_nondigit b ≡ true → is_quote b ≡ false
unfolding is_nondigit
name_no_quote b n = grind (arith, nat_tests)

name_no_blank : (b : ℕ) → is_nondigit b ≡ true → no_blank b ≡ true
unfolding is_nondigit
name_no_blank b n = grind (arith, nat_tests)

name_complete : (c : Character) (xs rest : List Character) → is_nondigit c.code ≡ true → list_all is_word (bytes_of xs) ≡ true → IsLongest (bytes_of (c ∷ xs)) (bytes_of rest)
    → plain_piece c (xs ++ rest) ≡ found (piece Name (c ∷ xs)) rest
name_complete c xs rest n a l =
    by_scan c xs rest InName InName Name (scan_name c.code (xs ++ rest) (name_no_quote c.code n) n)
    (scanned_runs InName InName xs rest (runs_name xs a) (stops_name rest (longest_name c.code (bytes_of xs) (bytes_of rest) n a l))) (kind_name c.code)

digit_no_quote : (b : ℕ) (t : Bool) → (is_digit b || ((b == 46) && t)) ≡ true → is_quote b ≡ false
unfolding is_digit
digit_no_quote b t n = grind (arith, nat_tests)

digit_no_name : (b : ℕ) (t : Bool) → (is_digit b || ((b == 46) && t)) ≡ true → is_nondigit b ≡ false
unfolding is_digit is_nondigit
digit_no_name b t n = grind (arith, nat_tests)

digit_no_blank : (b : ℕ) (t : Bool) → (is_digit b || ((b == 46) && t)) ≡ true → no_blank b ≡ true
unfolding is_digit
digit_no_blank b t n = grind (arith, nat_tests)

begins_more : (b : ℕ) (xs rest : List Character) → begins_number b (bytes_of xs) ≡ true → begins_number b (bytes_of (xs ++ rest)) ≡ true
begins_more b (x ∷ xs) rest n = n
begins_more b [] rest n =
    ⊎_elim (λ (e : is_digit b ≡ true). or_left (is_digit b) _ e) (λ (e : ((b == 46) && false) ≡ true). absurd (let p = and_parts (b == 46) false e in cc)) (or_cases (is_digit b) ((b == 46) && false) n)

number_complete : (c : Character) (xs rest : List Character) → begins_number c.code (bytes_of xs) ≡ true → GoesOn c.code (bytes_of xs) → IsLongest (bytes_of (c ∷ xs)) (bytes_of rest)
    → plain_piece c (xs ++ rest) ≡ found (piece Number (c ∷ xs)) rest
number_complete c xs rest n g l =
    by_scan c xs rest (InNumber c.code) (InNumber (last_of c.code (bytes_of xs))) Number
    (scan_number c.code (xs ++ rest) (digit_no_quote c.code _ n) (digit_no_name c.code _ n) (begins_more c.code xs rest n))
    (scanned_runs (InNumber c.code) (InNumber (last_of c.code (bytes_of xs))) xs rest (runs_number xs c.code g)
    (stops_number (last_of c.code (bytes_of xs)) rest (longest_number c.code (bytes_of xs) (bytes_of rest) n g l)))
    (kind_number c.code (last_of c.code (bytes_of xs)))

quote_no_blank : (b : ℕ) → is_quote b ≡ true → no_blank b ≡ true
quote_no_blank b n = grind (arith, nat_tests)

quote_no_backslash : (q : ℕ) → is_quote q ≡ true → (92 == q) ≡ false
quote_no_backslash q h = grind (arith, nat_tests)

members_read : (q : ℕ) (bs : List ℕ) → is_quote q ≡ true → AreMembers q bs → within_quotes q false bs ≡ Some false
members_read q bs i h =
    ap (within_quotes q false) (sym (append-nil bs)) ∙ members_within q bs [] (quote_no_backslash q i) h ∙ within_end q false

quoted_complete : (q : ℕ) (kind : Kind) (c : Character) (xs rest : List Character) → is_quote q ≡ true → scan_kind q Closed ≡ kind → on_one_line xs ≡ true → IsQuoted q (bytes_of (c ∷ xs))
    → plain_piece c (xs ++ rest) ≡ found (piece kind (c ∷ xs)) rest
quoted_complete q kind c xs rest i k l f =
    let e = head_same c.code q _ _ f.1 in
    let t = ended xs f.0 q (tail_same c.code q (bytes_of xs) (f.0 ++ q ∷ []) f.1) l in
    let r = runs_append (InQuotes q false) (InQuotes q false) Closed t.front (t.last ∷ [])
    (runs_quotes t.front q false false t.front_line (ap (within_quotes q false) t.bytes ∙ members_read q f.0 i f.2)) (quotes_close q t.last t.last_line t.code) in
    let all = subst (λ z. Runs (InQuotes q false) z Closed) (sym t.is) r in
    by_scan c xs rest (InQuotes q false) Closed kind (ap (λ b. piece_scan b (xs ++ rest)) e ∙ scan_quote q (xs ++ rest) i)
    (scanned_runs (InQuotes q false) Closed xs rest all (stops_closed rest)) (ap (λ b. scan_kind b Closed) e ∙ k)

-- what may stand after a quote that does not end is read to its end
unclosed_within : (q : ℕ) (bs : List ℕ) → (92 == q) ≡ false
    → (AreMembers q bs ⊎ ((members : List ℕ) × (bs ≡ members ++ 92 ∷ []) × AreMembers q members))
    → (r : Bool) × (within_quotes q false bs ≡ Some r)
unclosed_within q bs n (inl h) = (false, ap (within_quotes q false) (sym (append-nil bs)) ∙ members_within q bs [] n h ∙ within_end q false)
unclosed_within q bs n (inr h) = (
  true,
  ap (within_quotes q false) h.1 ∙ members_within q h.0 (92 ∷ []) n h.2 ∙ within_more q 92 [] ∙ cond-false _ _ _ n ∙ within_end q true,
)

unclosed_complete : (c : Character) (xs rest : List Character) → on_one_line xs ≡ true → IsUnclosed (bytes_of (c ∷ xs)) → EndsLine rest
    → plain_piece c (xs ++ rest) ≡ found (piece Unclosed (c ∷ xs)) rest
unclosed_complete c xs rest l f h =
    let q = sym (quote_one_of c.code) ∙ f.0 in
    let w = unclosed_within c.code (bytes_of xs) (quote_no_backslash c.code q) f.1 in
    by_scan c xs rest (InQuotes c.code false) (InQuotes c.code w.0) Unclosed (scan_quote c.code (xs ++ rest) q)
    (scanned_runs (InQuotes c.code false) (InQuotes c.code w.0) xs rest (runs_quotes xs c.code false w.0 l w.1) (stops_quotes c.code w.0 rest h)) (kind_open c.code c.code w.0)

-- punctuators

by_mark : (c : Character) (cs : List Character) → is_quote c.code ≡ false → is_nondigit c.code ≡ false → begins_number c.code (bytes_of cs) ≡ false
    → plain_piece c cs ≡ punctuator_or_byte c cs (longest table c cs)
by_mark c cs q n d = plain_is c cs None (scan_none c.code cs q n d)

cancelled : (xs ys zs : List Character) → xs ++ ys ≡ xs ++ zs → ys ≡ zs
cancelled [] ys zs e = e
cancelled (x ∷ xs) ys zs e = cancelled xs ys zs (tail_of x x (xs ++ ys) (xs ++ zs) e)
  where
    tail_of : (c d : Character) (xs ys : List Character) → c ∷ xs ≡ d ∷ ys → xs ≡ ys
    tail_of c d xs ys e = cc

-- the longer of two fronts of a text goes on after the other
longer : (xs ys rest others : List ℕ) → length xs ≤ length ys → xs ++ rest ≡ ys ++ others → (more : List ℕ) × (ys ≡ xs ++ more) × (rest ≡ more ++ others)
longer [] ys rest others l e = (ys, refl, e)
longer (x ∷ xs) [] rest others l e = absurd (omega arith)
longer (x ∷ xs) (y ∷ ys) rest others l e =
    let h = longer xs ys rest others (omega arith) (tail_same x y (xs ++ rest) (ys ++ others) e) in
    (h.0, joined y x ys (xs ++ h.0) (sym (head_same x y (xs ++ rest) (ys ++ others) e)) h.1, h.2)
  where
    joined : (x y : ℕ) (xs ys : List ℕ) → x ≡ y → xs ≡ ys → x ∷ xs ≡ y ∷ ys
    joined x y xs ys e f = cc

punct_by : (c : Character) (xs rest : List Character) (o : Option FoundPunctuator) → Contains punctuators (bytes_of (c ∷ xs)) → IsLongest (bytes_of (c ∷ xs)) (bytes_of rest)
    → longest table c (xs ++ rest) ≡ o → punctuator_or_byte c (xs ++ rest) o ≡ found (piece Punct (c ∷ xs)) rest
punct_by c xs rest None k l e =
    let s = stands_bytes (bytes_of (c ∷ xs)) c (xs ++ rest) (bytes_of rest) (λ h. some_empty c.code (bytes_of xs) h) (bytes_append (c ∷ xs) rest) in
    absurd (none_stands table c (xs ++ rest) (bytes_of (c ∷ xs)) s.0 e (contains_has (bytes_of (c ∷ xs)) k) s.1)
  where
    some_empty : (b : ℕ) (bs : List ℕ) → b ∷ bs ≡ [] → ⊥
    some_empty b bs e = cc
punct_by c xs rest (Some mark) k l e =
    let s = stands_bytes (bytes_of (c ∷ xs)) c (xs ++ rest) (bytes_of rest) (λ h. some_empty c.code (bytes_of xs) h) (bytes_append (c ∷ xs) rest) in
    let f = table_first c (xs ++ rest) mark e in
    let n = f.most (bytes_of (c ∷ xs)) s.0 (contains_has (bytes_of (c ∷ xs)) k) s.1 in
    let t = longest_stands table c (xs ++ rest) mark e in
    let w = longer (bytes_of (c ∷ xs)) mark.word (bytes_of rest) (bytes_of mark.rest) n
    (sym (bytes_append (c ∷ xs) rest) ∙ ap bytes_of (sym t.whole) ∙ bytes_append (take (length mark.word) (c ∷ (xs ++ rest))) mark.rest
    ∙ ap (λ b. b ++ bytes_of mark.rest) t.bytes) in
    let m = l Punct w.0 (bytes_of mark.rest) w.2 (subst (Contains punctuators) w.1 (table_contains mark.word f.in_words)) in
    let v : mark.word ≡ bytes_of (c ∷ xs) = w.1 ∙ ap (λ b. bytes_of (c ∷ xs) ++ b) m ∙ append-nil (bytes_of (c ∷ xs)) in
    let u : take (length mark.word) (c ∷ (xs ++ rest)) ≡ c ∷ xs =
    ap (λ b. take (length b) (c ∷ (xs ++ rest))) v ∙ ap (λ i. take i ((c ∷ xs) ++ rest)) (length-map (c ∷ xs) (λ (x : Character). x.code)) ∙ take-append_seam (c ∷ xs) rest in
    let z : mark.rest ≡ rest = cancelled (c ∷ xs) mark.rest rest (ap (λ b. b ++ mark.rest) (sym u) ∙ t.whole) in
    ap₂ (λ a b. found (piece Punct a) b) u z
  where
    some_empty : (b : ℕ) (bs : List ℕ) → b ∷ bs ≡ [] → ⊥
    some_empty b bs e = cc

no_name : (b : ℕ) → is_word b ≡ false → is_nondigit b ≡ false
unfolding is_word
no_name b w = grind arith

no_digit : (b : ℕ) → is_word b ≡ false → is_digit b ≡ false
unfolding is_word
no_digit b w = grind arith

no_number : (b : ℕ) (t : Bool) → is_digit b ≡ false → ((b == 46) && t) ≡ false → (is_digit b || ((b == 46) && t)) ≡ false
no_number b t d e = grind arith

-- a dot in front of a digit is no punctuator
dot_digit : (c : Character) (d : ℕ) (ds : List ℕ) → IsLongest (c.code ∷ []) (d ∷ ds) → ((c.code == 46) && is_digit d) ≡ false
dot_digit c d ds l =
    ⊎_elim
    (λ (e : ((c.code == 46) && is_digit d) ≡ true). absurd (some_more d (l Number (d ∷ []) ds refl (number_form c.code (d ∷ []) (either (is_digit c.code) _ e)
    (let p = and_parts (c.code == 46) (is_digit d) e in (ap (λ x. goes_on x d) (eqb-true c.code 46 p.0) ∙ dot_goes_on d p.1, tt))))))
    (λ (e : ((c.code == 46) && is_digit d) ≡ false). e)
    (cases_Bool ((c.code == 46) && is_digit d))
  where
    some_more : (d : ℕ) → d ∷ [] ≡ [] → ⊥
    some_more d e = cc

    either : (a b : Bool) → b ≡ true → (a || b) ≡ true
    either true b e = refl
    either false b e = e

punct_dot : (c : Character) (xs rest : List Character) → Contains punctuators (bytes_of (c ∷ xs)) → IsLongest (bytes_of (c ∷ xs)) (bytes_of rest)
    → ((c.code == 46) && digit_first (bytes_of (xs ++ rest))) ≡ false
punct_dot c (x ∷ xs) rest k l = (punctuator_no_number c.code (bytes_of (x ∷ xs)) k).1
punct_dot c [] [] k l = none (c.code == 46)
  where
    none : (b : Bool) → (b && false) ≡ false
    none true = refl
    none false = refl
punct_dot c [] (d ∷ ds) k l = dot_digit c d.code (bytes_of ds) l

punct_complete : (c : Character) (xs rest : List Character) → Contains punctuators (bytes_of (c ∷ xs)) → IsLongest (bytes_of (c ∷ xs)) (bytes_of rest)
    → plain_piece c (xs ++ rest) ≡ found (piece Punct (c ∷ xs)) rest
punct_complete c xs rest k l =
    let w = punctuator_no_word c.code (bytes_of xs) k in let q = punctuator_no_number c.code (bytes_of xs) k in
    by_mark c (xs ++ rest) (sym (quote_one_of c.code) ∙ q.0) (no_name c.code w) (no_number c.code (digit_first (bytes_of (xs ++ rest))) (no_digit c.code w) (punct_dot c xs rest k l))
    ∙ punct_by c xs rest (longest table c (xs ++ rest)) k l refl

-- other bytes

other_by : (c : Character) (rest : List Character) (o : Option FoundPunctuator) → ((text : List ℕ) → ¬ (list_any (bytes_eq (c.code ∷ text)) punctuators ≡ true))
    → longest table c rest ≡ o → punctuator_or_byte c rest o ≡ found (piece Other (c ∷ [])) rest
other_by c rest None h e = refl
other_by c rest (Some mark) h e =
    let f = table_first c rest mark e in let t = longest_stands table c rest mark e in
    let w : mark.word ≡ c.code ∷ bytes_of t.begins.0 = sym t.bytes ∙ ap bytes_of t.begins.1 in
    absurd (h (bytes_of t.begins.0) (subst (λ b. list_any (bytes_eq b) punctuators ≡ true) w (table_any mark.word f.in_words)))

dot_there : list_any (bytes_eq (46 ∷ [])) punctuators ≡ true
unfolding punctuators
dot_there = refl

other_complete : (c : Character) (rest : List Character) → is_nondigit c.code ≡ false → is_digit c.code ≡ false → is_one_of (codes "'\"") c.code ≡ false
    → ((text : List ℕ) → ¬ (list_any (bytes_eq (c.code ∷ text)) punctuators ≡ true)) → plain_piece c rest ≡ found (piece Other (c ∷ [])) rest
other_complete c rest n d q h =
    by_mark c rest (sym (quote_one_of c.code) ∙ q) n (no_number c.code (digit_first (bytes_of rest)) d (no_dot c.code (digit_first (bytes_of rest)) (λ e. h [] (subst (λ b. list_any (bytes_eq (b ∷ [])) punctuators ≡ true) (sym e) dot_there))))
    ∙ other_by c rest (longest table c rest) h refl
  where
    no_dot : (b : ℕ) (t : Bool) → (b ≡ 46 → ⊥) → ((b == 46) && t) ≡ false
    no_dot b t h = ⊎_elim (λ (e : (b == 46) ≡ true). absurd (h (eqb-true b 46 e))) (λ (e : (b == 46) ≡ false). ap (λ x. x && t) e) (cases_Bool (b == 46))

-- any piece

not_is : (b : Bool) → not b ≡ true → b ≡ false
not_is true e = absurd cc
not_is false e = refl

-- what is known of a piece that begins with a character
record Known (before : Before) (kind : Kind) (c : Character) (xs rest : List Character) : Type 0 where
  known : IsPiece before kind (c ∷ xs) rest
  line : c.in_newline ≡ false
  more_line : on_one_line xs ≡ true
  no_mark : NoMark c (xs ++ rest)

known_of : (before : Before) (kind : Kind) (c : Character) (xs rest : List Character) → IsPiece before kind (c ∷ xs) rest → Known before kind c xs rest
known_of before kind c xs rest p =
    let l = and_parts (not c.in_newline) (on_one_line xs) p.one_line in
    record { known = p; line = not_is _ l.0; more_line = l.1; no_mark = no_mark c (xs ++ rest) p.no_line_comment p.no_block_comment }

finish : (before : Before) (kind : Kind) (c : Character) (xs rest : List Character) → Known before kind c xs rest → kind ≢ Header → is_separator c ≡ false
    → plain_piece c (xs ++ rest) ≡ found (piece kind (c ∷ xs)) rest → element_at before.directive (c ∷ (xs ++ rest)) ≡ found (piece kind (c ∷ xs)) rest
finish before kind c xs rest k n s e =
    solid_apart before.directive c (xs ++ rest) (record { solid = s; no_mark = k.no_mark })
    ∙ plain_complete before.directive c (xs ++ rest) k.line (k.known.no_header n) ∙ e

header_no_blank : (b close : ℕ) → ((b ≡ 60) × (close ≡ 62)) ⊎ ((b ≡ 34) × (close ≡ 34)) → no_blank b ≡ true
header_no_blank b close (inl p) = ap no_blank p.0
header_no_blank b close (inr p) = ap no_blank p.0

piece_complete : (before : Before) (kind : Kind) (c : Character) (xs rest : List Character) → Known before kind c xs rest → HasForm kind (c ∷ xs) rest
    → element_at before.directive (c ∷ (xs ++ rest)) ≡ found (piece kind (c ∷ xs)) rest
piece_complete before Name c xs rest k f =
    finish before Name c xs rest k (λ e. name_other e) (solid_code c k.line (name_no_blank c.code f.0.0)) (name_complete c xs rest f.0.0 f.0.1 f.1)
  where
    name_other : Name ≡ Header → ⊥
    name_other e = cc
piece_complete before Number c xs rest k f =
    let p = number_parts (bytes_of (c ∷ xs)) f.0 in
    let e = head_same c.code p.first (bytes_of xs) p.others p.is in let t = tail_same c.code p.first (bytes_of xs) p.others p.is in
    let n : begins_number c.code (bytes_of xs) ≡ true = ap₂ begins_number e t ∙ p.begins in
    let g : GoesOn c.code (bytes_of xs) = subst₂ GoesOn (sym e) (sym t) p.goes in
    finish before Number c xs rest k (λ h. number_other h) (solid_code c k.line (digit_no_blank c.code _ n)) (number_complete c xs rest n g f.1)
  where
    number_other : Number ≡ Header → ⊥
    number_other e = cc
piece_complete before Char c xs rest k f =
    finish before Char c xs rest k (λ e. char_other e) (solid_code c k.line (ap no_blank (head_same c.code 39 _ _ f.1)))
    (quoted_complete 39 Char c xs rest refl (kind_char 39 refl) k.more_line f)
  where
    char_other : Char ≡ Header → ⊥
    char_other e = cc
piece_complete before String c xs rest k f =
    finish before String c xs rest k (λ e. string_other e) (solid_code c k.line (ap no_blank (head_same c.code 34 _ _ f.1)))
    (quoted_complete 34 String c xs rest refl (kind_string 34 refl) k.more_line f)
  where
    string_other : String ≡ Header → ⊥
    string_other e = cc
piece_complete before Unclosed c xs rest k f =
    finish before Unclosed c xs rest k (λ e. unclosed_other e) (solid_code c k.line (quote_no_blank c.code (sym (quote_one_of c.code) ∙ f.0.0)))
    (unclosed_complete c xs rest k.more_line f.0 f.1)
  where
    unclosed_other : Unclosed ≡ Header → ⊥
    unclosed_other e = cc
piece_complete before Header c xs rest k f =
    let d = k.known.header refl in let s = header_scan c xs rest (and_from _ _ (ap not k.line) k.more_line) f in
    let w = close_ways Include c.code s.close s.closes in
    solid_apart before.directive c (xs ++ rest) (record { solid = solid_code c k.line (header_no_blank c.code s.close w.quotes); no_mark = k.no_mark })
    ∙ header_complete before.directive c xs rest d s
piece_complete before Punct c xs rest k f =
    finish before Punct c xs rest k (λ e. punct_other e) (solid_code c k.line (punctuator_no_blank c.code (bytes_of xs) f.0)) (punct_complete c xs rest f.0 f.1)
  where
    punct_other : Punct ≡ Header → ⊥
    punct_other e = cc
piece_complete before Other c [] rest k f =
    finish before Other c [] rest k (λ e. other_other e) (or_first (is_separator c) false f.1) (other_complete c rest f.0.0 f.0.1 f.0.2 f.0.3)
  where
    other_other : Other ≡ Header → ⊥
    other_other e = cc

    or_first : (a b : Bool) → (a || b) ≡ false → a ≡ false
    or_first true b h = absurd cc
    or_first false b h = refl
piece_complete before Other c (x ∷ xs) rest k f = absurd f.0

-- no piece is empty
no_piece : (kind : Kind) (rest : List Character) → HasForm kind [] rest → ⊥
no_piece Name rest f = f.0
no_piece Number rest f = let p = number_parts [] f.0 in let e = p.is in cc
no_piece Char rest f = let e = f.1 in cc
no_piece String rest f = let e = f.1 in cc
no_piece Unclosed rest f = f.0
no_piece Header rest f = no_empty_name f
no_piece Punct rest f = no_empty_punctuator f.0
no_piece Other rest f = f.0

comment_complete : (before : Before) (mark text end rest : List Character) → list_all is_well ((mark ++ (text ++ end)) ++ rest) ≡ true → IsElement before (comment mark text end) rest
    → element_at before.directive ((mark ++ (text ++ end)) ++ rest) ≡ found (comment mark text end) rest
comment_complete before mark text end rest w (inl h) =
    let t = two_of mark 47 47 h.0 in
    let v = subst₂ (λ m e. list_all is_well ((m ++ (text ++ e)) ++ rest) ≡ true) t.is h.1 w in
    subst₂ (λ m e. element_at before.directive ((m ++ (text ++ e)) ++ rest) ≡ found (comment m text e) rest) (sym t.is) (sym h.1)
    (ap (λ l. element_at before.directive (t.one ∷ t.other ∷ (l ++ rest))) (append-nil text)
    ∙ line_complete before.directive t.one t.other text rest (and_parts (is_well t.one) _ v).0 t.one_code t.other_code h.2 h.3)
comment_complete before mark text end rest w (inr h) =
    let t = two_of mark 47 42 h.0 in let u = two_of end 42 47 h.1 in
    let v = subst (λ m. list_all is_well ((m ++ (text ++ end)) ++ rest) ≡ true) t.is w in
    subst₂ (λ m e. element_at before.directive ((m ++ (text ++ e)) ++ rest) ≡ found (comment m text e) rest) (sym t.is) (sym u.is)
    (block_complete before.directive t.one t.other u.one u.other text rest (and_parts (is_well t.one) _ v).0 t.one_code t.other_code u.one_code u.other_code h.2)

pub element_complete : (before : Before) (e : Element) (rest : List Character) → list_all is_well (characters_of e ++ rest) ≡ true → IsElement before e rest
    → element_at before.directive (characters_of e ++ rest) ≡ found e rest
element_complete before (separator c) rest w h = element_is before.directive c rest ∙ cond-true (is_separator c) (found (separator c) rest) (solid_at before.directive c rest) h
element_complete before (comment mark text end) rest w h = comment_complete before mark text end rest w h
element_complete before (piece kind []) rest w h = absurd (no_piece kind rest h.form)
element_complete before (piece kind (c ∷ xs)) rest w h = piece_complete before kind c xs rest (known_of before kind c xs rest h) h.form
