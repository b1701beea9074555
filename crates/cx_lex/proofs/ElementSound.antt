-- What the lexer finds in front of a text stands there.
use Rattle.std.proofs.Common.{◌≡◌, ◌≢◌, ℕ, ◌-◌, List, [], ◌∷◌, ◌++◌, Option, Some, None, Bool, true, false, not, cond, ◌&&◌, ◌||◌, ◌==◌, refl, sym, ap, ap₂, ◌∙◌, subst, arith, length, take, append_assoc, append-nil, codes, Contains, ◌⊎◌, inl, inr, ⊎_elim}
use Rattle.std.specs.List.{list_all}
use Rattle.std.proofs.lemmas.List.{take-append-drop, length-append}
use Rattle.std.proofs.lemmas.Bool.{and_parts, and_from, both_ways, cond-true, cond-false, cases_Bool, eqb-true, or_cases}
use Rattle.std.proofs.lemmas.Bool.Decides.{nat_tests}
use Rattle.cx_tokens.specs.declared.token.Kind.{Kind}
use Rattle.cx_tokens.specs.declared.token.Kind.TheVariants.{Name, Number, Char, String, Unclosed, Header, Punct, Other}
use Rattle.cx_lex.specs.declared.before.Before.{Before}
use Rattle.cx_lex.specs.declared.before.Directive.TheVariants.{Include}
use Rattle.cx_lex.specs.declared.character.Character.{Character}
use Rattle.cx_lex.specs.declared.scan.Scan.{Scan}
use Rattle.cx_lex.specs.declared.scan.Scan.TheVariants.{InName, InNumber, InQuotes, InHeader, InLineComment, InBlockComment, Closed}
use Rattle.cx_lex.specs.Characters.{is_digit, is_nondigit, is_word}
use Rattle.cx_lex.proofs.MemberLaws.{ReadMembers, within_read}
use Rattle.cx_lex.specs.Elements.{AreMembers, HasForm, HasHeader, IsHeaderName, IsQuoted, is_separator, lacks, on_one_line, piece, separator}
use Rattle.cx_lex.specs.Shapes.Quotes.{within_quotes}
use Rattle.cx_lex.specs.Forms.{GoesOn, IsLongest, IsToken, goes_on, punctuators}
use Rattle.cx_lex.specs.Shapes.Fronts.{all_but_two, comment_at, comment_scan, element_at, found, header_close, header_or_plain, last_two, punctuator_or_byte, scan_or_punctuator, piece_at, piece_scan, plain_piece, solid_at}
use Rattle.cx_lex.specs.Lines.{bytes_of}
use Rattle.cx_lex.specs.Elements.{BeginsWith, StandsNowhere}
use Rattle.cx_lex.specs.Shapes.Scanning.{FoundPunctuator, is_closed, longest, scan_kind, scanned, step_of, table}
use Rattle.cx_lex.proofs.Blocks.{block_closed, block_open, block_stops, last_star}
use Rattle.cx_lex.proofs.Found.{Is, IsFound}
use Rattle.cx_lex.proofs.FrontLaws.{NoMark, ScanIs, by_two, close_ways, comment_is, comment_ways, element_end, element_is, header_has, header_is, is_quote, kind_char, kind_name, kind_number, kind_open, kind_string, mark_begins, line_mark, block_mark, piece_is, plain_is, quote_one_of, quote_ways, scan_is, solid_comment, solid_end, solid_piece}
use Rattle.cx_lex.proofs.LongestLaws.{IsFirst, alone_has, begins_number, contains_has, dot_goes_on, head_same, name_longest, none_stands, number_form, number_longest, number_parts, or_left, punctuator_no_break, stands_bytes, table_contains, table_first, tail_same}
use Rattle.cx_lex.proofs.Quotes.{HeaderEnd, QuotesEnd, header_runs, quotes_runs, quotes_stops}
use Rattle.cx_lex.proofs.Runs.{Runs, Stops, is_scanned, last_of, line_runs, line_stops, name_runs, name_stops, number_runs, number_stops, runs_closed}
use Rattle.cx_lex.proofs.Steps.{block_step}
use Rattle.cx_lex.proofs.Texts.{longest_stands}
use Rattle.cx_lex.proofs.Well.{is_well}

-- bytes that end no line

abbrev no_break : ℕ → Bool
no_break b = not ((b == 10) || (b == 13))

well_line : (c : Character) → is_well c ≡ true → no_break c.code ≡ true → (not c.in_newline) ≡ true
unfolding is_well
well_line c w n = grind arith

lines : (cs : List Character) → list_all is_well cs ≡ true → list_all no_break (bytes_of cs) ≡ true → on_one_line cs ≡ true
lines [] w n = refl
lines (c ∷ cs) w n =
    let p = and_parts (is_well c) (list_all is_well cs) w in let q = and_parts (no_break c.code) (list_all no_break (bytes_of cs)) n in
    and_from _ _ (well_line c p.0 q.0) (lines cs p.1 q.1)

word_no_break : (b : ℕ) → is_word b ≡ true → no_break b ≡ true
unfolding is_word is_nondigit is_digit
word_no_break b w = grind (arith, nat_tests)

words_no_break : (bs : List ℕ) → list_all is_word bs ≡ true → list_all no_break bs ≡ true
words_no_break [] h = refl
words_no_break (b ∷ bs) h = let p = and_parts (is_word b) (list_all is_word bs) h in and_from _ _ (word_no_break b p.0) (words_no_break bs p.1)

goes_no_break : (last b : ℕ) → goes_on last b ≡ true → no_break b ≡ true
unfolding goes_on is_word is_nondigit is_digit
goes_no_break last b g = grind (arith, nat_tests)

number_no_break : (last : ℕ) (bs : List ℕ) → GoesOn last bs → list_all no_break bs ≡ true
number_no_break last [] g = refl
number_no_break last (b ∷ bs) g = and_from _ _ (goes_no_break last b g.0) (number_no_break b bs g.1)

well_front : (xs ys : List Character) → list_all is_well (xs ++ ys) ≡ true → list_all is_well xs ≡ true
well_front [] ys h = refl
well_front (x ∷ xs) ys h = let p = and_parts (is_well x) (list_all is_well (xs ++ ys)) h in and_from _ _ p.0 (well_front xs ys p.1)

-- what a separator is not

solid_line : (c : Character) → is_separator c ≡ false → (not c.in_newline) ≡ true
unfolding is_separator
solid_line c h = grind arith

-- comments

line_found : (before : Before) (c d : Character) (cs : List Character) → c.code ≡ 47 → d.code ≡ 47 → Is before (c ∷ d ∷ cs) (comment_at (c ∷ d ∷ []) (scanned InLineComment cs))
line_found before c d cs e f =
    let s = scanned InLineComment cs in
    let r = is_scanned InLineComment cs in let p = line_runs s.taken s.end r.runs in
    subst (Is before (c ∷ d ∷ cs)) (sym (comment_is (c ∷ d ∷ []) s InLineComment p.1)) (record {
      is_element = inl (marked c.code d.code 47 e f, refl, p.0, line_stops s.rest (subst (λ t. Stops t s.rest) p.1 r.stops));
      whole_text = ap (λ l. c ∷ d ∷ l) (sym r.whole ∙ ap (λ l. l ++ s.rest) (sym (append-nil s.taken)));
      some_text = (c, d ∷ (s.taken ++ []), refl);
    })
  where
    marked : (b c d : ℕ) → b ≡ 47 → c ≡ d → b ∷ c ∷ [] ≡ 47 ∷ d ∷ []
    marked b c d e f = cc

-- a comment from `/*` comes to its end or stays open
block_ways : (xs : List Character) (star : Bool) (t : Scan) → Runs (InBlockComment star) xs t → (t ≡ Closed) ⊎ ((b : Bool) × (t ≡ InBlockComment b))
block_ways [] star t r = inr (star, sym r)
block_ways (x ∷ xs) star t r =
    ⊎_elim
    (λ (e : (star && (x.code == 47)) ≡ true). inl (runs_closed xs t (subst (λ u. Runs u xs t) (next star x r.0 r.1 ∙ cond-true _ _ _ e) r.2)).1)
    (λ (e : (star && (x.code == 47)) ≡ false). block_ways xs (x.code == 42) t (subst (λ u. Runs u xs t) (next star x r.0 r.1 ∙ cond-false _ _ _ e) r.2))
    (cases_Bool (star && (x.code == 47)))
  where
    same : (a b : Scan) → Some a ≡ Some b → b ≡ a
    same a b e = cc

    next : (star : Bool) (x : Character) (more : Scan) → step_of (InBlockComment star) x ≡ Some more → more ≡ cond (star && (x.code == 47)) Closed (InBlockComment (x.code == 42))
    next star x more e = same _ more (sym (block_step star x) ∙ e)

marks : (b c : ℕ) → b ≡ 47 → c ≡ 42 → b ∷ c ∷ [] ≡ codes "/*"
marks b c e f = cc

pair_bytes : (a b : Character) → a.code ≡ 42 → b.code ≡ 47 → bytes_of (a ∷ b ∷ []) ≡ codes "*/"
pair_bytes a b e f = joined a.code b.code e f
  where
    joined : (x y : ℕ) → x ≡ 42 → y ≡ 47 → x ∷ y ∷ [] ≡ 42 ∷ 47 ∷ []
    joined x y e f = cc

pub bytes_behind : (xs : List Character) (c : Character) → bytes_of (xs ++ c ∷ []) ≡ bytes_of xs ++ c.code ∷ []
bytes_behind [] c = refl
bytes_behind (x ∷ xs) c = ap (λ l. x.code ∷ l) (bytes_behind xs c)

closed_found : (before : Before) (c d : Character) (cs : List Character) → c.code ≡ 47 → d.code ≡ 42 → (scanned (InBlockComment false) cs).end ≡ Closed
    → Is before (c ∷ d ∷ cs) (comment_at (c ∷ d ∷ []) (scanned (InBlockComment false) cs))
closed_found before c d cs e f n =
    let s = scanned (InBlockComment false) cs in
    let r = is_scanned (InBlockComment false) cs in
    let b = block_closed s.taken false (subst (Runs (InBlockComment false) s.taken) n r.runs) in
    let o = block_open b.inner false true b.runs in
    let l = last_star b.inner (sym o.1) in
    let t = by_two l.text l.star b.close s.taken (b.is ∙ ap (λ x. x ++ b.close ∷ []) l.is) in
    subst (Is before (c ∷ d ∷ cs)) (sym (comment_is (c ∷ d ∷ []) s Closed n)) (record {
      is_element = inr (
        marks c.code d.code e f,
        ap bytes_of t.1 ∙ pair_bytes l.star b.close l.code b.code,
        subst (StandsNowhere (codes "*/")) (ap bytes_of l.is ∙ bytes_behind l.text l.star ∙ ap₂ (λ x y. bytes_of x ++ y ∷ []) (sym t.0) l.code) o.0,
      );
      whole_text = ap (λ x. c ∷ d ∷ x) (sym r.whole ∙ ap (λ x. x ++ s.rest) (sym (take-append-drop (length s.taken - 2) s.taken)));
      some_text = (c, d ∷ (all_but_two s.taken ++ last_two s.taken), refl);
    })

open_found : (before : Before) (c d : Character) (cs : List Character) (star : Bool) → c.code ≡ 47 → d.code ≡ 42 → (scanned (InBlockComment false) cs).end ≡ InBlockComment star
    → Is before (c ∷ d ∷ cs) (comment_at (c ∷ d ∷ []) (scanned (InBlockComment false) cs))
open_found before c d cs star e f n =
    let s = scanned (InBlockComment false) cs in
    let r = is_scanned (InBlockComment false) cs in
    let o = block_open s.taken false star (subst (Runs (InBlockComment false) s.taken) n r.runs) in
    let z = block_stops star s.rest (subst (λ u. Stops u s.rest) n r.stops) in
    let w : s.taken ≡ cs = sym (append-nil s.taken) ∙ ap (λ x. s.taken ++ x) (sym z) ∙ r.whole in
    subst (Is before (c ∷ d ∷ cs)) (sym (comment_is (c ∷ d ∷ []) s (InBlockComment star) n)) (record {
      inner = bytes_of cs;
      begins = ap (λ x. x ++ bytes_of cs) (marks c.code d.code e f);
      no_end = subst (λ x. StandsNowhere (codes "*/") (bytes_of x)) w o.0;
      at = refl;
    })

comment_found : (before : Before) (c d : Character) (cs : List Character) (scan : Scan) → comment_scan c.code d.code ≡ Some scan
    → Is before (c ∷ d ∷ cs) (comment_at (c ∷ d ∷ []) (scanned scan cs))
comment_found before c d cs scan h =
    ⊎_elim
    (λ k. subst (λ s. Is before (c ∷ d ∷ cs) (comment_at (c ∷ d ∷ []) (scanned s cs))) (sym k.2) (line_found before c d cs k.0 k.1))
    (λ k. subst (λ s. Is before (c ∷ d ∷ cs) (comment_at (c ∷ d ∷ []) (scanned s cs))) (sym k.2)
    (⊎_elim
    (λ (n : (scanned (InBlockComment false) cs).end ≡ Closed). closed_found before c d cs k.0 k.1 n)
    (λ (n : (b : Bool) × ((scanned (InBlockComment false) cs).end ≡ InBlockComment b)). open_found before c d cs n.0 k.0 k.1 n.1)
    (block_ways (scanned (InBlockComment false) cs).taken false (scanned (InBlockComment false) cs).end (is_scanned (InBlockComment false) cs).runs)))
    (comment_ways c.code d.code scan h)

-- pieces

piece_found : (before : Before) (kind : Kind) (c : Character) (xs rest tail : List Character) → xs ++ rest ≡ tail → is_separator c ≡ false → on_one_line xs ≡ true
    → HasForm kind (c ∷ xs) rest → NoMark c tail → (kind ≡ Header → before.directive ≡ Include) → (kind ≢ Header → ¬ HasHeader before.directive (c ∷ tail))
    → IsFound before (c ∷ tail) (piece kind (c ∷ xs)) rest
piece_found before kind c xs rest tail w s l f n h g = record {
  is_element = record {
    one_line = and_from _ _ (solid_line c s) l;
    form = f;
    no_line_comment = subst (λ t. ¬ BeginsWith (codes "//") (bytes_of (c ∷ t))) (sym w) (mark_begins c tail 47 InLineComment n line_mark);
    no_block_comment = subst (λ t. ¬ BeginsWith (codes "/*") (bytes_of (c ∷ t))) (sym w) (mark_begins c tail 42 (InBlockComment false) n block_mark);
    header = h;
    no_header = subst (λ t. kind ≢ Header → ¬ HasHeader before.directive (c ∷ t)) (sym w) g;
  };
  whole_text = ap (λ t. c ∷ t) (sym w);
  some_text = (c, xs, refl);
}

-- what is known of a character where a piece begins that is no header name
record Plain (before : Before) (c : Character) (cs : List Character) : Type 0 where
  solid : is_separator c ≡ false
  no_mark : NoMark c cs
  no_header : ¬ HasHeader before.directive (c ∷ cs)
  well : list_all is_well (c ∷ cs) ≡ true

-- a piece of another kind
other_found : (before : Before) (kind : Kind) (c : Character) (xs rest cs : List Character) → Plain before c cs → xs ++ rest ≡ cs → on_one_line xs ≡ true
    → HasForm kind (c ∷ xs) rest → kind ≢ Header → IsFound before (c ∷ cs) (piece kind (c ∷ xs)) rest
other_found before kind c xs rest cs p w l f n =
    piece_found before kind c xs rest cs w p.solid l f p.no_mark (λ e. absurd (n e)) (λ _. p.no_header)

taken_well : (before : Before) (c : Character) (xs rest cs : List Character) → Plain before c cs → xs ++ rest ≡ cs → list_all is_well xs ≡ true
taken_well before c xs rest cs p w = well_front xs rest (subst (λ t. list_all is_well t ≡ true) (sym w) (and_parts (is_well c) (list_all is_well cs) p.well).1)

name_found : (before : Before) (c : Character) (cs : List Character) → Plain before c cs → is_nondigit c.code ≡ true
    → IsFound before (c ∷ cs) (piece (scan_kind c.code (scanned InName cs).end) (c ∷ (scanned InName cs).taken)) (scanned InName cs).rest
name_found before c cs p n =
    let s = scanned InName cs in let r = is_scanned InName cs in let q = name_runs s.taken s.end r.runs in
    subst (λ k. IsFound before (c ∷ cs) (piece k (c ∷ s.taken)) s.rest) (sym (ap (scan_kind c.code) q.1 ∙ kind_name c.code))
    (other_found before Name c s.taken s.rest cs p r.whole (lines s.taken (taken_well before c s.taken s.rest cs p r.whole) (words_no_break (bytes_of s.taken) q.0))
    ((n, q.0), name_longest c.code (bytes_of s.taken) (bytes_of s.rest) n (name_stops s.rest (subst (λ t. Stops t s.rest) q.1 r.stops)))
    (λ e. differ e))
  where
    differ : Name ≡ Header → ⊥
    differ e = cc

begins_taken : (b : ℕ) (xs rest : List Character) (t : Scan) → begins_number b (bytes_of (xs ++ rest)) ≡ true → Runs (InNumber b) xs t → Stops t rest
    → begins_number b (bytes_of xs) ≡ true
begins_taken b (x ∷ xs) rest t n r s = n
begins_taken b [] [] t n r s = n
begins_taken b [] (c ∷ cs) t n r s =
    let k = number_stops b (c ∷ cs) (subst (λ u. Stops u (c ∷ cs)) (sym r) s) in
    ⊎_elim (λ (e : is_digit b ≡ true). or_left (is_digit b) _ e)
    (λ (e : ((b == 46) && is_digit c.code) ≡ true).
    let p = and_parts (b == 46) (is_digit c.code) e in
    absurd (both_ways (goes_on b c.code) k (ap (λ x. goes_on x c.code) (eqb-true b 46 p.0) ∙ dot_goes_on c.code p.1)))
    (or_cases (is_digit b) ((b == 46) && is_digit c.code) n)

number_found : (before : Before) (c : Character) (cs : List Character) → Plain before c cs → begins_number c.code (bytes_of cs) ≡ true
    → IsFound before (c ∷ cs) (piece (scan_kind c.code (scanned (InNumber c.code) cs).end) (c ∷ (scanned (InNumber c.code) cs).taken)) (scanned (InNumber c.code) cs).rest
number_found before c cs p n =
    let s = scanned (InNumber c.code) cs in let r = is_scanned (InNumber c.code) cs in let q = number_runs s.taken c.code s.end r.runs in
    let m = begins_taken c.code s.taken s.rest s.end (subst (λ t. begins_number c.code (bytes_of t) ≡ true) (sym r.whole) n) r.runs r.stops in
    subst (λ k. IsFound before (c ∷ cs) (piece k (c ∷ s.taken)) s.rest) (sym (ap (scan_kind c.code) q.1 ∙ kind_number c.code (last_of c.code (bytes_of s.taken))))
    (other_found before Number c s.taken s.rest cs p r.whole (lines s.taken (taken_well before c s.taken s.rest cs p r.whole) (number_no_break c.code (bytes_of s.taken) q.0)) (
      number_form c.code (bytes_of s.taken) m q.0,
      number_longest c.code (bytes_of s.taken) (bytes_of s.rest) m (number_stops (last_of c.code (bytes_of s.taken)) s.rest (subst (λ t. Stops t s.rest) q.1 r.stops)),
    )
    (λ e. differ e))
  where
    differ : Number ≡ Header → ⊥
    differ e = cc

-- quotes

quoted_form : (q : ℕ) (c : Character) (xs : List Character) → c.code ≡ q → QuotesEnd q false xs → IsQuoted q (bytes_of (c ∷ xs))
quoted_form q c xs e k = (
  bytes_of k.parts.inner,
  joined c.code q (bytes_of xs) (bytes_of k.parts.inner ++ q ∷ []) e
      (ap bytes_of k.parts.is ∙ bytes_behind k.parts.inner k.parts.close ∙ ap (λ b. bytes_of k.parts.inner ++ b ∷ []) k.parts.code),
  within_read q (bytes_of k.parts.inner) false k.within,
)
  where
    joined : (x y : ℕ) (xs ys : List ℕ) → x ≡ y → xs ≡ ys → x ∷ xs ≡ y ∷ ys
    joined x y xs ys e f = cc

-- what is read with no quote at its end
unclosed_read : (q : ℕ) (bs : List ℕ) (r : Bool) → ReadMembers q bs r
    → AreMembers q bs ⊎ ((members : List ℕ) × (bs ≡ members ++ 92 ∷ []) × AreMembers q members)
unclosed_read q bs false h = inl h
unclosed_read q bs true h = inr h

char_no_header : Char ≡ Header → ⊥
char_no_header e = cc

string_no_header : String ≡ Header → ⊥
string_no_header e = cc

unclosed_no_header : Unclosed ≡ Header → ⊥
unclosed_no_header e = cc

punct_no_header : Punct ≡ Header → ⊥
punct_no_header e = cc

other_no_header : Other ≡ Header → ⊥
other_no_header e = cc

quote_found : (before : Before) (c : Character) (cs : List Character) → Plain before c cs → is_quote c.code ≡ true
    → IsFound before (c ∷ cs) (piece (scan_kind c.code (scanned (InQuotes c.code false) cs).end) (c ∷ (scanned (InQuotes c.code false) cs).taken)) (scanned (InQuotes c.code false) cs).rest
quote_found before c cs p n =
    let s = scanned (InQuotes c.code false) cs in let r = is_scanned (InQuotes c.code false) cs in let q = quotes_runs s.taken c.code false s.end r.runs in
    ⊎_elim
    (λ (k : (s.end ≡ Closed) × QuotesEnd c.code false s.taken). ⊎_elim
    (λ (e : c.code ≡ 39). subst (λ t. IsFound before (c ∷ cs) (piece t (c ∷ s.taken)) s.rest) (sym (ap (scan_kind c.code) k.0 ∙ kind_char c.code e))
    (other_found before Char c s.taken s.rest cs p r.whole q.0 (quoted_form 39 c s.taken e (subst (λ b. QuotesEnd b false s.taken) e k.1)) (λ h. char_no_header h)))
    (λ (e : c.code ≡ 34). subst (λ t. IsFound before (c ∷ cs) (piece t (c ∷ s.taken)) s.rest) (sym (ap (scan_kind c.code) k.0 ∙ kind_string c.code e))
    (other_found before String c s.taken s.rest cs p r.whole q.0 (quoted_form 34 c s.taken e (subst (λ b. QuotesEnd b false s.taken) e k.1)) (λ h. string_no_header h)))
    (quote_ways c.code n))
    (λ (k : (t : Bool) × (s.end ≡ InQuotes c.code t) × (within_quotes c.code false (bytes_of s.taken) ≡ Some t)).
    subst (λ t. IsFound before (c ∷ cs) (piece t (c ∷ s.taken)) s.rest) (sym (ap (scan_kind c.code) k.1 ∙ kind_open c.code c.code k.0))
    (other_found before Unclosed c s.taken s.rest cs p r.whole q.0
    ((quote_one_of c.code ∙ n, unclosed_read c.code (bytes_of s.taken) k.0 (within_read c.code (bytes_of s.taken) k.0 k.2)), quotes_stops c.code k.0 s.rest (subst (λ t. Stops t s.rest) k.1 r.stops))
    (λ h. unclosed_no_header h)))
    q.1

-- punctuators

-- what is known of a first byte that begins no name and no number
record Marked (c : Character) (cs : List Character) : Type 0 where
  no_quote : is_quote c.code ≡ false
  no_name : is_nondigit c.code ≡ false
  no_number : begins_number c.code (bytes_of cs) ≡ false

no_longer : (kind : Kind) (c : Character) (cs : List Character) (mark : FoundPunctuator) (b : ℕ) (bs : List ℕ) (d : ℕ) (ds others : List ℕ)
    → Marked c cs → IsFirst table c cs mark → mark.word ≡ b ∷ bs → c.code ≡ b → bytes_of cs ≡ bs ++ ((d ∷ ds) ++ others)
    → IsToken kind (b ∷ (bs ++ d ∷ ds)) → ⊥
no_longer Name c cs mark b bs d ds others m f w e g t = both_ways (is_nondigit b) (sym (ap is_nondigit e) ∙ m.no_name) t.0
no_longer Number c cs mark b bs d ds others m f w e g t =
    let p = number_parts (b ∷ (bs ++ d ∷ ds)) t in
    both_ways (begins_number b (bs ++ d ∷ ds)) (front_number b bs d ds others (ap (λ x. begins_number x (bs ++ ((d ∷ ds) ++ others))) (sym e) ∙ ap (begins_number c.code) (sym g) ∙ m.no_number))
    (moved b p.first (bs ++ d ∷ ds) p.others p.is p.begins)
  where
    moved : (b c : ℕ) (bs cs : List ℕ) → b ∷ bs ≡ c ∷ cs → begins_number c cs ≡ true → begins_number b bs ≡ true
    moved b c bs cs e g = ap₂ begins_number (head_same b c bs cs e) (tail_same b c bs cs e) ∙ g

    front_number : (b : ℕ) (bs : List ℕ) (d : ℕ) (ds others : List ℕ) → begins_number b (bs ++ ((d ∷ ds) ++ others)) ≡ false → begins_number b (bs ++ d ∷ ds) ≡ false
    front_number b [] d ds others h = h
    front_number b (x ∷ xs) d ds others h = h
no_longer Punct c cs mark b bs d ds others m f w e g t =
    let s = stands_bytes (b ∷ (bs ++ d ∷ ds)) c cs others (λ h. some_empty b (bs ++ d ∷ ds) h) (joined c.code b (bytes_of cs) ((bs ++ d ∷ ds) ++ others) e (g ∙ sym (append_assoc bs (d ∷ ds) others))) in
    let l = f.most (b ∷ (bs ++ d ∷ ds)) s.0 (contains_has (b ∷ (bs ++ d ∷ ds)) t) s.1 in
    let n = ap length w in let k = length-append bs (d ∷ ds) in omega (arith, l, n, k)
  where
    joined : (x y : ℕ) (xs ys : List ℕ) → x ≡ y → xs ≡ ys → x ∷ xs ≡ y ∷ ys
    joined x y xs ys e f = cc

    some_empty : (b : ℕ) (bs : List ℕ) → b ∷ bs ≡ [] → ⊥
    some_empty b bs e = cc
no_longer _ c cs mark b bs d ds others m f w e g t = t

mark_longest : (c : Character) (cs : List Character) (mark : FoundPunctuator) (bs : List ℕ) (rest : List Character)
    → Marked c cs → IsFirst table c cs mark → mark.word ≡ c.code ∷ bs → bytes_of cs ≡ bs ++ bytes_of rest → IsLongest (c.code ∷ bs) (bytes_of rest)
mark_longest c cs mark bs rest m f w g = λ kind more others e t. shown kind more others e t
  where
    shown : (kind : Kind) (more others : List ℕ) → bytes_of rest ≡ more ++ others → IsToken kind (c.code ∷ (bs ++ more)) → more ≡ []
    shown kind [] others e t = refl
    shown kind (d ∷ ds) others e t = absurd (no_longer kind c cs mark c.code bs d ds others m f w refl (g ∙ ap (λ l. bs ++ l) e) t)

pub bytes_append : (xs ys : List Character) → bytes_of (xs ++ ys) ≡ bytes_of xs ++ bytes_of ys
bytes_append [] ys = refl
bytes_append (x ∷ xs) ys = ap (λ l. x.code ∷ l) (bytes_append xs ys)

tail_of : (c d : Character) (xs ys : List Character) → c ∷ xs ≡ d ∷ ys → xs ≡ ys
tail_of c d xs ys e = cc

punct_found : (before : Before) (c : Character) (cs : List Character) (mark : FoundPunctuator) → Plain before c cs → Marked c cs → longest table c cs ≡ Some mark
    → IsFound before (c ∷ cs) (piece Punct (take (length mark.word) (c ∷ cs))) mark.rest
punct_found before c cs mark p m h =
    let s = longest_stands table c cs mark h in let f = table_first c cs mark h in
    let more = s.begins.0 in
    let w : c.code ∷ bytes_of more ≡ mark.word = ap bytes_of (sym s.begins.1) ∙ s.bytes in
    let g : more ++ mark.rest ≡ cs = tail_of c c (more ++ mark.rest) cs (ap (λ t. t ++ mark.rest) (sym s.begins.1) ∙ s.whole) in
    let k : Contains punctuators (c.code ∷ bytes_of more) = subst (Contains punctuators) (sym w) (table_contains mark.word f.in_words) in
    let n = and_parts (no_break c.code) (list_all no_break (bytes_of more)) (punctuator_no_break (c.code ∷ bytes_of more) k) in
    subst (λ t. IsFound before (c ∷ cs) (piece Punct t) mark.rest) (sym s.begins.1)
    (other_found before Punct c more mark.rest cs p g (lines more (taken_well before c more mark.rest cs p g) n.1)
    (k, mark_longest c cs mark (bytes_of more) mark.rest m f (sym w) (ap bytes_of (sym g) ∙ bytes_append more mark.rest))
    (λ e. punct_no_header e))

one_byte_found : (before : Before) (c : Character) (cs : List Character) → Plain before c cs → Marked c cs → longest table c cs ≡ None
    → IsFound before (c ∷ cs) (piece Other (c ∷ [])) cs
one_byte_found before c cs p m h =
    other_found before Other c [] cs cs p refl refl (
      (
        m.no_name,
        or_none (is_digit c.code) _ m.no_number,
        quote_one_of c.code ∙ m.no_quote,
        λ text k. (let s = stands_bytes (c.code ∷ []) c cs (bytes_of cs) (λ e. some_empty c.code e) refl in
            none_stands table c cs (c.code ∷ []) s.0 h (alone_has c.code text k) s.1),
      ),
      ap (λ b. b || false) p.solid,
    )
    (λ e. other_no_header e)
  where
    some_empty : (b : ℕ) → b ∷ [] ≡ [] → ⊥
    some_empty b e = cc

    or_none : (a b : Bool) → (a || b) ≡ false → a ≡ false
    or_none true b h = absurd cc
    or_none false b h = refl

mark_found : (before : Before) (c : Character) (cs : List Character) (o : Option FoundPunctuator) → Plain before c cs → Marked c cs → longest table c cs ≡ o
    → Is before (c ∷ cs) (punctuator_or_byte c cs o)
mark_found before c cs None p m h = one_byte_found before c cs p m h
mark_found before c cs (Some mark) p m h = punct_found before c cs mark p m h

scan_found : (before : Before) (c : Character) (cs : List Character) (o : Option Scan) → Plain before c cs → ScanIs c.code cs o
    → Is before (c ∷ cs) (scan_or_punctuator c cs o)
scan_found before c cs None p k = mark_found before c cs (longest table c cs) p (record { no_quote = k.0; no_name = k.1; no_number = k.2 }) refl
scan_found before c cs (Some scan) p k =
    ⊎_elim
    (λ (q : (is_quote c.code ≡ true) × (scan ≡ InQuotes c.code false)). subst (λ s. Is before (c ∷ cs) (scan_or_punctuator c cs (Some s))) (sym q.1) (quote_found before c cs p q.0))
    (λ (k2 : ((is_nondigit c.code ≡ true) × (scan ≡ InName)) ⊎ ((begins_number c.code (bytes_of cs) ≡ true) × (scan ≡ InNumber c.code))). ⊎_elim
    (λ (q : (is_nondigit c.code ≡ true) × (scan ≡ InName)). subst (λ s. Is before (c ∷ cs) (scan_or_punctuator c cs (Some s))) (sym q.1) (name_found before c cs p q.0))
    (λ (q : (begins_number c.code (bytes_of cs) ≡ true) × (scan ≡ InNumber c.code)).
    subst (λ s. Is before (c ∷ cs) (scan_or_punctuator c cs (Some s))) (sym q.1) (number_found before c cs p q.0)) k2)
    k

plain_found : (before : Before) (c : Character) (cs : List Character) → Plain before c cs → Is before (c ∷ cs) (plain_piece c cs)
plain_found before c cs p =
    subst (Is before (c ∷ cs)) (sym (plain_is c cs (piece_scan c.code cs) refl))
    (scan_found before c cs (piece_scan c.code cs) p (scan_is c.code cs (piece_scan c.code cs) refl))

-- header names

pub header_form : (c : Character) (xs : List Character) (close : ℕ) → ((c.code ≡ 60) × (close ≡ 62)) ⊎ ((c.code ≡ 34) × (close ≡ 34)) → HeaderEnd close xs → IsHeaderName (bytes_of (c ∷ xs))
header_form c xs close k e = (
  bytes_of e.parts.inner,
  ⊎_elim
      (λ (q : (c.code ≡ 60) × (close ≡ 62)). inl (bytes_are 60 62 q.0 q.1, subst (λ b. lacks b (bytes_of e.parts.inner) ≡ true) q.1 e.lacking))
      (λ (q : (c.code ≡ 34) × (close ≡ 34)). inr (bytes_are 34 34 q.0 q.1, subst (λ b. lacks b (bytes_of e.parts.inner) ≡ true) q.1 e.lacking))
      k,
)
  where
    joined : (x y : ℕ) (xs ys : List ℕ) → x ≡ y → xs ≡ ys → x ∷ xs ≡ y ∷ ys
    joined x y xs ys e f = cc

    bytes_are : (b end : ℕ) → c.code ≡ b → close ≡ end → bytes_of (c ∷ xs) ≡ b ∷ (bytes_of e.parts.inner ++ end ∷ [])
    bytes_are b end f g =
        joined c.code b (bytes_of xs) (bytes_of e.parts.inner ++ end ∷ []) f
        (ap bytes_of e.parts.is ∙ bytes_behind e.parts.inner e.parts.close ∙ ap (λ x. bytes_of e.parts.inner ++ x ∷ []) (e.parts.code ∙ g))

pub open_header : (close : ℕ) → Closed ≡ InHeader close → ⊥
open_header close e = cc

pub closed_is : (t : Scan) → is_closed t ≡ true → t ≡ Closed
closed_is Closed e = refl
closed_is InName e = absurd cc
closed_is (InNumber b) e = absurd cc
closed_is (InQuotes q p) e = absurd cc
closed_is (InHeader q) e = absurd cc
closed_is InLineComment e = absurd cc
closed_is (InBlockComment b) e = absurd cc

header_found : (before : Before) (c : Character) (cs : List Character) (close : ℕ) → is_separator c ≡ false → NoMark c cs → header_close before.directive c.code ≡ Some close
    → is_closed (scanned (InHeader close) cs).end ≡ true
    → IsFound before (c ∷ cs) (piece Header (c ∷ (scanned (InHeader close) cs).taken)) (scanned (InHeader close) cs).rest
header_found before c cs close n m h e =
    let s = scanned (InHeader close) cs in let r = is_scanned (InHeader close) cs in let q = header_runs s.taken close s.end r.runs in
    let w = close_ways before.directive c.code close h in let x = closed_is s.end e in
    piece_found before Header c s.taken s.rest cs r.whole n q.0
    (⊎_elim (λ (k : (s.end ≡ Closed) × HeaderEnd close s.taken). header_form c s.taken close w.quotes k.1)
    (λ (k : (s.end ≡ InHeader close) × (lacks close (bytes_of s.taken) ≡ true)). absurd (open_header close (sym x ∙ k.0))) q.1)
    m (λ _. w.include) (λ f. absurd (f refl))

none_some : (o : Option ℕ) (close : ℕ) → o ≡ None → o ≡ Some close → ⊥
none_some o close e f = cc

some_same : (o : Option ℕ) (a b : ℕ) → o ≡ Some a → o ≡ Some b → a ≡ b
some_same o a b e f = cc

piece_by : (before : Before) (c : Character) (cs : List Character) (o : Option ℕ) → is_separator c ≡ false → NoMark c cs → list_all is_well (c ∷ cs) ≡ true
    → header_close before.directive c.code ≡ o → Is before (c ∷ cs) (header_or_plain c cs o)
piece_by before c cs None n m w h =
    plain_found before c cs (record {
      solid = n;
      no_mark = m;
      no_header = λ k. (let x = header_has before.directive c cs k in none_some (header_close before.directive c.code) x.close h x.closes);
      well = w;
    })
piece_by before c cs (Some close) n m w h =
    ⊎_elim
    (λ (e : is_closed (scanned (InHeader close) cs).end ≡ true).
    subst (Is before (c ∷ cs)) (sym (header_is c cs (scanned (InHeader close) cs) true e)) (header_found before c cs close n m h e))
    (λ (e : is_closed (scanned (InHeader close) cs).end ≡ false).
    subst (Is before (c ∷ cs)) (sym (header_is c cs (scanned (InHeader close) cs) false e)) (plain_found before c cs (record {
      solid = n;
      no_mark = m;
      no_header = λ k. (let x = header_has before.directive c cs k in
          both_ways (is_closed (scanned (InHeader close) cs).end) e
          (subst (λ b. is_closed (scanned (InHeader b) cs).end ≡ true) (some_same (header_close before.directive c.code) x.close close x.closes h) x.closed));
      well = w;
    })))
    (cases_Bool (is_closed (scanned (InHeader close) cs).end))

any_piece : (before : Before) (c : Character) (cs : List Character) → is_separator c ≡ false → NoMark c cs → list_all is_well (c ∷ cs) ≡ true
    → Is before (c ∷ cs) (piece_at before.directive c cs)
any_piece before c cs n m w =
    subst (Is before (c ∷ cs)) (sym (piece_is before.directive c cs (header_close before.directive c.code) refl))
    (piece_by before c cs (header_close before.directive c.code) n m w refl)

solid_by : (before : Before) (c d : Character) (cs : List Character) (o : Option Scan) → is_separator c ≡ false → list_all is_well (c ∷ d ∷ cs) ≡ true → comment_scan c.code d.code ≡ o
    → Is before (c ∷ d ∷ cs) (solid_at before.directive c (d ∷ cs))
solid_by before c d cs None n w h = subst (Is before (c ∷ d ∷ cs)) (sym (solid_piece before.directive c d cs h)) (any_piece before c (d ∷ cs) n h w)
solid_by before c d cs (Some scan) n w h = subst (Is before (c ∷ d ∷ cs)) (sym (solid_comment before.directive c d cs scan h)) (comment_found before c d cs scan h)

solid_found : (before : Before) (c : Character) (cs : List Character) → is_separator c ≡ false → list_all is_well (c ∷ cs) ≡ true → Is before (c ∷ cs) (solid_at before.directive c cs)
solid_found before c [] n w = subst (Is before (c ∷ [])) (sym (solid_end before.directive c)) (any_piece before c [] n tt w)
solid_found before c (d ∷ cs) n w = solid_by before c d cs (comment_scan c.code d.code) n w refl

pub element_sound : (before : Before) (cs : List Character) → list_all is_well cs ≡ true → Is before cs (element_at before.directive cs)
element_sound before [] w = subst (Is before []) (sym (element_end before.directive)) refl
element_sound before (c ∷ cs) w =
    ⊎_elim
    (λ (n : is_separator c ≡ true).
    subst (Is before (c ∷ cs)) (sym (element_is before.directive c cs ∙ cond-true (is_separator c) (found (separator c) cs) (solid_at before.directive c cs) n))
    (record { is_element = n; whole_text = refl; some_text = (c, [], refl) }))
    (λ (n : is_separator c ≡ false).
    subst (Is before (c ∷ cs)) (sym (element_is before.directive c cs ∙ cond-false (is_separator c) (found (separator c) cs) (solid_at before.directive c cs) n))
    (solid_found before c cs n w))
    (cases_Bool (is_separator c))
