-- What stands in front, case by case.
use Rattle.std.proofs.Common.{◌≡◌, ℕ, ◌-◌, List, [], ◌∷◌, ◌++◌, Option, Some, None, Bool, true, false, not, cond, ◌&&◌, ◌||◌, ◌==◌, refl, sym, ap, ◌∙◌, subst, arith, length, take, drop, length-append, append_assoc, codes, ◌⊎◌, inl, inr, ⊎_elim}
use Rattle.std.proofs.Math.Seq.{take-append_seam, drop-append_seam}
use Rattle.std.proofs.lemmas.Bool.{and_parts, and_from, cond-true, cond-false, cases_Bool, eqb-true}
use Rattle.std.proofs.lemmas.Bool.Decides.{nat_tests}
use Rattle.cx_tokens.specs.declared.token.Kind.TheVariants.{Name, Number, Char, String, Unclosed, Header}
use Rattle.cx_lex.specs.declared.before.Directive.{Directive}
use Rattle.cx_lex.specs.declared.before.Directive.TheVariants.{Nothing, Hash, Include}
use Rattle.cx_lex.specs.declared.character.Character.{Character}
use Rattle.cx_lex.specs.declared.scan.Scan.{Scan}
use Rattle.cx_lex.specs.declared.scan.Scan.TheVariants.{InName, InNumber, InQuotes, InHeader, InLineComment, InBlockComment, Closed}
use Rattle.cx_lex.specs.Characters.{is_digit, is_nondigit, is_one_of}
use Rattle.cx_lex.specs.Elements.{HasHeader, IsHeaderName, is_separator, lacks, on_one_line, piece, separator}
use Rattle.cx_lex.specs.Shapes.Fronts.{all_but_two, comment_at, comment_by, comment_scan, element_at, found, header_close, header_or, comment_or_piece, header_or_plain, last_two, nothing, piece_at, piece_scan, plain_piece, scan_or_punctuator, solid_at, starts_digit}
use Rattle.cx_lex.specs.Lines.{bytes_of}
use Rattle.cx_lex.specs.Elements.{BeginsWith}
use Rattle.cx_lex.specs.Shapes.Scanning.{Scanned, closed_kind, is_closed, scan_kind, scanned}
use Rattle.cx_lex.proofs.LongestLaws.{begins_number, digit_first}
use Rattle.cx_lex.proofs.Quotes.{header_closes, runs_header}
use Rattle.cx_lex.proofs.Runs.{runs_append, scanned_runs, stops_closed}

-- the equations

pub element_end : (d : Directive) → element_at d [] ≡ nothing
unfolding element_at
element_end d = refl

pub element_is : (d : Directive) (c : Character) (cs : List Character) → element_at d (c ∷ cs) ≡ cond (is_separator c) (found (separator c) cs) (solid_at d c cs)
unfolding element_at
element_is d c cs = refl

pub solid_end : (d : Directive) (c : Character) → solid_at d c [] ≡ piece_at d c []
unfolding solid_at
solid_end d c = refl

pub solid_piece : (d : Directive) (c e : Character) (cs : List Character) → comment_scan c.code e.code ≡ None → solid_at d c (e ∷ cs) ≡ piece_at d c (e ∷ cs)
unfolding solid_at
solid_piece d c e cs h = ap (comment_or_piece d c e cs) h

pub solid_comment : (d : Directive) (c e : Character) (cs : List Character) (scan : Scan) → comment_scan c.code e.code ≡ Some scan
    → solid_at d c (e ∷ cs) ≡ comment_at (c ∷ e ∷ []) (scanned scan cs)
unfolding solid_at
solid_comment d c e cs scan h = ap (comment_or_piece d c e cs) h

pub comment_is : (mark : List Character) (s : Scanned) (end : Scan) → s.end ≡ end → comment_at mark s ≡ comment_by mark s end
unfolding comment_at
comment_is mark s end e = ap (comment_by mark s) e

pub piece_is : (d : Directive) (c : Character) (cs : List Character) (o : Option ℕ) → header_close d c.code ≡ o → piece_at d c cs ≡ header_or_plain c cs o
unfolding piece_at
piece_is d c cs o e = ap (header_or_plain c cs) e

pub header_is : (c : Character) (cs : List Character) (s : Scanned) (b : Bool) → is_closed s.end ≡ b → header_or c cs s ≡ cond b (found (piece Header (c ∷ s.taken)) s.rest) (plain_piece c cs)
unfolding header_or
header_is c cs s b e = ap (λ t. cond t (found (piece Header (c ∷ s.taken)) s.rest) (plain_piece c cs)) e

pub plain_is : (c : Character) (cs : List Character) (o : Option Scan) → piece_scan c.code cs ≡ o → plain_piece c cs ≡ scan_or_punctuator c cs o
unfolding plain_piece
plain_is c cs o e = ap (scan_or_punctuator c cs) e

-- comments' marks

pub comment_ways : (b c : ℕ) (scan : Scan) → comment_scan b c ≡ Some scan
    → ((b ≡ 47) × (c ≡ 47) × (scan ≡ InLineComment)) ⊎ ((b ≡ 47) × (c ≡ 42) × (scan ≡ InBlockComment false))
unfolding comment_scan
comment_ways b c scan e =
    ⊎_elim
    (λ (x : (b == 47) ≡ true). ⊎_elim
    (λ (y : (c == 47) ≡ true). inl (eqb-true b 47 x, eqb-true c 47 y, same _ scan (sym (cond-true (b == 47) _ None x ∙ cond-true (c == 47) _ _ y) ∙ e)))
    (λ (y : (c == 47) ≡ false). ⊎_elim
    (λ (z : (c == 42) ≡ true). inr (eqb-true b 47 x, eqb-true c 42 z, same _ scan (sym (cond-true (b == 47) _ None x ∙ cond-false (c == 47) _ _ y ∙ cond-true (c == 42) _ None z) ∙ e)))
    (λ (z : (c == 42) ≡ false). absurd (differ scan (sym (cond-true (b == 47) _ None x ∙ cond-false (c == 47) _ _ y ∙ cond-false (c == 42) _ None z) ∙ e)))
    (cases_Bool (c == 42)))
    (cases_Bool (c == 47)))
    (λ (x : (b == 47) ≡ false). absurd (differ scan (sym (cond-false (b == 47) _ None x) ∙ e)))
    (cases_Bool (b == 47))
  where
    same : (a b : Scan) → Some a ≡ Some b → b ≡ a
    same a b e = cc

    differ : (a : Scan) → None ≡ Some a → ⊥
    differ a e = cc

pub line_mark : comment_scan 47 47 ≡ Some InLineComment
unfolding comment_scan
line_mark = refl

pub block_mark : comment_scan 47 42 ≡ Some (InBlockComment false)
unfolding comment_scan
block_mark = refl

-- no comment begins with a character
abbrev pub NoMark : Character → List Character → Type 0
NoMark c [] = Unit {0}
NoMark c (d ∷ ds) = comment_scan c.code d.code ≡ None

differs : (b c : ℕ) (scan : Scan) → comment_scan b c ≡ None → comment_scan b c ≡ Some scan → ⊥
differs b c scan e f = cc

pub mark_begins : (c : Character) (cs : List Character) (b : ℕ) (scan : Scan) → NoMark c cs → comment_scan 47 b ≡ Some scan → ¬ BeginsWith (47 ∷ b ∷ []) (bytes_of (c ∷ cs))
mark_begins c [] b scan n m = λ k. short c b k.0 k.1
  where
    short : (c : Character) (b : ℕ) (rest : List ℕ) → c.code ∷ [] ≡ 47 ∷ b ∷ rest → ⊥
    short c b rest e = cc
mark_begins c (d ∷ ds) b scan n m = λ k. both c d ds k.0 n k.1
  where
    both : (c d : Character) (ds : List Character) (rest : List ℕ) → comment_scan c.code d.code ≡ None → c.code ∷ d.code ∷ bytes_of ds ≡ 47 ∷ b ∷ rest → ⊥
    both c d ds rest n e =
        let f : c.code ≡ 47 = cc in let g : d.code ≡ b = cc in
        differs 47 b scan (subst (λ y. comment_scan 47 y ≡ None) g (subst (λ x. comment_scan x d.code ≡ None) f n)) m

pub no_mark : (c : Character) (cs : List Character) → ¬ BeginsWith (codes "//") (bytes_of (c ∷ cs)) → ¬ BeginsWith (codes "/*") (bytes_of (c ∷ cs)) → NoMark c cs
no_mark c [] l b = tt
no_mark c (d ∷ ds) l b = by (comment_scan c.code d.code) refl
  where
    heads : (x y : ℕ) (xs : List ℕ) (v w : ℕ) → x ≡ v → y ≡ w → x ∷ y ∷ xs ≡ v ∷ w ∷ xs
    heads x y xs v w e f = cc

    by : (o : Option Scan) → comment_scan c.code d.code ≡ o → comment_scan c.code d.code ≡ None
    by None e = e
    by (Some scan) e =
        ⊎_elim (λ k. absurd (l (bytes_of ds, heads c.code d.code (bytes_of ds) 47 47 k.0 k.1)))
        (λ k. absurd (b (bytes_of ds, heads c.code d.code (bytes_of ds) 47 42 k.0 k.1))) (comment_ways c.code d.code scan e)

-- header names

pub record Closes (d : Directive) (b close : ℕ) : Type 0 where
  pub include : d ≡ Include
  pub quotes : ((b ≡ 60) × (close ≡ 62)) ⊎ ((b ≡ 34) × (close ≡ 34))

pub close_ways : (d : Directive) (b close : ℕ) → header_close d b ≡ Some close → Closes d b close
unfolding header_close
close_ways Nothing b close e = absurd cc
close_ways Hash b close e = absurd cc
close_ways Include b close e =
    ⊎_elim
    (λ (x : (b == 60) ≡ true). record { include = refl; quotes = inl (eqb-true b 60 x, same _ close (sym (cond-true (b == 60) _ _ x) ∙ e)) })
    (λ (x : (b == 60) ≡ false). ⊎_elim
    (λ (y : (b == 34) ≡ true). record { include = refl; quotes = inr (eqb-true b 34 y, same _ close (sym (cond-false (b == 60) _ _ x ∙ cond-true (b == 34) _ None y) ∙ e)) })
    (λ (y : (b == 34) ≡ false). absurd (differ close (sym (cond-false (b == 60) _ _ x ∙ cond-false (b == 34) _ None y) ∙ e)))
    (cases_Bool (b == 34)))
    (cases_Bool (b == 60))
  where
    same : (a b : ℕ) → Some a ≡ Some b → b ≡ a
    same a b e = cc

    differ : (a : ℕ) → None ≡ Some a → ⊥
    differ a e = cc

angle_close : header_close Include 60 ≡ Some 62
unfolding header_close
angle_close = refl

quote_close : header_close Include 34 ≡ Some 34
unfolding header_close
quote_close = refl

-- characters whose bytes are two lists are two lists with these bytes
pub record Split (cs : List Character) (xs ys : List ℕ) : Type 0 where
  pub front : List Character
  pub back : List Character
  pub is : cs ≡ front ++ back
  pub front_bytes : bytes_of front ≡ xs
  pub back_bytes : bytes_of back ≡ ys

heads : (x y : ℕ) (xs ys : List ℕ) → x ∷ xs ≡ y ∷ ys → x ≡ y
heads x y xs ys e = cc

tails : (x y : ℕ) (xs ys : List ℕ) → x ∷ xs ≡ y ∷ ys → xs ≡ ys
tails x y xs ys e = cc

joined : (x y : ℕ) (xs ys : List ℕ) → x ≡ y → xs ≡ ys → x ∷ xs ≡ y ∷ ys
joined x y xs ys e f = cc

pub split_bytes : (cs : List Character) (xs ys : List ℕ) → bytes_of cs ≡ xs ++ ys → Split cs xs ys
split_bytes cs [] ys e = record { front = []; back = cs; is = refl; front_bytes = refl; back_bytes = e }
split_bytes [] (x ∷ xs) ys e = absurd cc
split_bytes (c ∷ cs) (x ∷ xs) ys e =
    let s = split_bytes cs xs ys (tails c.code x (bytes_of cs) (xs ++ ys) e) in
    record {
      front = c ∷ s.front;
      back = s.back;
      is = ap (λ l. c ∷ l) s.is;
      front_bytes = joined c.code x (bytes_of s.front) xs (heads c.code x (bytes_of cs) (xs ++ ys) e) s.front_bytes;
      back_bytes = s.back_bytes;
    }

-- one character with this byte
pub record One (cs : List Character) (b : ℕ) : Type 0 where
  pub character : Character
  pub is : cs ≡ character ∷ []
  pub code : character.code ≡ b

pub one_of : (cs : List Character) (b : ℕ) → bytes_of cs ≡ b ∷ [] → One cs b
one_of [] b e = absurd cc
one_of (c ∷ []) b e = record { character = c; is = refl; code = heads c.code b [] [] e }
one_of (c ∷ d ∷ ds) b e = absurd cc

-- the end of a header name or a quoted text: characters on one line with these bytes, and the one that ends them
pub record Ended (xs : List Character) (inner : List ℕ) (b : ℕ) : Type 0 where
  pub front : List Character
  pub last : Character
  pub is : xs ≡ front ++ last ∷ []
  pub bytes : bytes_of front ≡ inner
  pub code : last.code ≡ b
  pub front_line : on_one_line front ≡ true
  pub last_line : last.in_newline ≡ false

line_parts : (xs ys : List Character) → on_one_line (xs ++ ys) ≡ true → (on_one_line xs ≡ true) × (on_one_line ys ≡ true)
line_parts [] ys h = (refl, h)
line_parts (x ∷ xs) ys h =
    let p = and_parts (not x.in_newline) (on_one_line (xs ++ ys)) h in let q = line_parts xs ys p.1 in (and_from _ _ p.0 q.0, q.1)

not_is : (b : Bool) → not b ≡ true → b ≡ false
not_is true e = absurd cc
not_is false e = refl

pub ended : (xs : List Character) (inner : List ℕ) (b : ℕ) → bytes_of xs ≡ inner ++ b ∷ [] → on_one_line xs ≡ true → Ended xs inner b
ended xs inner b e l =
    let s = split_bytes xs inner (b ∷ []) e in let o = one_of s.back b s.back_bytes in
    let w = line_parts s.front s.back (subst (λ t. on_one_line t ≡ true) s.is l) in
    let v = and_parts (not o.character.in_newline) true (subst (λ t. on_one_line t ≡ true) o.is w.1) in
    record {
      front = s.front;
      last = o.character;
      is = s.is ∙ ap (λ t. s.front ++ t) o.is;
      bytes = s.front_bytes;
      code = o.code;
      front_line = w.0;
      last_line = not_is _ v.0;
    }

-- a header name is read as one
pub record HeaderScan (c : Character) (xs rest : List Character) : Type 0 where
  pub close : ℕ
  pub closes : header_close Include c.code ≡ Some close
  pub scans : scanned (InHeader close) (xs ++ rest) ≡ record { taken = xs; end = Closed; rest = rest }

header_by : (c : Character) (xs rest : List Character) (close : ℕ) (inner : List ℕ) → header_close Include c.code ≡ Some close → Ended xs inner close
    → lacks close inner ≡ true → HeaderScan c xs rest
header_by c xs rest close inner h e l = record {
  close = close;
  closes = h;
  scans =
      ap (λ t. scanned (InHeader close) (t ++ rest)) e.is
      ∙ scanned_runs (InHeader close) Closed (e.front ++ e.last ∷ []) rest
      (runs_append (InHeader close) (InHeader close) Closed e.front (e.last ∷ [])
      (runs_header e.front close e.front_line (subst (λ t. lacks close t ≡ true) (sym e.bytes) l)) (header_closes close e.last e.last_line e.code))
      (stops_closed rest)
      ∙ ap (λ (t : List Character). record { taken = t; end = Closed; rest = rest }) (sym e.is);
}

line_tail : (c : Character) (xs : List Character) → on_one_line (c ∷ xs) ≡ true → on_one_line xs ≡ true
line_tail c xs h = (and_parts (not c.in_newline) (on_one_line xs) h).1

pub header_scan : (c : Character) (xs rest : List Character) → on_one_line (c ∷ xs) ≡ true → IsHeaderName (bytes_of (c ∷ xs)) → HeaderScan c xs rest
header_scan c xs rest l (inner, inl (e, k)) =
    header_by c xs rest 62 inner (ap (header_close Include) (heads c.code 60 _ _ e) ∙ angle_close)
    (ended xs inner 62 (tails c.code 60 (bytes_of xs) (inner ++ 62 ∷ []) e) (line_tail c xs l)) k
header_scan c xs rest l (inner, inr (e, k)) =
    header_by c xs rest 34 inner (ap (header_close Include) (heads c.code 34 _ _ e) ∙ quote_close)
    (ended xs inner 34 (tails c.code 34 (bytes_of xs) (inner ++ 34 ∷ []) e) (line_tail c xs l)) k

pub no_empty_name : IsHeaderName [] → ⊥
no_empty_name (inner, inl (e, k)) = absurd cc
no_empty_name (inner, inr (e, k)) = absurd cc

-- where a header name stands, it is read
pub record HeaderHere (d : Directive) (c : Character) (cs : List Character) : Type 0 where
  pub close : ℕ
  pub closes : header_close d c.code ≡ Some close
  pub closed : is_closed (scanned (InHeader close) cs).end ≡ true

first_of : (c d : Character) (cs ds : List Character) → c ∷ cs ≡ d ∷ ds → c ≡ d
first_of c d cs ds e = cc

rest_of_list : (c d : Character) (cs ds : List Character) → c ∷ cs ≡ d ∷ ds → cs ≡ ds
rest_of_list c d cs ds e = cc

pub header_has : (d : Directive) (c : Character) (cs : List Character) → HasHeader d (c ∷ cs) → HeaderHere d c cs
header_has Nothing c cs h = absurd h
header_has Hash c cs h = absurd h
header_has Include c cs ([], rest, e, l, n) = absurd (no_empty_name n)
header_has Include c cs (x ∷ xs, rest, e, l, n) =
    let s = header_scan x xs rest l n in
    record {
      close = s.close;
      closes = ap (λ (y : Character). header_close Include y.code) (first_of c x cs (xs ++ rest) e) ∙ s.closes;
      closed =
          ap (λ t. is_closed (scanned (InHeader s.close) t).end) (rest_of_list c x cs (xs ++ rest) e) ∙ ap (λ (r : Scanned). is_closed r.end) s.scans;
    }

-- pieces by their first byte

pub digit_starts : (cs : List Character) → starts_digit cs ≡ digit_first (bytes_of cs)
digit_starts [] = refl
digit_starts (c ∷ cs) = refl

abbrev pub is_quote : ℕ → Bool
is_quote b = (b == 39) || (b == 34)

-- how a piece that is no header name is read
abbrev pub ScanIs : ℕ → List Character → Option Scan → Type 0
ScanIs b cs None = (is_quote b ≡ false) × (is_nondigit b ≡ false) × (begins_number b (bytes_of cs) ≡ false)
ScanIs b cs (Some scan) =
    ((is_quote b ≡ true) × (scan ≡ InQuotes b false)) ⊎ (((is_nondigit b ≡ true) × (scan ≡ InName)) ⊎ ((begins_number b (bytes_of cs) ≡ true) × (scan ≡ InNumber b)))

number_is : (b : ℕ) (cs : List Character) → (is_digit b || ((b == 46) && starts_digit cs)) ≡ begins_number b (bytes_of cs)
number_is b cs = ap (λ t. is_digit b || ((b == 46) && t)) (digit_starts cs)

scan_ways : (b : ℕ) (cs : List Character) → ScanIs b cs (piece_scan b cs)
unfolding piece_scan
scan_ways b cs =
    ⊎_elim
    (λ (q : is_quote b ≡ true). subst (ScanIs b cs) (sym (cond-true (is_quote b) _ _ q)) (inl (q, refl)))
    (λ (q : is_quote b ≡ false). ⊎_elim
    (λ (n : is_nondigit b ≡ true). subst (ScanIs b cs) (sym (cond-false (is_quote b) _ _ q ∙ cond-true (is_nondigit b) _ _ n)) (inr (inl (n, refl))))
    (λ (n : is_nondigit b ≡ false). ⊎_elim
    (λ (d : (is_digit b || ((b == 46) && starts_digit cs)) ≡ true).
    subst (ScanIs b cs) (sym (cond-false (is_quote b) _ _ q ∙ cond-false (is_nondigit b) _ _ n ∙ cond-true _ _ _ d)) (inr (inr (sym (number_is b cs) ∙ d, refl))))
    (λ (d : (is_digit b || ((b == 46) && starts_digit cs)) ≡ false).
    subst (ScanIs b cs) (sym (cond-false (is_quote b) _ _ q ∙ cond-false (is_nondigit b) _ _ n ∙ cond-false _ _ _ d)) (q, n, sym (number_is b cs) ∙ d))
    (cases_Bool (is_digit b || ((b == 46) && starts_digit cs))))
    (cases_Bool (is_nondigit b)))
    (cases_Bool (is_quote b))

pub scan_is : (b : ℕ) (cs : List Character) (o : Option Scan) → piece_scan b cs ≡ o → ScanIs b cs o
scan_is b cs o e = subst (ScanIs b cs) e (scan_ways b cs)

pub scan_quote : (b : ℕ) (cs : List Character) → is_quote b ≡ true → piece_scan b cs ≡ Some (InQuotes b false)
unfolding piece_scan
scan_quote b cs q = cond-true (is_quote b) _ _ q

pub scan_name : (b : ℕ) (cs : List Character) → is_quote b ≡ false → is_nondigit b ≡ true → piece_scan b cs ≡ Some InName
unfolding piece_scan
scan_name b cs q n = cond-false (is_quote b) _ _ q ∙ cond-true (is_nondigit b) _ _ n

pub scan_number : (b : ℕ) (cs : List Character) → is_quote b ≡ false → is_nondigit b ≡ false → begins_number b (bytes_of cs) ≡ true → piece_scan b cs ≡ Some (InNumber b)
unfolding piece_scan
scan_number b cs q n d = cond-false (is_quote b) _ _ q ∙ cond-false (is_nondigit b) _ _ n ∙ cond-true _ _ _ (number_is b cs ∙ d)

pub scan_none : (b : ℕ) (cs : List Character) → is_quote b ≡ false → is_nondigit b ≡ false → begins_number b (bytes_of cs) ≡ false → piece_scan b cs ≡ None
unfolding piece_scan
scan_none b cs q n d = cond-false (is_quote b) _ _ q ∙ cond-false (is_nondigit b) _ _ n ∙ cond-false _ _ _ (number_is b cs ∙ d)

pub kind_name : (b : ℕ) → scan_kind b InName ≡ Name
unfolding scan_kind
kind_name b = refl

pub kind_number : (b last : ℕ) → scan_kind b (InNumber last) ≡ Number
unfolding scan_kind
kind_number b last = refl

pub kind_open : (b q : ℕ) (p : Bool) → scan_kind b (InQuotes q p) ≡ Unclosed
unfolding scan_kind
kind_open b q p = refl

pub kind_char : (b : ℕ) → b ≡ 39 → scan_kind b Closed ≡ Char
unfolding scan_kind
kind_char b e = ap closed_kind e

pub kind_string : (b : ℕ) → b ≡ 34 → scan_kind b Closed ≡ String
unfolding scan_kind
kind_string b e = ap closed_kind e

pub quote_ways : (b : ℕ) → is_quote b ≡ true → (b ≡ 39) ⊎ (b ≡ 34)
quote_ways b q =
    ⊎_elim (λ (e : (b == 39) ≡ true). inl (eqb-true b 39 e)) (λ (e : (b == 39) ≡ false). inr (grind (arith, nat_tests))) (cases_Bool (b == 39))

pub quote_one_of : (b : ℕ) → is_one_of (codes "'\"") b ≡ is_quote b
quote_one_of b =
    ⊎_elim (λ (e : (b == 39) ≡ true). ap (λ t. t || ((b == 34) || false)) e ∙ sym (ap (λ t. t || (b == 34)) e))
    (λ (e : (b == 39) ≡ false). ap (λ t. t || ((b == 34) || false)) e ∙ or_nothing (b == 34) ∙ sym (ap (λ t. t || (b == 34)) e)) (cases_Bool (b == 39))
  where
    or_nothing : (t : Bool) → (t || false) ≡ t
    or_nothing true = refl
    or_nothing false = refl

-- the last two characters

pub by_two : (text : List Character) (a b : Character) (xs : List Character) → xs ≡ (text ++ a ∷ []) ++ b ∷ [] → (all_but_two xs ≡ text) × (last_two xs ≡ a ∷ b ∷ [])
by_two text a b xs e =
    let f : xs ≡ text ++ a ∷ b ∷ [] = e ∙ append_assoc text (a ∷ []) (b ∷ []) in
    let n : length xs - 2 ≡ length text = (let g = ap length f ∙ length-append text (a ∷ b ∷ []) in omega arith) in (
      ap (λ k. take k xs) n ∙ ap (take (length text)) f ∙ take-append_seam text (a ∷ b ∷ []),
      ap (λ k. drop k xs) n ∙ ap (drop (length text)) f ∙ drop-append_seam text (a ∷ b ∷ []),
    )
