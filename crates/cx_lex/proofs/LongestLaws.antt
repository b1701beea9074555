-- Which piece is the longest that stands in front of a text.
use Rattle.std.proofs.Common.{◌≡◌, ℕ, zero, suc, ◌<◌, ◌≤◌, List, [], ◌∷◌, ◌++◌, Option, Some, None, Bool, true, false, not, ◌&&◌, ◌||◌, ◌==◌, nat_le, refl, sym, ap, ◌∙◌, subst, arith, length, get_or, Contains, codes, bytes_eq, inl, inr, ⊎_elim}
use Rattle.std.specs.List.{list_all, list_any}
use Rattle.std.proofs.lemmas.Bool.{and_parts, and_from, both_ways, cond-true, cases_Bool, eqb-true, or_cases, not-true}
use Rattle.std.proofs.lemmas.Bool.Decides.{nat_tests}
use Rattle.std.proofs.lemmas.Slice.Eq.{bytes_eq-Decides}
use Rattle.cx_tokens.specs.declared.token.Kind.{Kind}
use Rattle.cx_tokens.specs.declared.token.Kind.TheVariants.{Name, Number, Punct}
use Rattle.cx_lex.specs.declared.character.Character.{Character}
use Rattle.cx_lex.specs.Characters.{is_digit, is_nondigit, is_one_of, is_word}
use Rattle.cx_lex.specs.Forms.{BeginsWithDigit, GoesOn, IsLongest, IsPpNumber, IsToken, goes_on, punctuators}
use Rattle.cx_lex.specs.Lines.{bytes_of}
use Rattle.cx_lex.specs.Shapes.Scanning.{FoundPunctuator, rest_after, rest_after_begin, longest, punctuator_or, table}
use Rattle.cx_lex.proofs.FormLaws.{all_right, digit_word, nondigit_word, punctuator_no_word}
use Rattle.cx_lex.proofs.Runs.{EndsNumber, NoWord, last_of}

-- names

name_no_digit : (b : ℕ) → is_nondigit b ≡ true → is_digit b ≡ true → ⊥
unfolding is_nondigit is_digit
name_no_digit b n d = grind (arith, nat_tests)

name_no_dot : (b : ℕ) → is_nondigit b ≡ true → b ≡ 46 → ⊥
unfolding is_nondigit
name_no_dot b n e = grind (arith, nat_tests)

pub head_same : (b c : ℕ) (bs cs : List ℕ) → b ∷ bs ≡ c ∷ cs → b ≡ c
head_same b c bs cs e = cc

pub tail_same : (b c : ℕ) (bs cs : List ℕ) → b ∷ bs ≡ c ∷ cs → bs ≡ cs
tail_same b c bs cs e = cc

no_longer_name : (kind : Kind) (b : ℕ) (bs : List ℕ) (d : ℕ) (ds : List ℕ) → is_nondigit b ≡ true → is_word d ≡ false → IsToken kind (b ∷ (bs ++ d ∷ ds)) → ⊥
no_longer_name Name b bs d ds n w t = both_ways (is_word d) w (and_parts (is_word d) (list_all is_word ds) (all_right is_word bs (d ∷ ds) t.1)).0
no_longer_name Number b bs d ds n w t =
    ⊎_elim (λ (u : BeginsWithDigit (b ∷ (bs ++ d ∷ ds))). name_no_digit b n u.0)
    (λ (u : (rest : List ℕ) × (b ∷ (bs ++ d ∷ ds) ≡ codes "." ++ rest) × BeginsWithDigit rest). name_no_dot b n (head_same b 46 _ _ u.1)) t
no_longer_name Punct b bs d ds n w t = both_ways (is_word b) (punctuator_no_word b (bs ++ d ∷ ds) t) (nondigit_word b n)
no_longer_name _ b bs d ds n w t = t

pub name_longest : (b : ℕ) (bs rest : List ℕ) → is_nondigit b ≡ true → NoWord rest → IsLongest (b ∷ bs) rest
name_longest b bs rest n s = λ kind more others e t. shown kind more others e t
  where
    shown : (kind : Kind) (more others : List ℕ) → rest ≡ more ++ others → IsToken kind (b ∷ (bs ++ more)) → more ≡ []
    shown kind [] others e t = refl
    shown kind (d ∷ ds) others e t = absurd (no_longer_name kind b bs d ds n (subst NoWord e s) t)

all_behind : (bs : List ℕ) (d : ℕ) → list_all is_word bs ≡ true → is_word d ≡ true → list_all is_word (bs ++ d ∷ []) ≡ true
all_behind [] d h w = and_from _ _ w refl
all_behind (b ∷ bs) d h w = let p = and_parts (is_word b) (list_all is_word bs) h in and_from _ _ p.0 (all_behind bs d p.1 w)

pub longest_name : (b : ℕ) (bs rest : List ℕ) → is_nondigit b ≡ true → list_all is_word bs ≡ true → IsLongest (b ∷ bs) rest → NoWord rest
longest_name b bs [] n a l = tt
longest_name b bs (d ∷ ds) n a l =
    ⊎_elim
    (λ (w : is_word d ≡ true). absurd (some_more (l Name (d ∷ []) ds refl (n, all_behind bs d a w))))
    (λ (w : is_word d ≡ false). w)
    (cases_Bool (is_word d))
  where
    some_more : d ∷ [] ≡ [] → ⊥
    some_more e = cc

-- numbers

abbrev pub digit_first : List ℕ → Bool
digit_first [] = false
digit_first (b ∷ bs) = is_digit b

-- a number begins with this byte in front of these
abbrev pub begins_number : ℕ → List ℕ → Bool
begins_number b bs = is_digit b || ((b == 46) && digit_first bs)

pub dot_goes_on : (b : ℕ) → is_digit b ≡ true → goes_on 46 b ≡ true
unfolding goes_on is_word
dot_goes_on b d = grind arith

pub number_form : (b : ℕ) (bs : List ℕ) → begins_number b bs ≡ true → GoesOn b bs → IsPpNumber (b ∷ bs)
number_form b bs n g = ⊎_elim (λ (d : is_digit b ≡ true). inl (d, g)) (λ (d : ((b == 46) && digit_first bs) ≡ true). let p = and_parts (b == 46) (digit_first bs) d in inr (dotted b bs p.0 p.1 g)) (or_cases _ _ n)
  where
    dotted : (b : ℕ) (bs : List ℕ) → (b == 46) ≡ true → digit_first bs ≡ true → GoesOn b bs → (rest : List ℕ) × (b ∷ bs ≡ codes "." ++ rest) × BeginsWithDigit rest
    dotted b [] e d g = absurd cc
    dotted b (c ∷ cs) e d g = (c ∷ cs, ap (λ x. x ∷ c ∷ cs) (eqb-true b 46 e), (d, g.1))

-- what a number is made of
pub record NumberParts (text : List ℕ) : Type 0 where
  pub first : ℕ
  pub others : List ℕ
  pub is : text ≡ first ∷ others
  pub begins : begins_number first others ≡ true
  pub goes : GoesOn first others

pub or_left : (a b : Bool) → a ≡ true → (a || b) ≡ true
or_left true b h = refl
or_left false b h = absurd cc

or_right : (a b : Bool) → b ≡ true → (a || b) ≡ true
or_right true b h = refl
or_right false b h = h

dot_number : (rest : List ℕ) → BeginsWithDigit rest → NumberParts (46 ∷ rest)
dot_number [] d = absurd d
dot_number (b ∷ bs) d =
    record { first = 46; others = b ∷ bs; is = refl; begins = or_right (is_digit 46) (digit_first (b ∷ bs)) d.0; goes = (dot_goes_on b d.0, d.1) }

pub number_parts : (text : List ℕ) → IsPpNumber text → NumberParts text
number_parts [] (inl d) = absurd d
number_parts (b ∷ bs) (inl d) = record { first = b; others = bs; is = refl; begins = or_left (is_digit b) _ d.0; goes = d.1 }
number_parts text (inr d) = subst NumberParts (sym d.1) (dot_number d.0 d.2)

goes_more : (last : ℕ) (bs : List ℕ) (d : ℕ) (ds : List ℕ) → GoesOn last (bs ++ d ∷ ds) → goes_on (last_of last bs) d ≡ true
goes_more last [] d ds g = g.0
goes_more last (b ∷ bs) d ds g = goes_more b bs d ds g.1

goes_behind : (last : ℕ) (bs : List ℕ) (d : ℕ) → GoesOn last bs → goes_on (last_of last bs) d ≡ true → GoesOn last (bs ++ d ∷ [])
goes_behind last [] d g h = (h, tt)
goes_behind last (b ∷ bs) d g h = (g.0, goes_behind b bs d g.1 h)

digit_no_dot : (b : ℕ) → is_digit b ≡ true → b ≡ 46 → ⊥
unfolding is_digit
digit_no_dot b d e = grind (arith, nat_tests)

-- the punctuators

abbrev pub has : List (List ℕ) → List ℕ → Bool
has ws w = list_any (λ v. bytes_eq w v) ws

-- what each punctuator is like
abbrev no_number : List ℕ → Bool
no_number [] = true
no_number (b ∷ []) = not (is_one_of (codes "'\"") b)
no_number (b ∷ c ∷ cs) = not (is_one_of (codes "'\"") b) && not ((b == 46) && is_digit c)

abbrev first_alone : List ℕ → Bool
first_alone [] = false
first_alone (b ∷ bs) = has table (b ∷ [])

all_no_number : list_all no_number punctuators ≡ true
unfolding punctuators is_digit
all_no_number = refl

all_alone : list_all first_alone punctuators ≡ true
unfolding punctuators
all_alone = refl

all_in_table : list_all (has table) punctuators ≡ true
unfolding punctuators
all_in_table = refl

all_in_punctuators : list_all (has punctuators) table ≡ true
unfolding punctuators
all_in_punctuators = refl

tested_at : (test : List ℕ → Bool) (words : List (List ℕ)) (k : ℕ) (w : List ℕ) → list_all test words ≡ true → k < length words → get_or words k w ≡ w → test w ≡ true
tested_at test [] k w h l e = absurd (omega arith)
tested_at test (x ∷ xs) zero w h l e = let p = and_parts _ _ h in subst (λ v. test v ≡ true) e p.0
tested_at test (x ∷ xs) (suc k) w h l e = let p = and_parts (test x) (list_all test xs) h in tested_at test xs k w p.1 (omega arith) e

tested : (test : List ℕ → Bool) (w : List ℕ) → list_all test punctuators ≡ true → Contains punctuators w → test w ≡ true
tested test w h k = tested_at test punctuators k.0 w h k.1 k.2

bytes_same : (a b : List ℕ) → bytes_eq a b ≡ true → a ≡ b
bytes_same a b e = (bytes_eq-Decides a b).0 e

any_tested : (test : List ℕ → Bool) (words : List (List ℕ)) (w : List ℕ) → list_all test words ≡ true → has words w ≡ true → test w ≡ true
any_tested test [] w h a = absurd cc
any_tested test (x ∷ xs) w h a =
    let p = and_parts (test x) (list_all test xs) h in
    ⊎_elim (λ (e : bytes_eq w x ≡ true). subst (λ v. test v ≡ true) (sym (bytes_same w x e)) p.0)
    (λ (e : has xs w ≡ true). any_tested test xs w p.1 e) (or_cases (bytes_eq w x) (has xs w) a)

has_contains : (words : List (List ℕ)) (w : List ℕ) → has words w ≡ true → Contains words w
has_contains [] w h = absurd cc
has_contains (x ∷ xs) w h =
    ⊎_elim (λ (e : bytes_eq w x ≡ true). (0, omega arith, sym (bytes_same w x e)))
    (λ (e : has xs w ≡ true). let k = has_contains xs w e in (suc k.0, (let l = k.1 in omega arith), k.2)) (or_cases (bytes_eq w x) (has xs w) h)

pub contains_has : (w : List ℕ) → Contains punctuators w → has table w ≡ true
contains_has w h = tested (has table) w all_in_table h

pub table_contains : (w : List ℕ) → has table w ≡ true → Contains punctuators w
table_contains w h = has_contains punctuators w (any_tested (has punctuators) table w all_in_punctuators h)

all_no_break : list_all (list_all (λ b. not ((b == 10) || (b == 13)))) punctuators ≡ true
unfolding punctuators
all_no_break = refl

pub punctuator_no_break : (w : List ℕ) → Contains punctuators w → list_all (λ b. not ((b == 10) || (b == 13))) w ≡ true
punctuator_no_break w h = tested (list_all (λ b. not ((b == 10) || (b == 13)))) w all_no_break h

abbrev first_no_blank : List ℕ → Bool
first_no_blank [] = true
first_no_blank (b ∷ bs) = not (((b == 32) || (b == 9)) || ((b == 11) || (b == 12)))

all_no_blank : list_all first_no_blank punctuators ≡ true
unfolding punctuators
all_no_blank = refl

pub punctuator_no_blank : (b : ℕ) (bs : List ℕ) → Contains punctuators (b ∷ bs) → not (((b == 32) || (b == 9)) || ((b == 11) || (b == 12))) ≡ true
punctuator_no_blank b bs h = tested first_no_blank (b ∷ bs) all_no_blank h

pub punctuator_no_number : (b : ℕ) (bs : List ℕ) → Contains punctuators (b ∷ bs) → (is_one_of (codes "'\"") b ≡ false) × (((b == 46) && digit_first bs) ≡ false)
punctuator_no_number b [] h = (not-true _ (tested no_number (b ∷ []) all_no_number h), none (b == 46))
  where
    none : (b : Bool) → (b && false) ≡ false
    none true = refl
    none false = refl
punctuator_no_number b (c ∷ cs) h =
    let p = and_parts (not (is_one_of (codes "'\"") b)) (not ((b == 46) && is_digit c)) (tested no_number (b ∷ c ∷ cs) all_no_number h) in (not-true _ p.0, not-true _ p.1)

no_longer_number : (kind : Kind) (b : ℕ) (bs : List ℕ) (d : ℕ) (ds : List ℕ) → begins_number b bs ≡ true → goes_on (last_of b bs) d ≡ false
    → IsToken kind (b ∷ (bs ++ d ∷ ds)) → ⊥
no_longer_number Name b bs d ds n w t =
    ⊎_elim (λ (u : is_digit b ≡ true). name_no_digit b t.0 u) (λ (u : ((b == 46) && digit_first bs) ≡ true). name_no_dot b t.0 (eqb-true b 46 (and_parts (b == 46) _ u).0)) (or_cases _ _ n)
no_longer_number Number b bs d ds n w t = let p = number_parts (b ∷ (bs ++ d ∷ ds)) t in both_ways (goes_on (last_of b bs) d) w (goes_more b bs d ds (moved b p.first (bs ++ d ∷ ds) p.others p.is p.goes))
  where
    moved : (b c : ℕ) (bs cs : List ℕ) → b ∷ bs ≡ c ∷ cs → GoesOn c cs → GoesOn b bs
    moved b c bs cs e g = subst (λ x. GoesOn x bs) (sym (head_same b c bs cs e)) (subst (GoesOn c) (sym (tail_same b c bs cs e)) g)
no_longer_number Punct b bs d ds n w t =
    ⊎_elim (λ (u : is_digit b ≡ true). both_ways (is_word b) (punctuator_no_word b (bs ++ d ∷ ds) t) (digit_word b u))
    (λ (u : ((b == 46) && digit_first bs) ≡ true).
    let p = and_parts (b == 46) (digit_first bs) u in
    both_ways ((b == 46) && digit_first (bs ++ d ∷ ds)) (punctuator_no_number b (bs ++ d ∷ ds) t).1 (and_from _ _ p.0 (first_more bs d ds p.1))) (or_cases _ _ n)
  where
    first_more : (bs : List ℕ) (d : ℕ) (ds : List ℕ) → digit_first bs ≡ true → digit_first (bs ++ d ∷ ds) ≡ true
    first_more [] d ds h = absurd cc
    first_more (b ∷ bs) d ds h = h
no_longer_number _ b bs d ds n w t = t

pub number_longest : (b : ℕ) (bs rest : List ℕ) → begins_number b bs ≡ true → EndsNumber (last_of b bs) rest → IsLongest (b ∷ bs) rest
number_longest b bs rest n s = λ kind more others e t. shown kind more others e t
  where
    shown : (kind : Kind) (more others : List ℕ) → rest ≡ more ++ others → IsToken kind (b ∷ (bs ++ more)) → more ≡ []
    shown kind [] others e t = refl
    shown kind (d ∷ ds) others e t = absurd (no_longer_number kind b bs d ds n (subst (EndsNumber (last_of b bs)) e s) t)

first_behind : (b : ℕ) (bs : List ℕ) (d : ℕ) → begins_number b bs ≡ true → begins_number b (bs ++ d ∷ []) ≡ true
first_behind b [] d h = ⊎_elim (λ (e : is_digit b ≡ true). or_left _ _ e) (λ (e : ((b == 46) && false) ≡ true). absurd (let p = and_parts (b == 46) false e in cc)) (or_cases (is_digit b) ((b == 46) && false) h)
first_behind b (c ∷ cs) d h = h

pub longest_number : (b : ℕ) (bs rest : List ℕ) → begins_number b bs ≡ true → GoesOn b bs → IsLongest (b ∷ bs) rest → EndsNumber (last_of b bs) rest
longest_number b bs [] n g l = tt
longest_number b bs (d ∷ ds) n g l =
    ⊎_elim
    (λ (w : goes_on (last_of b bs) d ≡ true). absurd (some_more (l Number (d ∷ []) ds refl (number_form b (bs ++ d ∷ []) (first_behind b bs d n) (goes_behind b bs d g w)))))
    (λ (w : goes_on (last_of b bs) d ≡ false). w)
    (cases_Bool (goes_on (last_of b bs) d))
  where
    some_more : d ∷ [] ≡ [] → ⊥
    some_more e = cc

-- the first word of the table that stands in front

abbrev falling : ℕ → List (List ℕ) → Bool
falling n [] = true
falling n (w ∷ ws) = nat_le (length w) n && falling (length w) ws

table_falls : falling 4 table ≡ true
table_falls = refl

le_of : (m n : ℕ) → nat_le m n ≡ true → m ≤ n
le_of m n e = grind (arith, nat_tests)

falls_below : (n : ℕ) (ws : List (List ℕ)) (w : List ℕ) → falling n ws ≡ true → has ws w ≡ true → length w ≤ n
falls_below n [] w f h = absurd cc
falls_below n (v ∷ vs) w f h =
    let p = and_parts (nat_le (length v) n) (falling (length v) vs) f in let q = le_of (length v) n p.0 in
    ⊎_elim (λ (e : bytes_eq w v ≡ true). subst (λ x. length x ≤ n) (sym (bytes_same w v e)) q)
    (λ (e : has vs w ≡ true). let r = falls_below (length v) vs w p.1 e in omega arith) (or_cases (bytes_eq w v) (has vs w) h)

longest_step : (w : List ℕ) (ws : List (List ℕ)) (c : Character) (cs : List Character) → longest (w ∷ ws) c cs ≡ punctuator_or (rest_after_begin w c cs) w (longest ws c cs)
unfolding longest
longest_step w ws c cs = refl

longest_end : (c : Character) (cs : List Character) → longest [] c cs ≡ None
unfolding longest
longest_end c cs = refl

-- the word that was found is the first, and there is one where one stands
pub record IsFirst (ws : List (List ℕ)) (c : Character) (cs : List Character) (mark : FoundPunctuator) : Type 0 where
  pub in_words : has ws mark.word ≡ true
  pub stands : rest_after_begin mark.word c cs ≡ Some mark.rest
  pub most : (w : List ℕ) (rest : List Character) → has ws w ≡ true → rest_after_begin w c cs ≡ Some rest → length w ≤ length mark.word

bytes_self : (a : List ℕ) → bytes_eq a a ≡ true
bytes_self a = (bytes_eq-Decides a a).1 refl

some_is : (a b : FoundPunctuator) → Some a ≡ Some b → a ≡ b
some_is a b e = cc

first_by : (n : ℕ) (v : List ℕ) (vs : List (List ℕ)) (c : Character) (cs : List Character) (mark : FoundPunctuator) (o : Option (List Character))
    → falling n (v ∷ vs) ≡ true → rest_after_begin v c cs ≡ o → punctuator_or o v (longest vs c cs) ≡ Some mark
    → (falling (length v) vs ≡ true → longest vs c cs ≡ Some mark → IsFirst vs c cs mark) → IsFirst (v ∷ vs) c cs mark
first_by n v vs c cs mark (Some rest) f b e more =
    let p = and_parts (nat_le (length v) n) (falling (length v) vs) f in
    subst (IsFirst (v ∷ vs) c cs) (some_is _ mark e) (record {
      in_words = or_left (bytes_eq v v) (has vs v) (bytes_self v);
      stands = b;
      most = λ w r h _. ⊎_elim (λ (k : bytes_eq w v ≡ true). same_le w v (bytes_same w v k)) (λ (k : has vs w ≡ true). falls_below (length v) vs w p.1 k) (or_cases (bytes_eq w v) (has vs w) h);
    })
  where
    same_le : (w v : List ℕ) → w ≡ v → length w ≤ length v
    same_le w v e = let f = ap length e in omega arith
first_by n v vs c cs mark None f b e more =
    let p = and_parts (nat_le (length v) n) (falling (length v) vs) f in let m = more p.1 e in
    record {
      in_words = or_right (bytes_eq mark.word v) (has vs mark.word) m.in_words;
      stands = m.stands;
      most = λ w r h s. ⊎_elim (λ (k : bytes_eq w v ≡ true). absurd (none_some w r (bytes_same w v k) s)) (λ (k : has vs w ≡ true). m.most w r k s) (or_cases (bytes_eq w v) (has vs w) h);
    }
  where
    none_some : (w : List ℕ) (r : List Character) → w ≡ v → rest_after_begin w c cs ≡ Some r → ⊥
    none_some w r e s = let f = ap (λ x. rest_after_begin x c cs) e in cc

first_in : (n : ℕ) (ws : List (List ℕ)) (c : Character) (cs : List Character) (mark : FoundPunctuator) → falling n ws ≡ true → longest ws c cs ≡ Some mark → IsFirst ws c cs mark
first_in n [] c cs mark f e = absurd (let g = longest_end c cs in cc)
first_in n (v ∷ vs) c cs mark f e = first_by n v vs c cs mark (rest_after_begin v c cs) f refl (sym (longest_step v vs c cs) ∙ e) (λ g h. first_in (length v) vs c cs mark g h)

pub table_first : (c : Character) (cs : List Character) (mark : FoundPunctuator) → longest table c cs ≡ Some mark → IsFirst table c cs mark
table_first c cs mark e = first_in 4 table c cs mark table_falls e

-- where no word was found, none stands
none_by : (v : List ℕ) (vs : List (List ℕ)) (c : Character) (cs : List Character) (o : Option (List Character)) (w : List ℕ) (rest : List Character)
    → rest_after_begin v c cs ≡ o → punctuator_or o v (longest vs c cs) ≡ None → has (v ∷ vs) w ≡ true → rest_after_begin w c cs ≡ Some rest
    → (longest vs c cs ≡ None → has vs w ≡ true → ⊥) → ⊥
none_by v vs c cs (Some r) w rest b e h s more = cc
none_by v vs c cs None w rest b e h s more =
    ⊎_elim (λ (k : bytes_eq w v ≡ true). absurd (let f = ap (λ x. rest_after_begin x c cs) (bytes_same w v k) in cc)) (λ (k : has vs w ≡ true). more e k) (or_cases (bytes_eq w v) (has vs w) h)

pub none_stands : (ws : List (List ℕ)) (c : Character) (cs : List Character) (w : List ℕ) (rest : List Character)
    → longest ws c cs ≡ None → has ws w ≡ true → rest_after_begin w c cs ≡ Some rest → ⊥
none_stands [] c cs w rest e h s = cc
none_stands (v ∷ vs) c cs w rest e h s =
    none_by v vs c cs (rest_after_begin v c cs) w rest refl (sym (longest_step v vs c cs) ∙ e) h s (λ f k. none_stands vs c cs w rest f k s)

-- words and bytes

behind_same : (b : ℕ) (bs : List ℕ) (c : Character) (cs : List Character) → c.code ≡ b → rest_after (b ∷ bs) (c ∷ cs) ≡ rest_after bs cs
unfolding rest_after
behind_same b bs c cs e = cond-true (c.code == b) (rest_after bs cs) None (grind (arith, nat_tests))

behind_nothing : (cs : List Character) → rest_after [] cs ≡ Some cs
unfolding rest_after
behind_nothing cs = refl

-- a word stands in front where the bytes begin with it
behind_bytes : (w : List ℕ) (cs : List Character) (others : List ℕ) → bytes_of cs ≡ w ++ others → (rest : List Character) × (rest_after w cs ≡ Some rest)
behind_bytes [] cs others e = (cs, behind_nothing cs)
behind_bytes (b ∷ bs) [] others e = absurd cc
behind_bytes (b ∷ bs) (c ∷ cs) others e =
    let h = behind_bytes bs cs others (tail_same _ _ _ _ e) in (h.0, behind_same b bs c cs (head_same _ _ _ _ e) ∙ h.1)

word_bytes : (b : ℕ) (bs : List ℕ) (c : Character) (cs : List Character) → rest_after_begin (b ∷ bs) c cs ≡ rest_after (b ∷ bs) (c ∷ cs)
unfolding rest_after rest_after_begin
word_bytes b bs c cs = refl

pub stands_bytes : (w : List ℕ) (c : Character) (cs : List Character) (others : List ℕ) → (w ≡ [] → ⊥) → bytes_of (c ∷ cs) ≡ w ++ others
    → (rest : List Character) × (rest_after_begin w c cs ≡ Some rest)
stands_bytes [] c cs others n e = absurd (n refl)
stands_bytes (b ∷ bs) c cs others n e = let h = behind_bytes (b ∷ bs) (c ∷ cs) others e in (h.0, word_bytes b bs c cs ∙ h.1)

pub alone_has : (b : ℕ) (text : List ℕ) → list_any (bytes_eq (b ∷ text)) punctuators ≡ true → has table (b ∷ []) ≡ true
alone_has b text h = any_tested first_alone punctuators (b ∷ text) all_alone h

pub table_any : (w : List ℕ) → has table w ≡ true → list_any (bytes_eq w) punctuators ≡ true
table_any w h = any_tested (has punctuators) table w all_in_punctuators h
