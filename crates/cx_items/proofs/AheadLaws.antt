-- What is found from the last part to the first, against the definition of an item.
use Rattle.std.proofs.Common.{◌≡◌, arith, ℕ, ◌-◌, List, [], ◌∷◌, ◌++◌, Bool, true, false, Option, Some, None, All, refl, sym, ap, ◌∙◌, subst, length, map}
use Rattle.std.proofs.lemmas.List.{length-map}
use Rattle.std.proofs.lemmas.List.Elements.{All-cons, All-head, All-tail}
use Rattle.cx_syntax_tree.specs.declared.terminals.Punctuator.TheVariants as mark
use Rattle.cx_items.specs.declared.outline.PartKind.{PartKind}
use Rattle.cx_items.specs.declared.outline.PartKind.TheVariants as part
use Rattle.cx_items.specs.declared.ends.Ahead.{Ahead}
use Rattle.cx_items.specs.declared.ends.Head.{Head}
use Rattle.cx_items.specs.Brackets.{Part}
use Rattle.cx_items.specs.Cutting.{EndsInSemicolon, Ends, HasWordBehind, IsBody, IsGroup, IsMark, IsOfRun, IsWordPart, at_body, at_semicolon, before, further, here, last, later}
use Rattle.cx_items.specs.Shapes.Ends.{ahead, before as put_before, body_from, head_before, head_round, with_word}
use Rattle.cx_items.proofs.EndLaws.{no_end_of_none, some_front, no_word_behind, same_first}
use Rattle.cx_items.proofs.KindLaws.{Seen, braces, equal, is_braces, is_equal, is_round, is_semicolon, is_word_part, other, round, seen, semicolon, word}
use Rattle.cx_items.proofs.OutlineLaws.{kind_of}

some_same : {A : Type 0} {a b : A} → Some a ≡ Some b → a ≡ b
some_same h = cc

-- what stands from parts on
unfoldable pub ahead_of : List Part → Ahead
ahead_of parts = ahead (map kind_of parts)

pub first_step : (x : Part) (xs : List Part)
    → ahead_of (x ∷ xs) ≡ put_before (kind_of x) (length (map kind_of xs)) (ahead_of xs)
unfolding ahead ahead_of
first_step x xs = refl

none_ahead : ahead_of [] ≡ record { next = None; head = None; from_semicolon = None; from_other = None }
unfolding ahead ahead_of
none_ahead = refl

-- ---- declarations, and then the body of an old-style definition

abbrev pub Closed : Bool → List Part → Type 0
Closed semi [] = semi ≡ true
Closed semi (x ∷ xs) = EndsInSemicolon (x ∷ xs)

pub record Runs (semi : Bool) (parts : List Part) (n : ℕ) : Type 0 where
  pub runs : List Part
  pub body : Part
  pub rest : List Part
  pub whole : parts ≡ runs ++ body ∷ rest
  pub of_runs : All IsOfRun runs
  pub closed : Closed semi runs
  pub braces : IsGroup mark.OpenCurly body
  pub many : length rest ≡ n

-- where a ";" stands before, or something else
abbrev pub from : Bool → Ahead → Option ℕ
from true a = a.from_semicolon
from false a = a.from_other

abbrev if_semicolon : Bool → ℕ → Option ℕ
if_semicolon true n = Some n
if_semicolon false n = None

from_step : (semi : Bool) (x : Part) (xs : List Part)
    → from semi (ahead_of (x ∷ xs)) ≡ body_from (kind_of x) (if_semicolon semi (length (map kind_of xs))) (ahead_of xs)
from_step true x xs = ap (λ a. a.from_semicolon) (first_step x xs)
from_step false x xs = ap (λ a. a.from_other) (first_step x xs)

of_run : (x : Part) (k : PartKind) → kind_of x ≡ k → (k ≡ part.Braces → ⊥) → (k ≡ part.Equal → ⊥) → IsOfRun x
of_run x k e nb ne = (
  (λ h. nb (sym e ∙ is_braces x h)),
  (λ h. ne (sym e ∙ is_equal x h)),
)

longer : (semi flag : Bool) (x : Part) (xs : List Part) (n : ℕ) → IsOfRun x
    → ((runs : List Part) → Closed flag runs → EndsInSemicolon (x ∷ runs)) → Runs flag xs n → Runs semi (x ∷ xs) n
longer semi flag x xs n is close r = record {
  runs = x ∷ r.runs;
  body = r.body;
  rest = r.rest;
  whole = ap (λ l. x ∷ l) r.whole;
  of_runs = All-cons IsOfRun x r.runs is r.of_runs;
  closed = close r.runs r.closed;
  braces = r.braces;
  many = r.many;
}

close_semicolon : (x : Part) → IsMark mark.Semicolon x → (runs : List Part) → Closed true runs → EndsInSemicolon (x ∷ runs)
close_semicolon x h [] c = last h
close_semicolon x h (y ∷ ys) c = before c

close_other : (x : Part) → (runs : List Part) → Closed false runs → EndsInSemicolon (x ∷ runs)
close_other x [] c = absurd cc
close_other x (y ∷ ys) c = before c

runs_by : (semi : Bool) (x : Part) (xs : List Part) (n : ℕ) (k : PartKind) → Seen x k → kind_of x ≡ k
    → body_from k (if_semicolon semi (length (map kind_of xs))) (ahead_of xs) ≡ Some n
    → ((flag : Bool) → from flag (ahead_of xs) ≡ Some n → Runs flag xs n) → Runs semi (x ∷ xs) n
runs_by true x xs n _ (braces h) e b r = record {
  runs = [];
  body = x;
  rest = xs;
  whole = refl;
  of_runs = none;
  closed = refl;
  braces = h;
  many = sym (length-map xs kind_of) ∙ some_same b;
}
  where
    none : All IsOfRun []
    none = λ i x h. absurd (omega (arith, h))
runs_by false x xs n _ (braces h) e b r = absurd cc
runs_by semi x xs n _ (equal h) e b r = absurd cc
runs_by semi x xs n _ (semicolon h) e b r =
    longer semi true x xs n (of_run x _ e (λ h. absurd cc) (λ h. absurd cc)) (close_semicolon x h) (r true b)
runs_by semi x xs n _ (word h) e b r =
    longer semi false x xs n (of_run x _ e (λ h. absurd cc) (λ h. absurd cc)) (close_other x) (r false b)
runs_by semi x xs n _ (round h) e b r =
    longer semi false x xs n (of_run x _ e (λ h. absurd cc) (λ h. absurd cc)) (close_other x) (r false b)
runs_by semi x xs n _ other e b r =
    longer semi false x xs n (of_run x _ e (λ h. absurd cc) (λ h. absurd cc)) (close_other x) (r false b)

pub runs_found : (parts : List Part) (n : ℕ) (semi : Bool) → from semi (ahead_of parts) ≡ Some n → Runs semi parts n
runs_found [] n true h = absurd (nowhere (sym (ap (λ a. a.from_semicolon) none_ahead) ∙ h))
  where
    nowhere : None ≡ Some n → ⊥
    nowhere h = absurd cc
runs_found [] n false h = absurd (nowhere (sym (ap (λ a. a.from_other) none_ahead) ∙ h))
  where
    nowhere : None ≡ Some n → ⊥
    nowhere h = absurd cc
runs_found (x ∷ xs) n semi h =
    runs_by semi x xs n (kind_of x) (seen x) refl (sym (from_step semi x xs) ∙ h) (runs_found xs n)

-- ---- and the other way round

run_kind : (semi : Bool) (x : Part) (xs : List Part) (n : ℕ) (k : PartKind) → Seen x k → kind_of x ≡ k → IsOfRun x
    → ((flag : Bool) → (IsMark mark.Semicolon x → flag ≡ true) → from flag (ahead_of xs) ≡ Some n)
    → body_from k (if_semicolon semi (length (map kind_of xs))) (ahead_of xs) ≡ Some n
run_kind semi x xs n _ (braces h) e o r = absurd (o.0 h)
run_kind semi x xs n _ (equal h) e o r = absurd (o.1 h)
run_kind semi x xs n _ (semicolon h) e o r = r true (λ m. refl)
run_kind semi x xs n _ (word h) e o r = r false (λ m. absurd (unlike (sym (is_semicolon x m) ∙ e)))
  where
    unlike : part.Semicolon ≡ part.Word → ⊥
    unlike h = absurd cc
run_kind semi x xs n _ (round h) e o r = r false (λ m. absurd (unlike (sym (is_semicolon x m) ∙ e)))
  where
    unlike : part.Semicolon ≡ part.Round → ⊥
    unlike h = absurd cc
run_kind semi x xs n _ other e o r = r false (λ m. absurd (unlike (sym (is_semicolon x m) ∙ e)))
  where
    unlike : part.Semicolon ≡ part.Other → ⊥
    unlike h = absurd cc

body_found : (body : Part) (rest : List Part) → IsGroup mark.OpenCurly body
    → from true (ahead_of (body ∷ rest)) ≡ Some (length rest)
body_found body rest h =
    from_step true body rest
    ∙ ap (λ k. body_from k (Some (length (map kind_of rest))) (ahead_of rest)) (is_braces body h)
    ∙ ap Some (length-map rest kind_of)

last_mark : {x : Part} → EndsInSemicolon (x ∷ []) → IsMark mark.Semicolon x
last_mark (last h) = h
last_mark (before h) = absurd (no_end_of_none h)

pub runs_told_by : (runs : List Part) (body : Part) (rest : List Part) (semi : Bool) → All IsOfRun runs → Closed semi runs
    → IsGroup mark.OpenCurly body → from semi (ahead_of (runs ++ body ∷ rest)) ≡ Some (length rest)
runs_told_by [] body rest true o c h = body_found body rest h
runs_told_by [] body rest false o c h = absurd cc
runs_told_by (x ∷ []) body rest semi o c h =
    from_step semi x (body ∷ rest)
    ∙ run_kind semi x (body ∷ rest) (length rest) (kind_of x) (seen x) refl (All-head IsOfRun x [] o)
    (λ flag is. ap (λ f. from f (ahead_of (body ∷ rest))) (is (last_mark c)) ∙ body_found body rest h)
runs_told_by (x ∷ y ∷ runs) body rest semi o c h =
    from_step semi x (y ∷ (runs ++ body ∷ rest))
    ∙ run_kind semi x (y ∷ (runs ++ body ∷ rest)) (length rest) (kind_of x) (seen x) refl (All-head IsOfRun x (y ∷ runs) o)
    (λ flag is. runs_told_by (y ∷ runs) body rest flag (All-tail IsOfRun x (y ∷ runs) o) (behind c) h)
  where
    behind : EndsInSemicolon (x ∷ y ∷ runs) → EndsInSemicolon (y ∷ runs)
    behind (before h) = h

-- ---- the first end

pub record HeadAt (parts : List Part) (h : Head) : Type 0 where
  pub front : List Part
  pub rest : List Part
  pub ends : Ends parts front rest
  pub many : length rest ≡ h.behind
  pub word : h.word ≡ true → HasWordBehind front
  pub only : HasWordBehind front → h.word ≡ true
  pub old : EndsInSemicolon front → h.old_style ≡ from true (ahead_of rest)
  pub closed : (n : ℕ) → h.old_style ≡ Some n → EndsInSemicolon front

-- a part before the first end
put_first : (x : Part) (xs : List Part) (h g : Head) → HeadAt xs h
    → (IsMark mark.Semicolon x → ⊥) → (IsBody x xs → ⊥) → g.behind ≡ h.behind → g.old_style ≡ h.old_style
    → (g.word ≡ true → (front : List Part) → (rest : List Part) → Ends xs front rest → (h.word ≡ true → HasWordBehind front)
    → HasWordBehind (x ∷ front))
    → ((front rest : List Part) → Ends xs front rest → (HasWordBehind front → h.word ≡ true) → HasWordBehind (x ∷ front)
    → g.word ≡ true)
    → HeadAt (x ∷ xs) g
put_first x xs h g a ns nb b o w v = record {
  front = x ∷ a.front;
  rest = a.rest;
  ends = later ns nb a.ends;
  many = a.many ∙ sym b;
  word = λ t. w t a.front a.rest a.ends a.word;
  only = λ t. v a.front a.rest a.ends a.only t;
  old = λ e. o ∙ a.old (shorter a.ends e);
  closed = λ n e. before (a.closed n (sym o ∙ e));
}
  where
    shorter : {front rest : List Part} → Ends xs front rest → EndsInSemicolon (x ∷ front) → EndsInSemicolon front
    shorter {front = []} e (last h) = absurd (some_front e)
    shorter {front = y ∷ ys} e (before h) = h
    shorter {front = []} e (before h) = absurd (no_end_of_none h)

head_step : (x : Part) (xs : List Part)
    → (ahead_of (x ∷ xs)).head ≡ head_before (kind_of x) (length (map kind_of xs)) (ahead_of xs)
head_step x xs = ap (λ a. a.head) (first_step x xs)

next_step : (x : Part) (xs : List Part) → (ahead_of (x ∷ xs)).next ≡ Some (kind_of x)
next_step x xs = ap (λ a. a.next) (first_step x xs)

no_next : (ahead_of []).next ≡ None
no_next = ap (λ a. a.next) none_ahead

not_body : (x : Part) (xs : List Part) (k : PartKind) → kind_of x ≡ k → (k ≡ part.Round → ⊥) → IsBody x xs → ⊥
not_body x [] k e n b = b
not_body x (y ∷ ys) k e n b = n (sym e ∙ is_round x b.0)

not_semicolon : (x : Part) (k : PartKind) → kind_of x ≡ k → (k ≡ part.Semicolon → ⊥) → IsMark mark.Semicolon x → ⊥
not_semicolon x k e n m = n (sym e ∙ is_semicolon x m)

-- a part that is neither ";" nor round brackets
pass : (x : Part) (xs : List Part) (h : Head) (k : PartKind) → kind_of x ≡ k → (k ≡ part.Semicolon → ⊥)
    → (k ≡ part.Round → ⊥) → HeadAt xs h → HeadAt (x ∷ xs) h
pass x xs h k e ns nr a =
    put_first x xs h h a (not_semicolon x k e ns) (not_body x xs k e nr) refl refl
    (λ t front rest ends w. further (w t)) (λ front rest ends v t. v (behind t))
  where
    behind : {front : List Part} → HasWordBehind (x ∷ front) → HasWordBehind front
    behind (here r w) = absurd (nr (sym e ∙ is_round x r))
    behind (further t) = t

-- round brackets with a word behind them
round_word : (x y : Part) (ys : List Part) (h : Head) → IsGroup mark.OpenRound x → IsWordPart y → HeadAt (y ∷ ys) h
    → HeadAt (x ∷ y ∷ ys) (record h { word = true })
round_word x y ys h r w a =
    put_first x (y ∷ ys) h (record h { word = true }) a (not_semicolon x part.Round (is_round x r) (λ h. absurd cc))
    (λ b. unlike (sym (is_word_part y w) ∙ is_braces y b.1)) refl refl
    (λ t front rest ends k. word_here front rest ends) (λ front rest ends v t. refl)
  where
    unlike : part.Word ≡ part.Braces → ⊥
    unlike h = absurd cc

    word_here : (front rest : List Part) → Ends (y ∷ ys) front rest → HasWordBehind (x ∷ front)
    word_here front rest ends =
        let m = same_first ends in subst (λ l. HasWordBehind (x ∷ l)) (sym m.1) (here r w)

-- .. and with another part
round_other : (x y : Part) (ys : List Part) (h : Head) (k : PartKind) → IsGroup mark.OpenRound x → kind_of y ≡ k
    → (k ≡ part.Word → ⊥) → (k ≡ part.Braces → ⊥) → HeadAt (y ∷ ys) h → HeadAt (x ∷ y ∷ ys) h
round_other x y ys h k r e nw nb a =
    put_first x (y ∷ ys) h h a (not_semicolon x part.Round (is_round x r) (λ h. absurd cc))
    (λ b. nb (sym e ∙ is_braces y b.1)) refl refl
    (λ t front rest ends w. further (w t)) (λ front rest ends v t. v (behind front rest ends t))
  where
    behind_first : (more : List Part) → HasWordBehind (x ∷ y ∷ more) → HasWordBehind (y ∷ more)
    behind_first more (here g w) = absurd (nw (sym e ∙ is_word_part y w))
    behind_first more (further t) = t

    behind : (front rest : List Part) → Ends (y ∷ ys) front rest → HasWordBehind (x ∷ front) → HasWordBehind front
    behind front rest ends t =
        let m = same_first ends in
        subst HasWordBehind (sym m.1) (behind_first m.0 (subst (λ l. HasWordBehind (x ∷ l)) m.1 t))

-- a body is the first end
at_body_head : (x y : Part) (ys : List Part) → IsGroup mark.OpenRound x → IsGroup mark.OpenCurly y
    → HeadAt (x ∷ y ∷ ys) (record { behind = length (map kind_of (y ∷ ys)) - 1; old_style = None; word = false })
at_body_head x y ys r b = record {
  front = x ∷ y ∷ [];
  rest = ys;
  ends = at_body (r, b);
  many = let n = length-map ys kind_of in omega (arith, n);
  word = λ t. absurd cc;
  only = λ t. absurd (none t);
  old = λ e. absurd (no_mark e);
  closed = λ n e. absurd cc;
}
  where
    unlike : part.Word ≡ part.Braces → ⊥
    unlike h = absurd cc

    unmarked : part.Semicolon ≡ part.Braces → ⊥
    unmarked h = absurd cc

    none : HasWordBehind (x ∷ y ∷ []) → ⊥
    none (here g w) = unlike (sym (is_word_part y w) ∙ is_braces y b)
    none (further t) = no_word_behind t

    no_mark : EndsInSemicolon (x ∷ y ∷ []) → ⊥
    no_mark (before e) = unmarked (sym (is_semicolon y (last_mark e)) ∙ is_braces y b)

-- ";" is the first end
at_semicolon_head : (x : Part) (xs : List Part) → IsMark mark.Semicolon x
    → HeadAt (x ∷ xs) (record { behind = length (map kind_of xs); old_style = (ahead_of xs).from_semicolon; word = false })
at_semicolon_head x xs m = record {
  front = x ∷ [];
  rest = xs;
  ends = at_semicolon m;
  many = sym (length-map xs kind_of);
  word = λ t. absurd cc;
  only = λ t. absurd (no_word_behind t);
  old = λ e. refl;
  closed = λ n e. last m;
}

-- round brackets, by what stands behind them
head_round_found : (x : Part) (xs : List Part) (h : Head) → IsGroup mark.OpenRound x
    → head_round (length (map kind_of xs)) (ahead_of xs) (ahead_of xs).next ≡ Some h
    → ((g : Head) → (ahead_of xs).head ≡ Some g → HeadAt xs g) → HeadAt (x ∷ xs) h
head_round_found x [] h r e a =
    absurd (nowhere (sym (ap (head_round (length (map kind_of [])) (ahead_of [])) no_next ∙ ap (λ a. a.head) none_ahead) ∙ e))
  where
    nowhere : None ≡ Some h → ⊥
    nowhere h = absurd cc
head_round_found x (y ∷ ys) h r e a = by (kind_of y) (seen y) refl (sym (ap (head_round (length (map kind_of (y ∷ ys))) (ahead_of (y ∷ ys))) (next_step y ys)) ∙ e)
  where
    by : (k : PartKind) → Seen y k → kind_of y ≡ k
        → head_round (length (map kind_of (y ∷ ys))) (ahead_of (y ∷ ys)) (Some k) ≡ Some h → HeadAt (x ∷ y ∷ ys) h
    by _ (braces b) q e = subst (HeadAt (x ∷ y ∷ ys)) (some_same e) (at_body_head x y ys r b)
    by _ (word w) q e = worded (ahead_of (y ∷ ys)).head refl e
      where
        worded : (g : Option Head) → (ahead_of (y ∷ ys)).head ≡ g → with_word g ≡ Some h → HeadAt (x ∷ y ∷ ys) h
        worded None q e = absurd cc
        worded (Some g) q e = subst (HeadAt (x ∷ y ∷ ys)) (some_same e) (round_word x y ys g r w (a g q))
    by _ (semicolon m) q e = round_other x y ys h _ r q (λ h. absurd cc) (λ h. absurd cc) (a h e)
    by _ (equal m) q e = round_other x y ys h _ r q (λ h. absurd cc) (λ h. absurd cc) (a h e)
    by _ (round m) q e = round_other x y ys h _ r q (λ h. absurd cc) (λ h. absurd cc) (a h e)
    by _ other q e = round_other x y ys h _ r q (λ h. absurd cc) (λ h. absurd cc) (a h e)

pub head_found : (parts : List Part) (h : Head) → (ahead_of parts).head ≡ Some h → HeadAt parts h
head_found [] h e = absurd (nowhere (sym (ap (λ a. a.head) none_ahead) ∙ e))
  where
    nowhere : None ≡ Some h → ⊥
    nowhere h = absurd cc
head_found (x ∷ xs) h e = by (kind_of x) (seen x) refl (sym (head_step x xs) ∙ e) (head_found xs)
  where
    by : (k : PartKind) → Seen x k → kind_of x ≡ k → head_before k (length (map kind_of xs)) (ahead_of xs) ≡ Some h
        → ((g : Head) → (ahead_of xs).head ≡ Some g → HeadAt xs g) → HeadAt (x ∷ xs) h
    by _ (semicolon m) q e a = subst (HeadAt (x ∷ xs)) (some_same e) (at_semicolon_head x xs m)
    by _ (round r) q e a = head_round_found x xs h r e a
    by _ (equal m) q e a = pass x xs h _ q (λ h. absurd cc) (λ h. absurd cc) (a h e)
    by _ (word m) q e a = pass x xs h _ q (λ h. absurd cc) (λ h. absurd cc) (a h e)
    by _ (braces m) q e a = pass x xs h _ q (λ h. absurd cc) (λ h. absurd cc) (a h e)
    by _ other q e a = pass x xs h _ q (λ h. absurd cc) (λ h. absurd cc) (a h e)

-- ---- an end is found

abbrev pub IsFound : {A : Type 0} → Option A → Type 0
IsFound o = o ≡ None → ⊥

round_ends : (x : Part) (xs : List Part) → (IsBody x xs → ⊥) → IsGroup mark.OpenRound x → IsFound (ahead_of xs).head
    → IsFound (head_round (length (map kind_of xs)) (ahead_of xs) (ahead_of xs).next)
round_ends x [] nb r f e = f (ap (λ a. a.head) none_ahead)
round_ends x (y ∷ ys) nb r f e = by (kind_of y) (seen y) (sym (ap (head_round (length (map kind_of (y ∷ ys))) (ahead_of (y ∷ ys))) (next_step y ys)) ∙ e)
  where
    by : (k : PartKind) → Seen y k → head_round (length (map kind_of (y ∷ ys))) (ahead_of (y ∷ ys)) (Some k) ≡ None → ⊥
    by _ (braces b) e = nb (r, b)
    by _ (word w) e = worded (ahead_of (y ∷ ys)).head refl e
      where
        worded : (g : Option Head) → (ahead_of (y ∷ ys)).head ≡ g → with_word g ≡ None → ⊥
        worded None q e = f q
        worded (Some g) q e = absurd cc
    by _ (semicolon m) e = f e
    by _ (equal m) e = f e
    by _ (round m) e = f e
    by _ other e = f e

pub end_is_found : {parts front rest : List Part} → Ends parts front rest → IsFound (ahead_of parts).head
end_is_found (at_semicolon {x} {rest = xs} m) e =
    absurd (some_none (sym (head_step x xs ∙ ap (λ k. head_before k (length (map kind_of xs)) (ahead_of xs)) (is_semicolon x m)) ∙ e))
  where
    some_none : {h : Head} → Some h ≡ None → ⊥
    some_none h = absurd cc
end_is_found (at_body {x} {y} {rest = ys} b) e =
    absurd (some_none (sym (head_step x (y ∷ ys)
    ∙ ap (λ k. head_before k (length (map kind_of (y ∷ ys))) (ahead_of (y ∷ ys))) (is_round x b.0)
    ∙ ap (head_round (length (map kind_of (y ∷ ys))) (ahead_of (y ∷ ys))) (next_step y ys ∙ ap Some (is_braces y b.1))) ∙ e))
  where
    some_none : {h : Head} → Some h ≡ None → ⊥
    some_none h = absurd cc
end_is_found (later {x} {ts = xs} ns nb more) e = by (kind_of x) (seen x) (sym (head_step x xs) ∙ e) (end_is_found more)
  where
    by : (k : PartKind) → Seen x k → head_before k (length (map kind_of xs)) (ahead_of xs) ≡ None
        → ((ahead_of xs).head ≡ None → ⊥) → ⊥
    by _ (semicolon m) e f = ns m
    by _ (round r) e f = round_ends x xs nb r f e
    by _ (equal m) e f = f e
    by _ (word m) e f = f e
    by _ (braces m) e f = f e
    by _ other e f = f e
