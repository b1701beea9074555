-- Comments from `/*` to `*/`, as readings.
use Rattle.std.proofs.Common.{◌≡◌, ℕ, List, [], ◌∷◌, ◌++◌, Some, None, Bool, true, false, cond, ◌&&◌, ◌==◌, refl, sym, ap, ◌∙◌, subst, arith, codes, ⊎_elim}
use Rattle.std.proofs.lemmas.Bool.{and_parts, cond-true, cond-false, cases_Bool, eqb-true}
use Rattle.std.proofs.lemmas.Bool.Decides.{nat_tests}
use Rattle.cx_lex.specs.declared.character.Character.{Character}
use Rattle.cx_lex.specs.declared.scan.Scan.{Scan}
use Rattle.cx_lex.specs.declared.scan.Scan.TheVariants.{InBlockComment, Closed}
use Rattle.cx_lex.specs.Lines.{bytes_of}
use Rattle.cx_lex.specs.Elements.{BeginsWith, StandsNowhere}
use Rattle.cx_lex.specs.Shapes.Scanning.{step_of}
use Rattle.cx_lex.proofs.Runs.{Runs, Stops, runs_closed}
use Rattle.cx_lex.proofs.Steps.{block_step}

-- a `*` in front, where there is one
abbrev pub starred : Bool → List ℕ → List ℕ
starred true bs = 42 ∷ bs
starred false bs = bs

pub star_after : Bool → List ℕ → Bool
star_after star [] = star
star_after star (b ∷ bs) = star_after (b == 42) bs

not_end : (b c : ℕ) (bs : List ℕ) → ((b == 42) && (c == 47)) ≡ false → ¬ BeginsWith (codes "*/") (b ∷ c ∷ bs)
not_end b c bs h = λ k. both b c h (heads b c bs k.0 k.1)
  where
    heads : (b c : ℕ) (bs rest : List ℕ) → b ∷ c ∷ bs ≡ 42 ∷ 47 ∷ rest → (b ≡ 42) × (c ≡ 47)
    heads b c bs rest e = (cc, cc)

    both : (b c : ℕ) → ((b == 42) && (c == 47)) ≡ false → (b ≡ 42) × (c ≡ 47) → ⊥
    both b c h k = let x = k.0 in let y = k.1 in grind (arith, nat_tests)

is_end : (b c : ℕ) (bs : List ℕ) → ((b == 42) && (c == 47)) ≡ true → BeginsWith (codes "*/") (b ∷ c ∷ bs)
is_end b c bs h = let k = and_parts (b == 42) (c == 47) h in (bs, heads b c bs (eqb-true b 42 k.0) (eqb-true c 47 k.1))
  where
    heads : (b c : ℕ) (bs : List ℕ) → b ≡ 42 → c ≡ 47 → b ∷ c ∷ bs ≡ 42 ∷ 47 ∷ bs
    heads b c bs e f = cc

one_no_end : (b : ℕ) → ¬ BeginsWith (codes "*/") (b ∷ [])
one_no_end b = λ k. short b k.0 k.1
  where
    short : (b : ℕ) (rest : List ℕ) → b ∷ [] ≡ 42 ∷ 47 ∷ rest → ⊥
    short b rest e = cc

-- a byte that is no `*` ends nothing
plain_no_end : (b : ℕ) (bs : List ℕ) → (b == 42) ≡ false → ¬ BeginsWith (codes "*/") (b ∷ bs)
plain_no_end b bs h = λ k. plain b bs k.0 h k.1
  where
    plain : (b : ℕ) (bs rest : List ℕ) → (b == 42) ≡ false → b ∷ bs ≡ 42 ∷ 47 ∷ rest → ⊥
    plain b bs rest h e = let f : b ≡ 42 = cc in grind (arith, nat_tests)

-- a byte goes on to have the rest after it, with a `*` in front where it is one
nowhere_more : (b : ℕ) (bs : List ℕ) → StandsNowhere (codes "*/") (starred (b == 42) bs) → StandsNowhere (codes "*/") (b ∷ bs)
nowhere_more b bs h =
    ⊎_elim
    (λ (e : (b == 42) ≡ true). subst (λ x. StandsNowhere (codes "*/") (x ∷ bs)) (sym (eqb-true b 42 e)) (subst (λ t. StandsNowhere (codes "*/") (starred t bs)) e h))
    (λ (e : (b == 42) ≡ false). (plain_no_end b bs e, subst (λ t. StandsNowhere (codes "*/") (starred t bs)) e h))
    (cases_Bool (b == 42))

nowhere_less : (b : ℕ) (bs : List ℕ) → StandsNowhere (codes "*/") (b ∷ bs) → StandsNowhere (codes "*/") (starred (b == 42) bs)
nowhere_less b bs h =
    ⊎_elim
    (λ (e : (b == 42) ≡ true).
    subst (λ t. StandsNowhere (codes "*/") (starred t bs)) (sym e) (subst (λ x. StandsNowhere (codes "*/") (x ∷ bs)) (eqb-true b 42 e) h))
    (λ (e : (b == 42) ≡ false). subst (λ t. StandsNowhere (codes "*/") (starred t bs)) (sym e) h.1)
    (cases_Bool (b == 42))

-- a `*` in front of a byte that does not end the comment
nowhere_star : (star : Bool) (b : ℕ) (bs : List ℕ) → (star && (b == 47)) ≡ false → StandsNowhere (codes "*/") (b ∷ bs) → StandsNowhere (codes "*/") (starred star (b ∷ bs))
nowhere_star true b bs e h = (not_end 42 b bs e, h)
nowhere_star false b bs e h = h

star_nowhere : (star : Bool) (b : ℕ) (bs : List ℕ) → StandsNowhere (codes "*/") (starred star (b ∷ bs)) → (star && (b == 47)) ≡ false
star_nowhere true b bs h =
    ⊎_elim
    (λ (e : (b == 47) ≡ true). absurd (h.0 (is_end 42 b bs e)))
    (λ (e : (b == 47) ≡ false). e)
    (cases_Bool (b == 47))
star_nowhere false b bs h = refl

tail_nowhere : (star : Bool) (b : ℕ) (bs : List ℕ) → StandsNowhere (codes "*/") (starred star (b ∷ bs)) → StandsNowhere (codes "*/") (b ∷ bs)
tail_nowhere true b bs h = h.1
tail_nowhere false b bs h = h

one_nowhere : (star : Bool) → StandsNowhere (codes "*/") (starred star [])
one_nowhere true = (one_no_end 42, tt)
one_nowhere false = tt

some_same : (a b : Scan) → Some a ≡ Some b → a ≡ b
some_same a b e = cc

-- the step within a comment
step_is : (star : Bool) (x : Character) (more : Scan) → step_of (InBlockComment star) x ≡ Some more → cond (star && (x.code == 47)) Closed (InBlockComment (x.code == 42)) ≡ more
step_is star x more e = some_same _ more (sym (block_step star x) ∙ e)

pub block_open : (xs : List Character) (star end : Bool) → Runs (InBlockComment star) xs (InBlockComment end)
    → StandsNowhere (codes "*/") (starred star (bytes_of xs)) × (end ≡ star_after star (bytes_of xs))
unfolding star_after
block_open [] star end r = (one_nowhere star, same star end r)
  where
    same : (a b : Bool) → InBlockComment a ≡ InBlockComment b → b ≡ a
    same a b e = cc
block_open (x ∷ xs) star end r =
    ⊎_elim
    (λ (e : (star && (x.code == 47)) ≡ true).
    absurd (let c = runs_closed xs (InBlockComment end) (subst (λ u. Runs u xs (InBlockComment end)) (sym (step_is star x r.0 r.1) ∙ cond-true _ _ _ e) r.2) in closed end c.1))
    (λ (e : (star && (x.code == 47)) ≡ false).
    let h = block_open xs (x.code == 42) end (subst (λ u. Runs u xs (InBlockComment end)) (sym (step_is star x r.0 r.1) ∙ cond-false _ _ _ e) r.2) in
    (nowhere_star star x.code (bytes_of xs) e (nowhere_more x.code (bytes_of xs) h.0), h.1))
    (cases_Bool (star && (x.code == 47)))
  where
    closed : (end : Bool) → InBlockComment end ≡ Closed → ⊥
    closed end e = cc

pub open_block : (xs : List Character) (star : Bool) → StandsNowhere (codes "*/") (starred star (bytes_of xs))
    → Runs (InBlockComment star) xs (InBlockComment (star_after star (bytes_of xs)))
unfolding star_after
open_block [] star h = refl
open_block (x ∷ xs) star h =
    let e = star_nowhere star x.code (bytes_of xs) h in (
      InBlockComment (x.code == 42),
      block_step star x ∙ ap Some (cond-false _ _ _ e),
      open_block xs (x.code == 42) (nowhere_less x.code (bytes_of xs) (tail_nowhere star x.code (bytes_of xs) h)),
    )

-- a comment that ends: what stands before its `/`, and after which a `*` stands
pub record BlockEnd (star : Bool) (xs : List Character) : Type 0 where
  pub inner : List Character
  pub close : Character
  pub is : xs ≡ inner ++ close ∷ []
  pub code : close.code ≡ 47
  pub runs : Runs (InBlockComment star) inner (InBlockComment true)

pub block_closed : (xs : List Character) (star : Bool) → Runs (InBlockComment star) xs Closed → BlockEnd star xs
block_closed [] star r = absurd (is_open star r)
  where
    is_open : (star : Bool) → InBlockComment star ≡ Closed → ⊥
    is_open star e = cc
block_closed (x ∷ xs) star r =
    ⊎_elim
    (λ (e : (star && (x.code == 47)) ≡ true).
    let c = runs_closed xs Closed (subst (λ u. Runs u xs Closed) (sym (step_is star x r.0 r.1) ∙ cond-true _ _ _ e) r.2) in
    let k = and_parts star (x.code == 47) e in
    record { inner = []; close = x; is = ap (λ l. x ∷ l) c.0; code = eqb-true x.code 47 k.1; runs = ap InBlockComment k.0 })
    (λ (e : (star && (x.code == 47)) ≡ false).
    let s = sym (step_is star x r.0 r.1) ∙ cond-false _ _ _ e in
    let h = block_closed xs (x.code == 42) (subst (λ u. Runs u xs Closed) s r.2) in
    record {
      inner = x ∷ h.inner;
      close = h.close;
      is = ap (λ l. x ∷ l) h.is;
      code = h.code;
      runs = (InBlockComment (x.code == 42), block_step star x ∙ ap Some (cond-false _ _ _ e), h.runs);
    })
    (cases_Bool (star && (x.code == 47)))

-- where a `*` stands after them, the last of these characters is it
pub record LastStar (xs : List Character) : Type 0 where
  pub text : List Character
  pub star : Character
  pub is : xs ≡ text ++ star ∷ []
  pub code : star.code ≡ 42

last_more : (x : Character) (xs : List Character) → LastStar xs → LastStar (x ∷ xs)
last_more x xs l = record { text = x ∷ l.text; star = l.star; is = ap (λ m. x ∷ m) l.is; code = l.code }

last_in : (x : Character) (xs : List Character) (star : Bool) → star_after star (bytes_of (x ∷ xs)) ≡ true → LastStar (x ∷ xs)
unfolding star_after
last_in x [] star e = record { text = []; star = x; is = refl; code = eqb-true x.code 42 e }
last_in x (y ∷ ys) star e = last_more x (y ∷ ys) (last_in y ys (x.code == 42) e)

pub last_star : (xs : List Character) → star_after false (bytes_of xs) ≡ true → LastStar xs
unfolding star_after
last_star [] e = absurd cc
last_star (x ∷ xs) e = last_in x xs false e

pub star_behind : (xs : List ℕ) (star : Bool) (b : ℕ) → star_after star (xs ++ b ∷ []) ≡ (b == 42)
unfolding star_after
star_behind [] star b = refl
star_behind (x ∷ xs) star b = star_behind xs (x == 42) b

pub block_closes : (c : Character) → c.code ≡ 47 → Runs (InBlockComment true) (c ∷ []) Closed
block_closes c e = (Closed, block_step true c ∙ ap Some (cond-true _ _ _ (same c.code e)), refl)
  where
    same : (b : ℕ) → b ≡ 47 → (true && (b == 47)) ≡ true
    same b e = grind (arith, nat_tests)

some_none : (star : Bool) (c : Character) → step_of (InBlockComment star) c ≡ None → ⊥
some_none star c e = let f = block_step star c in cc

pub block_stops : (star : Bool) (rest : List Character) → Stops (InBlockComment star) rest → rest ≡ []
block_stops star [] h = refl
block_stops star (c ∷ cs) h = absurd (some_none star c h)
