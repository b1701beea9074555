-- Quoted texts and header names, as readings.
use Rattle.std.proofs.Common.{◌≡◌, ℕ, List, [], ◌∷◌, ◌++◌, Some, None, Option, Bool, true, false, not, cond, ◌==◌, refl, sym, ap, ◌∙◌, subst, arith, ◌⊎◌, inl, inr, ⊎_elim}
use Rattle.std.proofs.lemmas.Bool.{and_parts, and_from, cond-true, cond-false, cases_Bool, eqb-true}
use Rattle.std.proofs.lemmas.Bool.Decides.{nat_tests}
use Rattle.cx_lex.specs.declared.character.Character.{Character}
use Rattle.cx_lex.specs.declared.scan.Scan.{Scan}
use Rattle.cx_lex.specs.declared.scan.Scan.TheVariants.{InQuotes, InHeader, Closed}
use Rattle.cx_lex.specs.Elements.{EndsLine, lacks, on_one_line}
use Rattle.cx_lex.specs.Shapes.Quotes.{within_quotes}
use Rattle.cx_lex.specs.Lines.{bytes_of}
use Rattle.cx_lex.specs.Shapes.Scanning.{quoted_step, step_of}
use Rattle.cx_lex.proofs.MemberLaws.{within_end, within_more, within_paired}
use Rattle.cx_lex.proofs.Runs.{Runs, Stops, not_false, runs_closed}
use Rattle.cx_lex.proofs.Steps.{header_step, kept_false, kept_none, kept_some, kept_true, quotes_step}

step_paired : (q b : ℕ) → quoted_step q true b ≡ InQuotes q false
unfolding quoted_step
step_paired q b = refl

step_plain : (q b : ℕ) → quoted_step q false b ≡ cond (b == q) Closed (InQuotes q (b == 92))
unfolding quoted_step
step_plain q b = refl

-- characters that end with this byte
pub record EndsWith (b : ℕ) (xs : List Character) : Type 0 where
  pub inner : List Character
  pub close : Character
  pub is : xs ≡ inner ++ close ∷ []
  pub code : close.code ≡ b

pub record QuotesEnd (q : ℕ) (p : Bool) (xs : List Character) : Type 0 where
  pub parts : EndsWith q xs
  pub within : within_quotes q p (bytes_of parts.inner) ≡ Some false

-- what stands after a quote was read up to its end, or is open
abbrev pub QuotesRead : ℕ → Bool → List Character → Scan → Type 0
QuotesRead q p xs t =
    (on_one_line xs ≡ true)
    × (((t ≡ Closed) × QuotesEnd q p xs) ⊎ ((r : Bool) × (t ≡ InQuotes q r) × (within_quotes q p (bytes_of xs) ≡ Some r)))

-- a character more in front
quotes_more : (q : ℕ) (p r : Bool) (x : Character) (xs : List Character) (t : Scan) → x.in_newline ≡ false
    → ((bs : List ℕ) → within_quotes q p (x.code ∷ bs) ≡ within_quotes q r bs) → QuotesRead q r xs t → QuotesRead q p (x ∷ xs) t
quotes_more q p r x xs t n w h = (
  and_from _ _ (ap not n) h.0,
  ⊎_elim
      (λ (k : (t ≡ Closed) × QuotesEnd q r xs). inl (
        k.0,
        record {
          parts = record { inner = x ∷ k.1.parts.inner; close = k.1.parts.close; is = ap (λ l. x ∷ l) k.1.parts.is; code = k.1.parts.code };
          within = w (bytes_of k.1.parts.inner) ∙ k.1.within;
        },
      ))
      (λ (k : (s : Bool) × (t ≡ InQuotes q s) × (within_quotes q r (bytes_of xs) ≡ Some s)). inr (k.0, k.1, w (bytes_of xs) ∙ k.2))
      h.1,
)

not_true : (b : Bool) → not b ≡ true → b ≡ false
not_true true h = absurd cc
not_true false h = refl

pub quotes_runs : (xs : List Character) (q : ℕ) (p : Bool) (t : Scan) → Runs (InQuotes q p) xs t → QuotesRead q p xs t
quotes_runs [] q p t r = (refl, inr (p, sym r, within_end q p))
quotes_runs (x ∷ xs) q true t r =
    let k = kept_some (not x.in_newline) (quoted_step q true x.code) r.0 (sym (quotes_step q true x) ∙ r.1) in
    quotes_more q true false x xs t (not_true _ k.0) (λ bs. within_paired q x.code bs)
    (quotes_runs xs q false t (subst (λ u. Runs u xs t) (sym k.1 ∙ step_paired q x.code) r.2))
quotes_runs (x ∷ xs) q false t r =
    let k = kept_some (not x.in_newline) (quoted_step q false x.code) r.0 (sym (quotes_step q false x) ∙ r.1) in
    ⊎_elim
    (λ (e : (x.code == q) ≡ true).
    let c = runs_closed xs t (subst (λ u. Runs u xs t) (sym k.1 ∙ step_plain q x.code ∙ cond-true _ _ _ e) r.2) in (
      and_from _ _ k.0 (ap on_one_line c.0),
      inl (
        c.1,
        record {
          parts = record { inner = []; close = x; is = ap (λ l. x ∷ l) c.0; code = eqb-true x.code q e };
          within = within_end q false;
        },
      ),
    ))
    (λ (e : (x.code == q) ≡ false).
    quotes_more q false (x.code == 92) x xs t (not_true _ k.0) (λ bs. within_more q x.code bs ∙ cond-false _ _ _ e)
    (quotes_runs xs q (x.code == 92) t (subst (λ u. Runs u xs t) (sym k.1 ∙ step_plain q x.code ∙ cond-false _ _ _ e) r.2)))
    (cases_Bool (x.code == q))

-- a step within quotes
quotes_goes : (q : ℕ) (p r : Bool) (x : Character) → (not x.in_newline) ≡ true → quoted_step q p x.code ≡ InQuotes q r → step_of (InQuotes q p) x ≡ Some (InQuotes q r)
quotes_goes q p r x n e = quotes_step q p x ∙ kept_true _ _ n ∙ ap Some e

none_some : (b : Bool) (o : Option Bool) (e : b ≡ true) (r : Bool) → cond b None o ≡ Some r → ⊥
none_some true o e r h = cc
none_some false o e r h = cc

pub runs_quotes : (xs : List Character) (q : ℕ) (p r : Bool) → on_one_line xs ≡ true → within_quotes q p (bytes_of xs) ≡ Some r → Runs (InQuotes q p) xs (InQuotes q r)
runs_quotes [] q p r n w = let e : p ≡ r = same p r (sym (within_end q p) ∙ w) in ap (InQuotes q) e
  where
    same : (p r : Bool) → Some p ≡ Some r → p ≡ r
    same p r e = cc
runs_quotes (x ∷ xs) q true r n w =
    let k = and_parts (not x.in_newline) (on_one_line xs) n in (
      InQuotes q false,
      quotes_goes q true false x k.0 (step_paired q x.code),
      runs_quotes xs q false r k.1 (sym (within_paired q x.code (bytes_of xs)) ∙ w),
    )
runs_quotes (x ∷ xs) q false r n w =
    let k = and_parts (not x.in_newline) (on_one_line xs) n in
    let v = sym (within_more q x.code (bytes_of xs)) ∙ w in
    ⊎_elim
    (λ (e : (x.code == q) ≡ true). absurd (none_some (x.code == q) (within_quotes q (x.code == 92) (bytes_of xs)) e r v))
    (λ (e : (x.code == q) ≡ false). (
      InQuotes q (x.code == 92),
      quotes_goes q false (x.code == 92) x k.0 (step_plain q x.code ∙ cond-false _ _ _ e),
      runs_quotes xs q (x.code == 92) r k.1 (sym (cond-false _ _ _ e) ∙ v),
    ))
    (cases_Bool (x.code == q))

same_test : (b c : ℕ) → b ≡ c → (b == c) ≡ true
same_test b c e = grind (arith, nat_tests)

-- the quote that ends
pub quotes_close : (q : ℕ) (c : Character) → c.in_newline ≡ false → c.code ≡ q → Runs (InQuotes q false) (c ∷ []) Closed
quotes_close q c n e = (Closed, quotes_step q false c ∙ kept_true _ _ (ap not n) ∙ ap Some (step_plain q c.code ∙ cond-true _ _ _ (same_test c.code q e)), refl)

pub quotes_stops : (q : ℕ) (p : Bool) (rest : List Character) → Stops (InQuotes q p) rest → EndsLine rest
quotes_stops q p [] h = tt
quotes_stops q p (c ∷ cs) h = not_false _ (kept_none _ _ (sym (quotes_step q p c) ∙ h))

pub stops_quotes : (q : ℕ) (p : Bool) (rest : List Character) → EndsLine rest → Stops (InQuotes q p) rest
stops_quotes q p [] h = tt
stops_quotes q p (c ∷ cs) h = quotes_step q p c ∙ kept_false _ _ (ap not h)

-- header names

pub record HeaderEnd (close : ℕ) (xs : List Character) : Type 0 where
  pub parts : EndsWith close xs
  pub lacking : lacks close (bytes_of parts.inner) ≡ true

abbrev pub HeaderRead : ℕ → List Character → Scan → Type 0
HeaderRead close xs t =
    (on_one_line xs ≡ true) × (((t ≡ Closed) × HeaderEnd close xs) ⊎ ((t ≡ InHeader close) × (lacks close (bytes_of xs) ≡ true)))

pub header_runs : (xs : List Character) (close : ℕ) (t : Scan) → Runs (InHeader close) xs t → HeaderRead close xs t
header_runs [] close t r = (refl, inr (sym r, refl))
header_runs (x ∷ xs) close t r =
    let k = kept_some (not x.in_newline) (cond (x.code == close) Closed (InHeader close)) r.0 (sym (header_step close x) ∙ r.1) in
    ⊎_elim
    (λ (e : (x.code == close) ≡ true).
    let c = runs_closed xs t (subst (λ u. Runs u xs t) (sym k.1 ∙ cond-true _ _ _ e) r.2) in (
      and_from _ _ k.0 (ap on_one_line c.0),
      inl (c.1, record { parts = record { inner = []; close = x; is = ap (λ l. x ∷ l) c.0; code = eqb-true x.code close e }; lacking = refl }),
    ))
    (λ (e : (x.code == close) ≡ false).
    let h = header_runs xs close t (subst (λ u. Runs u xs t) (sym k.1 ∙ cond-false _ _ _ e) r.2) in (
      and_from _ _ k.0 h.0,
      ⊎_elim
          (λ (m : (t ≡ Closed) × HeaderEnd close xs). inl (
            m.0,
            record {
              parts = record { inner = x ∷ m.1.parts.inner; close = m.1.parts.close; is = ap (λ l. x ∷ l) m.1.parts.is; code = m.1.parts.code };
              lacking = and_from _ _ (ap not e) m.1.lacking;
            },
          ))
          (λ (m : (t ≡ InHeader close) × (lacks close (bytes_of xs) ≡ true)). inr (m.0, and_from _ _ (ap not e) m.1))
          h.1,
    ))
    (cases_Bool (x.code == close))

pub runs_header : (xs : List Character) (close : ℕ) → on_one_line xs ≡ true → lacks close (bytes_of xs) ≡ true → Runs (InHeader close) xs (InHeader close)
runs_header [] close n l = refl
runs_header (x ∷ xs) close n l =
    let k = and_parts (not x.in_newline) (on_one_line xs) n in
    let m = and_parts (not (x.code == close)) (lacks close (bytes_of xs)) l in (
      InHeader close,
      header_step close x ∙ kept_true _ _ k.0 ∙ ap Some (cond-false _ _ _ (not_true _ m.0)),
      runs_header xs close k.1 m.1,
    )

pub header_closes : (close : ℕ) (c : Character) → c.in_newline ≡ false → c.code ≡ close → Runs (InHeader close) (c ∷ []) Closed
header_closes close c n e = (Closed, header_step close c ∙ kept_true _ _ (ap not n) ∙ ap Some (cond-true _ _ _ (same_test c.code close e)), refl)
