-- What a reading takes in, and where it stops.
use Rattle.std.proofs.Common.{◌≡◌, ℕ, List, [], ◌∷◌, ◌++◌, Some, None, Option, Bool, true, false, not, refl, sym, ap, ◌∙◌, subst}
use Rattle.std.specs.List.{list_all}
use Rattle.std.proofs.lemmas.Bool.{and_parts, and_from}
use Rattle.cx_lex.specs.declared.character.Character.{Character}
use Rattle.cx_lex.specs.declared.scan.Scan.{Scan}
use Rattle.cx_lex.specs.declared.scan.Scan.TheVariants.{InName, InNumber, InLineComment, Closed}
use Rattle.cx_lex.specs.Characters.{is_word}
use Rattle.cx_lex.specs.Elements.{EndsLine, on_one_line}
use Rattle.cx_lex.specs.Forms.{GoesOn, goes_on}
use Rattle.cx_lex.specs.Lines.{bytes_of}
use Rattle.cx_lex.specs.Shapes.Scanning.{Scanned, and_before, scanned, step_of}
use Rattle.cx_lex.proofs.Scans.{scanned_end, scanned_more, scanned_stop}
use Rattle.cx_lex.proofs.Steps.{closed_step, kept_false, kept_none, kept_some, kept_true, line_step, name_step, number_step}

-- a reading takes these characters in and comes to t
abbrev pub Runs : Scan → List Character → Scan → Type 0
Runs s [] t = s ≡ t
Runs s (c ∷ cs) t = (more : Scan) × (step_of s c ≡ Some more) × Runs more cs t

abbrev pub Stops : Scan → List Character → Type 0
Stops s [] = Unit {0}
Stops s (c ∷ cs) = step_of s c ≡ None

pub record IsScanned (s : Scan) (cs : List Character) (r : Scanned) : Type 0 where
  pub whole : r.taken ++ r.rest ≡ cs
  pub runs : Runs s r.taken r.end
  pub stops : Stops r.end r.rest

scanned_by : (s : Scan) (c : Character) (cs : List Character) (o : Option Scan) → step_of s c ≡ o
    → ((more : Scan) → IsScanned more cs (scanned more cs)) → IsScanned s (c ∷ cs) (scanned s (c ∷ cs))
scanned_by s c cs None e h = subst (IsScanned s (c ∷ cs)) (sym (scanned_stop s c cs e)) (record { whole = refl; runs = refl; stops = e })
scanned_by s c cs (Some more) e h =
    let r = h more in
    subst (IsScanned s (c ∷ cs)) (sym (scanned_more s c cs more e)) (record { whole = ap (λ l. c ∷ l) r.whole; runs = (more, e, r.runs); stops = r.stops })

pub is_scanned : (s : Scan) (cs : List Character) → IsScanned s cs (scanned s cs)
is_scanned s [] = subst (IsScanned s []) (sym (scanned_end s)) (record { whole = refl; runs = refl; stops = tt })
is_scanned s (c ∷ cs) = scanned_by s c cs (step_of s c) refl (λ more. is_scanned more cs)

pub scanned_runs : (s t : Scan) (xs rest : List Character) → Runs s xs t → Stops t rest → scanned s (xs ++ rest) ≡ record { taken = xs; end = t; rest = rest }
scanned_runs s t [] [] r h = scanned_end s ∙ ap (λ (u : Scan). record { taken = []; end = u; rest = [] }) r
scanned_runs s t [] (c ∷ cs) r h =
    scanned_stop s c cs (ap (λ u. step_of u c) r ∙ h) ∙ ap (λ (u : Scan). record { taken = []; end = u; rest = c ∷ cs }) r
scanned_runs s t (x ∷ xs) rest r h = scanned_more s x (xs ++ rest) r.0 r.1 ∙ ap (and_before x) (scanned_runs r.0 t xs rest r.2 h)

pub runs_append : (s t u : Scan) (xs ys : List Character) → Runs s xs t → Runs t ys u → Runs s (xs ++ ys) u
runs_append s t u [] ys r q = subst (λ v. Runs v ys u) (sym r) q
runs_append s t u (x ∷ xs) ys r q = (r.0, r.1, runs_append r.0 t u xs ys r.2 q)

pub stops_closed : (rest : List Character) → Stops Closed rest
stops_closed [] = tt
stops_closed (c ∷ cs) = closed_step c

none_some : (o : Option Scan) (t : Scan) → o ≡ None → o ≡ Some t → ⊥
none_some o t e f = cc

pub runs_closed : (xs : List Character) (t : Scan) → Runs Closed xs t → (xs ≡ []) × (t ≡ Closed)
runs_closed [] t r = (refl, sym r)
runs_closed (x ∷ xs) t r = absurd (none_some (step_of Closed x) r.0 (closed_step x) r.1)

-- names

pub name_runs : (xs : List Character) (t : Scan) → Runs InName xs t → (list_all is_word (bytes_of xs) ≡ true) × (t ≡ InName)
name_runs [] t r = (refl, sym r)
name_runs (x ∷ xs) t r =
    let p = kept_some (is_word x.code) InName r.0 (sym (name_step x) ∙ r.1) in
    let q = name_runs xs t (subst (λ u. Runs u xs t) (sym p.1) r.2) in (and_from _ _ p.0 q.0, q.1)

pub runs_name : (xs : List Character) → list_all is_word (bytes_of xs) ≡ true → Runs InName xs InName
runs_name [] h = refl
runs_name (x ∷ xs) h = let p = and_parts (is_word x.code) (list_all is_word (bytes_of xs)) h in (InName, name_step x ∙ kept_true _ _ p.0, runs_name xs p.1)

-- no word goes on in front
abbrev pub NoWord : List ℕ → Type 0
NoWord [] = Unit {0}
NoWord (b ∷ bs) = is_word b ≡ false

pub name_stops : (rest : List Character) → Stops InName rest → NoWord (bytes_of rest)
name_stops [] h = tt
name_stops (c ∷ cs) h = kept_none _ _ (sym (name_step c) ∙ h)

pub stops_name : (rest : List Character) → NoWord (bytes_of rest) → Stops InName rest
stops_name [] h = tt
stops_name (c ∷ cs) h = name_step c ∙ kept_false _ _ h

-- numbers

abbrev pub last_of : ℕ → List ℕ → ℕ
last_of last [] = last
last_of last (b ∷ bs) = last_of b bs

pub number_runs : (xs : List Character) (last : ℕ) (t : Scan) → Runs (InNumber last) xs t → GoesOn last (bytes_of xs) × (t ≡ InNumber (last_of last (bytes_of xs)))
number_runs [] last t r = (tt, sym r)
number_runs (x ∷ xs) last t r =
    let p = kept_some (goes_on last x.code) (InNumber x.code) r.0 (sym (number_step last x) ∙ r.1) in
    let q = number_runs xs x.code t (subst (λ u. Runs u xs t) (sym p.1) r.2) in ((p.0, q.0), q.1)

pub runs_number : (xs : List Character) (last : ℕ) → GoesOn last (bytes_of xs) → Runs (InNumber last) xs (InNumber (last_of last (bytes_of xs)))
runs_number [] last h = refl
runs_number (x ∷ xs) last h = (InNumber x.code, number_step last x ∙ kept_true _ _ h.0, runs_number xs x.code h.1)

-- a number whose last character is this one does not go on
abbrev pub EndsNumber : ℕ → List ℕ → Type 0
EndsNumber last [] = Unit {0}
EndsNumber last (b ∷ bs) = goes_on last b ≡ false

pub number_stops : (last : ℕ) (rest : List Character) → Stops (InNumber last) rest → EndsNumber last (bytes_of rest)
number_stops last [] h = tt
number_stops last (c ∷ cs) h = kept_none _ _ (sym (number_step last c) ∙ h)

pub stops_number : (last : ℕ) (rest : List Character) → EndsNumber last (bytes_of rest) → Stops (InNumber last) rest
stops_number last [] h = tt
stops_number last (c ∷ cs) h = number_step last c ∙ kept_false _ _ h

-- comments to the end of a line

pub not_false : (b : Bool) → not b ≡ false → b ≡ true
not_false true h = refl
not_false false h = absurd cc

pub line_runs : (xs : List Character) (t : Scan) → Runs InLineComment xs t → (on_one_line xs ≡ true) × (t ≡ InLineComment)
line_runs [] t r = (refl, sym r)
line_runs (x ∷ xs) t r =
    let p = kept_some (not x.in_newline) InLineComment r.0 (sym (line_step x) ∙ r.1) in
    let q = line_runs xs t (subst (λ u. Runs u xs t) (sym p.1) r.2) in (and_from _ _ p.0 q.0, q.1)

pub runs_line : (xs : List Character) → on_one_line xs ≡ true → Runs InLineComment xs InLineComment
runs_line [] h = refl
runs_line (x ∷ xs) h = let p = and_parts (not x.in_newline) (on_one_line xs) h in (InLineComment, line_step x ∙ kept_true _ _ p.0, runs_line xs p.1)

pub line_stops : (rest : List Character) → Stops InLineComment rest → EndsLine rest
line_stops [] h = tt
line_stops (c ∷ cs) h = not_false _ (kept_none _ _ (sym (line_step c) ∙ h))

pub stops_line : (rest : List Character) → EndsLine rest → Stops InLineComment rest
stops_line [] h = tt
stops_line (c ∷ cs) h = line_step c ∙ kept_false _ _ (ap not h)
