-- Each text has exactly one longest run, each run is a front of it, and no run passes the node where it is stuck.
use Rattle.std.proofs.Common.{◌≡◌, ℕ, zero, suc, ◌+◌, ◌<◌, ◌≤◌, ℤ, List, [], ◌∷◌, ◌++◌, length, Option, Some, None, option_map, option_and_then, IfSome, slice_get, append-nil, refl, sym, ◌∙◌, ap, subst, arith}
use Rattle.std.proofs.lemmas.Option.{slice_get_within, slice_get_past}
use Rattle.cx_first.specs.declared.evaluation.Undefined.{Undefined}
use Rattle.cx_first.specs.declared.evaluation.End.TheVariants as at_end
use Rattle.cx_first.specs.declared.runs.RunEnd.{RunEnd}
use Rattle.cx_first.specs.declared.runs.RunEnd.TheVariants.{Finished, Stuck}
use Rattle.cx_first.specs.Tree.{Tree, Form, declares, assigns, returns, Source}
use Rattle.cx_first.specs.Evaluation.{Memory, made}
use Rattle.cx_first.specs.Runs.{Pair, start, value_in, stored, after, next, Step, Follows, IsRun, IsFront, IsLongest, EndsAt, Reaches, EndsIn, expression, values_at, IsStuck, Ends, NonePasses, OneLongest, GoesOn, IsEvaluated, IsNeverPassed, evaluates}

-- a step leads to a later statement, or to the end
stored_up : (count : ℕ) (p q : Pair) (index : ℕ) (v : Option ℤ) → option_map (stored p index) v ≡ Some q → p.0 < q.0
stored_up count p q index None e = absurd cc
stored_up count p q index (Some v) e = let k : q.0 ≡ p.0 + 1 = cc in omega (arith, k)

after_up : (count : ℕ) (p : Pair) (form : Form) (q : Pair) → p.0 < count → after count p form ≡ Some q → p.0 < q.0
after_up count p (declares index at None) q h e = let k : q.0 ≡ p.0 + 1 = cc in omega (arith, k)
after_up count p (declares index at (Some value)) q h e = stored_up count p q index (value_in p.1 value) e
after_up count p (assigns index at value) q h e = stored_up count p q index (value_in p.1 value) e
after_up count p (returns at value) q h e = return_up (value_in p.1 value) e where
  return_up : (v : Option ℤ) → option_map (λ w. (count, p.1)) v ≡ Some q → p.0 < q.0
  return_up None e = absurd cc
  return_up (Some v) e = let k : q.0 ≡ count = cc in omega (arith, k)

step_at : (text : Source) (p q : Pair) (form : Option Form) → slice_get text.statements p.0 ≡ form
    → option_and_then (after (length text.statements) p) form ≡ Some q → p.0 < q.0
step_at text p q None g e = absurd cc
step_at text p q (Some form) g e = after_up (length text.statements) p form q (slice_get_within text.statements p.0 form g) e

step_up : (text : Source) (p q : Pair) → Step text p q → p.0 < q.0
step_up text p q s = step_at text p q (slice_get text.statements p.0) refl s

pub no_step : (text : Source) (p : Pair) → length text.statements ≤ p.0 → next text p ≡ None
no_step text p h = rw (slice_get_past text.statements p.0 h) refl

-- a run goes on by a step
follows_on : (text : Source) (front : List Pair) (a p q : Pair) → Follows text a (front ++ p ∷ []) → Step text p q
    → Follows text a ((front ++ p ∷ []) ++ q ∷ [])
follows_on text [] a p q h s = (h.0, (s, tt))
follows_on text (b ∷ bs) a p q h s = (h.0, follows_on text bs b p q h.1 s)

run_on : (text : Source) (front : List Pair) (p q : Pair) → IsRun text (front ++ p ∷ []) → Step text p q
    → IsRun text ((front ++ p ∷ []) ++ q ∷ [])
run_on text [] p q h s = (h.0, (s, tt))
run_on text (a ∷ more) p q h s = (h.0, follows_on text more a p q h.1 s)

pub goes_on : (text : Source) (run : List Pair) (p q : Pair) → IsRun text run → EndsAt run p → Step text p q → IsRun text (run ++ q ∷ [])
goes_on text run p q h e s =
    subst (λ r. IsRun text (r ++ q ∷ [])) (sym e.1) (run_on text e.0 p q (subst (IsRun text) e.1 h) s)

pub reaches_start : (text : Source) → Reaches text (start text)
reaches_start text = record { run = start text ∷ []; is_run = (refl, tt); ends = ([], refl) }

pub reaches_on : (text : Source) (p q : Pair) → Reaches text p → Step text p q → Reaches text q
reaches_on text p q r s = record { run = r.run ++ q ∷ []; is_run = goes_on text r.run p q r.is_run r.ends s; ends = (r.run, refl) }

-- the last pair
last : Pair → List Pair → Pair
last a [] = a
last a (b ∷ bs) = last b bs

last_is : (front : List Pair) (a : Pair) (rest : List Pair) (p : Pair) → a ∷ rest ≡ front ++ p ∷ [] → last a rest ≡ p
unfolding last
last_is [] a [] p e = cc
last_is [] a (b ∷ bs) p e = absurd cc
last_is (f ∷ []) a [] p e = absurd cc
last_is (f ∷ g ∷ fs) a [] p e = absurd cc
last_is (f ∷ fs) a (b ∷ bs) p e = let k : b ∷ bs ≡ fs ++ p ∷ [] = cc in last_is fs b bs p k

-- where no step leads on from the last pair, each run is a front
only_front : (text : Source) (a : Pair) (rest other : List Pair) → Follows text a rest → Follows text a other
    → next text (last a rest) ≡ None → IsFront other rest
unfolding last
only_front text a rest [] h k n = (rest, refl)
only_front text a [] (o ∷ os) h k n = absurd (let s : next text a ≡ Some o = k.0 in cc)
only_front text a (r ∷ rs) (o ∷ os) h k n =
    let s : next text a ≡ Some r = h.0 in
    let t : next text a ≡ Some o = k.0 in
    let same : o ≡ r = cc in
    let found = only_front text r rs os h.1 (subst (λ x. Follows text x os) same k.1) n in
    (found.0, let e : rs ≡ os ++ found.0 = found.1 in cc)

front_of : (text : Source) (a : Pair) (rest : List Pair) → IsRun text (a ∷ rest) → next text (last a rest) ≡ None
    → (other : List Pair) → IsRun text other → IsFront other (a ∷ rest)
front_of text a rest h n [] k = absurd k
front_of text a rest h n (o ∷ os) k =
    let p : a ≡ start text = h.0 in
    let q : o ≡ start text = k.0 in
    let same : o ≡ a = cc in
    let found = only_front text a rest os h.1 (subst (λ x. Follows text x os) same k.1) n in
    (found.0, let e : rest ≡ os ++ found.0 = found.1 in cc)

longest_at : (text : Source) (run : List Pair) (p : Pair) → IsRun text run → EndsAt run p → next text p ≡ None → IsLongest text run
longest_at text [] p h e n = absurd h
longest_at text (a ∷ rest) p h e n = record {
  is_run = h;
  longest = front_of text a rest h (rw (last_is e.0 a rest p e.1) n);
}

pub ends_in : (text : Source) (p : Pair) → Reaches text p → next text p ≡ None → EndsIn text p
ends_in text p r n = record { run = r.run; longest = longest_at text r.run p r.is_run r.ends n; ends = r.ends }

-- a longest run exists: each step leads nearer to the end
longest_by : (text : Source) (p : Pair) → Reaches text p → (later : Option Pair) → next text p ≡ later
    → ((q : Pair) → Reaches text q → p.0 < q.0 → (end : Pair) × EndsIn text end) → (end : Pair) × EndsIn text end
longest_by text p r None n more = (p, ends_in text p r n)
longest_by text p r (Some q) n more = more q (reaches_on text p q r n) (step_up text p q n)

longest_from : (text : Source) (k : ℕ) (p : Pair) → Reaches text p → length text.statements ≤ p.0 + k → (end : Pair) × EndsIn text end
longest_from text zero p r h = (p, ends_in text p r (no_step text p (omega arith)))
longest_from text (suc k) p r h = longest_by text p r (next text p) refl (λ q s up. longest_from text k q s (omega arith))

front_again : (a m n : List Pair) → a ≡ (a ++ m) ++ n → m ≡ []
front_again [] [] n e = refl
front_again [] (x ∷ m) n e = absurd cc
front_again (x ∷ a) m n e = front_again a m n (let k : a ≡ (a ++ m) ++ n = cc in k)

fronts_same : (a b : List Pair) → IsFront a b → IsFront b a → a ≡ b
fronts_same a b f g =
    let e : b ≡ a ++ f.0 = f.1 in
    let h : a ≡ (a ++ f.0) ++ g.0 = subst (λ x. a ≡ x ++ g.0) e g.1 in
    let none : f.0 ≡ [] = front_again a f.0 g.0 h in
    sym (e ∙ (ap (λ x. a ++ x) none ∙ append-nil a))

longest_same : (text : Source) (a b : List Pair) → IsLongest text a → IsLongest text b → a ≡ b
longest_same text a b x y = fronts_same a b (y.longest a x.is_run) (x.longest b y.is_run)

pub one_longest : (text : Source) → OneLongest text
one_longest text =
    let found = longest_from text (length text.statements) (start text) (reaches_start text) (omega arith) in
    (found.1.run, found.1.longest, λ other o. longest_same text other found.1.run o found.1.longest)

-- the pairs before the last one stand at earlier statements
up_to_last : (text : Source) (a : Pair) (rest : List Pair) → Follows text a rest → a.0 ≤ (last a rest).0
unfolding last
up_to_last text a [] h = omega arith
up_to_last text a (b ∷ bs) h = omega (arith, step_up text a b h.0, up_to_last text b bs h.1)

-- what holds of the last pair holds of each pair at its statement
passes_at : (text : Source) (statement node : ℕ) (a : Pair) (rest : List Pair) → Follows text a rest → (last a rest).0 ≡ statement
    → IfSome (values_at text (last a rest)) (λ values. length values ≤ node) → NonePasses text statement node (a ∷ rest)
unfolding last
passes_at text statement node a [] h e v = (λ _. v, tt)
passes_at text statement node a (b ∷ bs) h e v =
    (λ here. absurd (omega (arith, here, e, step_up text a b h.0, up_to_last text b bs h.1)), passes_at text statement node b bs h.1 e v)

passes_front : (text : Source) (statement node : ℕ) (front more : List Pair)
    → NonePasses text statement node (front ++ more) → NonePasses text statement node front
passes_front text statement node [] more h = tt
passes_front text statement node (p ∷ ps) more h = (h.0, passes_front text statement node ps more h.1)

stuck_passes : (text : Source) (statement node : ℕ) (p : Pair) (run : List Pair) → IsRun text run → EndsAt run p → p.0 ≡ statement
    → IfSome (values_at text p) (λ values. length values ≤ node) → NonePasses text statement node run
stuck_passes text statement node p [] h e s v = absurd h
stuck_passes text statement node p (a ∷ rest) h e s v =
    let same : last a rest ≡ p = last_is e.0 a rest p e.1 in
    passes_at text statement node a rest h.1 (ap (λ x. x.0) same ∙ s) (rw same v)

pub never_passed : (text : Source) (statement node : ℕ) (cause : Undefined) → IsStuck text statement node cause → IsNeverPassed text statement node
never_passed text statement node cause stuck =
    let run = stuck.ends.run in
    let p : Pair = (statement, stuck.memory) in
    let values : IfSome (values_at text p) (λ values. length values ≤ node) = rw stuck.evaluates (omega (arith, stuck.stops.stopped)) in
    let all : NonePasses text statement node run = stuck_passes text statement node p run stuck.ends.longest.is_run stuck.ends.ends refl values in
    record {
      none_passes = λ other o. let f = stuck.ends.longest.longest other o in
          passes_front text statement node other f.0 (subst (NonePasses text statement node) f.1 all);
      memory = stuck.memory;
      reached = record { run = run; is_run = stuck.ends.longest.is_run; ends = stuck.ends.ends };
    }

-- a text has one end
not_empty : (front : List Pair) (p : Pair) → [] ≡ front ++ p ∷ [] → ⊥
not_empty [] p e = absurd cc
not_empty (a ∷ more) p e = absurd cc

last_same : (run : List Pair) (p q : Pair) → EndsAt run p → EndsAt run q → p ≡ q
last_same [] p q e f = absurd (not_empty e.0 p e.1)
last_same (a ∷ rest) p q e f = sym (last_is e.0 a rest p e.1) ∙ last_is f.0 a rest q f.1

ends_in_same : (text : Source) (p q : Pair) → EndsIn text p → EndsIn text q → p ≡ q
ends_in_same text p q a b =
    last_same b.run p q (subst (λ r. EndsAt r p) (longest_same text a.run b.run a.longest b.longest) a.ends) b.ends

expression_by : (text : Source) (n : ℕ) (tree : Tree) (form : Option Form) → slice_get text.statements n ≡ form
    → option_and_then evaluates form ≡ Some tree → n < length text.statements
expression_by text n tree None g e = absurd cc
expression_by text n tree (Some form) g e = slice_get_within text.statements n form g

finished_or_stuck : (text : Source) (m : Memory) (n node : ℕ) (cause : Undefined) → EndsIn text (length text.statements, m)
    → IsStuck text n node cause → ⊥
finished_or_stuck text m n node cause a b =
    let p : Pair = (length text.statements, m) in
    let q : Pair = (n, b.memory) in
    let same : p ≡ q = ends_in_same text p q a b.ends in
    let same_number : length text.statements ≡ n = ap (λ x. x.0) same in
    omega (arith, same_number, expression_by text n b.tree (slice_get text.statements n) refl b.evaluates)

stuck_same : (text : Source) (n node k other : ℕ) (cause why : Undefined) → IsStuck text n node cause → IsStuck text k other why
    → Stuck n node cause ≡ Stuck k other why
stuck_same text n node k other cause why a b =
    let p : Pair = (n, a.memory) in
    let q : Pair = (k, b.memory) in
    let same : p ≡ q = ends_in_same text p q a.ends b.ends in
    let number : n ≡ k = ap (λ x. x.0) same in
    let memory : a.memory ≡ b.memory = ap (λ x. x.1) same in
    let trees : Some a.tree ≡ Some b.tree = sym a.evaluates ∙ (ap (expression text) number ∙ b.evaluates) in
    let tree : a.tree ≡ b.tree = cc in
    let nodes : node ≡ other = a.stops.stopped ∙ (ap (λ t. length (made t a.memory).values) tree ∙ (ap (λ m. length (made b.tree m).values) memory ∙ sym b.stops.stopped)) in
    let ends : at_end.Undefined cause ≡ at_end.Undefined why =
    sym a.stops.undefined ∙ (ap (λ t. (made t a.memory).end) tree ∙ (ap (λ m. (made b.tree m).end) memory ∙ b.stops.undefined)) in
    let causes : cause ≡ why = cc in
    cc

pub ends_same : (text : Source) (a b : RunEnd) → Ends text a → Ends text b → a ≡ b
ends_same text Finished Finished h k = refl
ends_same text Finished (Stuck n node cause) h k = absurd (finished_or_stuck text h.0 n node cause h.1 k)
ends_same text (Stuck n node cause) Finished h k = absurd (finished_or_stuck text k.0 n node cause k.1 h)
ends_same text (Stuck n node cause) (Stuck k other why) a b = stuck_same text n node k other cause why a b

-- each pair of a run whose statement evaluates has a next one
after_goes : (count : ℕ) (p : Pair) (form : Form) → IsEvaluated p.1 form → (q : Pair) × (after count p form ≡ Some q)
after_goes count p (declares index at None) h = ((p.0 + 1, p.1), refl)
after_goes count p (declares index at (Some value)) h = (stored p index h.0, rw (h.1) refl)
after_goes count p (assigns index at value) h = (stored p index h.0, rw (h.1) refl)
after_goes count p (returns at value) h = ((count, p.1), rw (h.1) refl)

pub run_goes : (text : Source) → GoesOn text
run_goes text run pair h e form at evaluated =
    let found = after_goes (length text.statements) pair form evaluated in
    (found.0, goes_on text run pair found.0 h e (rw at found.1))
