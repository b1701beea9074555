-- Each step keeps what comes of the whole, and leaves less work.
use Rattle.std.proofs.Common.{◌≡◌, ◌≢◌, ℕ, suc, ◌+◌, ◌<◌, ◌≤◌, Bool, true, false, cond, ◌==◌, List, [], ◌∷◌, ◌++◌, Option, Some, None, refl, sym, ◌∙◌, ap, subst, arith, length, length-append}
use Rattle.std.proofs.lemmas.List.{append-nil}
use Rattle.std.proofs.lemmas.Bool.Decides.{nat_tests}
use Rattle.cx_tokens.specs.declared.token.Token.{Token}
use Rattle.cx_tokens.specs.declared.token_list.TokenList.{TokenList}
use Rattle.cx_tokens.specs.Nodes.{tokens}
use Rattle.cx_macro.specs.declared.expansion.Call.{Call}
use Rattle.cx_macro.specs.declared.expansion.State.{State}
use Rattle.cx_macro.specs.declared.expansion.Step.TheVariants.{Ends, Goes}
use Rattle.cx_macro.specs.declared.fault.MacroFault.{MacroFault}
use Rattle.cx_macro.specs.declared.fault.MacroFault.TheVariants.{ArgumentCount, BadPaste, NoMemory, TooManyTokens, UnclosedCall}
use Rattle.cx_macro.specs.Arguments.{no_arguments, Bracketed}
use Rattle.cx_macro.specs.Shapes.Counting.{arguments_of, bracketed}
use Rattle.cx_macro.specs.Expansion.{Expands, definition_at, refused, of_object, no_invocation}
use Rattle.cx_macro.specs.Shapes.Invocations.{invocation_of}
use Rattle.cx_macro.specs.Expansion as expansion
use Rattle.cx_macro.specs.Hiding.{common, with_name}
use Rattle.cx_macro.specs.Macros.{Definition, Table}
use Rattle.cx_macro.specs.Partners.{HasNoPartners}
use Rattle.cx_macro.specs.Shapes.Substitutes.{is_raw}
use Rattle.cx_macro.specs.Replacement.{Glues, is_expanded, substitutes_of, replacement_tokens}
use Rattle.cx_macro.specs.Shapes.Segments.{IsCut, Spread}
use Rattle.cx_macro.specs.Shapes.Steps.{kept_arguments, FailsAt, FailsAtStart, FailsBehind, FailsIn, IsExpandingState, IsExpandingAfterToken, IsExpandingCall, IsExpanding, StepsTo, Proceeds, Resumes, StepIs, Takes, macro_in, wanted_argument, weights, work, work_in}
use Rattle.cx_macro.specs.Arguments.{begins_call}
use Rattle.cx_macro.proofs.CallLaws.{arguments_weight, bracketed_length, weights-append}
use Rattle.cx_macro.proofs.StepLaws.{in_bad_paste, in_called, in_next, in_replaced, in_too_many, object_bad_paste, object_too_many, on_begins, on_end, on_last, on_miscounted, on_more, on_object, on_start, on_stays_outermost, on_stays_within, on_unclosed}
use Rattle.cx_macro.proofs.InvocationLaws.{use_call, use_unclosed}

moves : (table : Table) (bound : ℕ) (known : ℕ → List Token → Type 0) (before : ℕ) (new : State) (laid : ℕ) (outermost done ahead : List Token) (more : List (List Token))
    (calls : List Call)
    → new.laid ≡ laid → new.buffer.done ≡ outermost → new.done ≡ done → new.buffer.ahead ≡ ahead → new.buffer.more ≡ more → new.calls ≡ calls
    → ((start : ℕ) (whole : List Token) → known start whole → IsExpanding table bound start whole laid outermost done ahead more calls)
    → work bound laid ahead more < before → laid ≤ bound → StepsTo table bound known before new
moves table bound known before new laid outermost done ahead more calls a b c d e f h less le = record {
  keeps = λ start whole k.
      subst (λ n. IsExpanding table bound start whole n new.buffer.done new.done new.buffer.ahead new.buffer.more new.calls) (sym a)
      (subst (λ x. IsExpanding table bound start whole laid x new.done new.buffer.ahead new.buffer.more new.calls) (sym b)
      (subst (λ x. IsExpanding table bound start whole laid outermost x new.buffer.ahead new.buffer.more new.calls) (sym c)
      (subst (λ x. IsExpanding table bound start whole laid outermost done x new.buffer.more new.calls) (sym d)
      (subst (λ x. IsExpanding table bound start whole laid outermost done ahead x new.calls) (sym e)
      (subst (λ x. IsExpanding table bound start whole laid outermost done ahead more x) (sym f) (h start whole k))))));
  less = λ start whole k. subst (λ n. work bound n new.buffer.ahead new.buffer.more < before) (sym a)
      (subst (λ x. work bound laid x new.buffer.more < before) (sym d) (subst (λ x. work bound laid ahead x < before) (sym e) less));
  within = subst (λ n. n ≤ bound) (sym a) le;
}

wanted_length : (d : Definition) (i : ℕ) (argument : List Token) → length (wanted_argument d i argument) ≤ length argument
wanted_length d i argument = at (is_expanded d i) argument
  where
    at : (b : Bool) (argument : List Token) → length (cond b argument []) ≤ length argument
    at true argument = omega arith
    at false argument = omega arith

-- a call begins its next argument
pub begins : (table : Table) (bound laid : ℕ) (b : Spread) (call after : Call) (calls : List Call) (new : State) (kept : List Token) → laid ≤ bound
    → length call.expanded < call.arguments → kept ≡ cond (is_raw (macro_in call) (length call.expanded)) b.ahead []
    → after ≡ record call { raw = call.raw ++ kept ∷ [] }
    → new.laid ≡ laid → new.buffer.done ≡ b.done → new.done ≡ [] → new.buffer.ahead ≡ wanted_argument (macro_in call) (length call.expanded) b.ahead
    → new.buffer.more ≡ b.more → new.calls ≡ after ∷ calls → Proceeds table bound laid b call calls new
begins table bound laid b call after calls new kept le l k same e f g h i j =
    let wanted = wanted_argument (macro_in call) (length call.expanded) b.ahead in
    let shorter = wanted_length (macro_in call) (length call.expanded) b.ahead in
    moves table bound (λ start whole. IsExpandingCall table bound start whole laid b.done b.ahead b.more call calls) (work_in bound laid b.ahead b.more) new laid b.done [] wanted b.more
    (after ∷ calls) e f g h i j
    (λ start whole known. on_begins table bound start whole laid b.done b.ahead wanted b.more kept [] call after calls known l k same refl refl)
    (omega (arith, shorter)) le

-- what goes on to be replaced
replaced_less : (bound laid : ℕ) (news ahead : List Token) (more : List (List Token)) → laid + (length news + 1) ≤ bound
    → work bound (laid + (length news + 1)) (news ++ ahead) more < work bound laid ahead more
replaced_less bound laid news ahead more le = omega (arith, length-append news ahead)

less_in : (m n : ℕ) → m < n → m < n + 1
less_in m n h = omega (arith, h)

-- a call is replaced
pub finishes : (table : Table) (bound laid : ℕ) (b : Spread) (call : Call) (calls : List Call) (new : State) (made news : List Token) → call.arguments ≤ length call.expanded
    → Glues [] (substitutes_of (macro_in call) (kept_arguments call) call.expanded) (Some made) → news ≡ replacement_tokens call.name call.hide made
    → new.laid ≡ laid + (length news + 1) → new.laid ≤ bound → new.buffer.done ≡ b.done → new.done ≡ call.done → new.buffer.ahead ≡ news ++ b.ahead
    → new.buffer.more ≡ b.more → new.calls ≡ calls → Proceeds table bound laid b call calls new
finishes table bound laid b call calls new made news l g e a le c d f h i =
    let le' : laid + (length news + 1) ≤ bound = subst (λ n. n ≤ bound) a le in
    moves table bound (λ start whole. IsExpandingCall table bound start whole laid b.done b.ahead b.more call calls) (work_in bound laid b.ahead b.more) new
    (laid + (length news + 1)) b.done call.done (news ++ b.ahead) b.more calls a c d f h i
    (λ start whole known. in_replaced table bound start whole laid b.done b.ahead b.more call calls made news known l g e le')
    (less_in (work bound (laid + (length news + 1)) (news ++ b.ahead) b.more) (work bound laid b.ahead b.more) (replaced_less bound laid news b.ahead b.more le')) le'

pub finish_bad_paste : (table : Table) (bound laid : ℕ) (b : Spread) (call : Call) (calls : List Call) (fault : MacroFault) → call.arguments ≤ length call.expanded
    → (fault ≢ NoMemory → (fault ≡ BadPaste call.name.place) × Glues [] (substitutes_of (macro_in call) (kept_arguments call) call.expanded) None)
    → FailsIn table bound laid b call calls fault
finish_bad_paste table bound laid b call calls fault l f n start whole h =
    let p = f n in
    subst (λ x. Expands table bound start whole (refused x)) (sym p.0) (in_bad_paste table bound start whole laid b.done b.ahead b.more call calls h l p.1)

pub finish_too_many : (table : Table) (bound laid : ℕ) (b : Spread) (call : Call) (calls : List Call) (fault : MacroFault) (made news : List Token)
    → call.arguments ≤ length call.expanded
    → Glues [] (substitutes_of (macro_in call) (kept_arguments call) call.expanded) (Some made) → news ≡ replacement_tokens call.name call.hide made
    → (fault ≢ NoMemory → (bound < laid + (length news + 1)) × (fault ≡ TooManyTokens call.name.place (laid + (length news + 1))))
    → FailsIn table bound laid b call calls fault
finish_too_many table bound laid b call calls fault made news l g e f n start whole h =
    let p = f n in
    subst (λ x. Expands table bound start whole (refused x)) (sym p.1)
    (in_too_many table bound start whole laid b.done b.ahead b.more call calls made news h l g e p.0)

-- the segments behind an argument that has ended
abbrev pub Advances : Spread → Spread → Type 0
Advances b after = (ahead : List Token) (more : List (List Token)) → b.more ≡ ahead ∷ more → (after.ahead ≡ ahead) × (after.more ≡ more)

resumed : (table : Table) (bound laid : ℕ) (b next : Spread) (done : List Token) (call after : Call) (calls : List Call) (start : ℕ) (whole : List Token)
    → after ≡ record call { expanded = call.expanded ++ done ∷ [] } → next.done ≡ b.done → Advances b next
    → IsExpanding table bound start whole laid b.done done [] b.more (call ∷ calls)
    → IsExpandingCall table bound start whole laid next.done next.ahead next.more after calls × (b.more ≡ next.ahead ∷ next.more)
resumed table bound laid b next done call after calls start whole e d a h =
    let m = on_more table bound start whole laid b.done done b.more call calls h in
    let p = a m.0 m.1 m.2 in
    let same : b.more ≡ next.ahead ∷ next.more = m.2 ∙ (ap (λ x. x ∷ m.1) (sym p.0) ∙ ap (λ x. next.ahead ∷ x) (sym p.1)) in (
      subst (λ x. IsExpandingCall table bound start whole laid x next.ahead next.more after calls) (sym d)
          (in_next table bound start whole laid b.done done next.ahead b.more next.more call after calls h e same),
      same,
    )

-- an argument ends
pub resumes : (table : Table) (bound laid : ℕ) (b next : Spread) (done : List Token) (call after : Call) (calls : List Call) (new : State)
    → after ≡ record call { expanded = call.expanded ++ done ∷ [] } → next.done ≡ b.done → Advances b next → Proceeds table bound laid next after calls new
    → Resumes table bound laid b done call calls new
resumes table bound laid b next done call after calls new e d a p = record {
  keeps = λ start whole h. p.keeps start whole (resumed table bound laid b next done call after calls start whole e d a h).0;
  less = λ start whole h.
      let r = resumed table bound laid b next done call after calls start whole e d a h in
      let less = p.less start whole r.0 in
      let same : weights b.more ≡ weights (next.ahead ∷ next.more) = ap weights r.1 in
      omega (arith, less, same);
  within = p.within;
}

pub resume_fails : (table : Table) (bound laid : ℕ) (b next : Spread) (done : List Token) (call after : Call) (calls : List Call) (fault : MacroFault)
    → after ≡ record call { expanded = call.expanded ++ done ∷ [] } → next.done ≡ b.done → Advances b next → FailsIn table bound laid next after calls fault
    → FailsBehind table bound laid b done call calls fault
resume_fails table bound laid b next done call after calls fault e d a f n start whole h =
    f n start whole (resumed table bound laid b next done call after calls start whole e d a h).0

-- whether a call waits
pub none_waits : (calls : List Call) → (length calls == 0) ≡ true → calls ≡ []
none_waits [] e = refl
none_waits (call ∷ calls) e = absurd (no_suc (length calls) (grind (arith, nat_tests, e)))
  where
    no_suc : (n : ℕ) → suc n ≡ 0 → ⊥
    no_suc n e = absurd (omega (arith, e))

pub one_waits : (calls : List Call) → (length calls == 0) ≡ false → 0 < length calls
one_waits calls e = grind (arith, nat_tests, e)

-- a token no_invocation
pub takes_stays_outermost : (table : Table) (bound : ℕ) (t : Token) (old new : State) → invocation_of table t old.buffer.ahead ≡ no_invocation → old.laid ≤ bound → old.calls ≡ []
    → new.laid ≡ old.laid → new.buffer.done ≡ old.buffer.done ++ t ∷ [] → new.done ≡ old.done → new.buffer.ahead ≡ old.buffer.ahead → new.buffer.more ≡ old.buffer.more
    → new.calls ≡ old.calls → Takes table bound t old new
takes_stays_outermost table bound t old new u le none a b c d e f =
    moves table bound (λ start whole. IsExpandingAfterToken table bound t start whole old) (work bound old.laid (t ∷ old.buffer.ahead) old.buffer.more) new
    old.laid (old.buffer.done ++ t ∷ []) old.done old.buffer.ahead old.buffer.more [] a b c d e (f ∙ none)
    (λ start whole h. on_stays_outermost table bound start whole old.laid old.buffer.done old.done old.buffer.ahead old.buffer.more t u
    (subst (λ x. IsExpanding table bound start whole old.laid old.buffer.done old.done (t ∷ old.buffer.ahead) old.buffer.more x) none h))
    (omega arith) le

pub takes_stays_within : (table : Table) (bound : ℕ) (t : Token) (old new : State) → invocation_of table t old.buffer.ahead ≡ no_invocation → old.laid ≤ bound → 0 < length old.calls
    → new.laid ≡ old.laid → new.buffer.done ≡ old.buffer.done → new.done ≡ old.done ++ t ∷ [] → new.buffer.ahead ≡ old.buffer.ahead → new.buffer.more ≡ old.buffer.more
    → new.calls ≡ old.calls → Takes table bound t old new
takes_stays_within table bound t old new u le some a b c d e f =
    moves table bound (λ start whole. IsExpandingAfterToken table bound t start whole old) (work bound old.laid (t ∷ old.buffer.ahead) old.buffer.more) new
    old.laid old.buffer.done (old.done ++ t ∷ []) old.buffer.ahead old.buffer.more old.calls a b c d e f
    (λ start whole h. stays_in old.calls some start whole h) (omega arith) le
  where
    stays_in : (calls : List Call) → 0 < length calls → (start : ℕ) (whole : List Token)
        → IsExpanding table bound start whole old.laid old.buffer.done old.done (t ∷ old.buffer.ahead) old.buffer.more calls
        → IsExpanding table bound start whole old.laid old.buffer.done (old.done ++ t ∷ []) old.buffer.ahead old.buffer.more calls
    stays_in [] l start whole h = absurd (omega (arith, l))
    stays_in (call ∷ calls) l start whole h =
        on_stays_within table bound start whole old.laid old.buffer.done old.done old.buffer.ahead old.buffer.more t call calls u h

-- a step that takes a token
taken_on : (table : Table) (bound : ℕ) (t : Token) (old taken : State) (start : ℕ) (whole : List Token) → taken.laid ≡ old.laid → taken.buffer.done ≡ old.buffer.done
    → taken.done ≡ old.done → old.buffer.ahead ≡ t ∷ taken.buffer.ahead → taken.buffer.more ≡ old.buffer.more → taken.calls ≡ old.calls
    → IsExpandingState table bound start whole old → IsExpandingAfterToken table bound t start whole taken
taken_on table bound t old taken start whole a b c d e f h =
    subst (λ n. IsExpanding table bound start whole n taken.buffer.done taken.done (t ∷ taken.buffer.ahead) taken.buffer.more taken.calls) (sym a)
    (subst (λ x. IsExpanding table bound start whole old.laid x taken.done (t ∷ taken.buffer.ahead) taken.buffer.more taken.calls) (sym b)
    (subst (λ x. IsExpanding table bound start whole old.laid old.buffer.done x (t ∷ taken.buffer.ahead) taken.buffer.more taken.calls) (sym c)
    (subst (λ x. IsExpanding table bound start whole old.laid old.buffer.done old.done x taken.buffer.more taken.calls) d
    (subst (λ x. IsExpanding table bound start whole old.laid old.buffer.done old.done old.buffer.ahead x taken.calls) (sym e)
    (subst (λ x. IsExpanding table bound start whole old.laid old.buffer.done old.done old.buffer.ahead old.buffer.more x) (sym f) h)))))

pub step_takes : (table : Table) (bound : ℕ) (t : Token) (old taken new : State) → taken.laid ≡ old.laid → taken.buffer.done ≡ old.buffer.done → taken.done ≡ old.done
    → old.buffer.ahead ≡ t ∷ taken.buffer.ahead → taken.buffer.more ≡ old.buffer.more → taken.calls ≡ old.calls → Takes table bound t taken new
    → StepIs table bound old (Goes new)
step_takes table bound t old taken new a b c d e f p = record {
  keeps = λ start whole h. p.keeps start whole (taken_on table bound t old taken start whole a b c d e f h);
  less = λ start whole h. subst (λ n. work bound new.laid new.buffer.ahead new.buffer.more < n)
      (ap (λ n. work bound n (t ∷ taken.buffer.ahead) taken.buffer.more) a
      ∙ (ap (λ x. work bound old.laid x taken.buffer.more) (sym d) ∙ ap (work bound old.laid old.buffer.ahead) e))
      (p.less start whole (taken_on table bound t old taken start whole a b c d e f h));
  within = p.within;
}

pub step_fails : (table : Table) (bound : ℕ) (t : Token) (old taken : State) (fault : MacroFault) → taken.laid ≡ old.laid → taken.buffer.done ≡ old.buffer.done
    → taken.done ≡ old.done → old.buffer.ahead ≡ t ∷ taken.buffer.ahead → taken.buffer.more ≡ old.buffer.more → taken.calls ≡ old.calls
    → FailsAt table bound t taken fault → FailsAtStart table bound old fault
step_fails table bound t old taken fault a b c d e f p n start whole h = p n start whole (taken_on table bound t old taken start whole a b c d e f h)

-- a token that is ahead
pub first_token : (ts : List Token) → (length ts == 0) ≡ false → (t : Token) × (rest : List Token) × (ts ≡ t ∷ rest)
first_token [] e = absurd cc
first_token (t ∷ rest) e = (t, rest, refl)

pub one_first : (P : Token → List Token → Type 0) (ahead : List Token) (t t' : Token) (rest rest' : List Token) → ahead ≡ t ∷ rest → ahead ≡ t' ∷ rest'
    → P t rest → P t' rest'
one_first P ahead t t' rest rest' e f h =
    let all : t ∷ rest ≡ t' ∷ rest' = sym e ∙ f in
    let same : t ≡ t' = cc in
    let behind : rest ≡ rest' = cc in
    subst (λ x. P x rest') same (subst (P t) behind h)

-- a token stays, by the edit that takes it off those ahead
pub stays_outermost : (table : Table) (bound : ℕ) (t : Token) (rest : List Token) (old new : State) → old.buffer.ahead ≡ t ∷ rest
    → invocation_of table t rest ≡ no_invocation → old.laid ≤ bound → old.calls ≡ []
    → new.laid ≡ old.laid → new.buffer.done ≡ old.buffer.done ++ t ∷ [] → new.done ≡ old.done → new.buffer.ahead ≡ rest → new.buffer.more ≡ old.buffer.more
    → new.calls ≡ old.calls → StepIs table bound old (Goes new)
stays_outermost table bound t rest old new w u le none a b c d e f =
    let taken : State = record old { buffer = record { done = old.buffer.done; ahead = rest; more = old.buffer.more } } in
    step_takes table bound t old taken new refl refl refl w refl refl (takes_stays_outermost table bound t taken new u le none a b c d e f)

pub stays_within : (table : Table) (bound : ℕ) (t : Token) (rest : List Token) (old new : State) → old.buffer.ahead ≡ t ∷ rest
    → invocation_of table t rest ≡ no_invocation → old.laid ≤ bound → 0 < length old.calls
    → new.laid ≡ old.laid → new.buffer.done ≡ old.buffer.done → new.done ≡ old.done ++ t ∷ [] → new.buffer.ahead ≡ rest → new.buffer.more ≡ old.buffer.more
    → new.calls ≡ old.calls → StepIs table bound old (Goes new)
stays_within table bound t rest old new w u le some a b c d e f =
    let taken : State = record old { buffer = record { done = old.buffer.done; ahead = rest; more = old.buffer.more } } in
    step_takes table bound t old taken new refl refl refl w refl refl (takes_stays_within table bound t taken new u le some a b c d e f)

-- the name of an object-like macro is replaced
pub takes_object : (table : Table) (bound : ℕ) (t : Token) (old new : State) (d : Definition) (hide : List (List ℕ)) (made news : List Token)
    → invocation_of table t old.buffer.ahead ≡ of_object d → Glues [] (substitutes_of d no_arguments []) (Some made) → hide ≡ with_name t.text t.hide
    → news ≡ replacement_tokens t hide made → new.laid ≡ old.laid + (length news + 1) → new.laid ≤ bound → new.buffer.done ≡ old.buffer.done → new.done ≡ old.done
    → new.buffer.ahead ≡ news ++ old.buffer.ahead → new.buffer.more ≡ old.buffer.more → new.calls ≡ old.calls → Takes table bound t old new
takes_object table bound t old new d hide made news u g k e a le b c f i j =
    let le' : old.laid + (length news + 1) ≤ bound = subst (λ n. n ≤ bound) a le in
    let less : work bound (old.laid + (length news + 1)) (news ++ old.buffer.ahead) old.buffer.more < work bound old.laid (t ∷ old.buffer.ahead) old.buffer.more =
    omega (arith, length-append news old.buffer.ahead) in
    moves table bound (λ start whole. IsExpandingAfterToken table bound t start whole old) (work bound old.laid (t ∷ old.buffer.ahead) old.buffer.more) new
    (old.laid + (length news + 1)) old.buffer.done old.done (news ++ old.buffer.ahead) old.buffer.more old.calls a b c f i j
    (λ start whole h. on_object table bound start whole old.laid old.buffer.done old.done old.buffer.ahead made news old.buffer.more t hide old.calls d h u g k e le') less le'

pub object_fails : (table : Table) (bound : ℕ) (t : Token) (old : State) (d : Definition) (fault : MacroFault) → invocation_of table t old.buffer.ahead ≡ of_object d
    → (fault ≢ NoMemory → (fault ≡ BadPaste t.place) × Glues [] (substitutes_of d no_arguments []) None) → FailsAt table bound t old fault
object_fails table bound t old d fault u f n start whole h =
    let p = f n in
    subst (λ x. Expands table bound start whole (refused x)) (sym p.0)
    (object_bad_paste table bound start whole old.laid old.buffer.done old.done old.buffer.ahead old.buffer.more t old.calls d h u p.1)

pub object_too_long : (table : Table) (bound : ℕ) (t : Token) (old : State) (d : Definition) (fault : MacroFault) (hide : List (List ℕ)) (made news : List Token)
    → invocation_of table t old.buffer.ahead ≡ of_object d → Glues [] (substitutes_of d no_arguments []) (Some made) → hide ≡ with_name t.text t.hide
    → news ≡ replacement_tokens t hide made
    → (fault ≢ NoMemory → (bound < old.laid + (length news + 1)) × (fault ≡ TooManyTokens t.place (old.laid + (length news + 1)))) → FailsAt table bound t old fault
object_too_long table bound t old d fault hide made news u g k e f n start whole h =
    let p = f n in
    subst (λ x. Expands table bound start whole (refused x)) (sym p.1)
    (object_too_many table bound start whole old.laid old.buffer.done old.done old.buffer.ahead made news old.buffer.more t hide old.calls d h u g k e p.0)

-- a call that a name begins
pub record Begun (t : Token) (old : State) (d : Definition) (ps : List (List ℕ)) (o : Token) (mid : List Token) : Type 0 where
  pub parameters : d.parameters ≡ Some ps
  pub begins : begins_call old.buffer.ahead ≡ true
  pub opened : old.buffer.ahead ≡ o ∷ mid

one_more : (n : ℕ) → suc n ≡ n + 1
one_more n = omega arith

-- the call that is made of a name, whose arguments are cut off behind its opening bracket
pub record Made (t : Token) (old : State) (ps : List (List ℕ)) (o : Token) (passed cut : Spread) (hide : List (List ℕ)) (call : Call) : Type 0 where
  pub begun : Begun t old (macro_in call) ps o passed.ahead
  pub outermost : passed.done ≡ old.buffer.done
  pub more : passed.more ≡ old.buffer.more
  pub is_cut : IsCut (length ps) (macro_in call).variadic passed cut hide call.arguments call.left_out
  pub name : call.name ≡ t
  pub hides : call.hide ≡ with_name t.text (common t.hide hide)
  pub raw : call.raw ≡ []
  pub expanded : call.expanded ≡ []
  pub done : call.done ≡ old.done

in_made : (table : Table) (bound : ℕ) (t : Token) (old : State) (ps : List (List ℕ)) (o : Token) (passed cut : Spread) (hide : List (List ℕ)) (call : Call)
    → definition_at table t ≡ Some (macro_in call) → Made t old ps o passed cut hide call → (start : ℕ) (whole : List Token) → IsExpandingAfterToken table bound t start whole old
    → IsExpandingCall table bound start whole old.laid cut.done cut.ahead cut.more call old.calls
in_made table bound t old ps o passed cut hide call def m start whole h =
    let on : IsExpanding table bound start whole old.laid old.buffer.done old.done (t ∷ old.buffer.ahead) old.buffer.more old.calls = h in
    let b = m.is_cut.brackets in
    subst (λ x. IsExpandingCall table bound start whole old.laid x cut.ahead cut.more call old.calls) (sym (m.is_cut.done ∙ m.outermost))
    (in_called table bound start whole old.laid old.buffer.ahead old.buffer.done cut.ahead cut.more old.buffer.more m.is_cut.raw call old.calls ps b
    (subst (λ x. IsExpanding table bound start whole old.laid old.buffer.done x (call.name ∷ old.buffer.ahead) old.buffer.more old.calls) (sym m.done)
    (subst (λ x. IsExpanding table bound start whole old.laid old.buffer.done old.done (x ∷ old.buffer.ahead) old.buffer.more old.calls) (sym m.name) on))
    (use_call table call.name o old.buffer.ahead passed.ahead (macro_in call) ps b (subst (λ x. definition_at table x ≡ Some (macro_in call)) (sym m.name) def)
    m.begun.parameters m.begun.begins m.begun.opened m.is_cut.found)
    (m.hides ∙ (ap (λ x. with_name t.text (common t.hide x)) m.is_cut.hides ∙ ap (λ (x : Token). with_name x.text (common x.hide b.closing.hide)) (sym m.name)))
    m.is_cut.split m.is_cut.counted m.raw m.expanded (m.is_cut.cut ∙ ap (λ x. m.is_cut.raw ++ b.after ∷ x) m.more))

pub takes_call : (table : Table) (bound : ℕ) (t : Token) (old new : State) (ps : List (List ℕ)) (o : Token) (passed cut : Spread) (hide : List (List ℕ)) (call : Call)
    → definition_at table t ≡ Some (macro_in call) → Made t old ps o passed cut hide call → Proceeds table bound old.laid cut call old.calls new → Takes table bound t old new
takes_call table bound t old new ps o passed cut hide call def m p = record {
  keeps = λ start whole h. p.keeps start whole (in_made table bound t old ps o passed cut hide call def m start whole h);
  less = λ start whole h.
      let less = p.less start whole (in_made table bound t old ps o passed cut hide call def m start whole h) in
      let b = m.is_cut.brackets in
      let old_length : length old.buffer.ahead ≡ length passed.ahead + 1 = ap length m.begun.opened ∙ one_more (length passed.ahead) in
      let inner = bracketed_length 0 passed.ahead b m.is_cut.found in
      let weight = arguments_weight (length ps) (macro_in call).variadic b.inner (record { given = m.is_cut.raw; left_out = call.left_out }) m.is_cut.split in
      let parts : weights (cut.ahead ∷ cut.more) ≡ weights m.is_cut.raw + weights (b.after ∷ old.buffer.more) =
      ap weights (m.is_cut.cut ∙ ap (λ x. m.is_cut.raw ++ b.after ∷ x) m.more) ∙ weights-append m.is_cut.raw (b.after ∷ old.buffer.more) in
      omega (arith, less, old_length, inner, weight, parts);
  within = p.within;
}

pub call_unclosed : (table : Table) (bound : ℕ) (t : Token) (old : State) (d : Definition) (ps : List (List ℕ)) (o : Token) (mid : List Token)
    → definition_at table t ≡ Some d → Begun t old d ps o mid → bracketed 0 mid ≡ None → FailsAt table bound t old (UnclosedCall t.place)
call_unclosed table bound t old d ps o mid def begun br n start whole h =
    on_unclosed table bound start whole old.laid old.buffer.done old.done old.buffer.ahead old.buffer.more t old.calls h
    (use_unclosed table t o old.buffer.ahead mid d ps def begun.parameters begun.begins begun.opened br)

pub call_miscounted : (table : Table) (bound : ℕ) (t : Token) (old : State) (d : Definition) (ps : List (List ℕ)) (o : Token) (mid : List Token) (b : Bracketed)
    → definition_at table t ≡ Some d → Begun t old d ps o mid → bracketed 0 mid ≡ Some b → arguments_of (length ps) d.variadic b.inner ≡ None
    → FailsAt table bound t old (ArgumentCount t.place)
call_miscounted table bound t old d ps o mid b def begun br args n start whole h =
    on_miscounted table bound start whole old.laid old.buffer.done old.done old.buffer.ahead old.buffer.more t old.calls d ps b h
    (use_call table t o old.buffer.ahead mid d ps b def begun.parameters begun.begins begun.opened br) args

pub call_fails : (table : Table) (bound : ℕ) (t : Token) (old : State) (fault : MacroFault) (ps : List (List ℕ)) (o : Token) (passed cut : Spread) (hide : List (List ℕ))
    (call : Call) → definition_at table t ≡ Some (macro_in call) → Made t old ps o passed cut hide call → FailsIn table bound old.laid cut call old.calls fault
    → FailsAt table bound t old fault
call_fails table bound t old fault ps o passed cut hide call def m f n start whole h =
    f n start whole (in_made table bound t old ps o passed cut hide call def m start whole h)

-- a step that goes on with a call
ended_on : (table : Table) (bound : ℕ) (old : State) (call : Call) (calls : List Call) (start : ℕ) (whole : List Token) → old.buffer.ahead ≡ [] → old.calls ≡ call ∷ calls
    → IsExpandingState table bound start whole old → IsExpanding table bound start whole old.laid old.buffer.done old.done [] old.buffer.more (call ∷ calls)
ended_on table bound old call calls start whole a c h =
    subst (λ x. IsExpanding table bound start whole old.laid old.buffer.done old.done x old.buffer.more (call ∷ calls)) a
    (subst (λ x. IsExpanding table bound start whole old.laid old.buffer.done old.done old.buffer.ahead old.buffer.more x) c h)

pub step_resumes : (table : Table) (bound : ℕ) (old new : State) (b : Spread) (call : Call) (calls : List Call) → b ≡ old.buffer → old.buffer.ahead ≡ [] → old.calls ≡ call ∷ calls
    → Resumes table bound old.laid b old.done call calls new → StepIs table bound old (Goes new)
step_resumes table bound old new b call calls s a c p' =
    let p : Resumes table bound old.laid old.buffer old.done call calls new = subst (λ x. Resumes table bound old.laid x old.done call calls new) s p' in
    record {
      keeps = λ start whole h. p.keeps start whole (ended_on table bound old call calls start whole a c h);
      less = λ start whole h. subst (λ x. work bound new.laid new.buffer.ahead new.buffer.more < work bound old.laid x old.buffer.more) (sym a)
          (p.less start whole (ended_on table bound old call calls start whole a c h));
      within = p.within;
    }

pub step_ends : (table : Table) (bound : ℕ) (old : State) (b : Spread) (list : TokenList) → old.laid ≤ bound → b ≡ old.buffer → old.buffer.ahead ≡ [] → old.calls ≡ []
    → (b.more ≡ [] → tokens list.nodes ≡ b.done ++ b.ahead) → (b.more ≡ [] → b.ahead ≡ [] → HasNoPartners list.nodes) → StepIs table bound old (Ends list old.laid)
step_ends table bound old b list le s a c e alone = (
  le,
  λ start whole h.
      let on : IsExpanding table bound start whole old.laid old.buffer.done old.done [] old.buffer.more [] =
      subst (λ x. IsExpanding table bound start whole old.laid old.buffer.done old.done x old.buffer.more []) a
      (subst (λ x. IsExpanding table bound start whole old.laid old.buffer.done old.done old.buffer.ahead old.buffer.more x) c h) in
      let none : b.more ≡ [] = ap (λ (x : Spread). x.more) s ∙ on_last table bound start whole old.laid old.buffer.done old.done [] old.buffer.more on in
      let same : tokens list.nodes ≡ old.buffer.done =
      e none ∙ (ap (λ (x : Spread). x.done ++ x.ahead) s ∙ (ap (λ ts. old.buffer.done ++ ts) a ∙ append-nil old.buffer.done)) in (
        subst (λ ts. Expands table bound start whole (expansion.expanded ts old.laid)) (sym same)
            (on_end table bound start whole old.laid old.buffer.done old.done old.buffer.more on),
        alone none (ap (λ (x : Spread). x.ahead) s ∙ a),
      ),
)

-- the substitutes of the arguments as the code has them
pub glued_along : (d : Definition) (raw raw' expanded expanded' : List (List Token)) (left_out : Bool) (result : Option (List Token)) → raw ≡ raw' → expanded ≡ expanded'
    → Glues [] (substitutes_of d (record { given = raw; left_out = left_out }) expanded) result
    → Glues [] (substitutes_of d (record { given = raw'; left_out = left_out }) expanded') result
glued_along d raw raw' expanded expanded' left_out result e f g =
    subst (λ x. Glues [] (substitutes_of d (record { given = x; left_out = left_out }) expanded') result) e
    (subst (λ x. Glues [] (substitutes_of d (record { given = raw; left_out = left_out }) x) result) f g)

pub too_many_along : (bound laid : ℕ) (name : Token) (view news : List Token) (fault : MacroFault) → view ≡ news
    → (bound < laid + (length view + 1)) × (fault ≡ TooManyTokens name.place (laid + (length view + 1)))
    → (bound < laid + (length news + 1)) × (fault ≡ TooManyTokens name.place (laid + (length news + 1)))
too_many_along bound laid name view news fault e h =
    subst (λ x. (bound < laid + (length x + 1)) × (fault ≡ TooManyTokens name.place (laid + (length x + 1)))) e h

-- what a call hides, as the code finds it
pub hides : (hide both names others names' others' : List (List ℕ)) (name : List ℕ) → hide ≡ with_name name both → both ≡ common names' others' → names' ≡ names
    → others' ≡ others → hide ≡ with_name name (common names others)
hides hide both names others names' others' name e f g h =
    e ∙ ap (with_name name) (f ∙ (ap (λ x. common x others') g ∙ ap (common names) h))

-- nothing is done yet
pub on_begun : (table : Table) (bound start : ℕ) (whole done : List Token) (b : Spread) (calls : List Call) → b ≡ record { done = []; ahead = whole; more = [] } → calls ≡ []
    → IsExpanding table bound start whole start b.done done b.ahead b.more calls
on_begun table bound start whole done b calls e c =
    subst (λ x. IsExpanding table bound start whole start b.done done b.ahead b.more x) (sym c)
    (subst (λ (x : Spread). IsExpanding table bound start whole start x.done done x.ahead x.more []) (sym e) (on_start table bound start whole done))
