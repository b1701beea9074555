-- What a token invokes, test by test.
use Rattle.std.proofs.Common.{◌≡◌, ℕ, List, [], ◌∷◌, Bool, true, false, cond, Option, Some, None, refl, sym, ◌∙◌, ap, subst}
use Rattle.cx_tokens.specs.declared.token.Token.{Token}
use Rattle.cx_macro.specs.Arguments.{AreArguments, Arguments, Bracketed, IsBracketed, IsRoundNested, begins_call, is_open}
use Rattle.cx_macro.specs.Expansion.{Invocation, IsInvocation, closing_missing, closing_there, definition_at, no_bracket_after, no_invocation, not_a_macro, object_name, of_function, of_object, unclosed}
use Rattle.cx_macro.specs.Macros.{Definition, Table}
use Rattle.cx_macro.specs.Shapes.Counting.{arguments_of, bracketed}
use Rattle.cx_macro.specs.Shapes.Invocations.{call_of, invocation_by, invocation_of, invocation_with}
use Rattle.cx_macro.proofs.CountingLaws.{arguments_only, bracketed_if, bracketed_only}

with_definition : (table : Table) (t : Token) (rest : List Token) (d : Definition) (ps : Option (List (List ℕ))) → definition_at table t ≡ Some d → d.parameters ≡ ps
    → invocation_of table t rest ≡ invocation_by d ps rest
unfolding invocation_of
with_definition table t rest d ps e f = ap (λ x. invocation_with x rest) e ∙ ap (λ x. invocation_by d x rest) f

pub use_none : (table : Table) (t : Token) (rest : List Token) → definition_at table t ≡ None → invocation_of table t rest ≡ no_invocation
unfolding invocation_of
use_none table t rest e = ap (λ x. invocation_with x rest) e

pub use_object : (table : Table) (t : Token) (rest : List Token) (d : Definition) → definition_at table t ≡ Some d → d.parameters ≡ None
    → invocation_of table t rest ≡ of_object d
use_object table t rest d e f = with_definition table t rest d None e f

pub use_name : (table : Table) (t : Token) (rest : List Token) (d : Definition) (ps : List (List ℕ)) → definition_at table t ≡ Some d → d.parameters ≡ Some ps
    → begins_call rest ≡ false → invocation_of table t rest ≡ no_invocation
use_name table t [] d ps e f n = with_definition table t [] d (Some ps) e f
use_name table t (x ∷ xs) d ps e f n =
    with_definition table t (x ∷ xs) d (Some ps) e f ∙ ap (λ b. cond b (call_of d ps (bracketed 0 xs)) no_invocation) n

bracketed_use : (table : Table) (t o : Token) (rest mid : List Token) (d : Definition) (ps : List (List ℕ)) (b : Option Bracketed) → definition_at table t ≡ Some d
    → d.parameters ≡ Some ps → begins_call rest ≡ true → rest ≡ o ∷ mid → bracketed 0 mid ≡ b → invocation_of table t rest ≡ call_of d ps b
bracketed_use table t o rest mid d ps b e f n r h =
    let opens : is_open o ≡ true = subst (λ x. begins_call x ≡ true) r n in
    ap (invocation_of table t) r ∙ (with_definition table t (o ∷ mid) d (Some ps) e f
    ∙ (ap (λ x. cond x (call_of d ps (bracketed 0 mid)) no_invocation) opens ∙ ap (call_of d ps) h))

pub use_call : (table : Table) (t o : Token) (rest mid : List Token) (d : Definition) (ps : List (List ℕ)) (b : Bracketed) → definition_at table t ≡ Some d
    → d.parameters ≡ Some ps → begins_call rest ≡ true → rest ≡ o ∷ mid → bracketed 0 mid ≡ Some b → invocation_of table t rest ≡ of_function d ps b
use_call table t o rest mid d ps b e f n r h = bracketed_use table t o rest mid d ps (Some b) e f n r h

pub use_unclosed : (table : Table) (t o : Token) (rest mid : List Token) (d : Definition) (ps : List (List ℕ)) → definition_at table t ≡ Some d
    → d.parameters ≡ Some ps → begins_call rest ≡ true → rest ≡ o ∷ mid → bracketed 0 mid ≡ None → invocation_of table t rest ≡ unclosed
use_unclosed table t o rest mid d ps e f n r h = bracketed_use table t o rest mid d ps None e f n r h

-- the invocation that is computed is the one that is there
by_closing : (table : Table) (t o : Token) (rest ts : List Token) (d : Definition) (ps : List (List ℕ)) (r : Option Bracketed) → definition_at table t ≡ Some d
    → d.parameters ≡ Some ps → rest ≡ o ∷ ts → is_open o ≡ true → bracketed 0 ts ≡ r → IsInvocation table t rest (call_of d ps r)
by_closing table t o rest ts d ps None e f w n h = closing_missing e f w n (λ b k. absurd (not_found b (sym h ∙ bracketed_if ts b k)))
  where
    not_found : (b : Bracketed) → None ≡ Some b → ⊥
    not_found b e = absurd cc
by_closing table t o rest ts d ps (Some b) e f w n h = closing_there e f w n (bracketed_only ts b h)

by_rest : (table : Table) (t : Token) (rest : List Token) (d : Definition) (ps : Option (List (List ℕ))) → definition_at table t ≡ Some d → d.parameters ≡ ps
    → IsInvocation table t rest (invocation_by d ps rest)
by_rest table t rest d None e f = object_name e f
by_rest table t [] d (Some ps) e f = no_bracket_after e f refl
by_rest table t (o ∷ ts) d (Some ps) e f = at (is_open o) refl
  where
    at : (b : Bool) → is_open o ≡ b → IsInvocation table t (o ∷ ts) (cond b (call_of d ps (bracketed 0 ts)) no_invocation)
    at true n = by_closing table t o (o ∷ ts) ts d ps (bracketed 0 ts) e f refl n refl
    at false n = no_bracket_after e f n

by_definition : (table : Table) (t : Token) (rest : List Token) (d : Option Definition) → definition_at table t ≡ d → IsInvocation table t rest (invocation_with d rest)
by_definition table t rest None e = not_a_macro e
by_definition table t rest (Some d) e = by_rest table t rest d d.parameters e refl

pub invocation_only : (table : Table) (t : Token) (rest : List Token) (i : Invocation) → invocation_of table t rest ≡ i → IsInvocation table t rest i
unfolding invocation_of
invocation_only table t rest i e = subst (IsInvocation table t rest) e (by_definition table t rest (definition_at table t) refl)

not_bracketed : (ts : List Token) (r : Option Bracketed) → bracketed 0 ts ≡ r → ((b : Bracketed) → ¬ IsBracketed ts b) → r ≡ None
not_bracketed ts None e n = refl
not_bracketed ts (Some b) e n = absurd (n b (bracketed_only ts b e))

pub invocation_if : {table : Table} {t : Token} {rest : List Token} {i : Invocation} → IsInvocation table t rest i → invocation_of table t rest ≡ i
invocation_if {table} {t} {rest} (not_a_macro e) = use_none table t rest e
invocation_if {table} {t} {rest} (no_bracket_after {d = d} {parameters = ps} e f n) = use_name table t rest d ps e f n
invocation_if {table} {t} {rest} (object_name {d = d} e f) = use_object table t rest d e f
invocation_if {table} {t} {rest} (closing_missing {d = d} {parameters = ps} {opening = o} {ts = ts} e f w n h) =
    use_unclosed table t o rest ts d ps e f (subst (λ x. begins_call x ≡ true) (sym w) n) w (not_bracketed ts (bracketed 0 ts) refl h)
invocation_if {table} {t} {rest} (closing_there {d = d} {parameters = ps} {opening = o} {ts = ts} {b = b} e f w n h) =
    use_call table t o rest ts d ps b e f (subst (λ x. begins_call x ≡ true) (sym w) n) w (bracketed_if ts b h)

same_brackets : (d d' : Definition) (ps ps' : List (List ℕ)) (b b' : Bracketed) → of_function d ps b ≡ of_function d' ps' b' → b ≡ b'
same_brackets d d' ps ps' b b' e = cc

-- what stands between the brackets of an invocation is nested
nested_in : {table : Table} {t : Token} {rest : List Token} (i : Invocation) (d : Definition) (ps : List (List ℕ)) (b : Bracketed) → i ≡ of_function d ps b
    → IsInvocation table t rest i → IsRoundNested b.inner
nested_in _ d ps b e (not_a_macro f) = absurd cc
nested_in _ d ps b e (no_bracket_after f g n) = absurd cc
nested_in _ d ps b e (object_name f g) = absurd cc
nested_in _ d ps b e (closing_missing f g w n h) = absurd cc
nested_in _ d ps b e (closing_there {d = d'} {parameters = ps'} {b = b'} f g w n h) = subst (λ (x : Bracketed). IsRoundNested x.inner) (same_brackets d' d ps' ps b' b e) h.nested

pub given_only : (table : Table) (t : Token) (rest : List Token) (d : Definition) (ps : List (List ℕ)) (b : Bracketed) (n : ℕ) (variadic : Bool) (x : Arguments)
    → invocation_of table t rest ≡ of_function d ps b → arguments_of n variadic b.inner ≡ Some x → AreArguments n variadic b.inner x
given_only table t rest d ps b n variadic x u a =
    arguments_only n variadic b.inner x (nested_in (of_function d ps b) d ps b refl (invocation_only table t rest (of_function d ps b) u)) a

pub invocation_same : {table : Table} {t : Token} {rest : List Token} {i j : Invocation} → IsInvocation table t rest i → IsInvocation table t rest j → i ≡ j
invocation_same h k = sym (invocation_if h) ∙ invocation_if k
