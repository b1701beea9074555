-- What `define` says, step by step.
use Rattle.std.proofs.lemmas.Option.{option_and_then_some}
use Rattle.std.proofs.Common.{◌≡◌, ℕ, Bool, true, false, IsTrue, cond, not, ◌&&◌, ◌↔◌, List, [], ◌∷◌, Option, Some, None, option_and_then, option_map, refl, sym, ◌∙◌, ap, ap₂, subst}
use Rattle.cx_tokens.specs.declared.token.Token.{Token}
use Rattle.cx_tokens.specs.Simplified.{is_name}
use Rattle.cx_macro.specs.Arguments.{is_close, is_open}
use Rattle.cx_macro.specs.Macros.{Definition, IsDefinition, hashes_stand}
use Rattle.cx_directive.specs.Defines.{Parameters, all_names, are_distinct, checked_function, cut_at_close, defined_by, definition_after, function_definition, function_like, object_like, parameters_of, pastes_stand, well_formed}
use Rattle.cx_directive.specs.Shapes.Cuts.{after_bracket, cut_at}
use Rattle.cx_directive.proofs.BodyLaws.{variable_pastes}
use Rattle.cx_directive.proofs.CutLaws.{at_close}
use Rattle.cx_directive.proofs.DistinctLaws.{distinct_names, front_distinct}

-- ---- a macro without parameters

pub object_is : (d : Definition) (body : List Token) → d ≡ object_like body → IsDefinition d
object_is d body e = subst IsDefinition (sym e) (record { distinct = tt; variable = λ h. absurd cc; hashes = λ h. absurd cc })

-- ---- a macro with parameters

-- the macro, where the three tests pass
abbrev pub tested : Bool → Bool → Bool → Definition → Option Definition
tested distinct hashes pastes d = cond ((distinct && hashes) && pastes) (Some d) None

checked_is : (p : Parameters) (body : List Token)
    → checked_function p body ≡ tested (are_distinct (all_names p)) (hashes_stand (function_like p body) (function_like p body).body) (pastes_stand body) (function_like p body)
checked_is p body =
    ap
    (λ b. tested (are_distinct (all_names p)) (hashes_stand (function_like p body) (function_like p body).body) b (function_like p body))
    (variable_pastes p.variable body)

pub not_distinct : (p : Parameters) (body : List Token) (b : Bool) → b ≡ are_distinct (all_names p) → b ≡ false → None ≡ checked_function p body
not_distinct p body b e f =
    sym (checked_is p body ∙ ap (λ x. tested x (hashes_stand (function_like p body) (function_like p body).body) (pastes_stand body) (function_like p body)) (sym e ∙ f))

pub no_paste : (p : Parameters) (body : List Token) (b : Bool) → b ≡ pastes_stand body → b ≡ false → None ≡ checked_function p body
no_paste p body b e f =
    sym
    (checked_is p body
    ∙ (ap (λ x. tested (are_distinct (all_names p)) (hashes_stand (function_like p body) (function_like p body).body) x (function_like p body)) (sym e ∙ f)
    ∙ by (are_distinct (all_names p) && hashes_stand (function_like p body) (function_like p body).body)))
  where
    by : (a : Bool) → cond (a && false) (Some (function_like p body)) None ≡ None
    by true = refl
    by false = refl

-- names that are distinct, and each `#` before a parameter
function_is : (p : Parameters) (body : List Token) → are_distinct (all_names p) ≡ true → hashes_stand (function_like p body) (function_like p body).body ≡ true
    → IsDefinition (function_like p body)
function_is p body a h = record { distinct = distinct_names p.names (front_distinct p.names _ a); variable = λ _. refl; hashes = λ _. h }

passed : (p : Parameters) (body : List Token) (h : Bool) → are_distinct (all_names p) ≡ true → hashes_stand (function_like p body) (function_like p body).body ≡ h
    → pastes_stand body ≡ true → checked_function p body ≡ tested true h true (function_like p body)
passed p body h a e s =
    checked_is p body
    ∙ (ap (λ x. tested x (hashes_stand (function_like p body) (function_like p body).body) (pastes_stand body) (function_like p body)) a
    ∙ ap₂ (λ x y. tested true x y (function_like p body)) e s)

pub made_checked : (p : Parameters) (body : List Token) (d : Definition) (a s b : Bool) → a ≡ are_distinct (all_names p) → a ≡ true → s ≡ pastes_stand body → s ≡ true
    → d ≡ function_like p body → (IsTrue b ↔ IsDefinition d) → b ≡ true → Some d ≡ checked_function p body
made_checked p body d a s b ea ta es ts e f t =
    let is : IsDefinition (function_like p body) = subst IsDefinition e (f.0 t) in
    ap Some e ∙ sym (passed p body true (sym ea ∙ ta) (is.hashes refl) (sym es ∙ ts))

pub made_refused : (p : Parameters) (body : List Token) (d : Definition) (a s b : Bool) → a ≡ are_distinct (all_names p) → a ≡ true → s ≡ pastes_stand body → s ≡ true
    → d ≡ function_like p body → (IsTrue b ↔ IsDefinition d) → b ≡ false → None ≡ checked_function p body
made_refused p body d a s b ea ta es ts e f t = by (hashes_stand (function_like p body) (function_like p body).body) refl
  where
    by : (h : Bool) → hashes_stand (function_like p body) (function_like p body).body ≡ h → None ≡ checked_function p body
    by true h =
        let yes_it : b ≡ true = f.1 (subst IsDefinition (sym e) (function_is p body (sym ea ∙ ta) h)) in
        absurd cc
    by false h = sym (passed p body false (sym ea ∙ ta) h (sym es ∙ ts))

tested_all : (a h s : Bool) (d made : Definition) → tested a h s d ≡ Some made → (a ≡ true) × (h ≡ true) × (d ≡ made)
tested_all true true true d made e = (refl, refl, cc)
tested_all true true false d made e = absurd cc
tested_all true false s d made e = absurd cc
tested_all false h s d made e = absurd cc

-- what is checked is a definition
pub checked_definition : (p : Parameters) (body : List Token) (d : Definition) → checked_function p body ≡ Some d → IsDefinition d
checked_definition p body d e =
    let t = tested_all _ _ _ (function_like p body) d (sym (checked_is p body) ∙ e) in subst IsDefinition t.2 (function_is p body t.0 t.1)

-- ---- parameters and the body

abbrev pub with_parameters : Option (List Token × List Token) → Option Definition
with_parameters c = option_and_then (λ (x : List Token × List Token). option_and_then (λ p. checked_function p x.1) (parameters_of x.0)) c

pub no_close : (ts : List Token) → None ≡ cut_at is_close ts → None ≡ function_definition ts
unfolding function_definition
no_close ts h = ap with_parameters (h ∙ at_close ts)

pub no_parameters_there : (ts a b : List Token) → Some (a, b) ≡ cut_at is_close ts → None ≡ parameters_of a → None ≡ function_definition ts
unfolding function_definition
no_parameters_there ts a b h n = ap (option_and_then (λ p. checked_function p b)) n ∙ ap with_parameters (h ∙ at_close ts)

pub parameters_there : (ts a b : List Token) (p : Parameters) (d : Option Definition) → Some (a, b) ≡ cut_at is_close ts → Some p ≡ parameters_of a → d ≡ checked_function p b
    → d ≡ function_definition ts
unfolding function_definition
parameters_there ts a b p d h n e = e ∙ (ap (option_and_then (λ p. checked_function p b)) n ∙ ap with_parameters (h ∙ at_close ts))

-- ---- what stands after the name

abbrev pub after_name : List Token → Option (List Token) → Option Definition
after_name ts None = well_formed true (object_like ts)
after_name ts (Some inner) = function_definition inner

pub definition_by_bracket : (ts : List Token) → definition_after ts ≡ after_name ts (after_bracket ts)
unfolding definition_after
definition_by_bracket [] = refl
definition_by_bracket (t ∷ ts) = by (is_open t && not t.space)
  where
    by : (b : Bool) → cond b (function_definition ts) (well_formed true (object_like (t ∷ ts))) ≡ after_name (t ∷ ts) (cond b (Some ts) None)
    by true = refl
    by false = refl

pub bracket_there : (ts inner : List Token) (d : Option Definition) → Some inner ≡ after_bracket ts → d ≡ function_definition inner → d ≡ definition_after ts
bracket_there ts inner d h e = e ∙ (ap (after_name ts) h ∙ sym (definition_by_bracket ts))

pub no_bracket : (ts : List Token) (d : Option Definition) → None ≡ after_bracket ts → d ≡ well_formed true (object_like ts) → d ≡ definition_after ts
no_bracket ts d h e = e ∙ (ap (after_name ts) h ∙ sym (definition_by_bracket ts))

-- ---- the name

pub defined_name : (ts rest : List Token) (t : Token) (b : Bool) → ts ≡ t ∷ rest → b ≡ is_name t.kind → b ≡ true → option_map (λ d. (t.text, d)) (definition_after rest) ≡ defined_by ts
unfolding defined_by
defined_name ts rest t b e n h = sym (ap defined_by e ∙ ap (λ x. cond x (option_map (λ d. (t.text, d)) (definition_after rest)) None) (sym n ∙ h))

pub nothing_there : (ts : List Token) → ts ≡ [] → None ≡ defined_by ts
unfolding defined_by
nothing_there ts e = sym (ap defined_by e)

pub no_name_there : (ts rest : List Token) (t : Token) (b : Bool) → ts ≡ t ∷ rest → b ≡ is_name t.kind → b ≡ false → None ≡ defined_by ts
unfolding defined_by
no_name_there ts rest t b e n h = sym (ap defined_by e ∙ ap (λ x. cond x (option_map (λ d. (t.text, d)) (definition_after rest)) None) (sym n ∙ h))

pub not_defined : (ts rest : List Token) (t : Token) (b : Bool) → ts ≡ t ∷ rest → b ≡ is_name t.kind → b ≡ true → None ≡ definition_after rest → None ≡ defined_by ts
not_defined ts rest t b e n h d = ap (option_map (λ d. (t.text, d))) d ∙ defined_name ts rest t b e n h

pub named_there : (ts rest : List Token) (t : Token) (b : Bool) (name : List ℕ) (d : Definition) → ts ≡ t ∷ rest → b ≡ is_name t.kind → b ≡ true → name ≡ t.text
    → Some d ≡ definition_after rest → Some (name, d) ≡ defined_by ts
named_there ts rest t b name d e n h k s = ap (λ x. Some (x, d)) k ∙ (ap (option_map (λ d. (t.text, d))) s ∙ defined_name ts rest t b e n h)

-- ---- what is defined is a definition

object_definition_is : (body : List Token) (d : Definition) → well_formed true (object_like body) ≡ Some d → IsDefinition d
object_definition_is body d e = by (pastes_stand body) e
  where
    by : (b : Bool) → cond b (Some (object_like body)) None ≡ Some d → IsDefinition d
    by true e = object_is d body cc
    by false e = absurd cc

function_definition_is : (ts : List Token) (d : Definition) → function_definition ts ≡ Some d → IsDefinition d
unfolding function_definition
function_definition_is ts d e =
    option_and_then_some _ (cut_at_close ts) d e (λ c _ f. option_and_then_some _ (parameters_of c.0) d f (λ p _ g. checked_definition p c.1 d g))

after_definition : (ts : List Token) (d : Definition) → definition_after ts ≡ Some d → IsDefinition d
after_definition ts d e = by (after_bracket ts) (sym (definition_by_bracket ts) ∙ e)
  where
    by : (o : Option (List Token)) → after_name ts o ≡ Some d → IsDefinition d
    by None e = object_definition_is ts d e
    by (Some inner) e = function_definition_is inner d e

pub defined_definition : (ts : List Token) (name : List ℕ) (d : Definition) → defined_by ts ≡ Some (name, d) → IsDefinition d
unfolding defined_by
defined_definition [] name d e = absurd cc
defined_definition (t ∷ ts) name d e = by (is_name t.kind) e
  where
    same : (o : Option Definition) → option_map {U = List ℕ × Definition} (λ x. (t.text, x)) o ≡ Some (name, d) → o ≡ Some d
    same None e = absurd cc
    same (Some x) e = let p : (t.text, x) ≡ (name, d) = cc in ap (λ (y : List ℕ × Definition). Some y.1) p

    by : (b : Bool) → cond b (option_map {U = List ℕ × Definition} (λ x. (t.text, x)) (definition_after ts)) None ≡ Some (name, d) → IsDefinition d
    by true e = after_definition ts d (same (definition_after ts) e)
    by false e = absurd cc
