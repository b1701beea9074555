-- What is answered, token by token.
use Rattle.std.proofs.Common.{◌≡◌, ℕ, All, Bool, true, false, ◌&&◌, if◌then◌else◌, List, [], ◌∷◌, ◌++◌, Option, Some, None, refl, sym, ◌∙◌, ap, ap₂, arith}
use Rattle.std.proofs.lemmas.List.{append-nil, append_assoc}
use Rattle.std.proofs.lemmas.List.Elements.{All-head, All-tail}
use Rattle.cx_tokens.specs.declared.token.Token.{Token}
use Rattle.cx_tokens.specs.Brackets.{is_punctuator}
use Rattle.cx_tokens.specs.Simplified.{is_name}
use Rattle.cx_macro.specs.Macros.{Table}
use Rattle.cx_directive.specs.Answers.{answer, answered, is_bracketed_name, is_defined, is_question}
use Rattle.cx_directive.specs.Shapes.Asked.{asked, asked_by, bracketed}
use Rattle.cx_directive.proofs.BodyLaws.{no_sign}

-- what is left to answer, by what the first token asks for
abbrev pub answered_by : Table → Token → List Token → Option (List ℕ × List Token) → List Token
answered_by table t ts None = t ∷ answered table ts
answered_by table t ts (Some x) = answer (is_defined table x.0) t ∷ answered table x.1

pub answered_next : (table : Table) (t : Token) (ts : List Token) → answered table (t ∷ ts) ≡ answered_by table t ts (asked_by t ts)
unfolding answered
answered_next table t [] = by (is_question t)
  where
    by : (q : Bool) → t ∷ [] ≡ answered_by table t [] (if q then asked [] else None)
    by true = refl
    by false = refl
answered_next table t (a ∷ []) = by (is_question t) (is_name a.kind)
  where
    by : (q n : Bool) → (if q && n then answer (is_defined table a.text) t ∷ [] else t ∷ a ∷ [])
        ≡ answered_by table t (a ∷ []) (if q then (if n then Some (a.text, []) else None) else None)
    by true true = refl
    by true false = refl
    by false true = refl
    by false false = refl
answered_next table t (a ∷ b ∷ []) = by (is_question t) (is_name a.kind)
  where
    by : (q n : Bool) → (if q && n then answer (is_defined table a.text) t ∷ answered table (b ∷ []) else t ∷ answered table (a ∷ b ∷ []))
        ≡ answered_by table t (a ∷ b ∷ []) (if q then (if n then Some (a.text, b ∷ []) else None) else None)
    by true true = refl
    by true false = refl
    by false true = refl
    by false false = refl
answered_next table t (a ∷ b ∷ c ∷ rest) = by (is_question t) (is_name a.kind) (is_bracketed_name a b c)
  where
    by : (q n r : Bool)
        → (if q && n then answer (is_defined table a.text) t ∷ answered table (b ∷ c ∷ rest)
        else if q && r then answer (is_defined table b.text) t ∷ answered table rest
        else t ∷ answered table (a ∷ b ∷ c ∷ rest))
        ≡ answered_by table t (a ∷ b ∷ c ∷ rest) (if q then (if n then Some (a.text, b ∷ c ∷ rest) else if r then Some (b.text, rest) else None) else None)
    by true true r = refl
    by true false true = refl
    by true false false = refl
    by false true r = refl
    by false false r = refl

-- tokens that are answered, with the one that is answered next
pub more_answered : (table : Table) (made new left after : List Token) (t u : Token) (rest all : List Token) → made ++ answered table left ≡ all → left ≡ t ∷ after
    → answered_by table t after (asked_by t after) ≡ u ∷ answered table rest → new ≡ made ++ u ∷ [] → new ++ answered table rest ≡ all
more_answered table made new left after t u rest all h e n m =
    ap (λ x. x ++ answered table rest) m
    ∙ (append_assoc made (u ∷ []) (answered table rest) ∙ (ap (λ x. made ++ x) (sym (ap (answered table) e ∙ (answered_next table t after ∙ n))) ∙ h))

pub asks_nothing : (table : Table) (t u : Token) (after : List Token) → asked_by t after ≡ None → u ≡ t → answered_by table t after (asked_by t after) ≡ u ∷ answered table after
asks_nothing table t u after h e = ap (answered_by table t after) h ∙ ap (λ x. x ∷ answered table after) (sym e)

pub asks_name : (table : Table) (t u : Token) (after : List Token) (name : List ℕ) (rest : List Token) (defined : Bool) → Some (name, rest) ≡ asked_by t after → defined ≡ is_defined table name
    → u ≡ answer defined t → answered_by table t after (asked_by t after) ≡ u ∷ answered table rest
asks_name table t u after name rest defined h d e =
    ap (answered_by table t after) (sym h) ∙ ap (λ x. x ∷ answered table rest) (sym (e ∙ ap (λ b. answer b t) d))

pub all_answered : (table : Table) (made left all : List Token) → made ++ answered table left ≡ all → left ≡ [] → made ≡ all
unfolding answered
all_answered table made left all h e = sym (append-nil made) ∙ (ap (λ x. made ++ answered table x) (sym e) ∙ h)

-- ---- laws

pub nothing_asked : (table : Table) (ts : List Token) → All (λ t. is_question t ≡ false) ts → answered table ts ≡ ts
unfolding answered
nothing_asked table [] h = refl
nothing_asked table (t ∷ ts) h =
    answered_next table t ts
    ∙ (ap (λ b. answered_by table t ts (if b then asked ts else None)) (All-head (λ t. is_question t ≡ false) t ts h)
    ∙ ap (λ x. t ∷ x) (nothing_asked table ts (All-tail (λ t. is_question t ≡ false) t ts h)))

pub bare_answered : (table : Table) (t a : Token) (rest : List Token) → is_question t ≡ true → is_name a.kind ≡ true
    → answered table (t ∷ a ∷ rest) ≡ answer (is_defined table a.text) t ∷ answered table rest
bare_answered table t a rest q n =
    answered_next table t (a ∷ rest)
    ∙ ap₂ (λ (x y : Bool). answered_by table t (a ∷ rest) (if x then (if y then Some (a.text, rest) else bracketed (a ∷ rest)) else None)) q n

-- a bracket is no name
opening_is_no_name : (a b c : Token) → is_bracketed_name a b c ≡ true → is_name a.kind ≡ false
unfolding is_punctuator
opening_is_no_name a b c h = by (is_name a.kind) refl
  where
    by : (n : Bool) → is_name a.kind ≡ n → is_name a.kind ≡ false
    by false e = e
    by true e = let p = no_sign a.kind e in grind (arith, p, h)

pub bracketed_answered : (table : Table) (t a b c : Token) (rest : List Token) → is_question t ≡ true → is_bracketed_name a b c ≡ true
    → answered table (t ∷ a ∷ b ∷ c ∷ rest) ≡ answer (is_defined table b.text) t ∷ answered table rest
bracketed_answered table t a b c rest q r =
    answered_next table t (a ∷ b ∷ c ∷ rest)
    ∙ (ap₂ (λ (x y : Bool). answered_by table t (a ∷ b ∷ c ∷ rest) (if x then (if y then Some (a.text, b ∷ c ∷ rest) else bracketed (a ∷ b ∷ c ∷ rest)) else None)) q (opening_is_no_name a b c r)
    ∙ ap (λ (x : Bool). answered_by table t (a ∷ b ∷ c ∷ rest) (if x then Some (b.text, rest) else None)) r)
