-- A token that replaces a macro's name hides that name.
use Rattle.std.proofs.Common.{◌≡◌, ℕ, Bool, true, false, not, cond, ◌&&◌, ◌||◌, List, [], ◌∷◌, ◌++◌, All, Option, Some, None, filter, map, bytes_eq, refl, sym, ◌∙◌, ap, subst}
use Rattle.std.specs.List.{list_any}
use Rattle.std.proofs.lemmas.Bool.{or_left}
use Rattle.std.proofs.lemmas.List.Elements.{All-cons, All-head, All-nil, All-tail}
use Rattle.std.proofs.lemmas.List.Folds.{list_any-append}
use Rattle.std.proofs.lemmas.Slice.Eq.{bytes_eq-Decides}
use Rattle.cx_tokens.specs.declared.token.Token.{Token}
use Rattle.cx_tokens.specs.Simplified.{is_name}
use Rattle.cx_table.specs.NameTable.{value_of}
use Rattle.cx_macro.specs.Expansion.{Replacement, Replaces, argument_count, argument_fault, definition_at, function_like, line_name, line_of, no_replacement, object_like, replacement, replacement_of, unclosed_call}
use Rattle.cx_macro.specs.Hiding.{common, is_among, united, with_name}
use Rattle.cx_macro.specs.Macros.{Definition, Table}
use Rattle.cx_macro.specs.Replacement.{replacement_token, replacement_tokens, with_space}

-- a name is among those that it has been put to
among_last : (name : List ℕ) (names : List (List ℕ)) → is_among (names ++ name ∷ []) name ≡ true
among_last name names =
    list_any-append (bytes_eq name) names (name ∷ [])
    ∙ at (is_among names name) (bytes_eq name name) ((bytes_eq-Decides name name).1 refl)
  where
    at : (a b : Bool) → b ≡ true → (a || (b || false)) ≡ true
    at true b e = refl
    at false b e = ap (λ x. x || false) e

pub among_with : (name : List ℕ) (names : List (List ℕ)) → is_among (with_name name names) name ≡ true
unfolding united
among_with name names = at (is_among names name) refl
  where
    at : (b : Bool) → is_among names name ≡ b → is_among (names ++ cond (not b) (name ∷ []) []) name ≡ true
    at true e = list_any-append (bytes_eq name) names [] ∙ ap (λ x. x || false) e
    at false e = among_last name names

-- what is hidden stays so under more names
among_more : (name : List ℕ) (names others : List (List ℕ)) → is_among others name ≡ true → is_among (united names others) name ≡ true
unfolding united
among_more name names others e =
    list_any-append (bytes_eq name) names (filter (λ x. not (is_among names x)) others) ∙ at (is_among names name) refl
  where
    among_filtered : (others : List (List ℕ)) → is_among others name ≡ true → is_among names name ≡ false
        → is_among (filter (λ x. not (is_among names x)) others) name ≡ true
    among_filtered [] e f = absurd cc
    among_filtered (o ∷ os) e f = by (bytes_eq name o) (is_among names o) refl refl e (λ g. among_filtered os g f)
      where
        by : (s a : Bool) → bytes_eq name o ≡ s → is_among names o ≡ a → (s || is_among os name) ≡ true
            → (is_among os name ≡ true → is_among (filter (λ x. not (is_among names x)) os) name ≡ true)
            → is_among (cond (not a) (o ∷ filter (λ x. not (is_among names x)) os) (filter (λ x. not (is_among names x)) os)) name ≡ true
        by true true p q e next =
            let same : name ≡ o = (bytes_eq-Decides name o).0 p in
            let contrary : is_among names o ≡ false = subst (λ x. is_among names x ≡ false) same f in
            absurd cc
        by true false p q e next = ap (λ x. x || is_among (filter (λ y. not (is_among names y)) os) name) p
        by false true p q e next = next e
        by false false p q e next = ap (λ x. x || is_among (filter (λ y. not (is_among names y)) os) name) p ∙ next e

    at : (b : Bool) → is_among names name ≡ b → (b || is_among (filter (λ x. not (is_among names x)) others) name) ≡ true
    at true f = refl
    at false f = among_filtered others e f

spaced : (name : List ℕ) (space : Bool) (ts : List Token) → All (λ x. is_among x.hide name ≡ true) ts → All (λ x. is_among x.hide name ≡ true) (with_space space ts)
spaced name space [] h = h
spaced name space (t ∷ ts) h = All-cons (λ x. is_among x.hide name ≡ true) _ ts (All-head (λ x. is_among x.hide name ≡ true) t ts h) (All-tail (λ x. is_among x.hide name ≡ true) t ts h)

all_hide : (name : List ℕ) (t : Token) (hide : List (List ℕ)) (ts : List Token) → is_among hide name ≡ true
    → All (λ x. is_among x.hide name ≡ true) (map (replacement_token t hide) ts)
all_hide name t hide [] e = All-nil _
all_hide name t hide (x ∷ xs) e =
    All-cons (λ y. is_among y.hide name ≡ true) (replacement_token t hide x) (map (replacement_token t hide) xs) (among_more name x.hide hide e) (all_hide name t hide xs e)

replaced_hide : (name : List ℕ) (t : Token) (hide : List (List ℕ)) (rest : List Token) (laid : ℕ) (made : Option (List Token)) (ts after : List Token) (n : ℕ)
    → is_among hide name ≡ true → replacement_of t hide rest laid made ≡ replacement ts after n → All (λ x. is_among x.hide name ≡ true) ts
unfolding replacement_tokens
replaced_hide name t hide rest laid None ts after n h e = absurd cc
replaced_hide name t hide rest laid (Some made) ts after n h e =
    let same : replacement_tokens t hide made ≡ ts = cc in
    subst (All (λ x. is_among x.hide name ≡ true)) same (spaced name t.space (map (replacement_token t hide) made) (all_hide name t hide made h))

hidden_in : {table : Table} {bound laid : ℕ} {t : Token} {rest : List Token} {r : Replacement} (ts after : List Token) (n : ℕ) → r ≡ replacement ts after n
    → Replaces table bound laid t rest r → All (λ x. is_among x.hide t.text ≡ true) ts
hidden_in {laid = laid} {t = t} {rest = rest} ts after n e (object_like d made u g) =
    replaced_hide t.text t (with_name t.text t.hide) rest laid made ts after n (among_with t.text t.hide) e
hidden_in ts after n e (unclosed_call u) = absurd cc
hidden_in ts after n e (argument_count d ps b u a) = absurd cc
hidden_in ts after n e (argument_fault d ps b raw fault u a f) = absurd cc
hidden_in {t = t} ts after n e (function_like d ps b raw done laid made u a f g) =
    replaced_hide t.text t (with_name t.text (common t.hide b.closing.hide)) b.after laid made ts after n (among_with t.text (common t.hide b.closing.hide)) e

pub hidden : (table : Table) (bound laid : ℕ) (t : Token) (rest ts after : List Token) (n : ℕ) → Replaces table bound laid t rest (replacement ts after n)
    → All (λ x. is_among x.hide t.text ≡ true) ts
hidden table bound laid t rest ts after n r = hidden_in ts after n refl r

no_definition : (table : Table) (x : Token) → is_among x.hide x.text ≡ true → definition_at table x ≡ None
unfolding definition_at
no_definition table x h =
    ap (λ b. cond (is_name x.kind && not b) (cond (bytes_eq x.text line_name) (Some (line_of x)) (value_of table x.text)) None) h ∙ at (is_name x.kind)
  where
    at : (b : Bool) → cond (b && false) (cond (bytes_eq x.text line_name) (Some (line_of x)) (value_of table x.text)) None ≡ None
    at true = refl
    at false = refl

own_name : (table : Table) (name : List ℕ) (ts : List Token) → All (λ x. is_among x.hide name ≡ true) ts → All (λ x. x.text ≡ name → definition_at table x ≡ None) ts
own_name table name [] h = All-nil _
own_name table name (t ∷ ts) h =
    All-cons (λ x. x.text ≡ name → definition_at table x ≡ None) t ts
    (λ e. no_definition table t (subst (λ y. is_among t.hide y ≡ true) (sym e) (All-head (λ x. is_among x.hide name ≡ true) t ts h)))
    (own_name table name ts (All-tail (λ x. is_among x.hide name ≡ true) t ts h))

pub stays : (table : Table) (bound laid : ℕ) (t : Token) (rest ts after : List Token) (n : ℕ) → Replaces table bound laid t rest (replacement ts after n)
    → All (λ x. x.text ≡ t.text → definition_at table x ≡ None) ts
stays table bound laid t rest ts after n r = own_name table t.text ts (hidden table bound laid t rest ts after n r)
