-- Where nothing is replaced, and how many tokens are laid.
use Rattle.std.proofs.Common.{◌≡◌, ℕ, ◌+◌, ◌<◌, ◌≤◌, Bool, List, [], ◌∷◌, All, Option, Some, None, length, refl, sym, ◌∙◌, ap, subst, arith}
use Rattle.std.proofs.lemmas.List.Elements.{All-head, All-tail}
use Rattle.cx_base.specs.declared.place.Place.{Place}
use Rattle.cx_tokens.specs.declared.token.Token.{Token}
use Rattle.cx_macro.specs.declared.fault.MacroFault.{MacroFault}
use Rattle.cx_macro.specs.declared.fault.MacroFault.TheVariants.{TooManyTokens}
use Rattle.cx_macro.specs.Expansion.{ArgumentsOutcome, Expands, ExpandsEach, ExpandsList, Outcome, Replaces, Replacement, all_expanded, argument_count, argument_fault, preceded_by_argument, preceded_by_token, definition_at, ends, expanded, function_like, no_more, not_a_macro, no_replacement, not_expanded, not_wanted, object_like, one_refused, refused, replacement_of, stops, token_goes, token_stays, too_long, too_many, unclosed_call, wanted, within}
use Rattle.cx_macro.specs.Macros.{Table}

nothing : (table : Table) (bound laid : ℕ) (list : List Token) → All (λ t. definition_at table t ≡ None) list → Expands table bound laid list (expanded list laid)
nothing table bound laid [] h = ends
nothing table bound laid (t ∷ rest) h = token_stays (not_a_macro (All-head (λ x. definition_at table x ≡ None) t rest h))
    (nothing table bound laid rest (All-tail (λ x. definition_at table x ≡ None) t rest h))

pub nothing_replaced : (table : Table) (bound laid : ℕ) (list : List Token) → All (λ t. definition_at table t ≡ None) list → laid + length list ≤ bound
    → ExpandsList table bound laid list (expanded list (laid + length list))
nothing_replaced table bound laid list h le = within le (nothing table bound (laid + length list) list h)

behind_expanded : (t : Token) (o : Outcome) (made : List Token) (after : ℕ) → preceded_by_token t o ≡ expanded made after → (ts : List Token) × (o ≡ expanded ts after)
behind_expanded t (expanded ts n) made after e = let same : n ≡ after = cc in (ts, ap (expanded ts) same)
behind_expanded t (refused fault) made after e = absurd cc

expands_below : {table : Table} {bound laid : ℕ} {list : List Token} {o : Outcome} (made : List Token) (after : ℕ) → Expands table bound laid list o
    → o ≡ expanded made after → laid ≤ bound → after ≤ bound
expands_below {laid = laid} made after ends e le = let same : laid ≡ after = cc in omega arith
expands_below made after (token_stays {t = t} {outcome = outcome} u h) e le =
    let p = behind_expanded t outcome made after e in expands_below p.0 after h p.1 le
expands_below made after (token_goes news rest n r le' h) e le = expands_below made after h e le'
expands_below made after (too_many news rest n r lt) e le = absurd cc
expands_below made after (stops fault r) e le = absurd cc

list_below : {table : Table} {bound laid : ℕ} {list : List Token} {o : Outcome} (made : List Token) (after : ℕ) → ExpandsList table bound laid list o
    → o ≡ expanded made after → after ≤ bound
list_below made after (within le h) e = expands_below made after h e le
list_below made after (too_long lt) e = absurd cc

pub met : (table : Table) (bound laid : ℕ) (list made : List Token) (after : ℕ) → ExpandsList table bound laid list (expanded made after) → after ≤ bound
met table bound laid list made after h = list_below made after h refl

behind_refused : (t : Token) (o : Outcome) (fault : MacroFault) → preceded_by_token t o ≡ refused fault → o ≡ refused fault
behind_refused t (expanded ts n) fault e = absurd cc
behind_refused t (refused other) fault e = e

behind_one_refused : (ts : List Token) (o : ArgumentsOutcome) (fault : MacroFault) → preceded_by_argument ts o ≡ one_refused fault → o ≡ one_refused fault
behind_one_refused ts (all_expanded more n) fault e = absurd cc
behind_one_refused ts (one_refused other) fault e = e

glued_in_room : (t : Token) (hide : List (List ℕ)) (rest : List Token) (laid : ℕ) (made : Option (List Token)) (at : Place) (n : ℕ)
    → replacement_of t hide rest laid made ≡ no_replacement (TooManyTokens at n) → ⊥
glued_in_room t hide rest laid None at n e = absurd cc
glued_in_room t hide rest laid (Some made) at n e = absurd cc

mutual
  expands_past : {table : Table} {bound laid : ℕ} {list : List Token} {o : Outcome} (at : Place) (n : ℕ) → Expands table bound laid list o
      → o ≡ refused (TooManyTokens at n) → bound < n
  expands_past at n ends e = absurd cc
  expands_past at n (token_stays {t = t} {outcome = outcome} u h) e = expands_past at n h (behind_refused t outcome (TooManyTokens at n) e)
  expands_past at n (token_goes news rest made r le h) e = expands_past at n h e
  expands_past at n (too_many news rest made r lt) e = let same : made + (length news + 1) ≡ n = cc in omega arith
  expands_past at n (stops fault r) e = let same : fault ≡ TooManyTokens at n = cc in replaces_past at n r (ap no_replacement same)

  replaces_past : {table : Table} {bound laid : ℕ} {t : Token} {rest : List Token} {r : Replacement} (at : Place) (n : ℕ) → Replaces table bound laid t rest r
      → r ≡ no_replacement (TooManyTokens at n) → bound < n
  replaces_past at n (object_like {laid = laid} {t = t} {rest = rest} d made u g) e = absurd (glued_in_room t _ rest laid made at n e)
  replaces_past at n (unclosed_call u) e = absurd cc
  replaces_past at n (argument_count d ps b u a) e = absurd cc
  replaces_past at n (argument_fault d ps b raw fault u a h) e = let same : fault ≡ TooManyTokens at n = cc in each_past at n h (ap one_refused same)
  replaces_past at n (function_like {t = t} d ps b raw done after made u a h g) e = absurd (glued_in_room t _ b.after after made at n e)

  each_past : {table : Table} {bound laid : ℕ} {arguments : List (Bool × List Token)} {o : ArgumentsOutcome} (at : Place) (n : ℕ)
      → ExpandsEach table bound laid arguments o → o ≡ one_refused (TooManyTokens at n) → bound < n
  each_past at n no_more e = absurd cc
  each_past at n (not_wanted {outcome = outcome} h) e = each_past at n h (behind_one_refused [] outcome (TooManyTokens at n) e)
  each_past at n (wanted {outcome = outcome} ts after x h) e = each_past at n h (behind_one_refused ts outcome (TooManyTokens at n) e)
  each_past at n (not_expanded fault h) e = let same : fault ≡ TooManyTokens at n = cc in expands_past at n h (ap refused same)

list_past : {table : Table} {bound laid : ℕ} {list : List Token} {o : Outcome} (at : Place) (n : ℕ) → ExpandsList table bound laid list o
    → o ≡ refused (TooManyTokens at n) → bound < n
list_past at n (within le h) e = expands_past at n h e
list_past {laid = laid} at n (too_long {t = t} {rest = rest} lt) e = let same : laid + length (t ∷ rest) ≡ n = cc in omega arith

pub passed : (table : Table) (bound laid : ℕ) (list : List Token) (at : Place) (after : ℕ) → ExpandsList table bound laid list (refused (TooManyTokens at after)) → bound < after
passed table bound laid list at after h = list_past at after h refl

pub list_too_long : (table : Table) (bound laid total : ℕ) (t : Token) (rest ahead : List Token) → ahead ≡ t ∷ rest → bound < total → total ≡ laid + length ahead
    → ExpandsList table bound laid ahead (refused (TooManyTokens t.place total))
list_too_long table bound laid total t rest ahead e lt s =
    subst (λ x. ExpandsList table bound laid x (refused (TooManyTokens t.place total))) (sym e)
    (subst (λ n. ExpandsList table bound laid (t ∷ rest) (refused (TooManyTokens t.place n))) (sym same) (too_long (subst (λ n. bound < n) same lt)))
  where
    same : total ≡ laid + length (t ∷ rest)
    same = s ∙ ap (λ x. laid + length x) e
