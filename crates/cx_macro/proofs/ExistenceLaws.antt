-- Every list has an outcome.
use Rattle.std.proofs.Common.{◌≡◌, ℕ, zero, suc, ◌+◌, ◌-◌, ◌*◌, ◌<◌, ◌≤◌, Bool, true, false, cond, List, [], ◌∷◌, ◌++◌, Option, Some, None, refl, ◌∙◌, ap, arith, length, length-append, ⊎_elim}
use Rattle.std.proofs.lemmas.Bool.{cases_lt}
use Rattle.cx_tokens.specs.declared.token.Token.{Token}
use Rattle.cx_tokens.specs.Digraphs.{spelling_of}
use Rattle.cx_lex.proofs.PieceOrNone.{one_or_none}
use Rattle.cx_macro.specs.declared.fault.MacroFault.TheVariants.{ArgumentCount, UnclosedCall}
use Rattle.cx_macro.specs.Arguments.{no_arguments, Arguments, Bracketed, is_open}
use Rattle.cx_macro.specs.Shapes.Counting.{arguments_of, bracketed}
use Rattle.cx_macro.specs.Expansion.{ArgumentsOutcome, Expands, ExpandsEach, ExpandsList, Outcome, Replaces, Replacement, Invocation, all_expanded, argument_count, argument_fault, preceded_by_argument, preceded_by_token, of_function, definition_at, ends, expanded, function_like, no_more, no_replacement, not_expanded, not_wanted, object_like, one_refused, refused, of_object, replacement, replacement_of, no_invocation, stops, token_goes, token_stays, too_long, too_many, unclosed, unclosed_call, wanted, wanted_from, within}
use Rattle.cx_macro.specs.Shapes.Invocations.{call_of, invocation_by, invocation_of, invocation_with}
use Rattle.cx_macro.specs.Hiding.{common, with_name}
use Rattle.cx_macro.specs.Macros.{Definition, Table}
use Rattle.cx_macro.specs.Replacement as by
use Rattle.cx_macro.specs.Replacement.{Glues, Joins, JoinsSides, Substitute, is_expanded, substitutes_of, paste_operator, operand, tokens_of}
use Rattle.cx_macro.specs.Shapes.Steps.{weights}
use Rattle.cx_macro.proofs.CountingLaws.{arguments_none}
use Rattle.cx_macro.proofs.InvocationLaws.{given_only, invocation_only}
use Rattle.cx_macro.proofs.CallLaws.{arguments_weight, bracketed_length}

joins_some : (a b : Token) → (c : Option Token) × Joins a b c
joins_some a b = one_or_none (spelling_of a ++ spelling_of b) ((c : Option Token) × Joins a b c) (λ kind text h. (_, by.one_piece kind text h)) (λ n. (None, by.no_piece n))

-- the last of a list
record Last (xs : List Token) : Type 0 where
  front : List Token
  last : Token
  whole : xs ≡ front ++ last ∷ []

last_of : (x : Token) (xs : List Token) → Last (x ∷ xs)
last_of x [] = record { front = []; last = x; whole = refl }
last_of x (y ∷ ys) = let l = last_of y ys in record { front = x ∷ l.front; last = l.last; whole = ap (λ t. x ∷ t) l.whole }

sides_some : (left right : List Token) → (c : Option (List Token)) × JoinsSides left right c
sides_some [] right = (Some right, by.left_empty)
sides_some (x ∷ xs) [] = (Some (x ∷ xs), by.right_empty)
sides_some (x ∷ xs) (b ∷ rest) =
    let l = last_of x xs in
    let j = joins_some l.last b in
    at l.front l.last l.whole j.0 j.1
  where
    at : (front : List Token) (a : Token) → x ∷ xs ≡ front ++ a ∷ [] → (c : Option Token) → Joins a b c → (d : Option (List Token)) × JoinsSides (x ∷ xs) (b ∷ rest) d
    at front a w (Some c) j = (Some (front ++ c ∷ rest), by.joined a b c front rest w refl j)
    at front a w None j = (None, by.unjoined a b front rest w refl j)

glues_some : (ss : List Substitute) (left : List Token) → (made : Option (List Token)) × Glues left ss made
glues_some [] left = (Some left, by.ends)
glues_some (operand ts ∷ ps) left = let g = glues_some ps ts in (by.preceded_by left g.0, by.goes_on g.1)
glues_some (paste_operator t ∷ []) left = (Some left, by.ends_with_paste)
glues_some (paste_operator t ∷ p ∷ ps) left = let s = sides_some left (tokens_of p) in at (glues_some ps) s.0 s.1
  where
    at : ((both : List Token) → (made : Option (List Token)) × Glues both ps made) → (c : Option (List Token)) → JoinsSides left (tokens_of p) c
        → (made : Option (List Token)) × Glues left (paste_operator t ∷ p ∷ ps) made
    at next None j = (None, by.fails j)
    at next (Some both) j = let g = next both in (g.0, by.pastes both j g.1)

-- what was laid is no less, and within the bound
Grows : ℕ → ℕ → Outcome → Type 0
Grows bound laid (expanded ts after) = (laid ≤ after) × (after ≤ bound)
Grows bound laid (refused fault) = Unit {0}

GrowsEach : ℕ → ℕ → ArgumentsOutcome → Type 0
GrowsEach bound laid (all_expanded ts after) = (laid ≤ after) × (after ≤ bound)
GrowsEach bound laid (one_refused fault) = Unit {0}

GrowsBehind : ℕ → ℕ → List Token → Replacement → Type 0
GrowsBehind bound laid rest (replacement news after made) = (laid ≤ made) × (made ≤ bound) × (length after ≤ length rest)
GrowsBehind bound laid rest (no_replacement fault) = Unit {0}

record Found (table : Table) (bound laid : ℕ) (list : List Token) : Type 0 where
  outcome : Outcome
  expands : Expands table bound laid list outcome
  grows : Grows bound laid outcome

record FoundEach (table : Table) (bound laid : ℕ) (arguments : List (Bool × List Token)) : Type 0 where
  outcome : ArgumentsOutcome
  expands : ExpandsEach table bound laid arguments outcome
  grows : GrowsEach bound laid outcome

record FoundBehind (table : Table) (bound laid : ℕ) (t : Token) (rest : List Token) : Type 0 where
  made : Replacement
  replaces : Replaces table bound laid t rest made
  grows : GrowsBehind bound laid rest made

module _ (table : Table) (bound : ℕ) where
  -- the lists of which less work is left than this
  Below : ℕ → Type 0
  Below work = (laid : ℕ) (list : List Token) → laid ≤ bound → 2 * (bound - laid) + 2 * length list < work → Found table bound laid list

  each_found : (work laid : ℕ) (d : Definition) (i : ℕ) (raw : List (List Token)) → Below work → laid ≤ bound → 2 * (bound - laid) + weights raw < work
      → FoundEach table bound laid (wanted_from d i raw)
  unfolding Below Grows GrowsEach
  each_found work laid d i [] below le less = record { outcome = all_expanded [] laid; expands = no_more; grows = (omega arith, le) }
  each_found work laid d i (argument ∷ rest) below le less =
      at (λ laid' le' less'. each_found work laid' d (i + 1) rest below le' less') (is_expanded d i)
    where
      -- what is found of the arguments behind
      Next : Type 0
      Next = (laid' : ℕ) → laid' ≤ bound → 2 * (bound - laid') + weights rest < work → FoundEach table bound laid' (wanted_from d (i + 1) rest)

      behind : (ts : List Token) (o : ArgumentsOutcome) (before after : ℕ) → before ≤ after → GrowsEach bound after o → GrowsEach bound before (preceded_by_argument ts o)
      behind ts (all_expanded more n) before after l g = let a = g.0 in let b = g.1 in (omega (arith, l, a), b)
      behind ts (one_refused fault) before after l g = tt

      found : Next → (o : Outcome) → Expands table bound laid argument o → Grows bound laid o → FoundEach table bound laid ((true, argument) ∷ wanted_from d (i + 1) rest)
      found next (refused fault) e g = record { outcome = one_refused fault; expands = not_expanded fault e; grows = tt }
      found next (expanded ts after) e g =
          let a = g.0 in
          let b = g.1 in
          let f = next after b (omega (arith, less, a, b)) in
          record { outcome = preceded_by_argument ts f.outcome; expands = wanted ts after e f.expands; grows = behind ts f.outcome laid after a f.grows }

      at : Next → (want : Bool) → FoundEach table bound laid ((want, argument) ∷ wanted_from d (i + 1) rest)
      at next true = let f = below laid argument le (omega (arith, less)) in found next f.outcome f.expands f.grows
      at next false =
          let f = next laid le (omega (arith, less)) in
          record { outcome = preceded_by_argument [] f.outcome; expands = not_wanted f.expands; grows = behind [] f.outcome laid laid (omega arith) f.grows }

  -- what stands behind the name of a call
  called_length : (t : Token) (rest : List Token) (d : Definition) (ps : List (List ℕ)) (b : Bracketed) → invocation_of table t rest ≡ of_function d ps b
      → length rest ≡ 1 + (length b.inner + 1 + length b.after)
  unfolding invocation_of
  called_length t rest d ps b e = by_definition (definition_at table t) e
    where
      by_brackets : (d' : Definition) (ps' : List (List ℕ)) (ts : List Token) (r : Option Bracketed) → bracketed 0 ts ≡ r → call_of d' ps' r ≡ of_function d ps b
          → length ts ≡ length b.inner + 1 + length b.after
      by_brackets d' ps' ts None f e = absurd cc
      by_brackets d' ps' ts (Some b') f e = let same : b' ≡ b = cc in bracketed_length 0 ts b (f ∙ ap Some same)

      by_open : (opens : Bool) (d' : Definition) (ps' : List (List ℕ)) (ts : List Token) → cond opens (call_of d' ps' (bracketed 0 ts)) no_invocation ≡ of_function d ps b
          → length ts ≡ length b.inner + 1 + length b.after
      by_open true d' ps' ts e = by_brackets d' ps' ts (bracketed 0 ts) refl e
      by_open false d' ps' ts e = absurd cc

      by_parameters : (d' : Definition) (q : Option (List (List ℕ))) (rest : List Token) → invocation_by d' q rest ≡ of_function d ps b
          → length rest ≡ 1 + (length b.inner + 1 + length b.after)
      by_parameters d' None rest e = absurd cc
      by_parameters d' (Some ps') [] e = absurd cc
      by_parameters d' (Some ps') (o ∷ ts) e = let h = by_open (is_open o) d' ps' ts e in omega (arith, h)

      by_definition : (x : Option Definition) → invocation_with x rest ≡ of_function d ps b → length rest ≡ 1 + (length b.inner + 1 + length b.after)
      by_definition None e = absurd cc
      by_definition (Some d') e = by_parameters d' d'.parameters rest e

  made_grows : (t : Token) (hide : List (List ℕ)) (laid after : ℕ) (behind rest : List Token) (made : Option (List Token)) → laid ≤ after → after ≤ bound
      → length behind ≤ length rest → GrowsBehind bound laid rest (replacement_of t hide behind after made)
  unfolding GrowsBehind
  made_grows t hide laid after behind rest None a b c = tt
  made_grows t hide laid after behind rest (Some made) a b c = (a, b, c)

  call_found : (laid : ℕ) (t : Token) (rest : List Token) (d : Definition) (ps : List (List ℕ)) (b : Bracketed)
      → Below (2 * (bound - laid) + 2 * length (t ∷ rest)) → laid ≤ bound → invocation_of table t rest ≡ of_function d ps b
      → (found : Option Arguments) → arguments_of (length ps) d.variadic b.inner ≡ found → FoundBehind table bound laid t rest
  unfolding GrowsBehind GrowsEach
  call_found laid t rest d ps b below le u None a = record { made = no_replacement (ArgumentCount t.place); replaces = argument_count d ps b (invocation_only table t rest (of_function d ps b) u) (arguments_none a); grows = tt }
  call_found laid t rest d ps b below le u (Some raw) a =
      let long = called_length t rest d ps b u in
      let weight = arguments_weight (length ps) d.variadic b.inner raw a in
      let f = each_found (2 * (bound - laid) + 2 * length (t ∷ rest)) laid d 0 raw.given below le (omega (arith, long, weight)) in
      at f.outcome f.expands f.grows long
    where
      at : (o : ArgumentsOutcome) → ExpandsEach table bound laid (wanted_from d 0 raw.given) o → GrowsEach bound laid o
          → length rest ≡ 1 + (length b.inner + 1 + length b.after) → FoundBehind table bound laid t rest
      at (one_refused fault) e g long = record { made = no_replacement fault; replaces = argument_fault d ps b raw fault (invocation_only table t rest (of_function d ps b) u) (given_only table t rest d ps b (length ps) d.variadic raw u a) e; grows = tt }
      at (all_expanded done after) e g long =
          let glued = glues_some (substitutes_of d raw done) [] in
          record {
            made = replacement_of t (with_name t.text (common t.hide b.closing.hide)) b.after after glued.0;
            replaces = function_like d ps b raw done after glued.0 (invocation_only table t rest (of_function d ps b) u) (given_only table t rest d ps b (length ps) d.variadic raw u a) e glued.1;
            grows = made_grows t (with_name t.text (common t.hide b.closing.hide)) laid after b.after rest glued.0 g.0 g.1 (omega (arith, long));
          }

  goes_found : (laid : ℕ) (t : Token) (rest : List Token) → Below (2 * (bound - laid) + 2 * length (t ∷ rest)) → laid ≤ bound → (r : FoundBehind table bound laid t rest)
      → Found table bound laid (t ∷ rest)
  unfolding Below Grows GrowsBehind
  goes_found laid t rest below le r = at r.made r.replaces r.grows
    where
      at : (made : Replacement) → Replaces table bound laid t rest made → GrowsBehind bound laid rest made → Found table bound laid (t ∷ rest)
      at (no_replacement fault) h g = record { outcome = refused fault; expands = stops fault h; grows = tt }
      at (replacement news after made) h g =
          let a = g.0 in
          let b = g.1 in
          let c = g.2 in
          ⊎_elim
          (λ (lt : bound < made + (length news + 1)). record { outcome = refused _; expands = too_many news after made h lt; grows = tt })
          (λ (fits : made + (length news + 1) ≤ bound).
          on (below (made + (length news + 1)) (news ++ after) fits (omega (arith, a, b, c, fits, length-append news after))) fits a)
          (cases_lt bound (made + (length news + 1)))
        where
          later : {n : ℕ} (o : Outcome) → Grows bound n o → laid ≤ n → Grows bound laid o
          later (expanded ts x) g l = let y = g.0 in (omega (arith, y, l), g.1)
          later (refused fault) g l = tt

          on : Found table bound (made + (length news + 1)) (news ++ after) → made + (length news + 1) ≤ bound → laid ≤ made → Found table bound laid (t ∷ rest)
          on f fits l = record { outcome = f.outcome; expands = token_goes {outcome = f.outcome} news after made h fits f.expands; grows = later f.outcome f.grows (omega (arith, l)) }

  token_found : (laid : ℕ) (t : Token) (rest : List Token) → Below (2 * (bound - laid) + 2 * length (t ∷ rest)) → laid ≤ bound → (u : Invocation) → invocation_of table t rest ≡ u
      → Found table bound laid (t ∷ rest)
  unfolding Below Grows
  token_found laid t rest below le no_invocation u =
      let f = below laid rest le (omega arith) in
      record { outcome = preceded_by_token t f.outcome; expands = token_stays (invocation_only table t rest no_invocation u) f.expands; grows = kept f.outcome f.grows }
    where
      kept : (o : Outcome) → Grows bound laid o → Grows bound laid (preceded_by_token t o)
      kept (expanded ts n) g = g
      kept (refused fault) g = g
  token_found laid t rest below le (of_object d) u =
      let glued = glues_some (substitutes_of d no_arguments []) [] in
      goes_found laid t rest below le (record {
        made = replacement_of t (with_name t.text t.hide) rest laid glued.0;
        replaces = object_like d glued.0 (invocation_only table t rest (of_object d) u) glued.1;
        grows = made_grows t (with_name t.text t.hide) laid laid rest rest glued.0 (omega arith) le (omega arith);
      })
  token_found laid t rest below le unclosed u = record { outcome = refused (UnclosedCall t.place); expands = stops (UnclosedCall t.place) (unclosed_call (invocation_only table t rest unclosed u)); grows = grown }
    where
      grown : Grows bound laid (refused (UnclosedCall t.place))
      grown = tt
  token_found laid t rest below le (of_function d ps b) u =
      goes_found laid t rest below le (call_found laid t rest d ps b below le u (arguments_of (length ps) d.variadic b.inner) refl)

  -- by the work that is left
  list_found : (work laid : ℕ) (list : List Token) → laid ≤ bound → 2 * (bound - laid) + 2 * length list < work → Found table bound laid list
  unfolding Below Grows
  list_found zero laid list le less = absurd (omega (arith, less))
  list_found (suc work) laid [] le less = record { outcome = expanded [] laid; expands = ends; grows = (omega arith, le) }
  list_found (suc work) laid (t ∷ rest) le less =
      token_found laid t rest (λ laid' list' le' less'. list_found work laid' list' le' (omega (arith, less, less'))) le (invocation_of table t rest) refl

pub list_some : (table : Table) (bound laid : ℕ) (list : List Token) → laid ≤ bound → (outcome : Outcome) × ExpandsList table bound laid list outcome
list_some table bound laid list le =
    ⊎_elim
    (λ (lt : bound < laid + length list). long list lt)
    (λ (fits : laid + length list ≤ bound).
    let f = list_found table bound (suc (2 * (bound - (laid + length list)) + 2 * length list)) (laid + length list) list fits (omega arith) in
    (f.outcome, within fits f.expands))
    (cases_lt bound (laid + length list))
  where
    long : (list : List Token) → bound < laid + length list → (outcome : Outcome) × ExpandsList table bound laid list outcome
    long [] lt = absurd (omega (arith, lt, le))
    long (t ∷ rest) lt = (_, too_long lt)
