-- At most one outcome: each part of macro replacement gives one result.
use Rattle.std.proofs.Common.{◌≡◌, ℕ, ◌+◌, Bool, List, [], ◌∷◌, ◌++◌, Option, refl, sym, ◌∙◌, ap, subst, arith, length}
use Rattle.std.proofs.lemmas.List.{same_from_push}
use Rattle.cx_tokens.specs.declared.token.Kind.{Kind}
use Rattle.cx_tokens.specs.declared.token.Token.{Token}
use Rattle.cx_tokens.specs.Digraphs.{spelling_of}
use Rattle.cx_lex.specs.Lexing.{IsOnePiece}
use Rattle.cx_macro.specs.declared.fault.MacroFault.{MacroFault}
use Rattle.cx_macro.specs.declared.fault.MacroFault.TheVariants.{ArgumentCount, TooManyTokens, UnclosedCall}
use Rattle.cx_macro.specs.Arguments.{no_arguments, AreArguments, Arguments, Bracketed}
use Rattle.cx_macro.proofs.CountingLaws.{arguments_same}
use Rattle.cx_macro.proofs.InvocationLaws.{invocation_same}
use Rattle.cx_macro.specs.Hiding.{common, with_name}
use Rattle.cx_macro.specs.Macros.{Definition, Table}
use Rattle.cx_macro.specs.Replacement as by
use Rattle.cx_macro.specs.Replacement.{Glues, Joins, JoinsSides, Substitute, paste_operator, operand, tokens_of, preceded_by, substitutes_of}
use Rattle.cx_macro.specs.Expansion.{ArgumentsOutcome, Expands, ExpandsEach, ExpandsList, IsInvocation, Outcome, Replaces, Replacement, all_expanded, argument_count, argument_fault, preceded_by_argument, preceded_by_token, of_function, ends, function_like, no_more, no_replacement, not_expanded, not_wanted, object_like, one_refused, refused, of_object, replacement_of, no_invocation, stops, token_goes, token_stays, too_long, too_many, unclosed, unclosed_call, wanted, wanted_from, within}

-- at most one kind and text are those of a piece
abbrev pub OnePiece : Type 0
OnePiece = (bytes : List ℕ) (kind other_kind : Kind) (text other_text : List ℕ) → IsOnePiece bytes kind text → IsOnePiece bytes other_kind other_text
    → (kind ≡ other_kind) × (text ≡ other_text)

pub joins_same : {a b : Token} {c d : Option Token} → OnePiece → Joins a b c → Joins a b d → c ≡ d
joins_same {a} {b} one (by.one_piece kind text h) (by.one_piece kind' text' h') =
    let e = one (spelling_of a ++ spelling_of b) kind kind' text text' h h' in cc
joins_same one (by.one_piece kind text h) (by.no_piece n) = absurd (n kind text h)
joins_same one (by.no_piece n) (by.one_piece kind text h) = absurd (n kind text h)
joins_same one (by.no_piece n) (by.no_piece m) = refl

push_is_some : {X : Type 0} (front : List X) (a : X) → [] ≡ front ++ a ∷ [] → ⊥
push_is_some [] a e = absurd cc
push_is_some (x ∷ xs) a e = absurd cc

-- the last of one list, and the first of another
record Ends (front front' rest rest' : List Token) (a a' b b' : Token) : Type 0 where
  fronts : front ≡ front'
  lasts : a ≡ a'
  firsts : b ≡ b'
  rests : rest ≡ rest'

ends_same : (left right front front' rest rest' : List Token) (a a' b b' : Token) → left ≡ front ++ a ∷ [] → right ≡ b ∷ rest → left ≡ front' ++ a' ∷ []
    → right ≡ b' ∷ rest' → Ends front front' rest rest' a a' b b'
ends_same left right front front' rest rest' a a' b b' e f g h =
    let p = same_from_push front front' a a' (sym e ∙ g) in
    record { fronts = p.0; lasts = p.1; firsts = cc; rests = cc }

joins_along : {a a' b b' : Token} {c : Option Token} → a ≡ a' → b ≡ b' → Joins a' b' c → Joins a b c
joins_along {a} {a'} {b} {b'} {c} e f j = subst (λ x. Joins x b c) (sym e) (subst (λ y. Joins a' y c) (sym f) j)

pub sides_same : {left right : List Token} {c d : Option (List Token)} → OnePiece → JoinsSides left right c → JoinsSides left right d → c ≡ d
sides_same one by.left_empty by.left_empty = refl
sides_same one by.left_empty by.right_empty = refl
sides_same one by.left_empty (by.joined a b c front rest e f j) = absurd (push_is_some front a e)
sides_same one by.left_empty (by.unjoined a b front rest e f j) = absurd (push_is_some front a e)
sides_same one by.right_empty by.left_empty = refl
sides_same one by.right_empty by.right_empty = refl
sides_same one by.right_empty (by.joined a b c front rest e f j) = absurd cc
sides_same one by.right_empty (by.unjoined a b front rest e f j) = absurd cc
sides_same one (by.joined a b c front rest e f j) by.left_empty = absurd (push_is_some front a e)
sides_same one (by.joined a b c front rest e f j) by.right_empty = absurd cc
sides_same {left} {right} one (by.joined a b c front rest e f j) (by.joined a' b' c' front' rest' e' f' j') =
    let p = ends_same left right front front' rest rest' a a' b b' e f e' f' in
    let q = joins_same one j (joins_along p.lasts p.firsts j') in
    let made : c ≡ c' = cc in
    let fronts = p.fronts in
    let rests = p.rests in
    cc
sides_same {left} {right} one (by.joined a b c front rest e f j) (by.unjoined a' b' front' rest' e' f' j') =
    let p = ends_same left right front front' rest rest' a a' b b' e f e' f' in
    let q = joins_same one j (joins_along p.lasts p.firsts j') in
    absurd cc
sides_same one (by.unjoined a b front rest e f j) by.left_empty = absurd (push_is_some front a e)
sides_same one (by.unjoined a b front rest e f j) by.right_empty = absurd cc
sides_same {left} {right} one (by.unjoined a b front rest e f j) (by.joined a' b' c' front' rest' e' f' j') =
    let p = ends_same left right front front' rest rest' a a' b b' e f e' f' in
    let q = joins_same one j (joins_along p.lasts p.firsts j') in
    absurd cc
sides_same one (by.unjoined a b front rest e f j) (by.unjoined a' b' front' rest' e' f' j') = refl

pub glues_same : {left : List Token} {ss : List Substitute} {c d : Option (List Token)} → OnePiece → Glues left ss c → Glues left ss d → c ≡ d
glues_same one by.ends by.ends = refl
glues_same one by.ends_with_paste by.ends_with_paste = refl
glues_same {d = d} one (by.pastes {ss = ss} both j g) (by.pastes both' j' g') =
    let e = sides_same one j j' in
    let same : both' ≡ both = cc in
    glues_same one g (subst (λ x. Glues x ss d) same g')
glues_same one (by.pastes both j g) (by.fails j') = let e = sides_same one j j' in absurd cc
glues_same one (by.fails j) (by.pastes both' j' g') = let e = sides_same one j j' in absurd cc
glues_same one (by.fails j) (by.fails j') = refl
glues_same one (by.goes_on {left = left} g) (by.goes_on h) = ap (preceded_by left) (glues_same one g h)

-- a name that is replaced does not stay
not_stays : {table : Table} {bound laid : ℕ} {t : Token} {rest : List Token} {r : Replacement} → Replaces table bound laid t rest r → IsInvocation table t rest no_invocation → ⊥
not_stays (object_like d made u g) e = let f = invocation_same u e in absurd cc
not_stays (unclosed_call u) e = let f = invocation_same u e in absurd cc
not_stays (argument_count d ps b u a) e = let f = invocation_same u e in absurd cc
not_stays (argument_fault d ps b raw fault u a f) e = let g = invocation_same u e in absurd cc
not_stays (function_like d ps b raw done after made u a f g) e = let h = invocation_same u e in absurd cc

-- what an object-like macro is replaced by
record IsObject (laid : ℕ) (t : Token) (rest : List Token) (d : Definition) (r : Replacement) : Type 0 where
  made : Option (List Token)
  glued : Glues [] (substitutes_of d no_arguments []) made
  result : r ≡ replacement_of t (with_name t.text t.hide) rest laid made

object_result : {table : Table} {bound laid : ℕ} {t : Token} {rest : List Token} {r : Replacement} (d : Definition) → IsInvocation table t rest (of_object d)
    → Replaces table bound laid t rest r → IsObject laid t rest d r
object_result d u (object_like d' made u' g) =
    let f = invocation_same u' u in let same : d' ≡ d = cc in
    record { made = made; glued = subst (λ x. Glues [] (substitutes_of x no_arguments []) made) same g; result = refl }
object_result d u (unclosed_call u') = let e = invocation_same u' u in absurd cc
object_result d u (argument_count d' ps' b' u' a) = let e = invocation_same u' u in absurd cc
object_result d u (argument_fault d' ps' b' raw fault u' a f) = let e = invocation_same u' u in absurd cc
object_result d u (function_like d' ps' b' raw done after made u' a f g) = let e = invocation_same u' u in absurd cc

unclosed_result : {table : Table} {bound laid : ℕ} {t : Token} {rest : List Token} {r : Replacement} → IsInvocation table t rest unclosed
    → Replaces table bound laid t rest r → r ≡ no_replacement (UnclosedCall t.place)
unclosed_result u (object_like d' made u' g) = let e = invocation_same u' u in absurd cc
unclosed_result u (unclosed_call u') = refl
unclosed_result u (argument_count d' ps' b' u' a) = let e = invocation_same u' u in absurd cc
unclosed_result u (argument_fault d' ps' b' raw fault u' a f) = let e = invocation_same u' u in absurd cc
unclosed_result u (function_like d' ps' b' raw done after made u' a f g) = let e = invocation_same u' u in absurd cc

-- what comes of a call
data IsCall (table : Table) (bound laid : ℕ) (t : Token) (d : Definition) (parameters : List (List ℕ)) (b : Bracketed) : Replacement → Type 0 where
  miscounted : ((raw : Arguments) → ¬ AreArguments (length parameters) d.variadic b.inner raw) → IsCall table bound laid t d parameters b (no_replacement (ArgumentCount t.place))
  faulty : (raw : Arguments) (fault : MacroFault) → AreArguments (length parameters) d.variadic b.inner raw
      → ExpandsEach table bound laid (wanted_from d 0 raw.given) (one_refused fault) → IsCall table bound laid t d parameters b (no_replacement fault)
  whole : (raw : Arguments) (done : List (List Token)) (after : ℕ) (made : Option (List Token)) → AreArguments (length parameters) d.variadic b.inner raw
      → ExpandsEach table bound laid (wanted_from d 0 raw.given) (all_expanded done after) → Glues [] (substitutes_of d raw done) made
      → IsCall table bound laid t d parameters b (replacement_of t (with_name t.text (common t.hide b.closing.hide)) b.after after made)

call_along : {table : Table} {bound laid : ℕ} {t : Token} {r : Replacement} (d d' : Definition) (ps ps' : List (List ℕ)) (b b' : Bracketed)
    → of_function d' ps' b' ≡ of_function d ps b → IsCall table bound laid t d' ps' b' r → IsCall table bound laid t d ps b r
call_along {table} {bound} {laid} {t} {r} d d' ps ps' b b' e h =
    let ds : d' ≡ d = cc in
    let pss : ps' ≡ ps = cc in
    let bs : b' ≡ b = cc in
    subst (λ x. IsCall table bound laid t x ps b r) ds (subst (λ x. IsCall table bound laid t d' x b r) pss (subst (λ x. IsCall table bound laid t d' ps' x r) bs h))

call_result : {table : Table} {bound laid : ℕ} {t : Token} {rest : List Token} {r : Replacement} (d : Definition) (ps : List (List ℕ)) (b : Bracketed)
    → IsInvocation table t rest (of_function d ps b) → Replaces table bound laid t rest r → IsCall table bound laid t d ps b r
call_result d ps b u (object_like d' made u' g) = let e = invocation_same u' u in absurd cc
call_result d ps b u (unclosed_call u') = let e = invocation_same u' u in absurd cc
call_result d ps b u (argument_count d' ps' b' u' a) = call_along d d' ps ps' b b' (invocation_same u' u) (miscounted a)
call_result d ps b u (argument_fault d' ps' b' raw fault u' a f) = call_along d d' ps ps' b b' (invocation_same u' u) (faulty raw fault a f)
call_result d ps b u (function_like d' ps' b' raw done after made u' a f g) = call_along d d' ps ps' b b' (invocation_same u' u) (whole raw done after made a f g)

count_same : {table : Table} {bound laid : ℕ} {t : Token} {d : Definition} {ps : List (List ℕ)} {b : Bracketed} {s : Replacement}
    → ((raw : Arguments) → ¬ AreArguments (length ps) d.variadic b.inner raw) → IsCall table bound laid t d ps b s → no_replacement (ArgumentCount t.place) ≡ s
count_same a (miscounted a') = refl
count_same a (faulty raw fault a' f) = absurd (a raw a')
count_same a (whole raw done after made a' f g) = absurd (a raw a')

fault_same : {table : Table} {bound laid : ℕ} {t : Token} {d : Definition} {ps : List (List ℕ)} {b : Bracketed} {s : Replacement}
    (raw : Arguments) (fault : MacroFault) → AreArguments (length ps) d.variadic b.inner raw
    → ((o : ArgumentsOutcome) → ExpandsEach table bound laid (wanted_from d 0 raw.given) o → one_refused fault ≡ o)
    → IsCall table bound laid t d ps b s → no_replacement fault ≡ s
fault_same raw fault a only (miscounted a') = absurd (a' raw a)
fault_same {table} {bound} {laid} {d = d} raw fault a only (faulty raw' fault' a' f) =
    let same : raw' ≡ raw = arguments_same a' a in
    let e = only (one_refused fault') (subst (λ (x : Arguments). ExpandsEach table bound laid (wanted_from d 0 x.given) (one_refused fault')) same f) in
    cc
fault_same {table} {bound} {laid} {d = d} raw fault a only (whole raw' done after made a' f g) =
    let same : raw' ≡ raw = arguments_same a' a in
    let e = only (all_expanded done after) (subst (λ (x : Arguments). ExpandsEach table bound laid (wanted_from d 0 x.given) (all_expanded done after)) same f) in
    absurd cc

whole_same : {table : Table} {bound laid : ℕ} {t : Token} {d : Definition} {ps : List (List ℕ)} {b : Bracketed} {s : Replacement} → OnePiece
    → (raw : Arguments) (done : List (List Token)) (after : ℕ) (made : Option (List Token)) → AreArguments (length ps) d.variadic b.inner raw
    → ((o : ArgumentsOutcome) → ExpandsEach table bound laid (wanted_from d 0 raw.given) o → all_expanded done after ≡ o)
    → Glues [] (substitutes_of d raw done) made → IsCall table bound laid t d ps b s
    → replacement_of t (with_name t.text (common t.hide b.closing.hide)) b.after after made ≡ s
whole_same one raw done after made a only g (miscounted a') = absurd (a' raw a)
whole_same {table} {bound} {laid} {d = d} one raw done after made a only g (faulty raw' fault a' f) =
    let same : raw' ≡ raw = arguments_same a' a in
    let e = only (one_refused fault) (subst (λ (x : Arguments). ExpandsEach table bound laid (wanted_from d 0 x.given) (one_refused fault)) same f) in
    absurd cc
whole_same {table} {bound} {laid} {t} {d} {b = b} one raw done after made a only g (whole raw' done' after' made' a' f g') =
    let same : raw' ≡ raw = arguments_same a' a in
    let e = only (all_expanded done' after') (subst (λ (x : Arguments). ExpandsEach table bound laid (wanted_from d 0 x.given) (all_expanded done' after')) same f) in
    let dones : done' ≡ done = cc in
    let afters : after ≡ after' = cc in
    let glued = glues_same one g (subst (λ x. Glues [] (substitutes_of d raw x) made') dones (subst (λ (x : Arguments). Glues [] (substitutes_of d x done') made') same g')) in
    cc

mutual
  pub expands_same : {table : Table} {bound laid : ℕ} {ts : List Token} {o p : Outcome} → OnePiece → Expands table bound laid ts o
      → Expands table bound laid ts p → o ≡ p
  expands_same one ends ends = refl
  expands_same one (token_stays {t = t} u e) (token_stays v f) = ap (preceded_by_token t) (expands_same one e f)
  expands_same one (token_stays u e) (token_goes news after made r le f) = absurd (not_stays r u)
  expands_same one (token_stays u e) (too_many news after made r lt) = absurd (not_stays r u)
  expands_same one (token_stays u e) (stops fault r) = absurd (not_stays r u)
  expands_same one (token_goes news after made r le e) (token_stays v f) = absurd (not_stays r v)
  expands_same {table} {bound} {p = p} one (token_goes news after made r le e) (token_goes news' after' made' r' le' f) =
      let same = replaces_same one r r' in
      let news_same : news' ≡ news = cc in
      let after_same : after' ≡ after = cc in
      let made_same : made' ≡ made = cc in
      expands_same one e (subst (λ m. Expands table bound (m + (length news + 1)) (news ++ after) p) made_same
      (subst (λ a. Expands table bound (made' + (length news + 1)) (news ++ a) p) after_same
      (subst (λ n. Expands table bound (made' + (length n + 1)) (n ++ after') p) news_same f)))
  expands_same one (token_goes news after made r le e) (too_many news' after' made' r' lt) =
      let same = replaces_same one r r' in
      let news_same : news' ≡ news = cc in
      let made_same : made' ≡ made = cc in
      let counts : length news' ≡ length news = ap length news_same in
      absurd (omega arith)
  expands_same one (token_goes news after made r le e) (stops fault r') = let same = replaces_same one r r' in absurd cc
  expands_same one (too_many news after made r lt) (token_stays v f) = absurd (not_stays r v)
  expands_same one (too_many news after made r lt) (token_goes news' after' made' r' le f) =
      let same = replaces_same one r r' in
      let news_same : news' ≡ news = cc in
      let made_same : made' ≡ made = cc in
      let counts : length news' ≡ length news = ap length news_same in
      absurd (omega arith)
  expands_same one (too_many {t = t} news after made r lt) (too_many news' after' made' r' lt') =
      let same = replaces_same one r r' in
      let news_same : news ≡ news' = cc in
      let made_same : made ≡ made' = cc in
      let counts : made + (length news + 1) ≡ made' + (length news' + 1) = cc in
      ap (λ n. refused (TooManyTokens t.place n)) counts
  expands_same one (too_many news after made r lt) (stops fault r') = let same = replaces_same one r r' in absurd cc
  expands_same one (stops fault r) (token_stays v f) = absurd (not_stays r v)
  expands_same one (stops fault r) (token_goes news after made r' le f) = let same = replaces_same one r r' in absurd cc
  expands_same one (stops fault r) (too_many news after made r' lt) = let same = replaces_same one r r' in absurd cc
  expands_same one (stops fault r) (stops fault' r') = let same = replaces_same one r r' in cc

  pub replaces_same : {table : Table} {bound laid : ℕ} {t : Token} {rest : List Token} {r s : Replacement} → OnePiece
      → Replaces table bound laid t rest r → Replaces table bound laid t rest s → r ≡ s
  replaces_same {laid = laid} {t = t} {rest = rest} one (object_like d made u g) h =
      let p = object_result d u h in
      ap (replacement_of t (with_name t.text t.hide) rest laid) (glues_same one g p.glued) ∙ sym p.result
  replaces_same one (unclosed_call u) h = sym (unclosed_result u h)
  replaces_same one (argument_count d ps b u a) h = count_same a (call_result d ps b u h)
  replaces_same one (argument_fault d ps b raw fault u a e) h =
      fault_same raw fault a (λ o f. each_same one e f) (call_result d ps b u h)
  replaces_same one (function_like d ps b raw done after made u a e g) h =
      whole_same one raw done after made a (λ o f. each_same one e f) g (call_result d ps b u h)

  pub each_same : {table : Table} {bound laid : ℕ} {arguments : List (Bool × List Token)} {o p : ArgumentsOutcome} → OnePiece
      → ExpandsEach table bound laid arguments o → ExpandsEach table bound laid arguments p → o ≡ p
  each_same one no_more no_more = refl
  each_same one (not_wanted e) (not_wanted f) = ap (preceded_by_argument []) (each_same one e f)
  each_same {table} {bound} {p = p} one (wanted {rest = rest} ts after e more) (wanted {outcome = outcome} ts' after' f more') =
      let same = expands_same one e f in
      let lists : ts ≡ ts' = cc in
      let counts : after' ≡ after = cc in
      let rests = each_same one more (subst (λ n. ExpandsEach table bound n rest outcome) counts more') in
      cc
  each_same one (wanted ts after e more) (not_expanded fault f) = let same = expands_same one e f in absurd cc
  each_same one (not_expanded fault e) (wanted ts after f more) = let same = expands_same one e f in absurd cc
  each_same one (not_expanded fault e) (not_expanded fault' f) = let same = expands_same one e f in cc

pub list_same : {table : Table} {bound laid : ℕ} {list : List Token} {o p : Outcome} → OnePiece → ExpandsList table bound laid list o
    → ExpandsList table bound laid list p → o ≡ p
list_same one (within le e) (within le' f) = expands_same one e f
list_same one (within le e) (too_long lt) = absurd (omega arith)
list_same one (too_long lt) (within le f) = absurd (omega arith)
list_same one (too_long lt) (too_long lt') = refl
