-- The steps of macro replacement keep what comes of the whole.
use Rattle.std.proofs.Common.{◌≡◌, ℕ, ◌+◌, ◌<◌, ◌≤◌, Bool, true, false, cond, List, [], ◌∷◌, ◌++◌, Option, Some, None, refl, sym, ◌∙◌, ap, subst, length, drop, take, get_or}
use Rattle.std.proofs.lemmas.List.{append-nil, drop_more, drop_all, length_push, take_all}
use Rattle.cx_tokens.specs.declared.token.Token.{Token}
use Rattle.cx_macro.specs.declared.expansion.Call.{Call}
use Rattle.cx_macro.specs.declared.fault.MacroFault.{MacroFault}
use Rattle.cx_macro.specs.declared.fault.MacroFault.TheVariants.{ArgumentCount, BadPaste, TooManyTokens, UnclosedCall}
use Rattle.cx_macro.specs.Arguments.{no_arguments, Bracketed}
use Rattle.cx_macro.specs.Shapes.Counting.{arguments_of}
use Rattle.cx_macro.specs.Expansion.{ArgumentsOutcome, Expands, ExpandsEach, Outcome, Replaces, all_expanded, argument_count, argument_fault, preceded_by_argument, preceded_by_token, of_function, ends, expanded, function_like, no_more, not_expanded, not_wanted, object_like, one_refused, refused, of_object, replacement, replacement_of, no_invocation, stops, token_goes, token_stays, too_many, unclosed, unclosed_call, wanted, wanted_from}
use Rattle.cx_macro.specs.Shapes.Invocations.{invocation_of}
use Rattle.cx_macro.specs.Hiding.{common, with_name}
use Rattle.cx_macro.specs.Macros.{Definition, Table}
use Rattle.cx_macro.specs.Replacement.{Glues, is_expanded, substitutes_of, replacement_tokens}
use Rattle.cx_macro.specs.Shapes.Substitutes.{is_raw, kept_of}
use Rattle.cx_macro.specs.Shapes.Steps.{kept_arguments, IsCall, IsExpandingCall, IsExpanding, LeadsOn, AreWaiting, preceded_by_each, preceded_by_tokens, done_in, macro_in, wanted_argument}
use Rattle.cx_macro.proofs.CountingLaws.{arguments_none}
use Rattle.cx_macro.proofs.InvocationLaws.{given_only, invocation_only}
use Rattle.cx_macro.proofs.SubstituteLaws.{kept_next, substitutes_kept}

preceded_by_tokens-push : (done : List Token) (t : Token) (o : Outcome) → preceded_by_tokens (done ++ t ∷ []) o ≡ preceded_by_tokens done (preceded_by_token t o)
preceded_by_tokens-push [] t o = refl
preceded_by_tokens-push (x ∷ xs) t o = ap (preceded_by_token x) (preceded_by_tokens-push xs t o)

preceded_by_tokens-refused : (done : List Token) (fault : MacroFault) → preceded_by_tokens done (refused fault) ≡ refused fault
preceded_by_tokens-refused [] fault = refl
preceded_by_tokens-refused (x ∷ xs) fault = ap (preceded_by_token x) (preceded_by_tokens-refused xs fault)

preceded_by_tokens-expanded : (done ts : List Token) (laid : ℕ) → preceded_by_tokens done (expanded ts laid) ≡ expanded (done ++ ts) laid
preceded_by_tokens-expanded [] ts laid = refl
preceded_by_tokens-expanded (x ∷ xs) ts laid = ap (preceded_by_token x) (preceded_by_tokens-expanded xs ts laid)

preceded_by_each-push : (done : List (List Token)) (ts : List Token) (o : ArgumentsOutcome) → preceded_by_each (done ++ ts ∷ []) o ≡ preceded_by_each done (preceded_by_argument ts o)
preceded_by_each-push [] ts o = refl
preceded_by_each-push (x ∷ xs) ts o = ap (preceded_by_argument x) (preceded_by_each-push xs ts o)

preceded_by_each-refused : (done : List (List Token)) (fault : MacroFault) → preceded_by_each done (one_refused fault) ≡ one_refused fault
preceded_by_each-refused [] fault = refl
preceded_by_each-refused (x ∷ xs) fault = ap (preceded_by_argument x) (preceded_by_each-refused xs fault)

preceded_by_each-expanded : (done more : List (List Token)) (laid : ℕ) → preceded_by_each done (all_expanded more laid) ≡ all_expanded (done ++ more) laid
preceded_by_each-expanded [] more laid = refl
preceded_by_each-expanded (x ∷ xs) more laid = ap (preceded_by_argument x) (preceded_by_each-expanded xs more laid)

module _ (table : Table) (bound : ℕ) where
  -- a token no_invocation
  pub leads_stays : (first : ℕ) (list : List Token) (laid : ℕ) (done rest : List Token) (t : Token) → invocation_of table t rest ≡ no_invocation
      → LeadsOn table bound first list laid done (t ∷ rest) → LeadsOn table bound first list laid (done ++ t ∷ []) rest
  leads_stays first list laid done rest t u h = record {
    leads = λ o e. subst (Expands table bound first list) (sym (preceded_by_tokens-push done t o)) (h.leads (preceded_by_token t o) (token_stays (invocation_only table t rest no_invocation u) e));
  }

  -- a name is replaced
  pub leads_goes : (first : ℕ) (list : List Token) (laid made : ℕ) (done rest news after : List Token) (t : Token)
      → Replaces table bound laid t rest (replacement news after made) → made + (length news + 1) ≤ bound
      → LeadsOn table bound first list laid done (t ∷ rest) → LeadsOn table bound first list (made + (length news + 1)) done (news ++ after)
  leads_goes first list laid made done rest news after t r le h = record { leads = λ o e. h.leads o (token_goes news after made r le e) }

  -- the list ends
  leads_end : (first : ℕ) (list : List Token) (laid : ℕ) (done : List Token) → LeadsOn table bound first list laid done []
      → Expands table bound first list (expanded done laid)
  leads_end first list laid done h =
      subst (Expands table bound first list) (preceded_by_tokens-expanded done [] laid ∙ ap (λ x. expanded x laid) (append-nil done)) (h.leads (expanded [] laid) ends)

  -- the list meets a fault
  leads_fault : (first : ℕ) (list : List Token) (laid : ℕ) (done ahead : List Token) (fault : MacroFault) → LeadsOn table bound first list laid done ahead
      → Expands table bound laid ahead (refused fault) → Expands table bound first list (refused fault)
  leads_fault first list laid done ahead fault h e =
      subst (Expands table bound first list) (preceded_by_tokens-refused done fault) (h.leads (refused fault) e)

  -- the next argument of a call is expanded, or not to be
  each_next : (laid after : ℕ) (want : Bool) (argument ts : List Token) (more : List (Bool × List Token)) (o : ArgumentsOutcome)
      → Expands table bound laid (cond want argument []) (expanded ts after) → ExpandsEach table bound after more o
      → ExpandsEach table bound laid ((want, argument) ∷ more) (preceded_by_argument ts o)
  each_next laid after true argument ts more o e f = wanted ts after e f
  each_next laid after false argument ts more o e f = nothing [] (expanded ts after) refl refl e
    where
      nothing : (list : List Token) (p : Outcome) → list ≡ [] → p ≡ expanded ts after → Expands table bound laid list p
          → ExpandsEach table bound laid ((false, argument) ∷ more) (preceded_by_argument ts o)
      nothing list p l q ends =
          let none : [] ≡ ts = cc in
          let same : after ≡ laid = cc in
          subst (λ x. ExpandsEach table bound laid ((false, argument) ∷ more) (preceded_by_argument x o)) none
          (not_wanted (subst (λ n. ExpandsEach table bound n more o) same f))
      nothing list p l q (token_stays u g) = absurd cc
      nothing list p l q (token_goes news rest made r le g) = absurd cc
      nothing list p l q (too_many news rest made r lt) = absurd cc
      nothing list p l q (stops fault r) = absurd cc

  each_faulty : (laid : ℕ) (want : Bool) (argument : List Token) (more : List (Bool × List Token)) (fault : MacroFault)
      → Expands table bound laid (cond want argument []) (refused fault) → ExpandsEach table bound laid ((want, argument) ∷ more) (one_refused fault)
  each_faulty laid true argument more fault e = not_expanded fault e
  each_faulty laid false argument more fault e = nothing [] (refused fault) refl refl e
    where
      nothing : (list : List Token) (p : Outcome) → list ≡ [] → p ≡ refused fault → Expands table bound laid list p
          → ExpandsEach table bound laid ((false, argument) ∷ more) (one_refused fault)
      nothing list p l q ends = absurd cc
      nothing list p l q (token_stays u g) = absurd cc
      nothing list p l q (token_goes news rest made r le g) = absurd cc
      nothing list p l q (too_many news rest made r lt) = absurd cc
      nothing list p l q (stops fault' r) = absurd cc

  -- the arguments from the next one on
  wanted_next : (d : Definition) (i : ℕ) (raw : List (List Token)) → i < length raw
      → wanted_from d i (drop i raw) ≡ (is_expanded d i, get_or raw i []) ∷ wanted_from d (i + 1) (drop (i + 1) raw)
  wanted_next d i raw h = ap (wanted_from d i) (drop_more raw i [] h)

  -- an argument of a call has been expanded
  call_next : (first : ℕ) (list : List Token) (call after : Call) (kept : ℕ) (raw : List (List Token)) (done ahead : List Token) (laid made : ℕ) (ts : List Token)
      → IsCall table bound first list call kept raw done ahead laid → length call.expanded < call.arguments
      → Expands table bound laid (wanted_argument (macro_in call) (length call.expanded) (get_or raw (length call.expanded) [])) (expanded ts made)
      → after ≡ record call { expanded = call.expanded ++ ts ∷ [] } → IsCall table bound first list after kept raw done ahead made
  call_next first list call after kept raw done ahead laid made ts h l e same =
      let d = macro_in call in
      let i = length call.expanded in
      let within : i < length raw = subst (λ n. i < n) (sym h.counted) l in
      let x : IsCall table bound first list (record call { expanded = call.expanded ++ ts ∷ [] }) kept raw done ahead made = record {
        laid_before = h.laid_before;
        rest = h.rest;
        parameters = h.parameters;
        brackets = h.brackets;
        leads = h.leads;
        is_called = h.is_called;
        after = h.after;
        hides = h.hides;
        split = h.split;
        counted = h.counted;
        kept_so_far = h.kept_so_far;
        each = λ o f. subst (ExpandsEach table bound h.laid_before (wanted_from d 0 raw)) (sym (preceded_by_each-push call.expanded ts o))
            (h.each (preceded_by_argument ts o) (subst (λ y. ExpandsEach table bound laid y (preceded_by_argument ts o)) (sym (wanted_next d i raw within))
            (each_next laid made (is_expanded d i) (get_or raw i []) ts (wanted_from d (i + 1) (drop (i + 1) raw)) o e
            (subst (λ n. ExpandsEach table bound made (wanted_from d n (drop n raw)) o) (length_push call.expanded ts) f))));
      } in
      subst (λ y. IsCall table bound first list y kept raw done ahead made) (sym same) x

  -- an argument of a call meets a fault
  call_fault : (first : ℕ) (list : List Token) (call : Call) (kept : ℕ) (raw : List (List Token)) (done ahead : List Token) (laid : ℕ) (fault : MacroFault)
      → IsCall table bound first list call kept raw done ahead laid → length call.expanded < call.arguments
      → Expands table bound laid (wanted_argument (macro_in call) (length call.expanded) (get_or raw (length call.expanded) [])) (refused fault)
      → Expands table bound first list (refused fault)
  call_fault first list call kept raw done ahead laid fault h l e =
      let i = length call.expanded in
      let within : i < length raw = subst (λ n. i < n) (sym h.counted) l in
      let f = each_faulty laid (is_expanded (macro_in call) i) (get_or raw i [])
      (wanted_from (macro_in call) (i + 1) (drop (i + 1) raw)) fault e in
      let g = h.each (one_refused fault) (subst (λ x. ExpandsEach table bound laid x (one_refused fault)) (sym (wanted_next (macro_in call) i raw within)) f) in
      leads_fault first list h.laid_before done (call.name ∷ h.rest) fault h.leads
      (stops fault (argument_fault (macro_in call) h.parameters h.brackets (record { given = raw; left_out = call.left_out }) fault (invocation_only table call.name h.rest (of_function (macro_in call) h.parameters h.brackets) h.is_called)
      (given_only table call.name h.rest (macro_in call) h.parameters h.brackets (length h.parameters) (macro_in call).variadic (record { given = raw; left_out = call.left_out }) h.is_called h.split)
      (subst (ExpandsEach table bound h.laid_before (wanted_from (macro_in call) 0 raw)) (preceded_by_each-refused call.expanded fault) g)))

  -- a fault is that of the whole
  wait_fault : (start : ℕ) (whole : List Token) (calls : List Call) (outermost : List Token) (laid : ℕ) (list : List Token) (more : List (List Token)) (fault : MacroFault)
      → AreWaiting table bound start whole calls outermost laid list more → Expands table bound laid list (refused fault) → Expands table bound start whole (refused fault)
  wait_fault start whole [] outermost laid list more fault h e =
      subst (λ x. Expands table bound start x (refused fault)) h.1 (subst (λ n. Expands table bound n list (refused fault)) h.0 e)
  wait_fault start whole (call ∷ calls) outermost laid list more fault h e =
      wait_fault start whole calls outermost h.laid_first h.outer h.outer_more fault h.wait
      (call_fault h.laid_first h.outer call (length call.expanded + 1) h.raw (done_in calls outermost call.done) h.ahead laid fault h.is_call h.begun
      (subst (λ x. Expands table bound laid x (refused fault)) h.argument e))

  pub on_fault : (start : ℕ) (whole : List Token) (laid : ℕ) (outermost done ahead : List Token) (more : List (List Token)) (calls : List Call) (fault : MacroFault)
      → IsExpanding table bound start whole laid outermost done ahead more calls → Expands table bound laid ahead (refused fault) → Expands table bound start whole (refused fault)
  on_fault start whole laid outermost done ahead more calls fault h e =
      wait_fault start whole calls outermost h.laid_first h.list more fault h.wait
      (leads_fault h.laid_first h.list laid (done_in calls outermost done) ahead fault h.leads e)

  -- the beginning, and the end
  pub on_start : (start : ℕ) (whole done : List Token) → IsExpanding table bound start whole start [] done whole [] []
  on_start start whole done = record { laid_first = start; list = whole; wait = (refl, refl, refl); leads = record { leads = λ o e. e } }

  pub on_end : (start : ℕ) (whole : List Token) (laid : ℕ) (outermost done : List Token) (more : List (List Token)) → IsExpanding table bound start whole laid outermost done [] more []
      → Expands table bound start whole (expanded outermost laid)
  on_end start whole laid outermost done more h =
      let e = leads_end h.laid_first h.list laid outermost h.leads in
      subst (λ x. Expands table bound start x (expanded outermost laid)) h.wait.1 (subst (λ n. Expands table bound n h.list (expanded outermost laid)) h.wait.0 e)

  -- nothing is cut off where no call waits
  pub on_last : (start : ℕ) (whole : List Token) (laid : ℕ) (outermost done ahead : List Token) (more : List (List Token))
      → IsExpanding table bound start whole laid outermost done ahead more [] → more ≡ []
  on_last start whole laid outermost done ahead more h = h.wait.2

  pub on_stays_outermost : (start : ℕ) (whole : List Token) (laid : ℕ) (outermost done rest : List Token) (more : List (List Token)) (t : Token) → invocation_of table t rest ≡ no_invocation
      → IsExpanding table bound start whole laid outermost done (t ∷ rest) more [] → IsExpanding table bound start whole laid (outermost ++ t ∷ []) done rest more []
  on_stays_outermost start whole laid outermost done rest more t u h = record {
    laid_first = h.laid_first;
    list = h.list;
    wait = h.wait;
    leads = leads_stays h.laid_first h.list laid outermost rest t u h.leads;
  }

  pub on_stays_within : (start : ℕ) (whole : List Token) (laid : ℕ) (outermost done rest : List Token) (more : List (List Token)) (t : Token) (call : Call) (calls : List Call)
      → invocation_of table t rest ≡ no_invocation → IsExpanding table bound start whole laid outermost done (t ∷ rest) more (call ∷ calls)
      → IsExpanding table bound start whole laid outermost (done ++ t ∷ []) rest more (call ∷ calls)
  on_stays_within start whole laid outermost done rest more t call calls u h = record {
    laid_first = h.laid_first;
    list = h.list;
    wait = h.wait;
    leads = leads_stays h.laid_first h.list laid done rest t u h.leads;
  }

  pub on_goes : (start : ℕ) (whole : List Token) (laid made : ℕ) (outermost done rest news after : List Token) (more : List (List Token)) (t : Token) (calls : List Call)
      → Replaces table bound laid t rest (replacement news after made) → made + (length news + 1) ≤ bound
      → IsExpanding table bound start whole laid outermost done (t ∷ rest) more calls
      → IsExpanding table bound start whole (made + (length news + 1)) outermost done (news ++ after) more calls
  on_goes start whole laid made outermost done rest news after more t calls r le h = record {
    laid_first = h.laid_first;
    list = h.list;
    wait = h.wait;
    leads = leads_goes h.laid_first h.list laid made (done_in calls outermost done) rest news after t r le h.leads;
  }

  -- a call is met, and its arguments are cut off
  pub in_called : (start : ℕ) (whole : List Token) (laid : ℕ) (rest outermost ahead : List Token) (more outer_more raw : List (List Token)) (call : Call) (calls : List Call)
      (parameters : List (List ℕ)) (b : Bracketed)
      → IsExpanding table bound start whole laid outermost call.done (call.name ∷ rest) outer_more calls → invocation_of table call.name rest ≡ of_function (macro_in call) parameters b
      → call.hide ≡ with_name call.name.text (common call.name.hide b.closing.hide)
      → arguments_of (length parameters) (macro_in call).variadic b.inner ≡ Some (record { given = raw; left_out = call.left_out }) → length raw ≡ call.arguments → call.raw ≡ [] → call.expanded ≡ []
      → ahead ∷ more ≡ raw ++ b.after ∷ outer_more → IsExpandingCall table bound start whole laid outermost ahead more call calls
  in_called start whole laid rest outermost ahead more outer_more raw call calls parameters b h u f s c k n e = record {
    laid_first = h.laid_first;
    list = h.list;
    raw = raw;
    after = b.after;
    outer_more = outer_more;
    wait = h.wait;
    is_call = record {
      laid_before = laid;
      rest = rest;
      parameters = parameters;
      brackets = b;
      leads = h.leads;
      is_called = u;
      after = refl;
      hides = f;
      split = s;
      counted = c;
      kept_so_far = subst (λ x. call.raw ≡ kept_of (macro_in call) 0 (take (length x) raw)) (sym n) k;
      each = subst (λ x. (o : ArgumentsOutcome) → ExpandsEach table bound laid (wanted_from (macro_in call) (length x) (drop (length x) raw)) o
          → ExpandsEach table bound laid (wanted_from (macro_in call) 0 raw) (preceded_by_each x o)) (sym n) (λ o g. g);
    };
    segments = subst (λ x. ahead ∷ more ≡ drop (length x) raw ++ b.after ∷ outer_more) (sym n) e;
  }

  -- the next argument of a call is begun
  first_of : (a x : List Token) (more y rest : List (List Token)) → a ∷ more ≡ (x ∷ y) ++ rest → (a ≡ x) × (more ≡ y ++ rest)
  first_of a x more y rest e = (cc, cc)

  pub on_begins : (start : ℕ) (whole : List Token) (laid : ℕ) (outermost ahead ahead' : List Token) (more : List (List Token)) (kept done : List Token) (call after : Call) (calls : List Call)
      → IsExpandingCall table bound start whole laid outermost ahead more call calls → length call.expanded < call.arguments
      → kept ≡ cond (is_raw (macro_in call) (length call.expanded)) ahead []
      → after ≡ record call { raw = call.raw ++ kept ∷ [] } → ahead' ≡ wanted_argument (macro_in call) (length call.expanded) ahead → done ≡ []
      → IsExpanding table bound start whole laid outermost done ahead' more (after ∷ calls)
  on_begins start whole laid outermost ahead ahead' more kept done call after calls h l k same w none =
      let d = macro_in call in
      let i = length call.expanded in
      let within : i < length h.raw = subst (λ n. i < n) (sym h.is_call.counted) l in
      let there : (ahead ≡ get_or h.raw i []) × (more ≡ drop (i + 1) h.raw ++ h.after ∷ h.outer_more) =
      first_of ahead (get_or h.raw i []) more (drop (i + 1) h.raw) (h.after ∷ h.outer_more)
      (h.segments ∙ ap (λ x. x ++ h.after ∷ h.outer_more) (drop_more h.raw i [] within)) in
      let keeps : call.raw ++ kept ∷ [] ≡ kept_of d 0 (take (i + 1) h.raw) =
      ap (λ x. call.raw ++ x ∷ []) (k ∙ ap (λ x. cond (is_raw d i) x []) there.0)
      ∙ (ap (λ x. x ++ cond (is_raw d i) (get_or h.raw i []) [] ∷ []) h.is_call.kept_so_far ∙ sym (kept_next d i h.raw within)) in
      let c = record call { raw = call.raw ++ kept ∷ [] } in
      let on : IsExpanding table bound start whole laid outermost done ahead' more (c ∷ calls) = record {
        laid_first = laid;
        list = ahead';
        wait = record {
          laid_first = h.laid_first;
          outer = h.list;
          raw = h.raw;
          ahead = h.after;
          outer_more = h.outer_more;
          wait = h.wait;
          is_call = record {
            laid_before = h.is_call.laid_before;
            rest = h.is_call.rest;
            parameters = h.is_call.parameters;
            brackets = h.is_call.brackets;
            leads = h.is_call.leads;
            is_called = h.is_call.is_called;
            after = h.is_call.after;
            hides = h.is_call.hides;
            split = h.is_call.split;
            counted = h.is_call.counted;
            kept_so_far = keeps;
            each = h.is_call.each;
          };
          begun = l;
          argument = w ∙ ap (wanted_argument d i) there.0;
          segments = there.1;
        };
        leads = record { leads = λ o f. subst (λ x. Expands table bound laid ahead' (preceded_by_tokens x o)) (sym none) f };
      } in
      subst (λ x. IsExpanding table bound start whole laid outermost done ahead' more (x ∷ calls)) (sym same) on

  -- an argument of a call ends
  pub on_more : (start : ℕ) (whole : List Token) (laid : ℕ) (outermost done : List Token) (more : List (List Token)) (call : Call) (calls : List Call)
      → IsExpanding table bound start whole laid outermost done [] more (call ∷ calls) → (ahead : List Token) × (more' : List (List Token)) × (more ≡ ahead ∷ more')
  on_more start whole laid outermost done more call calls h = by (drop (length call.expanded + 1) h.wait.raw) h.wait.segments
    where
      by : (left : List (List Token)) → more ≡ left ++ h.wait.ahead ∷ h.wait.outer_more → (ahead : List Token) × (more' : List (List Token)) × (more ≡ ahead ∷ more')
      by [] e = (h.wait.ahead, h.wait.outer_more, e)
      by (x ∷ xs) e = (x, xs ++ h.wait.ahead ∷ h.wait.outer_more, e)

  pub in_next : (start : ℕ) (whole : List Token) (laid : ℕ) (outermost done ahead : List Token) (more more' : List (List Token)) (call after : Call) (calls : List Call)
      → IsExpanding table bound start whole laid outermost done [] more (call ∷ calls) → after ≡ record call { expanded = call.expanded ++ done ∷ [] } → more ≡ ahead ∷ more'
      → IsExpandingCall table bound start whole laid outermost ahead more' after calls
  in_next start whole laid outermost done ahead more more' call after calls h e m =
      let w = h.wait in
      let x = leads_end h.laid_first h.list laid done h.leads in
      let longer : length after.expanded ≡ length call.expanded + 1 = ap (λ (c : Call). length c.expanded) e ∙ length_push call.expanded done in
      let same_done : after.done ≡ call.done = ap (λ (c : Call). c.done) e in
      let is_call : IsCall table bound w.laid_first w.outer after (length call.expanded + 1) w.raw (done_in calls outermost call.done) w.ahead laid =
      call_next w.laid_first w.outer call after (length call.expanded + 1) w.raw (done_in calls outermost call.done) w.ahead h.laid_first laid done w.is_call w.begun
      (subst (λ l. Expands table bound h.laid_first l (expanded done laid)) w.argument x) e in
      record {
        laid_first = w.laid_first;
        list = w.outer;
        raw = w.raw;
        after = w.ahead;
        outer_more = w.outer_more;
        wait = w.wait;
        is_call = subst (λ n. IsCall table bound w.laid_first w.outer after n w.raw (done_in calls outermost after.done) w.ahead laid) (sym longer)
            (subst (λ y. IsCall table bound w.laid_first w.outer after (length call.expanded + 1) w.raw (done_in calls outermost y) w.ahead laid) (sym same_done) is_call);
        segments = sym m ∙ (w.segments ∙ ap (λ n. drop n w.raw ++ w.ahead ∷ w.outer_more) (sym longer));
      }

  -- a call whose arguments are all expanded
  all_raw : (first : ℕ) (list : List Token) (call : Call) (raw : List (List Token)) (done ahead : List Token) (laid : ℕ)
      → IsCall table bound first list call (length call.expanded) raw done ahead laid → call.arguments ≤ length call.expanded → length raw ≤ length call.expanded
  all_raw first list call raw done ahead laid h l = subst (λ n. n ≤ length call.expanded) (sym h.counted) l

  call_done : (first : ℕ) (list : List Token) (call : Call) (raw : List (List Token)) (done ahead : List Token) (laid : ℕ)
      (h : IsCall table bound first list call (length call.expanded) raw done ahead laid) → length raw ≤ length call.expanded
      → ExpandsEach table bound h.laid_before (wanted_from (macro_in call) 0 raw) (all_expanded call.expanded laid)
  call_done first list call raw done ahead laid h l =
      let none : drop (length call.expanded) raw ≡ [] = drop_all (length call.expanded) raw l in
      let e = h.each (all_expanded [] laid) (subst (λ x. ExpandsEach table bound laid (wanted_from (macro_in call) (length call.expanded) x) (all_expanded [] laid)) (sym none) no_more) in
      subst (ExpandsEach table bound h.laid_before (wanted_from (macro_in call) 0 raw))
      (preceded_by_each-expanded call.expanded [] laid ∙ ap (λ x. all_expanded x laid) (append-nil call.expanded)) e

  -- the arguments that are kept make the same
  call_parts : (first : ℕ) (list : List Token) (call : Call) (raw : List (List Token)) (done ahead : List Token) (laid : ℕ)
      → IsCall table bound first list call (length call.expanded) raw done ahead laid → length raw ≤ length call.expanded
      → substitutes_of (macro_in call) (kept_arguments call) call.expanded ≡ substitutes_of (macro_in call) (record { given = raw; left_out = call.left_out }) call.expanded
  call_parts first list call raw done ahead laid h l =
      ap (λ x. substitutes_of (macro_in call) (record { given = x; left_out = call.left_out }) call.expanded)
      (h.kept_so_far ∙ ap (kept_of (macro_in call) 0) (take_all (length call.expanded) raw l))
      ∙ substitutes_kept (macro_in call) (record { given = raw; left_out = call.left_out }) call.expanded

  call_replaced : (first : ℕ) (list : List Token) (call : Call) (raw : List (List Token)) (done ahead : List Token) (laid : ℕ) (made : Option (List Token))
      (h : IsCall table bound first list call (length call.expanded) raw done ahead laid) → call.arguments ≤ length call.expanded
      → Glues [] (substitutes_of (macro_in call) (kept_arguments call) call.expanded) made
      → Replaces table bound h.laid_before call.name h.rest (replacement_of call.name call.hide ahead laid made)
  call_replaced first list call raw done ahead laid made h l g =
      let all = all_raw first list call raw done ahead laid h l in
      subst (λ x. Replaces table bound h.laid_before call.name h.rest (replacement_of call.name x ahead laid made)) (sym h.hides)
      (subst (λ x. Replaces table bound h.laid_before call.name h.rest (replacement_of call.name (with_name call.name.text (common call.name.hide h.brackets.closing.hide)) x laid made)) (sym h.after)
      (function_like (macro_in call) h.parameters h.brackets (record { given = raw; left_out = call.left_out }) call.expanded laid made (invocation_only table call.name h.rest (of_function (macro_in call) h.parameters h.brackets) h.is_called)
      (given_only table call.name h.rest (macro_in call) h.parameters h.brackets (length h.parameters) (macro_in call).variadic (record { given = raw; left_out = call.left_out }) h.is_called h.split) (call_done first list call raw done ahead laid h all)
      (subst (λ x. Glues [] x made) (call_parts first list call raw done ahead laid h all) g)))

  -- what is ahead is what stands behind the call then
  ahead_behind : (a b : List Token) (more more' raw : List (List Token)) (n : ℕ) → length raw ≤ n → a ∷ more ≡ drop n raw ++ b ∷ more' → (a ≡ b) × (more ≡ more')
  ahead_behind a b more more' raw n l e = same (e ∙ ap (λ x. x ++ b ∷ more') (drop_all n raw l))
    where
      same : a ∷ more ≡ b ∷ more' → (a ≡ b) × (more ≡ more')
      same e = (cc, cc)

  pub in_replaced : (start : ℕ) (whole : List Token) (laid : ℕ) (outermost ahead : List Token) (more : List (List Token)) (call : Call) (calls : List Call) (made news : List Token)
      → IsExpandingCall table bound start whole laid outermost ahead more call calls → call.arguments ≤ length call.expanded
      → Glues [] (substitutes_of (macro_in call) (kept_arguments call) call.expanded) (Some made)
      → news ≡ replacement_tokens call.name call.hide made → laid + (length news + 1) ≤ bound
      → IsExpanding table bound start whole (laid + (length news + 1)) outermost call.done (news ++ ahead) more calls
  in_replaced start whole laid outermost ahead more call calls made news h l g e le =
      let r = call_replaced h.laid_first h.list call h.raw (done_in calls outermost call.done) h.after laid (Some made) h.is_call l g in
      let b = ahead_behind ahead h.after more h.outer_more h.raw (length call.expanded)
      (all_raw h.laid_first h.list call h.raw (done_in calls outermost call.done) h.after laid h.is_call l) h.segments in
      let on : IsExpanding table bound start whole (laid + (length news + 1)) outermost call.done (news ++ h.after) h.outer_more calls = record {
        laid_first = h.laid_first;
        list = h.list;
        wait = h.wait;
        leads = leads_goes h.laid_first h.list h.is_call.laid_before laid (done_in calls outermost call.done) h.is_call.rest news h.after call.name
            (subst (λ x. Replaces table bound h.is_call.laid_before call.name h.is_call.rest (replacement x h.after laid)) (sym e) r) le h.is_call.leads;
      } in
      subst (λ x. IsExpanding table bound start whole (laid + (length news + 1)) outermost call.done (news ++ x) more calls) (sym b.0)
      (subst (λ x. IsExpanding table bound start whole (laid + (length news + 1)) outermost call.done (news ++ h.after) x calls) (sym b.1) on)

  in_fault : (start : ℕ) (whole : List Token) (laid : ℕ) (outermost ahead : List Token) (more : List (List Token)) (call : Call) (calls : List Call) (fault : MacroFault)
      (h : IsExpandingCall table bound start whole laid outermost ahead more call calls)
      → Expands table bound h.is_call.laid_before (call.name ∷ h.is_call.rest) (refused fault) → Expands table bound start whole (refused fault)
  in_fault start whole laid outermost ahead more call calls fault h e =
      wait_fault start whole calls outermost h.laid_first h.list h.outer_more fault h.wait
      (leads_fault h.laid_first h.list h.is_call.laid_before (done_in calls outermost call.done) (call.name ∷ h.is_call.rest) fault h.is_call.leads e)

  pub in_bad_paste : (start : ℕ) (whole : List Token) (laid : ℕ) (outermost ahead : List Token) (more : List (List Token)) (call : Call) (calls : List Call)
      → IsExpandingCall table bound start whole laid outermost ahead more call calls → call.arguments ≤ length call.expanded
      → Glues [] (substitutes_of (macro_in call) (kept_arguments call) call.expanded) None
      → Expands table bound start whole (refused (BadPaste call.name.place))
  in_bad_paste start whole laid outermost ahead more call calls h l g =
      in_fault start whole laid outermost ahead more call calls (BadPaste call.name.place) h
      (stops (BadPaste call.name.place)
      (call_replaced h.laid_first h.list call h.raw (done_in calls outermost call.done) h.after laid None h.is_call l g))

  pub in_too_many : (start : ℕ) (whole : List Token) (laid : ℕ) (outermost ahead : List Token) (more : List (List Token)) (call : Call) (calls : List Call) (made news : List Token)
      → IsExpandingCall table bound start whole laid outermost ahead more call calls → call.arguments ≤ length call.expanded
      → Glues [] (substitutes_of (macro_in call) (kept_arguments call) call.expanded) (Some made)
      → news ≡ replacement_tokens call.name call.hide made → bound < laid + (length news + 1)
      → Expands table bound start whole (refused (TooManyTokens call.name.place (laid + (length news + 1))))
  in_too_many start whole laid outermost ahead more call calls made news h l g e lt =
      let r = call_replaced h.laid_first h.list call h.raw (done_in calls outermost call.done) h.after laid (Some made) h.is_call l g in
      in_fault start whole laid outermost ahead more call calls (TooManyTokens call.name.place (laid + (length news + 1))) h
      (too_many news h.after laid
      (subst (λ x. Replaces table bound h.is_call.laid_before call.name h.is_call.rest (replacement x h.after laid)) (sym e) r) lt)

  -- an object-like macro
  pub on_object : (start : ℕ) (whole : List Token) (laid : ℕ) (outermost done rest made news : List Token) (more : List (List Token)) (t : Token) (hide : List (List ℕ)) (calls : List Call)
      (d : Definition) → IsExpanding table bound start whole laid outermost done (t ∷ rest) more calls → invocation_of table t rest ≡ of_object d
      → Glues [] (substitutes_of d no_arguments []) (Some made)
      → hide ≡ with_name t.text t.hide → news ≡ replacement_tokens t hide made → laid + (length news + 1) ≤ bound
      → IsExpanding table bound start whole (laid + (length news + 1)) outermost done (news ++ rest) more calls
  on_object start whole laid outermost done rest made news more t hide calls d h u g k e le =
      on_goes start whole laid laid outermost done rest news rest more t calls
      (subst (λ x. Replaces table bound laid t rest (replacement x rest laid)) (ap (λ x. replacement_tokens t x made) (sym k) ∙ sym e) (object_like d (Some made) (invocation_only table t rest (of_object d) u) g)) le h

  pub object_bad_paste : (start : ℕ) (whole : List Token) (laid : ℕ) (outermost done rest : List Token) (more : List (List Token)) (t : Token) (calls : List Call) (d : Definition)
      → IsExpanding table bound start whole laid outermost done (t ∷ rest) more calls → invocation_of table t rest ≡ of_object d → Glues [] (substitutes_of d no_arguments []) None
      → Expands table bound start whole (refused (BadPaste t.place))
  object_bad_paste start whole laid outermost done rest more t calls d h u g =
      on_fault start whole laid outermost done (t ∷ rest) more calls (BadPaste t.place) h (stops (BadPaste t.place) (object_like d None (invocation_only table t rest (of_object d) u) g))

  pub object_too_many : (start : ℕ) (whole : List Token) (laid : ℕ) (outermost done rest made news : List Token) (more : List (List Token)) (t : Token) (hide : List (List ℕ))
      (calls : List Call) (d : Definition) → IsExpanding table bound start whole laid outermost done (t ∷ rest) more calls → invocation_of table t rest ≡ of_object d
      → Glues [] (substitutes_of d no_arguments []) (Some made)
      → hide ≡ with_name t.text t.hide → news ≡ replacement_tokens t hide made → bound < laid + (length news + 1)
      → Expands table bound start whole (refused (TooManyTokens t.place (laid + (length news + 1))))
  object_too_many start whole laid outermost done rest made news more t hide calls d h u g k e lt =
      on_fault start whole laid outermost done (t ∷ rest) more calls (TooManyTokens t.place (laid + (length news + 1))) h
      (too_many news rest laid
      (subst (λ x. Replaces table bound laid t rest (replacement x rest laid)) (ap (λ x. replacement_tokens t x made) (sym k) ∙ sym e) (object_like d (Some made) (invocation_only table t rest (of_object d) u) g)) lt)

  -- the faults of a call
  pub on_unclosed : (start : ℕ) (whole : List Token) (laid : ℕ) (outermost done rest : List Token) (more : List (List Token)) (t : Token) (calls : List Call)
      → IsExpanding table bound start whole laid outermost done (t ∷ rest) more calls → invocation_of table t rest ≡ unclosed → Expands table bound start whole (refused (UnclosedCall t.place))
  on_unclosed start whole laid outermost done rest more t calls h u =
      on_fault start whole laid outermost done (t ∷ rest) more calls (UnclosedCall t.place) h (stops (UnclosedCall t.place) (unclosed_call (invocation_only table t rest unclosed u)))

  pub on_miscounted : (start : ℕ) (whole : List Token) (laid : ℕ) (outermost done rest : List Token) (more : List (List Token)) (t : Token) (calls : List Call) (d : Definition)
      (parameters : List (List ℕ)) (b : Bracketed) → IsExpanding table bound start whole laid outermost done (t ∷ rest) more calls → invocation_of table t rest ≡ of_function d parameters b
      → arguments_of (length parameters) d.variadic b.inner ≡ None → Expands table bound start whole (refused (ArgumentCount t.place))
  on_miscounted start whole laid outermost done rest more t calls d parameters b h u a =
      on_fault start whole laid outermost done (t ∷ rest) more calls (ArgumentCount t.place) h (stops (ArgumentCount t.place) (argument_count d parameters b (invocation_only table t rest (of_function d parameters b) u) (arguments_none a)))
