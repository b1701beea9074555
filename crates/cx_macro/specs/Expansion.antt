-- Macro replacement on lists of tokens with hide sets (C11 6.10.3).
use Rattle.std.specs.Prelude.{◌≡◌, ℕ, ◌+◌, ◌<◌, ◌≤◌, List, [], ◌∷◌, ◌++◌, Bool, true, false, if◌then◌else◌, not, ◌&&◌, Option, Some, None, length, decimal, codes, bytes_eq}
use Rattle.cx_tokens.specs.declared.token.Kind.TheVariants.{Number}
use Rattle.cx_tokens.specs.declared.token.Token.{Token}
use Rattle.cx_tokens.specs.Simplified.{is_name}
use Rattle.cx_table.specs.NameTable.{value_of}
use Rattle.cx_macro.specs.declared.fault.MacroFault.{MacroFault}
use Rattle.cx_macro.specs.declared.fault.MacroFault.TheVariants.{ArgumentCount, BadPaste, TooManyTokens, UnclosedCall}
use Rattle.cx_macro.specs.Arguments.{AreArguments, Arguments, Bracketed, IsBracketed, begins_call, is_open, no_arguments}
use Rattle.cx_macro.specs.Hiding.{common, is_among, with_name}
use Rattle.cx_macro.specs.Macros.{Definition, Table}
use Rattle.cx_macro.specs.Replacement.{Glues, is_expanded, replacement_tokens, substitutes_of}

-- how many tokens may be laid, at most
abbrev pub most_laid : ℕ
most_laid = 262144

-- `__LINE__` is replaced as an object-like macro whose body is the line of its place (C11 6.10.8.1)
abbrev pub line_name : List ℕ
line_name = codes "__LINE__"

abbrev pub line_of : Token → Definition
line_of t = record {
  parameters = None;
  variadic = false;
  body = (record {
    kind = Number;
    text = decimal t.place.line;
    place = t.place;
    hide = [];
    space = false;
    parts = [];
    digraph = false;
  }) ∷ [];
}

-- the macro that may replace a token: one of its name that its hide set does not hold
unfoldable pub definition_at : Table → Token → Option Definition
definition_at table t =
    if is_name t.kind && not (is_among t.hide t.text)
    then (if bytes_eq t.text line_name then Some (line_of t) else value_of table t.text)
    else None

-- What a token invokes: no macro; one that is object-like; or one that is function-like, whose
-- closing bracket is missing or there.
pub data Invocation : Type 0 where
  no_invocation : Invocation
  of_object : Definition → Invocation
  unclosed : Invocation
  of_function : Definition → (parameters : List (List ℕ)) → Bracketed → Invocation

-- IsInvocation table t rest invocation: the token invokes this, by what stands after it.
pub data IsInvocation (table : Table) (t : Token) (rest : List Token) : Invocation → Type 0 where
  not_a_macro : definition_at table t ≡ None → IsInvocation table t rest no_invocation
  no_bracket_after : {d : Definition} {parameters : List (List ℕ)} → definition_at table t ≡ Some d
      → d.parameters ≡ Some parameters → begins_call rest ≡ false
      → IsInvocation table t rest no_invocation
  object_name : {d : Definition} → definition_at table t ≡ Some d → d.parameters ≡ None
      → IsInvocation table t rest (of_object d)
  closing_missing
      : {d : Definition} {parameters : List (List ℕ)} {opening : Token} {ts : List Token}
      → definition_at table t ≡ Some d → d.parameters ≡ Some parameters
      → rest ≡ opening ∷ ts → is_open opening ≡ true → ((b : Bracketed) → ¬ IsBracketed ts b)
      → IsInvocation table t rest unclosed
  closing_there : {d : Definition} {parameters : List (List ℕ)} {opening : Token} {ts : List Token}
      {b : Bracketed} → definition_at table t ≡ Some d → d.parameters ≡ Some parameters
      → rest ≡ opening ∷ ts → is_open opening ≡ true → IsBracketed ts b
      → IsInvocation table t rest (of_function d parameters b)

-- What comes of a list: its tokens, and how many were laid; or the first fault.
pub data Outcome : Type 0 where
  expanded : List Token → ℕ → Outcome
  refused : MacroFault → Outcome

-- the same with a token before it
abbrev pub preceded_by_token : Token → Outcome → Outcome
preceded_by_token t (expanded ts laid) = expanded (t ∷ ts) laid
preceded_by_token t (refused fault) = refused fault

-- What comes of a name: the tokens that replace it, those after them, and how many were laid; or
-- the first fault.
pub data Replacement : Type 0 where
  replacement : (ts after : List Token) (laid : ℕ) → Replacement
  no_replacement : MacroFault → Replacement

abbrev pub replacement_of : Token → List (List ℕ) → List Token → ℕ → Option (List Token)
    → Replacement
replacement_of name hide after laid None = no_replacement (BadPaste name.place)
replacement_of name hide after laid (Some ts) =
    replacement (replacement_tokens name hide ts) after laid

-- What comes of arguments: each expanded, or nothing for one that is not to be; and how many were
-- laid; or the first fault.
pub data ArgumentsOutcome : Type 0 where
  all_expanded : List (List Token) → ℕ → ArgumentsOutcome
  one_refused : MacroFault → ArgumentsOutcome

-- the same with an argument before it
abbrev pub preceded_by_argument : List Token → ArgumentsOutcome → ArgumentsOutcome
preceded_by_argument ts (all_expanded arguments laid) = all_expanded (ts ∷ arguments) laid
preceded_by_argument ts (one_refused fault) = one_refused fault

-- the arguments from an index, each with whether it is to be expanded
abbrev pub wanted_from : Definition → ℕ → List (List Token) → List (Bool × List Token)
wanted_from d i [] = []
wanted_from d i (argument ∷ rest) = (is_expanded d i, argument) ∷ wanted_from d (i + 1) rest

mutual
  -- Expands table bound laid list outcome: with so many tokens laid before, this comes of the list.
  pub data Expands (table : Table) (bound : ℕ) : ℕ → List Token → Outcome → Type 0 where
    ends : {laid : ℕ} → Expands table bound laid [] (expanded [] laid)
    token_stays : {laid : ℕ} {t : Token} {rest : List Token} {outcome : Outcome}
        → IsInvocation table t rest no_invocation → Expands table bound laid rest outcome
        → Expands table bound laid (t ∷ rest) (preceded_by_token t outcome)
    token_goes : {laid : ℕ} {t : Token} {rest : List Token} {outcome : Outcome}
        (ts after : List Token) (laid_before : ℕ)
        → Replaces table bound laid t rest (replacement ts after laid_before)
        → laid_before + (length ts + 1) ≤ bound
        → Expands table bound (laid_before + (length ts + 1)) (ts ++ after) outcome
        → Expands table bound laid (t ∷ rest) outcome
    too_many : {laid : ℕ} {t : Token} {rest : List Token} (ts after : List Token) (laid_before : ℕ)
        → Replaces table bound laid t rest (replacement ts after laid_before)
        → bound < laid_before + (length ts + 1)
        → Expands table bound laid (t ∷ rest)
        (refused (TooManyTokens t.place (laid_before + (length ts + 1))))
    stops : {laid : ℕ} {t : Token} {rest : List Token} (fault : MacroFault)
        → Replaces table bound laid t rest (no_replacement fault)
        → Expands table bound laid (t ∷ rest) (refused fault)

  -- Replaces table bound laid name rest replacement: this comes of a macro's name with the rest
  -- after it.
  pub data Replaces (table : Table) (bound : ℕ) : ℕ → Token → List Token → Replacement
      → Type 0 where
    object_like : {laid : ℕ} {t : Token} {rest : List Token} (d : Definition)
        (result : Option (List Token))
        → IsInvocation table t rest (of_object d)
        → Glues [] (substitutes_of d no_arguments []) result
        → Replaces table bound laid t rest
        (replacement_of t (with_name t.text t.hide) rest laid result)
    unclosed_call : {laid : ℕ} {t : Token} {rest : List Token}
        → IsInvocation table t rest unclosed
        → Replaces table bound laid t rest (no_replacement (UnclosedCall t.place))
    argument_count : {laid : ℕ} {t : Token} {rest : List Token} (d : Definition)
        (parameters : List (List ℕ)) (b : Bracketed)
        → IsInvocation table t rest (of_function d parameters b)
        → ((raw : Arguments) → ¬ AreArguments (length parameters) d.variadic b.inner raw)
        → Replaces table bound laid t rest (no_replacement (ArgumentCount t.place))
    argument_fault : {laid : ℕ} {t : Token} {rest : List Token} (d : Definition)
        (parameters : List (List ℕ)) (b : Bracketed) (raw : Arguments) (fault : MacroFault)
        → IsInvocation table t rest (of_function d parameters b)
        → AreArguments (length parameters) d.variadic b.inner raw
        → ExpandsEach table bound laid (wanted_from d 0 raw.given) (one_refused fault)
        → Replaces table bound laid t rest (no_replacement fault)
    function_like : {laid : ℕ} {t : Token} {rest : List Token} (d : Definition)
        (parameters : List (List ℕ)) (b : Bracketed) (raw : Arguments) (done : List (List Token))
        (laid_after : ℕ) (result : Option (List Token))
        → IsInvocation table t rest (of_function d parameters b)
        → AreArguments (length parameters) d.variadic b.inner raw
        → ExpandsEach table bound laid (wanted_from d 0 raw.given) (all_expanded done laid_after)
        → Glues [] (substitutes_of d raw done) result
        → Replaces table bound laid t rest
        (replacement_of t (with_name t.text (common t.hide b.closing.hide)) b.after laid_after
        result)

  -- ExpandsEach table bound laid arguments outcome: the arguments that are to be expanded are, each
  -- by itself, in order.
  pub data ExpandsEach (table : Table) (bound : ℕ)
      : ℕ → List (Bool × List Token) → ArgumentsOutcome → Type 0 where
    no_more : {laid : ℕ} → ExpandsEach table bound laid [] (all_expanded [] laid)
    not_wanted : {laid : ℕ} {argument : List Token} {rest : List (Bool × List Token)}
        {outcome : ArgumentsOutcome} → ExpandsEach table bound laid rest outcome
        → ExpandsEach table bound laid ((false, argument) ∷ rest) (preceded_by_argument [] outcome)
    wanted : {laid : ℕ} {argument : List Token} {rest : List (Bool × List Token)}
        {outcome : ArgumentsOutcome} (ts : List Token) (laid_after : ℕ)
        → Expands table bound laid argument (expanded ts laid_after)
        → ExpandsEach table bound laid_after rest outcome
        → ExpandsEach table bound laid ((true, argument) ∷ rest) (preceded_by_argument ts outcome)
    not_expanded : {laid : ℕ} {argument : List Token} {rest : List (Bool × List Token)}
        (fault : MacroFault) → Expands table bound laid argument (refused fault)
        → ExpandsEach table bound laid ((true, argument) ∷ rest) (one_refused fault)

-- ExpandsList table bound laid list outcome: the tokens of the list are laid first.
pub data ExpandsList (table : Table) (bound laid : ℕ) : List Token → Outcome → Type 0 where
  within : {list : List Token} {outcome : Outcome} → laid + length list ≤ bound
      → Expands table bound (laid + length list) list outcome
      → ExpandsList table bound laid list outcome
  too_long : {t : Token} {rest : List Token} → bound < laid + length (t ∷ rest)
      → ExpandsList table bound laid (t ∷ rest)
      (refused (TooManyTokens t.place (laid + length (t ∷ rest))))
