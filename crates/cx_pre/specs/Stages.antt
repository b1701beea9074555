-- How far a text has been gone through, and what comes of it.
use Rattle.std.specs.Prelude.{ℕ, List, [], ◌∷◌, ◌++◌, Bool, true, false, Option, Some, None, Result, Ok, Err, length, replicate, set, get_or, if◌then◌else◌}
use Rattle.cx_base.specs.declared.place.Place.{Place}
use Rattle.cx_tokens.specs.declared.token.Kind.{Kind}
use Rattle.cx_tokens.specs.declared.token.Kind.TheVariants.{Unclosed}
use Rattle.cx_tokens.specs.declared.token.Token.{Token}
use Rattle.cx_tokens.specs.Nodes.{TokenNodes, tokens}
use Rattle.cx_macro.specs.Macros.{Table}
use Rattle.cx_directive.specs.declared.include.IncludeName.{IncludeName}
use Rattle.cx_pre.specs.declared.chosen.Chosen.{Chosen}
use Rattle.cx_pre.specs.declared.fault.PreFault.{PreFault}
use Rattle.cx_pre.specs.declared.fault.PreFault.TheVariants.{UnclosedLiteral}
use Rattle.cx_shelf.specs.declared.shelf.Shelf.{Shelf}

-- The macros as they stand; how many tokens were laid; the tokens chosen; the includes met that
-- lead to no file; and of each file whether a `pragma once` was met in it.
pub record Stage : Type 0 where
  pub macros : Table
  pub laid : ℕ
  pub tokens : List Token
  pub missing : List IncludeName
  pub once : List Bool

abbrev pub with_macros : Table → Stage → Stage
with_macros macros s = record s { macros = macros }

abbrev pub with_laid : ℕ → Stage → Stage
with_laid laid s = record s { laid = laid }

abbrev pub with_text : List Token → ℕ → Stage → Stage
with_text ts laid s = record s { tokens = s.tokens ++ ts; laid = laid }

abbrev pub with_missing : IncludeName → Stage → Stage
with_missing name s = record s { missing = s.missing ++ name ∷ [] }

abbrev pub with_once : ℕ → Stage → Stage
with_once file s = record s { once = set s.once file true }

-- a `pragma once` was met in a file
abbrev pub is_once : ℕ → Stage → Bool
is_once file s = get_or s.once file false

-- nothing was gone through
abbrev pub first_stage : Shelf → Table → Stage
first_stage shelf macros = record {
  macros = macros;
  laid = 0;
  tokens = [];
  missing = [];
  once = replicate (length shelf.files) false;
}

-- What comes of a text: it is gone through, or its first fault, with the includes met up to there
-- that lead to no file.
pub data Outcome : Type 0 where
  through : Stage → Outcome
  stopped : List IncludeName → PreFault → Outcome

-- What is chosen: the tokens, or the first fault; and the includes met that lead to no file.
pub record Answer : Type 0 where
  pub tokens : Result (List Token) PreFault
  pub missing : List IncludeName

abbrev pub is_unclosed : Kind → Bool
is_unclosed Unclosed = true
is_unclosed _ = false

-- where the first quote without an end stands
unfoldable pub unclosed_at : List Token → Option Place
unclosed_at [] = None
unclosed_at (t ∷ ts) = if is_unclosed t.kind then Some t.place else unclosed_at ts

abbrev pub unless_unclosed : List Token → Option Place → Result (List Token) PreFault
unless_unclosed ts None = Ok ts
unless_unclosed ts (Some at) = Err (UnclosedLiteral at)

-- an unclosed quote among the tokens is a fault behind every other (C11 6.4, paragraph 3)
unfoldable pub answer_of : Outcome → Answer
answer_of (through s) = record {
  tokens = unless_unclosed s.tokens (unclosed_at s.tokens);
  missing = s.missing;
}
answer_of (stopped missing fault) = record { tokens = Err fault; missing = missing }

-- the answer that a value tells
abbrev pub answer_by : Chosen → Answer
answer_by c = record { tokens = tokens_in c.tokens; missing = c.missing }
  where
    tokens_in : Result TokenNodes PreFault → Result (List Token) PreFault
    tokens_in (Ok list) = Ok (tokens list.nodes)
    tokens_in (Err fault) = Err fault
