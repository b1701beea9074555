-- What is found in tokens: joined to `IsTold` and `IsForeign` of Told by `told`.
use Rattle.std.specs.Prelude.{List}
use Rattle.cx_base.specs.declared.finding.Finding.{Finding}
use Rattle.cx_tokens.specs.declared.token.Token.{Token}
use Rattle.cx_first.specs.Grammar.{IsFirstText}
use Rattle.cx_first.specs.Tree.{Source}
use Rattle.cx_unit.specs.First.{Finds}

-- the tokens are no first text
abbrev pub IsNoText : List Token → Type 0
IsNoText tokens = (source : Source) → IsFirstText tokens source → ⊥

-- the tokens are a first text, and this is found in it
abbrev pub FindsIn : List Token → List Finding → Type 0
FindsIn tokens found = (source : Source) × IsFirstText tokens source × Finds source found
