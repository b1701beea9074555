-- Substitutes as the code has them, and what it keeps of arguments: with those kept alone
-- `substitutes_of` of specs/Replacement gives the same, by the law `substitutes_kept` of
-- proofs/SubstituteLaws.
use Rattle.std.specs.Prelude.{ℕ, ◌+◌, List, [], ◌∷◌, Bool, Option, Vec, if◌then◌else◌, map, option_map}
use Rattle.std.specs.Global.{Global}
use Rattle.std.specs.List.{list_any}
use Rattle.cx_tokens.specs.declared.token.Token.{Token}
use Rattle.cx_macro.specs.declared.substitutes.Arguments as code_arguments
use Rattle.cx_macro.specs.declared.substitutes.Substitute as code_substitute
use Rattle.cx_macro.specs.declared.substitutes.Substitute.TheVariants as code
use Rattle.cx_macro.specs.Arguments.{Arguments}
use Rattle.cx_macro.specs.Macros.{Definition}
use Rattle.cx_macro.specs.Replacement.{Glues, Substitute, substitutes_of, operand, paste_operator, positions_of, role_of}
use Rattle.cx_macro.specs.Shapes.Roles.{takes_given}

abbrev pub arguments_of_code : code_arguments.Arguments → Arguments
arguments_of_code a = record { given = a.given.now; left_out = a.left_out }

abbrev pub substitute_of_code : code_substitute.Substitute → Substitute
substitute_of_code (code.Operand ts) = operand ts.items
substitute_of_code (code.PasteOperator t) = paste_operator t

abbrev pub substitutes_of_code : List code_substitute.Substitute → List Substitute
substitutes_of_code ss = map substitute_of_code ss

abbrev pub items_of : Option (Vec Token Global) → Option (List Token)
items_of found = option_map (λ v. v.items) found

-- whether the argument with an index stands somewhere as it is given
unfoldable pub is_raw : Definition → ℕ → Bool
is_raw d i = list_any (λ p. takes_given i (role_of d p)) (positions_of d.body)

-- arguments from an index on, without the tokens of those that are nowhere taken as they are given
abbrev pub kept_of : Definition → ℕ → List (List Token) → List (List Token)
kept_of d i [] = []
kept_of d i (argument ∷ rest) = (if is_raw d i then argument else []) ∷ kept_of d (i + 1) rest

-- what a macro's replacement list gives with arguments, or None where a `##` makes no token
abbrev pub GluesTo : Definition → code_arguments.Arguments → Option (List Token) → Type 0
GluesTo d a result = Glues [] (substitutes_of d (arguments_of_code a) a.expanded.now) result
