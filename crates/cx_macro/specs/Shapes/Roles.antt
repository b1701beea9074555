-- Positions and roles as the code has them: its own enum and slices stand for `Position` and `Role`
-- of specs/Replacement, to which laws of proofs/RoleLaws join them.
use Rattle.std.specs.Prelude.{ℕ, List, [], ◌∷◌, ◌==◌, Bool, false, reverse, take, drop}
use Rattle.cx_tokens.specs.declared.token.Token.{Token}
use Rattle.cx_macro.specs.declared.roles.Position as code_position
use Rattle.cx_macro.specs.declared.roles.Role as code_role
use Rattle.cx_macro.specs.declared.roles.Role.TheVariants as code
use Rattle.cx_macro.specs.Replacement.{Position, Role, expanded, given, gnu_comma, gnu_paste, gnu_variable, hash, hash_operand, itself, paste, positions_after}

abbrev pub position_of : code_position.Position → Position
position_of p = record { before = reverse p.before.now; token = p.token.now; after = p.after.now }

-- the positions of tokens from an index on
abbrev pub positions_from : ℕ → List Token → List Position
positions_from i tokens = positions_after (reverse (take i tokens)) (drop i tokens)

-- a role, of which the code leaves out the `#`
abbrev pub code_of : Role → code_role.Role
code_of itself = code.Itself
code_of paste = code.Paste
code_of hash = code.Hash
code_of (hash_operand h i) = code.HashOperand i
code_of (given i) = code.Given i
code_of (expanded i) = code.Expanded i
code_of gnu_comma = code.GnuComma
code_of gnu_paste = code.GnuPaste
code_of (gnu_variable i) = code.GnuVariable i

-- the first of the tokens before a token, where there is one
abbrev pub nearest_or : Token → List Token → Token
nearest_or t [] = t
nearest_or t (u ∷ before) = u

-- the role at a position, by the code's: a `#` is the token directly before its operand
abbrev pub role_at : Position → code_role.Role → Role
role_at p code.Itself = itself
role_at p code.Paste = paste
role_at p code.Hash = hash
role_at p (code.HashOperand i) = hash_operand (nearest_or p.token p.before) i
role_at p (code.Given i) = given i
role_at p (code.Expanded i) = expanded i
role_at p code.GnuComma = gnu_comma
role_at p code.GnuPaste = gnu_paste
role_at p (code.GnuVariable i) = gnu_variable i

-- the argument with an index stands as it is given
abbrev pub takes_given : ℕ → Role → Bool
takes_given i (hash_operand h j) = i == j
takes_given i (given j) = i == j
takes_given i _ = false
