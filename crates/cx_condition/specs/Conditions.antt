-- The condition of `#if` and `#elif` (C11 6.10.1): a constant expression (6.6, 6.5.3.3, 6.5.5 to
-- 6.5.15) of constants, operators and round brackets.
use Rattle.std.specs.Prelude.{◌≡◌, ℕ, zero, suc, List, [], ◌∷◌, Option, Some, None, option_and_then}
use Rattle.cx_tokens.specs.declared.token.Token.{Token}
use Rattle.cx_condition.specs.declared.value.Operand.{Operand}
use Rattle.cx_condition.specs.declared.value.Value.{Value}
use Rattle.cx_condition.specs.declared.operator.Operator.{Operator}
use Rattle.cx_condition.specs.declared.operator.Operator.TheVariants as operator
use Rattle.cx_condition.specs.declared.operator.Unary.{Unary}
use Rattle.cx_condition.specs.declared.operator.Unary.TheVariants as unary_is
use Rattle.cx_condition.specs.declared.part.Part.{Part}
use Rattle.cx_condition.specs.declared.part.Part.TheVariants as part_is
use Rattle.cx_condition.specs.Levels.{level_of}
use Rattle.cx_condition.specs.Parts.{parts_of}
use Rattle.cx_condition.specs.Values.{binary, choice, unary, value_of}

-- a condition, as a tree
pub data Tree : Type 0 where
  constant : (v : Value) → Tree
  prefixed : (op : Unary) → (a : Tree) → Tree
  joined : (op : Operator) → (a b : Tree) → Tree
  conditional : (c a b : Tree) → Tree

-- the type of a tree, and its value, unless a division by zero is evaluated
unfoldable pub evaluated : Tree → Operand
evaluated (constant v) = record { is_unsigned = v.is_unsigned; bits = Some v.bits }
evaluated (prefixed op a) = unary op (evaluated a)
evaluated (joined op a b) = binary op (evaluated a) (evaluated b)
evaluated (conditional c a b) = choice (evaluated c) (evaluated a) (evaluated b)

-- the operator on one operand that a part is (C11 6.5.3, unary-operator, but `&` and `*`)
abbrev pub unary_of : Part → Option Unary
unary_of (part_is.Operator operator.Add) = Some unary_is.Plus
unary_of (part_is.Operator operator.Subtract) = Some unary_is.Minus
unary_of part_is.Complement = Some unary_is.Complement
unary_of part_is.Not = Some unary_is.Not
unary_of _ = None

-- Each relation: the front of these parts is this tree, and those parts are left.
mutual
  -- unary-expression (C11 6.5.3) and primary-expression (6.5.1)
  pub data IsUnary : List Part → Tree → List Part → Type 0 where
    a_constant : {v : Value} {rest : List Part}
        → IsUnary (part_is.Constant v ∷ rest) (constant v) rest
    an_operator : {p : Part} {ts rest : List Part} {op : Unary} {a : Tree} → unary_of p ≡ Some op
        → IsUnary ts a rest → IsUnary (p ∷ ts) (prefixed op a) rest
    in_brackets : {ts rest : List Part} {a : Tree} → IsCondition ts a (part_is.Close ∷ rest)
        → IsUnary (part_is.Open ∷ ts) a rest

  -- an operand of no operator of level 0, and operands joined by operators of a level from 1
  -- (multiplicative-expression) to 10 (logical-OR-expression), from left to right
  pub data IsLevel : ℕ → List Part → Tree → List Part → Type 0 where
    operand : {ts rest : List Part} {t : Tree} → IsUnary ts t rest → IsLevel zero ts t rest
    chain : {n : ℕ} {ts mid rest : List Part} {a t : Tree} → IsLevel n ts a mid
        → Goes n a mid t rest → IsLevel (suc n) ts t rest

  -- what stands behind a goes on with operators of level n + 1 and their operands, up to t
  pub data Goes : ℕ → Tree → List Part → Tree → List Part → Type 0 where
    ends : {n : ℕ} {a : Tree} {rest : List Part} → Goes n a rest a rest
    goes_on : {n : ℕ} {op : Operator} {ts mid rest : List Part} {a b t : Tree}
        → level_of op ≡ suc n → IsLevel n ts b mid → Goes n (joined op a b) mid t rest
        → Goes n a (part_is.Operator op ∷ ts) t rest

  -- conditional-expression (C11 6.5.15); between `?` and `:` there is no comma and no assignment
  pub data IsCondition : List Part → Tree → List Part → Type 0 where
    plain : {ts rest : List Part} {t : Tree} → IsLevel 10 ts t rest → IsCondition ts t rest
    choosing : {ts us vs rest : List Part} {c a b : Tree}
        → IsLevel 10 ts c (part_is.Question ∷ us) → IsCondition us a (part_is.Colon ∷ vs)
        → IsCondition vs b rest → IsCondition ts (conditional c a b) rest

-- a tree reads tokens, all of them
abbrev pub Reads : List Token → Tree → Type 0
Reads tokens t = IsCondition (parts_of tokens) t []

-- the value of a tree, unless a division by zero is evaluated
abbrev pub value : Tree → Option Value
value t = value_of (evaluated t)
