-- What the definitions of this crate imply, in the words of C11 (ISO/IEC 9899:2011) 6.3.1 and 6.5.
use Rattle.std.specs.Prelude.{◌≡◌, ℤ, pos, ◌+ℤ◌, ◌≤ℤ◌, ℕ, ◌*◌, true, Some}
use Rattle.cx_tree.specs.declared.types.Platform.{Platform}
use Rattle.cx_tree.specs.declared.types.IntType.{IntType}
use Rattle.cx_tree.specs.declared.types.IntType.TheVariants as ctype
use Rattle.cx_tree.specs.declared.operators.Op.{Op}
use Rattle.cx_tree.specs.IntegerTypes.{width, span, least, greatest}
use Rattle.cx_tree.specs.ConversionRules.{convert, represents, promote, usual}
use Rattle.cx_tree.specs.Arithmetic.{arith}

-- x is a value of type t
abbrev pub IsValue : IntType → Platform → ℤ → Type 0
IsValue t p x = (least t p ≤ℤ x) × (x ≤ℤ greatest t p)

-- C11 6.3.1.3: a conversion gives a value of the type
abbrev pub ConvertsIntoType : Type 0
ConvertsIntoType = (t : IntType) (p : Platform) (x : ℤ) → IsValue t p (convert t p x)

-- C11 6.3.1.3p1: a value that the type can represent is unchanged
abbrev pub ConvertsUnchanged : Type 0
ConvertsUnchanged = (t : IntType) (p : Platform) (x : ℤ) → IsValue t p x → convert t p x ≡ x

-- C11 6.3.1.3p2: any other conversion but to _Bool adds or subtracts 2 to the power N some times
abbrev pub ConvertsByMultiple : Type 0
ConvertsByMultiple =
    (t : IntType) (p : Platform) (x : ℤ) → (t ≡ ctype.Bool → ⊥)
    → (j : ℕ) × (k : ℕ)
    × (convert t p x +ℤ pos (j * span (width t p)) ≡ x +ℤ pos (k * span (width t p)))

-- C11 6.3.1.1p3: the promotions preserve value
abbrev pub PromotesValues : Type 0
PromotesValues = (t : IntType) (p : Platform) → represents (promote t p) t p ≡ true

-- C11 6.3.1.8p1: the common type is that of two operands in either order
abbrev pub IsUsualSymmetric : Type 0
IsUsualSymmetric = (a b : IntType) (p : Platform) → usual a b p ≡ usual b a p

-- C11 6.5p5: a result is a value of its type, whatever the operands were
abbrev pub GivesValues : Type 0
GivesValues =
    (o : Op) (t : IntType) (p : Platform) (a b x : ℤ) → arith o t p a b ≡ Some x → IsValue t p x
