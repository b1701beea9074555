-- How the code comes to `fit` of Arithmetic (C11 6.5p5 and 6.2.5p9) where a result is no `i128`: by
-- the result's low 128 bits. proofs/OutsideLaws joins the two: `add_outside`, `subtract_outside`,
-- ..
use Rattle.std.specs.Prelude.{ℤ, pos, Option, Some, None}
use Rattle.cx_tree.specs.declared.types.Platform.{Platform}
use Rattle.cx_tree.specs.declared.types.IntType.{IntType}
use Rattle.cx_tree.specs.declared.types.Kind.{Kind}
use Rattle.cx_tree.specs.declared.types.Kind.TheVariants.{Boolean, Signed, Unsigned}
use Rattle.cx_tree.specs.declared.types.Width.{Width}
use Rattle.cx_tree.specs.IntegerTypes.{kind, width}
use Rattle.cx_tree.specs.ConversionRules.{low_bits}

-- what fits of a number outside of `i128`, of which `low` are the low 128 bits
abbrev pub fit_outside_of : Kind → Width → ℤ → Option ℤ
fit_outside_of Boolean w low = Some (pos 1)
fit_outside_of Signed w low = None
fit_outside_of Unsigned w low = Some (low_bits w low)

-- the same by the type
unfoldable pub fit_outside : IntType → Platform → ℤ → Option ℤ
fit_outside t p low = fit_outside_of (kind t) (width t p) low
