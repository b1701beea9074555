-- The promotions, and the common type of two operands.
use Rattle.std.proofs.Common.{◌≡◌, refl}
use Rattle.cx_tree.specs.declared.types.Platform.{Platform}
use Rattle.cx_tree.specs.declared.types.Platform.TheVariants.{Unix32, Unix64, Win64}
use Rattle.cx_tree.specs.declared.types.IntType.{IntType}
use Rattle.cx_tree.specs.declared.types.IntType.TheVariants as ctype
use Rattle.cx_tree.specs.ConversionRules.{promote, common, usual}
use Rattle.cx_tree.specs.Laws.{PromotesValues, IsUsualSymmetric}

-- what holds of each promoted type
each_promoted : (P : IntType → Type 0) → P ctype.Int → P ctype.UnsignedInt → P ctype.Long → P ctype.UnsignedLong
    → P ctype.LongLong → P ctype.UnsignedLongLong
    → (t : IntType) (p : Platform) → P (promote t p)
unfolding promote
each_promoted P i ui l ul ll ull ctype.Bool p = i
each_promoted P i ui l ul ll ull ctype.Char p = i
each_promoted P i ui l ul ll ull ctype.SignedChar p = i
each_promoted P i ui l ul ll ull ctype.UnsignedChar p = i
each_promoted P i ui l ul ll ull ctype.Short p = i
each_promoted P i ui l ul ll ull ctype.UnsignedShort p = i
each_promoted P i ui l ul ll ull ctype.Int p = i
each_promoted P i ui l ul ll ull ctype.UnsignedInt p = ui
each_promoted P i ui l ul ll ull ctype.Long p = l
each_promoted P i ui l ul ll ull ctype.UnsignedLong p = ul
each_promoted P i ui l ul ll ull ctype.LongLong p = ll
each_promoted P i ui l ul ll ull ctype.UnsignedLongLong p = ull

with_promoted : (a b : IntType) (p : Platform) → common (promote a p) (promote b p) p ≡ common (promote b p) (promote a p) p
with_promoted a b p =
    let Same : IntType → IntType → Type 0 = λ x y. common x y p ≡ common y x p in
    each_promoted (λ x. Same x (promote b p))
    (each_promoted (λ y. Same ctype.Int y) refl refl refl refl refl refl b p)
    (each_promoted (λ y. Same ctype.UnsignedInt y) refl refl refl refl refl refl b p)
    (each_promoted (λ y. Same ctype.Long y) refl refl refl refl refl refl b p)
    (each_promoted (λ y. Same ctype.UnsignedLong y) refl refl refl refl refl refl b p)
    (each_promoted (λ y. Same ctype.LongLong y) refl refl refl refl refl refl b p)
    (each_promoted (λ y. Same ctype.UnsignedLongLong y) refl refl refl refl refl refl b p)
    a p

pub usual_symmetric : IsUsualSymmetric
unfolding usual
usual_symmetric a b p = with_promoted a b p

pub promotes_values : PromotesValues
unfolding promote
promotes_values ctype.Bool p = refl
promotes_values ctype.Char p = refl
promotes_values ctype.SignedChar p = refl
promotes_values ctype.UnsignedChar p = refl
promotes_values ctype.Short p = refl
promotes_values ctype.UnsignedShort p = refl
promotes_values ctype.Int p = refl
promotes_values ctype.UnsignedInt p = refl
promotes_values ctype.Long Unix32 = refl
promotes_values ctype.Long Unix64 = refl
promotes_values ctype.Long Win64 = refl
promotes_values ctype.UnsignedLong Unix32 = refl
promotes_values ctype.UnsignedLong Unix64 = refl
promotes_values ctype.UnsignedLong Win64 = refl
promotes_values ctype.LongLong p = refl
promotes_values ctype.UnsignedLongLong p = refl
