-- The table of integer types (C11 6.7.2p2) on some keywords, computed.
use Rattle.std.proofs.Common.{◌≡◌, refl, [], ◌∷◌, Some, None}
use Rattle.cx_tree.specs.declared.types.IntType.TheVariants as int_type
use Rattle.cx_syntax_tree.specs.declared.terminals.Keyword.TheVariants as word
use Rattle.cx_reading.specs.Types.{integer_type, type_of_row, is_rearranged, occurrences}

-- C11 6.7.2p2: in any order, but char behind its sign
long_unsigned_int : integer_type (word.Long ∷ word.Unsigned ∷ word.Int
    ∷ []) ≡ Some int_type.UnsignedLong
unfolding type_of_row is_rearranged occurrences
long_unsigned_int = refl

int_long_long : integer_type (word.Int ∷ word.Long ∷ word.Long ∷ []) ≡ Some int_type.LongLong
unfolding type_of_row is_rearranged occurrences
int_long_long = refl

three_longs : integer_type (word.Long ∷ word.Long ∷ word.Long ∷ []) ≡ None
unfolding type_of_row is_rearranged occurrences
three_longs = refl

short_long : integer_type (word.Short ∷ word.Long ∷ []) ≡ None
unfolding type_of_row is_rearranged occurrences
short_long = refl

char_unsigned : integer_type (word.Char ∷ word.Unsigned ∷ []) ≡ None
unfolding type_of_row is_rearranged occurrences
char_unsigned = refl

no_words : integer_type [] ≡ None
unfolding type_of_row is_rearranged occurrences
no_words = refl

other_is_no_type : integer_type (word.Other ∷ []) ≡ None
unfolding type_of_row is_rearranged occurrences
other_is_no_type = refl
