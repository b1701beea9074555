-- Kinds of lines, of which each is of one sort.
use Rattle.std.proofs.Common.{◌≡◌, ℕ, Bool, true, List, Some, refl}
use Rattle.cx_lex.specs.declared.piece.Piece.{Piece}
use Rattle.cx_lines.specs.Kinds.{ends_group, is_text, opens}
use Rattle.cx_lines.specs.declared.kind.LineKind.{LineKind}
use Rattle.cx_lines.specs.declared.kind.LineKind.TheVariants.{Text, If, Ifdef, Ifndef, Elif, Else, Endif, Include, Define, Undef, Error, Once, Passed, Bad}
use Rattle.cx_pre.specs.Choosing.{after_directive}
use Rattle.cx_pre.specs.Conditions.{asks_value, is_unconditional, said_of}
use Rattle.cx_pre.specs.Stages.{Outcome, Stage}

-- the sort of a line: text, one that opens a section, one that ends a group, any other directive
pub data Sort : Type 0 where
  is_a_text : Sort
  is_an_opening : Sort
  is_a_part : Sort
  is_a_directive : Sort

abbrev pub sort_of : LineKind → Sort
sort_of Text = is_a_text
sort_of If = is_an_opening
sort_of Ifdef = is_an_opening
sort_of Ifndef = is_an_opening
sort_of Elif = is_a_part
sort_of Else = is_a_part
sort_of Endif = is_a_part
sort_of _ = is_a_directive

pub text_sort : (kind : LineKind) → is_text kind ≡ true → sort_of kind ≡ is_a_text
text_sort Text e = refl
text_sort _ e = absurd cc

pub opening_sort : (kind : LineKind) → opens kind ≡ true → sort_of kind ≡ is_an_opening
opening_sort If e = refl
opening_sort Ifdef e = refl
opening_sort Ifndef e = refl
opening_sort _ e = absurd cc

pub part_sort : (kind : LineKind) → ends_group kind ≡ true → sort_of kind ≡ is_a_part
part_sort Elif e = refl
part_sort Else e = refl
part_sort Endif e = refl
part_sort _ e = absurd cc

pub alone_sort : (kind : LineKind) (file : ℕ) (s : Stage) (line : List Piece) (o : Outcome) → after_directive kind file s line ≡ Some o → sort_of kind ≡ is_a_directive
unfolding after_directive
alone_sort Define file s line o e = refl
alone_sort Undef file s line o e = refl
alone_sort Error file s line o e = refl
alone_sort Once file s line o e = refl
alone_sort Passed file s line o e = refl
alone_sort Bad file s line o e = refl
alone_sort _ file s line o e = absurd cc

pub include_sort : (kind : LineKind) → kind ≡ Include → sort_of kind ≡ is_a_directive
include_sort Include e = refl
include_sort _ e = absurd cc

-- an include is no directive of those that neither include nor ask
pub not_alone : (kind : LineKind) (file : ℕ) (s : Stage) (line : List Piece) (o : Outcome) → kind ≡ Include → after_directive kind file s line ≡ Some o → ⊥
unfolding after_directive
not_alone Include file s line o e f = absurd cc
not_alone _ file s line o e f = absurd cc

-- lines that ask do so in one way
pub value_or_name : (kind : LineKind) (is_defined is_chosen : Bool) → asks_value kind ≡ true → said_of kind is_defined ≡ Some is_chosen → ⊥
value_or_name If b c e f = absurd cc
value_or_name Elif b c e f = absurd cc
value_or_name _ b c e f = absurd cc

pub value_or_none : (kind : LineKind) → asks_value kind ≡ true → is_unconditional kind ≡ true → ⊥
value_or_none If e f = absurd cc
value_or_none Elif e f = absurd cc
value_or_none _ e f = absurd cc

pub name_or_none : (kind : LineKind) (is_defined is_chosen : Bool) → said_of kind is_defined ≡ Some is_chosen → is_unconditional kind ≡ true → ⊥
name_or_none Else b c e f = absurd cc
name_or_none Endif b c e f = absurd cc
name_or_none _ b c e f = absurd cc

-- the sorts that there are
pub data Sorted (kind : LineKind) : Type 0 where
  by_text : is_text kind ≡ true → Sorted kind
  by_opening : opens kind ≡ true → Sorted kind
  by_part : ends_group kind ≡ true → Sorted kind
  by_directive : sort_of kind ≡ is_a_directive → Sorted kind

pub sorted : (kind : LineKind) → Sorted kind
sorted Text = by_text refl
sorted If = by_opening refl
sorted Ifdef = by_opening refl
sorted Ifndef = by_opening refl
sorted Elif = by_part refl
sorted Else = by_part refl
sorted Endif = by_part refl
sorted _ = by_directive refl
