-- Examples of libraries.
use Rattle.std.proofs.Common.{◌≡◌, IfSome, lit<, lit≤, ℕ, ℤ, pos, negsuc, List, [], ◌∷◌, Bool, true, false, None, Option, Some, map, codes, option_map, refl}
use Rattle.cx_table.specs.NameTable.{names_of, value_of, with_entry}
use Rattle.cx_library.specs.declared.described.ArgNr.{ArgNr}
use Rattle.cx_library.specs.declared.described.ArgNr.TheVariants.{Number, Any as any, Variadic}
use Rattle.cx_library.specs.declared.described.ArgRule.{ArgRule}
use Rattle.cx_library.specs.declared.described.Bounds.{Bounds}
use Rattle.cx_library.specs.declared.described.Described.{Described}
use Rattle.cx_library.specs.declared.described.Direction.TheVariants.{Unstated}
use Rattle.cx_library.specs.declared.known.Known.{Known}
use Rattle.cx_library.specs.Arguments.{rule_of, valid}
use Rattle.cx_library.specs.BuiltIn.{built_in, first_not_null, others_read, printing}
use Rattle.cx_library.specs.Joined.{joined}
use Rattle.cx_library.specs.Known.{GroupedSame, IsGroupedBelow, IsGroupedFrom, SaysSame, allocating, describing, freeing, undescribed}
use Rattle.cx_library.specs.Library.{Contents, empty, function_of, is_grouped_in, macros_of, merged, pod_names_of, pod_of, with_define, with_function, with_group, with_pod}

-- ---- the questions of the built-in library

-- `exit` never returns, and nothing else is said of it
exit : function_of built_in (codes "exit") ≡ Some (record undescribed { noreturn = true })
unfolding built_in value_of
exit = refl

abort : function_of built_in (codes "abort") ≡ function_of built_in (codes "exit")
unfolding built_in value_of
abort = refl

malloc : function_of built_in (codes "malloc") ≡ Some (record undescribed { must_use_result = true; allocates = Some 0 })
unfolding built_in value_of
malloc = refl

calloc : function_of built_in (codes "calloc") ≡ function_of built_in (codes "malloc")
unfolding built_in value_of
calloc = refl

-- `free` is described by its group alone
free : function_of built_in (codes "free") ≡ Some (record undescribed { frees = Some 0 })
unfolding built_in value_of
free = refl

printf : function_of built_in (codes "printf") ≡ Some printing
unfolding built_in value_of
printf = refl

puts : function_of built_in (codes "puts") ≡ function_of built_in (codes "printf")
unfolding built_in value_of
puts = refl

strlen : function_of built_in (codes "strlen") ≡ Some (record undescribed {
  must_use_result = true;
  pure = true;
  returns = Some (record { names = codes "size_t"; stars = 0 });
  args = first_not_null ∷ [];
})
unfolding built_in value_of
strlen = refl

getc : function_of built_in (codes "getc") ≡ None
unfolding built_in value_of
getc = refl

functions : names_of built_in.functions
    ≡ codes "exit" ∷ codes "abort" ∷ codes "malloc" ∷ codes "calloc" ∷ codes "printf" ∷ codes "puts" ∷ codes "strlen" ∷ codes "free" ∷ []
unfolding built_in
functions = refl

macros : map (λ define. define.name) (macros_of built_in)
    ≡ codes "NULL" ∷ codes "bool" ∷ codes "true" ∷ codes "false" ∷ codes "INT_MAX" ∷ codes "INT_MIN" ∷ codes "UINT_MAX" ∷ codes "CHAR_BIT"
    ∷ codes "EXIT_SUCCESS" ∷ codes "EXIT_FAILURE" ∷ []
unfolding built_in
macros = refl

int_min : value_of built_in.defines (codes "INT_MIN") ≡ Some (codes "(-2147483647-1)")
unfolding built_in value_of
int_min = refl

pods : pod_names_of built_in
    ≡ codes "int8_t" ∷ codes "uint8_t" ∷ codes "int16_t" ∷ codes "uint16_t" ∷ codes "int32_t" ∷ codes "uint32_t" ∷ codes "int64_t" ∷ codes "uint64_t" ∷ []
unfolding built_in
pods = refl

uint16 : pod_of built_in (codes "uint16_t") ≡ Some (record { signed = false; bytes = 2 })
unfolding built_in value_of
uint16 = refl

size_t : pod_of built_in (codes "size_t") ≡ None
unfolding built_in value_of
size_t = refl

-- its one group has the number 0
malloc_below : IfSome (function_of built_in (codes "malloc")) (λ d. IsGroupedBelow 1 d)
unfolding built_in value_of
malloc_below = (lit< tt, tt)

malloc_from : IfSome (function_of built_in (codes "malloc")) (λ d. IsGroupedFrom 0 d)
unfolding built_in value_of
malloc_from = (lit≤ tt, tt)

grouped_in : map (λ name. is_grouped_in built_in name) (codes "malloc" ∷ codes "free" ∷ codes "exit" ∷ codes "getc" ∷ []) ≡ true ∷ true ∷ false ∷ false ∷ []
unfolding built_in value_of
grouped_in = refl

-- what is said, whatever the group, and the group, whatever is said
says_same : SaysSame (record undescribed { allocates = Some 0 }) (record undescribed { frees = Some 3 })
says_same = refl

grouped_same : GroupedSame (record undescribed { pure = true; frees = Some 3 }) (record undescribed { frees = Some 3 })
grouped_same = (refl, refl)

-- ---- one library

abbrev f : List ℕ
f = codes "f"

abbrev said : Described
said = record undescribed { noreturn = true; allocates = Some 9 }

-- what a description itself has of groups is passed over
described : function_of (with_function f (describing said) empty) f ≡ Some (record undescribed { noreturn = true })
unfolding value_of with_entry
described = refl

-- in one group a function may allocate and free
in_one_group : function_of (with_function f (freeing 0) (with_function f (allocating 0) (with_group empty))) f
    ≡ Some (record undescribed { allocates = Some 0; frees = Some 0 })
unfolding value_of with_entry
in_one_group = refl

-- `alloc`, and `dealloc` in a later group: it frees and does not allocate
in_two_groups : function_of (with_function f (freeing 1) (with_group (with_function f (allocating 0) (with_group empty)))) f
    ≡ Some (record undescribed { frees = Some 1 })
unfolding value_of with_entry
in_two_groups = refl

-- an element behind a group, and a group behind an element
element_behind : function_of (with_function f (describing said) (with_function f (freeing 0) (with_group empty))) f
    ≡ Some (record undescribed { noreturn = true; frees = Some 0 })
unfolding value_of with_entry
element_behind = refl

group_behind : function_of (with_function f (freeing 0) (with_group (with_function f (describing said) empty))) f
    ≡ Some (record undescribed { noreturn = true; frees = Some 0 })
unfolding value_of with_entry
group_behind = refl

-- a second description replaces the first whole
described_twice : function_of (with_function f (describing (record undescribed { pure = true })) (with_function f (describing said) empty)) f
    ≡ Some (record undescribed { pure = true })
unfolding value_of with_entry
described_twice = refl

-- a macro that is defined again keeps its place
defined_twice : macros_of (with_define (record { name = f; value = codes "2" }) (with_define (record { name = codes "g"; value = [] }) (with_define (record { name = f; value = codes "1" }) empty)))
    ≡ record { name = f; value = codes "2" } ∷ record { name = codes "g"; value = [] } ∷ []
unfolding with_entry
defined_twice = refl

-- ---- two libraries

-- a library that knows this of f, and has one memory group
abbrev knowing : Known → Contents
knowing known = record empty { functions = (f, known) ∷ []; groups = 1 }

abbrev stated : Described → Known
stated d = record { described = d; stated = true }

abbrev grouped : Described → Known
grouped d = record { described = d; stated = false }

abbrev allocator : Described
allocator = record undescribed { allocates = Some 0 }

abbrev deallocator : Described
deallocator = record undescribed { frees = Some 0 }

-- what is known of f, the second over the first
abbrev together : Known → Known → Option Described
together first second = function_of (merged (knowing first) (knowing second)) f

-- a function over a function
function_over_function : together (stated (record undescribed { noreturn = true })) (stated (record undescribed { pure = true })) ≡ Some (record undescribed { pure = true })
unfolding merged joined value_of
function_over_function = refl

-- an element that says nothing replaces what was said, too
nothing_over_function : together (stated (record undescribed { noreturn = true })) (stated undescribed) ≡ Some undescribed
unfolding merged joined value_of
nothing_over_function = refl

-- a group over a group, which is numbered on
group_over_group : together (grouped allocator) (grouped deallocator) ≡ Some (record undescribed { frees = Some 1 })
unfolding merged joined value_of
group_over_group = refl

-- an element behind a group
element_over_group : together (grouped allocator) (stated (record undescribed { noreturn = true })) ≡ Some (record undescribed { noreturn = true; allocates = Some 0 })
unfolding merged joined value_of
element_over_group = refl

-- a group behind an element
group_over_element : together (stated (record undescribed { noreturn = true })) (grouped deallocator) ≡ Some (record undescribed { noreturn = true; frees = Some 1 })
unfolding merged joined value_of
group_over_element = refl

-- a later library's allocator has another group than `malloc`
beside_built_in : map (λ name. option_map (λ d. d.allocates) (function_of (merged built_in (knowing (grouped allocator))) name)) (codes "malloc" ∷ codes "free" ∷ f ∷ [])
    ≡ Some (Some 0) ∷ Some None ∷ Some (Some 1) ∷ []
unfolding built_in merged joined value_of
beside_built_in = refl

-- a podtype of both keeps its place, and a new one goes last
types_over_types : (merged (with_pod f (record { signed = true; bytes = 1 }) (with_pod (codes "g") (record { signed = true; bytes = 2 }) empty))
    (with_pod (codes "h") (record { signed = true; bytes = 4 }) (with_pod (codes "g") (record { signed = false; bytes = 8 }) empty))).pods
    ≡ (codes "g", record { signed = false; bytes = 8 }) ∷ (f, record { signed = true; bytes = 1 }) ∷ (codes "h", record { signed = true; bytes = 4 }) ∷ []
unfolding merged joined value_of with_entry
types_over_types = refl

-- ---- the values of arguments

abbrev rule : ArgNr → List Bounds → ArgRule
rule nr ranges = record { nr = nr; direction = Unstated; not_null = false; not_uninit = false; ranges = ranges; valid = [] }

-- the answers for these values as argument 1 of a function whose rule has these ranges
abbrev answers : List Bounds → List ℤ → List Bool
answers ranges values = map (valid (record undescribed { args = rule (Number 1) ranges ∷ [] }) 1) values

abbrev between : Option ℤ → Option ℤ → Bounds
between least greatest = record { least = least; greatest = greatest }

-- `0:9` at -1, 0, 9 and 10
both_ends : answers (between (Some (pos 0)) (Some (pos 9)) ∷ []) (negsuc 0 ∷ pos 0 ∷ pos 9 ∷ pos 10 ∷ []) ≡ false ∷ true ∷ true ∷ false ∷ []
unfolding valid rule_of
both_ends = refl

-- `1:` at 0, 1 and 100, and `:5` at -100, 5 and 6
no_greatest : answers (between (Some (pos 1)) None ∷ []) (pos 0 ∷ pos 1 ∷ pos 100 ∷ []) ≡ false ∷ true ∷ true ∷ []
unfolding valid rule_of
no_greatest = refl

no_least : answers (between None (Some (pos 5)) ∷ []) (negsuc 99 ∷ pos 5 ∷ pos 6 ∷ []) ≡ true ∷ true ∷ false ∷ []
unfolding valid rule_of
no_least = refl

-- `5:1` holds nothing
ends_turned : answers (between (Some (pos 5)) (Some (pos 1)) ∷ []) (pos 0 ∷ pos 1 ∷ pos 3 ∷ pos 5 ∷ pos 6 ∷ []) ≡ false ∷ false ∷ false ∷ false ∷ false ∷ []
unfolding valid rule_of
ends_turned = refl

-- `0,2:3` at 0 to 4, and a rule without ranges
two_ranges : answers (between (Some (pos 0)) (Some (pos 0)) ∷ between (Some (pos 2)) (Some (pos 3)) ∷ []) (pos 0 ∷ pos 1 ∷ pos 2 ∷ pos 3 ∷ pos 4 ∷ [])
    ≡ true ∷ false ∷ true ∷ true ∷ false ∷ []
unfolding valid rule_of
two_ranges = refl

no_ranges : answers [] (negsuc 6 ∷ pos 7 ∷ []) ≡ true ∷ true ∷ []
unfolding valid rule_of
no_ranges = refl

-- ---- the rules of arguments

-- the arguments that the rules of the arguments 1 to 4 are for
abbrev rules_of : List ArgNr → List (Option ArgNr)
rules_of nrs = map (λ number. option_map (λ r. r.nr) (rule_of (map (λ nr. rule nr []) nrs) number)) (1 ∷ 2 ∷ 3 ∷ 4 ∷ [])

-- `any` stands for what has no other rule
any_is_last : rules_of (any ∷ Number 2 ∷ []) ≡ Some any ∷ Some (Number 2) ∷ Some any ∷ Some any ∷ []
unfolding rule_of
any_is_last = refl

-- `variadic` is behind all numbers, and `any` before them
variadic_is_behind : rules_of (Variadic ∷ any ∷ Number 2 ∷ []) ≡ Some any ∷ Some (Number 2) ∷ Some Variadic ∷ Some Variadic ∷ []
unfolding rule_of
variadic_is_behind = refl

variadic_alone : rules_of (Variadic ∷ Number 3 ∷ []) ≡ None ∷ None ∷ Some (Number 3) ∷ Some Variadic ∷ []
unfolding rule_of
variadic_alone = refl

no_rules : rules_of [] ≡ None ∷ None ∷ None ∷ None ∷ []
unfolding rule_of
no_rules = refl

-- the last of an `nr` counts
last_counts : map (valid (record undescribed { args = rule (Number 1) (between None (Some (pos 0)) ∷ []) ∷ rule (Number 1) (between (Some (pos 5)) None ∷ []) ∷ [] }) 1) (pos 0 ∷ pos 5 ∷ [])
    ≡ false ∷ true ∷ []
unfolding valid rule_of
last_counts = refl

-- the arguments of `printf`
printf_rules : map (rule_of printing.args) (1 ∷ 2 ∷ 9 ∷ []) ≡ Some first_not_null ∷ Some others_read ∷ Some others_read ∷ []
unfolding rule_of
printf_rules = refl
