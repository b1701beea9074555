-- The rules of arguments (`arg`), and the values that they allow (`valid`).
use Rattle.std.specs.Prelude.{ℕ, ℤ, ◌==◌, nat_lt, int_le, Bool, true, false, ◌&&◌, ◌||◌, if◌then◌else◌, List, [], ◌∷◌, reverse, find, Option, None}
use Rattle.std.specs.List.{list_any}
use Rattle.std.specs.Option.{option_map_or, option_or}
use Rattle.cx_library.specs.declared.described.ArgNr.{ArgNr}
use Rattle.cx_library.specs.declared.described.ArgNr.TheVariants.{Number, Any as any, Variadic}
use Rattle.cx_library.specs.declared.described.ArgRule.{ArgRule}
use Rattle.cx_library.specs.declared.described.Bounds.{Bounds}
use Rattle.cx_library.specs.declared.described.Described.{Described}

-- the rule is for the argument with this number
abbrev pub is_number : ℕ → ArgNr → Bool
is_number number (Number n) = n == number
is_number number any = false
is_number number Variadic = false

-- the rule is for an argument behind the one with this number
abbrev pub is_past : ℕ → ArgNr → Bool
is_past number (Number n) = nat_lt number n
is_past number any = false
is_past number Variadic = false

abbrev pub is_any : ArgNr → Bool
is_any (Number n) = false
is_any any = true
is_any Variadic = false

abbrev pub is_variadic : ArgNr → Bool
is_variadic (Number n) = false
is_variadic any = false
is_variadic Variadic = true

-- the last rule of this kind: of two for one `nr` the later counts
abbrev pub last_rule : (ArgNr → Bool) → List ArgRule → Option ArgRule
last_rule is_kind rules = find (λ rule. is_kind rule.nr) (reverse rules)

-- the rule `variadic`, which is for the arguments behind all those that have a number
abbrev pub variadic_rule : ℕ → List ArgRule → Option ArgRule
variadic_rule number rules =
    if list_any (λ rule. is_past number rule.nr) rules then None else last_rule is_variadic rules

-- the rule of the argument with this number: its own, or else `variadic`, or else `any`
unfoldable pub rule_of : List ArgRule → ℕ → Option ArgRule
rule_of rules number =
    option_or (last_rule (is_number number) rules)
    (option_or (variadic_rule number rules) (last_rule is_any rules))

-- the value is in the range, of which a side without an end is open
abbrev pub holds : ℤ → Bounds → Bool
holds value range =
    option_map_or (λ least. int_le least value) range.least true
    && option_map_or (λ greatest. int_le value greatest) range.greatest true

abbrev pub is_empty : List Bounds → Bool
is_empty [] = true
is_empty (range ∷ ranges) = false

-- a rule allows what one of its ranges holds, and everything if it has none
abbrev pub allows : ℤ → ArgRule → Bool
allows value rule = is_empty rule.ranges || list_any (holds value) rule.ranges

-- the function may be given this value as the argument with this number
unfoldable pub valid : Described → ℕ → ℤ → Bool
valid described number value = option_map_or (allows value) (rule_of described.args number) true
