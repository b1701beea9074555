-- What the arguments of options have to be (the Cppcheck manual, "Command line options").
use Rattle.std.specs.Prelude.{ℕ, ◌+◌, ◌-◌, ◌*◌, List, [], ◌∷◌, Bool, true, false, ◌&&◌, ◌||◌, ◌==◌, not, if◌then◌else◌, Option, Some, None, codes, fold, length, nat_le, bytes_eq}
use Rattle.std.specs.List.{list_all, find, list_any, before_first, after_first, slice_split}
use Rattle.std.specs.Option.{option_map}
use Rattle.cx_base.specs.declared.define.Define.{Define}
use Rattle.cx_options.specs.declared.enabled.Enabled.{Enabled}

abbrev pub is_digit : ℕ → Bool
is_digit b = nat_le 48 b && nat_le b 57

abbrev pub is_nondigit : ℕ → Bool
is_nondigit b = (nat_le 97 b && nat_le b 122) || (nat_le 65 b && nat_le b 90) || b == 95

abbrev pub is_word_byte : ℕ → Bool
is_word_byte b = is_nondigit b || is_digit b

-- the name of a macro: an identifier (C11 6.4.2.1), a letter or `_`, then letters, `_` and digits
unfoldable pub is_name : List ℕ → Bool
is_name [] = false
is_name (b ∷ bs) = is_nondigit b && list_all is_word_byte bs

abbrev pub is_equals : ℕ → Bool
is_equals b = b == 61

-- the name and the text of a macro: what is before the first `=` and behind it; 1 where there is
-- no `=`
unfoldable pub definition : List ℕ → Define
definition text =
    record {
      name = before_first is_equals text;
      value = if list_any is_equals text then after_first is_equals text else codes "1";
    }

-- a number: one to four decimal digits
unfoldable pub is_number : List ℕ → Bool
is_number text = list_all is_digit text && (nat_le 1 (length text) && nat_le (length text) 4)

-- the value of decimal digits
unfoldable pub number_of : List ℕ → ℕ
number_of text = fold (λ n b. 10 * n + (b - 48)) 0 text

-- a number in a range
unfoldable pub number_in : ℕ → ℕ → List ℕ → Option ℕ
number_in least greatest text =
    if is_number text && (nat_le least (number_of text) && nat_le (number_of text) greatest)
    then Some (number_of text) else None

-- the file of a list: not empty, and not `-`
abbrev pub is_file : List ℕ → Bool
is_file text = not (bytes_eq text []) && not (bytes_eq text (codes "-"))

abbrev pub is_comma : ℕ → Bool
is_comma b = b == 44

abbrev pub nothing : Enabled
nothing = record { warning = false; style = false; information = false; missing_include = false }

-- The names that `--enable=` knows, and what each switches on. `style` includes `warning`, and
-- `performance` and `portability` have no findings.
abbrev pub groups : List (List ℕ × Enabled)
groups =
    (codes "warning", record nothing { warning = true })
    ∷ (codes "style", record nothing { warning = true; style = true })
    ∷ (codes "performance", nothing)
    ∷ (codes "portability", nothing)
    ∷ (codes "information", record nothing { information = true })
    ∷ (codes "missingInclude", record nothing { missing_include = true })
    ∷ (
      codes "all",
      record {
        warning = true;
        style = true;
        information = true;
        missing_include = true;
      },
    ) ∷ []

-- what a name switches on, where it is known
unfoldable pub enabled_alone : List ℕ → Option Enabled
enabled_alone name =
    option_map (λ group. group.1) (find (λ group. bytes_eq group.0 name) groups)

-- what either switches on
abbrev pub joined : Enabled → Enabled → Enabled
joined a b =
    record {
      warning = a.warning || b.warning;
      style = a.style || b.style;
      information = a.information || b.information;
      missing_include = a.missing_include || b.missing_include;
    }

abbrev pub with_others : Option Enabled → Option Enabled → Option Enabled
with_others None others = None
with_others (Some a) None = None
with_others (Some a) (Some b) = Some (joined a b)

-- what names switch on together, where each is known
unfoldable pub enabled_by : List (List ℕ) → Option Enabled
enabled_by [] = Some nothing
enabled_by (name ∷ names) = with_others (enabled_alone name) (enabled_by names)

-- what a comma list of names switches on
abbrev pub enabled : List ℕ → Option Enabled
enabled text = enabled_by (slice_split is_comma text)
