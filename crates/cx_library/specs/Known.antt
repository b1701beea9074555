-- What is known of a function: what is said of it, and what it does in its last memory group.
use Rattle.std.specs.Prelude.{◌≡◌, ℕ, ◌+◌, ◌<◌, ◌≤◌, ◌==◌, Bool, true, false, ◌||◌, if◌then◌else◌, [], Option, None, Some, is_some, option_map, IfSome}
use Rattle.cx_library.specs.declared.described.Described.{Described}
use Rattle.cx_library.specs.declared.known.Known.{Known}

-- nothing is said
abbrev pub undescribed : Described
undescribed = record {
  noreturn = false;
  must_use_result = false;
  pure = false;
  constant = false;
  returns = None;
  value = None;
  args = [];
  allocates = None;
  frees = None;
}

-- neither a `function` element nor a memory group has the name
abbrev pub unknown : Known
unknown = record { described = undescribed; stated = false }

-- a description, with what another one has of memory groups
abbrev pub grouped_as : Described → Described → Described
grouped_as group d = record d { allocates = group.allocates; frees = group.frees }

-- A `function` element says this: it replaces what was said whole, and leaves the memory group.
abbrev pub describing : Described → Known → Known
describing d known = record { described = grouped_as known.described d; stated = true }

-- the number of a group, where it is this one
abbrev pub in_group : ℕ → Option ℕ → Option ℕ
in_group group None = None
in_group group (Some n) = if n == group then Some n else None

-- A name is `alloc` in this memory group. What it does in another group ends with that.
abbrev pub allocating : ℕ → Known → Known
allocating group known =
    let d = known.described in
    record known {
      described = record d { allocates = Some group; frees = in_group group d.frees };
    }

-- A name is `dealloc` in this memory group.
abbrev pub freeing : ℕ → Known → Known
freeing group known =
    let d = known.described in
    record known {
      described = record d { allocates = in_group group d.allocates; frees = Some group };
    }

-- it allocates or frees blocks of a memory group
abbrev pub is_grouped : Described → Bool
is_grouped d = is_some d.allocates || is_some d.frees

-- the later of two descriptions that is in a memory group
abbrev pub last_grouped : Described → Described → Described
last_grouped earlier later = if is_grouped later then later else earlier

-- the later of two descriptions that a `function` element states
abbrev pub last_stated : Known → Known → Described
last_stated earlier later = if later.stated then later.described else earlier.described

-- What two libraries know of a function: the last description that is stated, and the last group.
abbrev pub over : Known → Known → Known
over earlier later =
    record {
      described =
          grouped_as (last_grouped earlier.described later.described) (last_stated earlier later);
      stated = earlier.stated || later.stated;
    }

-- the same in memory groups whose numbers are higher by this
abbrev pub renumbered : ℕ → Known → Known
renumbered by known =
    let d = known.described in
    record known {
      described = record d {
        allocates = option_map (λ n. by + n) d.allocates;
        frees = option_map (λ n. by + n) d.frees;
      };
    }

-- its memory group has a number below this
abbrev pub IsGroupedBelow : ℕ → Described → Type 0
IsGroupedBelow groups d = IfSome d.allocates (λ n. n < groups) × IfSome d.frees (λ n. n < groups)

-- its memory group has this number or a higher one
abbrev pub IsGroupedFrom : ℕ → Described → Type 0
IsGroupedFrom groups d = IfSome d.allocates (λ n. groups ≤ n) × IfSome d.frees (λ n. groups ≤ n)

-- the two are said to be the same, whatever their memory groups
abbrev pub SaysSame : Described → Described → Type 0
SaysSame d e = grouped_as undescribed d ≡ grouped_as undescribed e

-- the two do the same in the same memory group
abbrev pub GroupedSame : Described → Described → Type 0
GroupedSame d e = (d.allocates ≡ e.allocates) × (d.frees ≡ e.frees)
