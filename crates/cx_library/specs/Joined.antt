-- Two lists of names with their values as one.
use Rattle.std.specs.Prelude.{◌++◌, Option, None, Some, is_none, map, filter}
use Rattle.cx_table.specs.NameTable.{Entries, value_of}

module _ {V : Type 0} where
  -- the later of two values
  abbrev pub latest : V → V → V
  latest earlier later = later

  module _ (over : V → V → V) where
    -- a value, with a later one over it where there is one
    abbrev pub with_later : V → Option V → V
    with_later earlier None = earlier
    with_later earlier (Some later) = over earlier later

    -- the names of both, in the order in which they were seen first; a name that both have has its
    -- later value over its earlier one
    unfoldable pub joined : Entries V → Entries V → Entries V
    joined earlier later =
        map (λ entry. (entry.0, with_later entry.1 (value_of later entry.0))) earlier
        ++ filter (λ entry. is_none (value_of earlier entry.0)) later
