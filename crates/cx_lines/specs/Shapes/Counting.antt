-- How many nested sections are open, counted line by line.
use Rattle.std.specs.Prelude.{ℕ, ◌+◌, ◌-◌, if◌then◌else◌}
use Rattle.cx_lines.specs.Kinds.{closes, opens}
use Rattle.cx_lines.specs.declared.kind.LineKind.{LineKind}

-- how many are open after a line of this kind
unfoldable pub nested_after : ℕ → LineKind → ℕ
nested_after nested kind =
    if opens kind then nested + 1 else if closes kind then nested - 1 else nested
