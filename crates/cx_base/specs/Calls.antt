-- Which calls on an object in memory fail.
use Rattle.std.specs.Prelude.{ℕ, ◌+◌, Bool, ◌==◌, nat_lt, ◌&&◌, if◌then◌else◌, List}
use Rattle.std.specs.List.{list_any}
use Rattle.cx_base.specs.Faults.{last_count}

-- the calls made so far, of which those with these numbers failed; calls are numbered from 0
pub record Calls : Type 0 where
  pub failing : List ℕ
  pub made : ℕ

-- a count with one more, which stands still at the end of its type
abbrev pub one_more : ℕ → ℕ
one_more count = if nat_lt count last_count then count + 1 else count

-- whether the next call is to fail
abbrev pub next_fails : Calls → Bool
next_fails calls =
    nat_lt calls.made last_count && list_any (λ number. number == calls.made) calls.failing

-- the calls with one more made
abbrev pub one_more_call : Calls → Calls
one_more_call calls = record calls { made = one_more calls.made }
