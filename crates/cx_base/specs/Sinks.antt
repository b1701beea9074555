-- A sink in memory: what it holds, which of its calls fail, and what a call takes.
use Rattle.std.specs.Prelude.{◌≡◌, ℕ, ◌-◌, min, ◌==◌, nat_lt, Bool, ◌||◌, ◌&&◌, List, ◌++◌, length, take, Option, Some, None, Result, Ok, Err, IsTrue, IsFalse}
use Rattle.cx_base.specs.declared.errors.Lost.{Lost}
use Rattle.cx_base.specs.declared.errors.Lost.TheVariants.{Failed, NoMemory}
use Rattle.cx_base.specs.Calls.{Calls, next_fails, one_more, one_more_call}
use Rattle.cx_base.specs.Faults.{last_count}
use Rattle.cx_base.specs.Outside.{SinkState}

-- the bytes that it holds, the calls made on it, the bytes that it has room for in all where that
-- is bounded, the most that it takes in a call, and how many calls failed
pub record MemorySinkState : Type 0 where
  pub holds : List ℕ
  pub calls : Calls
  pub room : Option ℕ
  pub most : ℕ
  pub faults : ℕ

-- a number of bytes that no call passes
abbrev pub unbounded : ℕ
unbounded = last_count

-- a sink in memory as its users see it
abbrev pub sink_state : MemorySinkState → SinkState
sink_state sink = record { holds = Some sink.holds; faults = sink.faults }

-- how many bytes the next call takes at most
abbrev pub takes_of : Option ℕ → ℕ → ℕ → ℕ
takes_of None most held = most
takes_of (Some room) most held = min (room - held) most

abbrev pub takes_next : MemorySinkState → ℕ
takes_next sink = takes_of sink.room sink.most (length sink.holds)

-- a call is refused for want of room where it has bytes and none can be taken
abbrev pub is_full : MemorySinkState → List ℕ → Bool
is_full sink bytes = nat_lt 0 (length bytes) && takes_next sink == 0

-- a write fails where its number says so or no room is left
abbrev pub write_fails : MemorySinkState → List ℕ → Bool
write_fails sink bytes = next_fails sink.calls || is_full sink bytes

-- a write fails exactly where `write_fails`, and else takes what it may
abbrev pub Writes : MemorySinkState → MemorySinkState → List ℕ → Result ℕ Lost → Type 0
Writes before after bytes (Ok n) =
    IsFalse (write_fails before bytes) × (n ≡ min (length bytes) (takes_next before))
    × (after ≡ record before {
      holds = before.holds ++ take n bytes;
      calls = one_more_call before.calls;
    })
Writes before after bytes (Err Failed) =
    IsTrue (write_fails before bytes)
    × (after ≡ record before {
      calls = one_more_call before.calls;
      faults = one_more before.faults;
    })
Writes before after bytes (Err NoMemory) = after ≡ before
