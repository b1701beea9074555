-- A count of faults, and calls that fail exactly where it rose.
use Rattle.std.specs.Prelude.{◌≡◌, ℕ, ◌+◌, ◌-◌, ◌^◌, ◌≤◌, min, Result, Ok, Err}
use Rattle.cx_base.specs.declared.errors.Lost.{Lost}
use Rattle.cx_base.specs.declared.errors.Lost.TheVariants.{Failed, NoMemory}

-- the greatest number of a count, at which it stands still
abbrev pub last_count : ℕ
last_count = 2 ^ 64 - 1

-- a count rose by at least so many, and stands still at the end of its type
abbrev pub RoseBy : ℕ → ℕ → ℕ → Type 0
RoseBy faults before now = min (before + faults) last_count ≤ now

-- a count rose
abbrev pub Rose : ℕ → ℕ → Type 0
Rose = RoseBy 1

-- a call that failed raised the count, and a call that ended otherwise left it as it was
abbrev pub HasCause : {T : Type 0} → ℕ → ℕ → Result T Lost → Type 0
HasCause before now (Ok x) = now ≡ before
HasCause before now (Err Failed) = (before ≤ now) × Rose before now
HasCause before now (Err NoMemory) = now ≡ before
