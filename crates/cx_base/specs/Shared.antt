-- What a shared list holds.
use Rattle.std.specs.Prelude.{List, [], Option, Some, None}

-- the members that something holds, and none where there is nothing
abbrev pub members_in : {A B : Type 0} → (B → List A) → Option B → List A
members_in items None = []
members_in items (Some x) = items x
