-- Declared names and their indices.
use Rattle.std.specs.Prelude.{ℕ, List, Option, position, bytes_eq}

-- the names that are declared so far, in order
abbrev pub Names : Type 0
Names = List (List ℕ)

unfoldable pub index_of : Names → List ℕ → Option ℕ
index_of names name = position (bytes_eq name) names
