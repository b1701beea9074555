-- The components that are left of a path, as they are found from the front: joined to
-- `simple_components` of Simple by the law `left_is` of proofs/SimplePathLaws.antt.
use Rattle.std.specs.Prelude.{ℕ, Bool, false, not, ◌&&◌, if◌then◌else◌, List, [], ◌∷◌, ◌++◌, map, codes}
use Rattle.std.specs.Borrow.{Bor}
use Rattle.cx_base.specs.Simple.{is_parent, is_step, is_rooted}

abbrev pub texts_of : List (Bor (List ℕ)) → List (List ℕ)
texts_of components = map (λ c. c.now) components

-- there is a last component that is not `..`
abbrev pub ends_plain : List (List ℕ) → Bool
ends_plain [] = false
ends_plain (c ∷ []) = not (is_parent c)
ends_plain (c ∷ d ∷ ds) = ends_plain (d ∷ ds)

abbrev pub without_last : List (List ℕ) → List (List ℕ)
without_last [] = []
without_last (c ∷ []) = []
without_last (c ∷ d ∷ ds) = c ∷ without_last (d ∷ ds)

-- the components that are left, with one more after them
unfoldable pub with_component : List (List ℕ) → List ℕ → List (List ℕ)
with_component left c =
    if is_step c then (if is_parent c && ends_plain left then without_last left else left ++ c ∷ [])
    else left

-- what a simple path with these components begins with, before these
abbrev pub rooted_start : List ℕ → List (List ℕ) → List ℕ
rooted_start path components = if is_rooted path then codes "/" else start_of components
  where
    start_of : List (List ℕ) → List ℕ
    start_of [] = codes "."
    start_of (c ∷ cs) = []
