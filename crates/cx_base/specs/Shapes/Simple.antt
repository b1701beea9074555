-- The test of a path by its components from the front, joined to Simple.is_simple by the law
-- simple_form of proofs/SimpleLaws.antt.
use Rattle.std.specs.Prelude.{ℕ, Bool, true, not, ◌&&◌, ◌||◌, if◌then◌else◌, List, [], ◌∷◌, drop, bytes_eq, codes}
use Rattle.std.specs.List.{slice_split, list_all}
use Rattle.cx_base.specs.Folders.{is_slash}
use Rattle.cx_base.specs.Simple.{is_parent, is_step, is_rooted}

-- a component that a simple path may have anywhere: not empty, not `.` and not `..`
abbrev pub is_plain : List ℕ → Bool
is_plain component = is_step component && not (is_parent component)

-- components of which those after the leading `..` are plain
abbrev pub are_reduced : List (List ℕ) → Bool
are_reduced [] = true
are_reduced (first ∷ rest) =
    if is_parent first then are_reduced rest else list_all is_plain (first ∷ rest)

unfoldable pub has_simple_form : List ℕ → Bool
has_simple_form path =
    bytes_eq path (codes ".") || bytes_eq path (codes "/")
    || (if is_rooted path then are_reduced (slice_split is_slash (drop 1 path))
    else are_reduced (slice_split is_slash path))
