-- Simple paths: the one form under which each path is asked.
use Rattle.std.specs.Prelude.{ℕ, Bool, not, ◌&&◌, if◌then◌else◌, List, [], ◌∷◌, bytes_eq, codes, nat_eq}
use Rattle.std.specs.List.{slice_split, starts_with, filter, join_with_byte}
use Rattle.cx_base.specs.Folders.{is_slash}

-- the component that leads to the folder around
abbrev pub is_parent : List ℕ → Bool
is_parent component = bytes_eq component (codes "..")

-- a component that leads to another place: one that is neither empty nor `.`
abbrev pub is_step : List ℕ → Bool
is_step component = not (bytes_eq component []) && not (bytes_eq component (codes "."))

-- a component before others: where it is not `..`, it and a `..` next to it cancel each other
abbrev pub before_others : List ℕ → List (List ℕ) → List (List ℕ)
before_others component [] = component ∷ []
before_others component (next ∷ others) =
    if is_parent next && not (is_parent component) then others else component ∷ next ∷ others

-- what is left of components, where no `..` has one before it that it can cancel
abbrev pub reduced : List (List ℕ) → List (List ℕ)
reduced [] = []
reduced (component ∷ components) = before_others component (reduced components)

-- what is left of the components of a path, of which those that are empty or `.` are dropped
abbrev pub simple_components : List ℕ → List (List ℕ)
simple_components path = reduced (filter is_step (slice_split is_slash path))

-- the path of components from the present folder on, which is `.` where there are none
abbrev pub relative_path : List (List ℕ) → List ℕ
relative_path [] = codes "."
relative_path (first ∷ rest) = join_with_byte 47 (first ∷ rest)

abbrev pub is_rooted : List ℕ → Bool
is_rooted path = starts_with nat_eq path (codes "/")

-- the simple path that leads where a path does: a leading `/` stays
unfoldable pub simple_path : List ℕ → List ℕ
simple_path path =
    if is_rooted path then 47 ∷ join_with_byte 47 (simple_components path)
    else relative_path (simple_components path)

-- a path is simple where it is its own simple path
abbrev pub is_simple : List ℕ → Bool
is_simple path = bytes_eq path (simple_path path)
