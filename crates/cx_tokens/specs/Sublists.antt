-- Some elements of a list, in their order.
use Rattle.std.specs.Prelude.{◌≡◌, List, [], ◌∷◌, ◌⊎◌}

-- IsSublist some all: all that some elements of a list leave when the others are taken out.
abbrev pub IsSublist : {A : Type 0} → List A → List A → Type 0
IsSublist {A} some [] = some ≡ []
IsSublist {A} some (x ∷ all) =
    IsSublist some all ⊎ ((rest : List A) × (some ≡ x ∷ rest) × IsSublist rest all)
