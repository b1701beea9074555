-- What the code keeps of a macro's body, so that it looks at it once.
use Rattle.std.specs.Prelude.{◌≡◌, ℕ, List, false, map, slice_index_or}
use Rattle.cx_macro.specs.declared.roles.Role as code_role
use Rattle.cx_macro.specs.declared.roles.Uses.{Uses}
use Rattle.cx_macro.specs.Macros.{Definition}
use Rattle.cx_macro.specs.Replacement.{is_expanded, positions_of, role_of}
use Rattle.cx_macro.specs.Shapes.Roles.{code_of}
use Rattle.cx_macro.specs.Shapes.Substitutes.{is_raw}

-- the roles of a body, in the code's form
abbrev pub roles_of : Definition → List code_role.Role
roles_of d = map (λ p. code_of (role_of d p)) (positions_of d.body)

-- its roles, and for each argument whether it stands expanded somewhere, and whether it stands
-- somewhere as it is given
pub record AreUses (d : Definition) (uses : Uses) : Type 0 where
  pub roles : uses.roles.items ≡ roles_of d
  pub expanded : (i : ℕ) → slice_index_or uses.expanded.items i false ≡ is_expanded d i
  pub raw : (i : ℕ) → slice_index_or uses.raw.items i false ≡ is_raw d i
