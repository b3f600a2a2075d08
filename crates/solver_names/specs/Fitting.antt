-- Sides whose cells go together.
use Rattle.std.specs.Prelude.{◌≡◌, ℕ, ◌<◌, [], ⊤}
use Rattle.cell_refs.specs.Areas.{area_len}
use Rattle.solver_names.specs.declared.constraints.Constraint.{Constraint}
use Rattle.solver_names.specs.declared.constraints.Side.{Side}
use Rattle.solver_names.specs.declared.constraints.Side.TheVariants as side
use Rattle.solver_names.specs.declared.said.Said.{Said}
use Rattle.solver_names.specs.declared.said.Said.TheVariants.{Says}
use Rattle.solver_names.specs.Faults.{mismatch}

-- a right area has one cell, or one at this place
abbrev pub PlaceFits : Said Side → ℕ → Type 0
PlaceFits (Says (side.Area a)) i = (area_len a ≡ 1 → ⊥) → i < area_len a
PlaceFits _ i = ⊤

abbrev pub IsFitting : Constraint → Type 0
IsFitting c = mismatch c ≡ []
