-- What the building of a linear model answers.
use Rattle.std.specs.Prelude.{◌≡◌, Result, Ok, Err, Some, None, ⊤}
use Rattle.linear_models.specs.Model.{Model}
use Rattle.linear_models.specs.Statement.{Statement}
use Rattle.linear_models.specs.Linear.{linear, wide_row}
use Rattle.lin_model.specs.declared.stop.BuildStop.{BuildStop}
use Rattle.lin_model.specs.declared.stop.BuildStop.TheVariants as stops

-- the linear model where the difference of each row is narrow, and else the first row whose difference isn't
abbrev pub IsBuilt : Statement → Result Model BuildStop → Type 0
IsBuilt s (Ok m) = (m ≡ linear s) × (wide_row s ≡ None)
IsBuilt s (Err (stops.WideRow k)) = wide_row s ≡ Some k
IsBuilt s (Err stops.Memory) = ⊤
