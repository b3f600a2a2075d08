-- A `LinModel` as a linear model.
use Rattle.linear_models.specs.Model.{Model}
use Rattle.optimality.specs.Kinds.{goal_of}
use Rattle.lin_model.specs.Lists.{lists_of}
use Rattle.lin_model.specs.declared.model.LinModel.TheInside.{Inside}

-- the fields, as a model
abbrev pub model_of : Inside → Model
model_of m = record { goal = goal_of m.goal; objective = m.objective; rows = m.rows.items; whole = m.whole.items; bounds = m.bounds; groups = lists_of m.groups.items }
