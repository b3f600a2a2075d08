-- A model that is built agrees with its statement.
use Rattle.std.specs.Prelude.{IfOk, Result, Ok, Err}
use Rattle.std.proofs.Common.{sym, subst}
use Rattle.linear_models.specs.Agreement.{AgreesWith, IsStated}
use Rattle.linear_models.specs.Model.{Model}
use Rattle.linear_models.specs.Statement.{Statement}
use Rattle.linear_models.proofs.SameAnswers.{linear_agrees}
use Rattle.lin_model.specs.Built.{IsBuilt}
use Rattle.lin_model.specs.declared.stop.BuildStop.{BuildStop}

pub built_agrees : (s : Statement) (r : Result Model BuildStop) → IsStated s → IsBuilt s r → IfOk r (AgreesWith s)
built_agrees s (Ok m) w h = subst (AgreesWith s) (sym h.0) (linear_agrees s w)
built_agrees s (Err e) w h = tt
