use Rattle.sheet_model.specs.Operators.{with_items}
use Rattle.sheet_model.proofs.Spreading.{spread_stopped, spread_answered}
use Rattle.sheet_model.proofs.operators.on_grid.Goals as goal

pub returns-in_err-answers : goal.returns-in_err-answers
returns-in_err-answers g c f h =
    spread_stopped f (with_items c.args.grid.now) _ _ _ _ c.items.ensures.items c.from_residual.ensures.1 (c.in_err-answers.ensures.narrow f h)

pub returns : goal.returns
returns g c f h =
    rw c.with_items.ensures (spread_answered f (with_items c.args.grid.now) _ _ _ c.items.ensures.items (c.in_ok-answers.ensures.narrow f h))
