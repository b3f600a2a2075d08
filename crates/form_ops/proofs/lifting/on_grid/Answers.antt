use Rattle.form_table.specs.Operators.{with_items}
use Rattle.form_ops.proofs.Trying.{spread_refused, spread_given}
use Rattle.form_ops.proofs.lifting.on_grid.Goals as goal

pub returns-in_err-answers : goal.returns-in_err-answers
returns-in_err-answers g c f h =
    spread_refused f (with_items c.args.grid.now) _ _ _ _ c.items.ensures.items c.from_residual.ensures.1 (c.in_err-answers.ensures.narrow f h)

pub returns : goal.returns
returns g c f h =
    rw c.with_items.ensures (spread_given f (with_items c.args.grid.now) _ _ _ c.items.ensures.items (c.in_ok-answers.ensures.narrow f h))
