use Rattle.sheet_model.specs.declared.grid.Arg.TheVariants.{One}
use Rattle.sheet_model.proofs.Spreading.{turned_answers}
use Rattle.sheet_model.proofs.operators.on_each.Goals as goal

pub returns-in-One : goal.returns-in-One
returns-in-One g c f h = rw (← c.in-One.ensures, c.as_one.ensures) (turned_answers One (f c.in-One.value.now) c.work.result (h _ _ c.work.ensures))
