use Rattle.form_values.specs.declared.abs.AbsArg.TheVariants.{One}
use Rattle.form_ops.proofs.Answering.{then_answers}
use Rattle.form_ops.proofs.lifting.on_each.Goals as goal

pub returns-in-One : goal.returns-in-One
returns-in-One g c f h = rw (← c.in-One.ensures, c.as_one.ensures) (then_answers One (f c.in-One.value.now) c.work.result (h _ _ c.work.ensures))
