use Rattle.tableau.proofs.Units.{plus_none}
use Rattle.tableau.proofs.products.fraction_step.Goals as goal

pub returns-then-is_zero : goal.returns-then-is_zero
returns-then-is_zero c = plus_none c.args.a c.args.b c.args.c c.in_ok-found.found (c.is_zero.ensures.0 c.if-is_zero.true) c.in_ok-found.ensures
