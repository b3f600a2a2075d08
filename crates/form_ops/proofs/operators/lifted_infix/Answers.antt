use Rattle.std.proofs.Common.{rules}
use Rattle.form_values.specs.declared.abs.AbsArg.TheVariants.{One}
use Rattle.form_table.specs.Operators.{infix_abs}
use Rattle.form_ops.proofs.Answering.{infix_answers, then_answers}
use Rattle.form_ops.proofs.operators.lifted_infix.Goals as goal

pub returns-in-One-One : goal.returns-in-One-One
returns-in-One-One c =
    infix_answers c.args.op c.args.a.now c.args.b.now _ _ _ c.in-One-One.ensures c.in-One-One.ensures'
    (rw c.as_one.ensures (then_answers One (infix_abs c.args.op c.in-One-One.first.now c.in-One-One.second.now) c.infix_value.result c.infix_value.ensures))

pub returns-in-One-Area : goal.returns-in-One-Area
returns-in-One-Area c =
    infix_answers c.args.op c.args.a.now c.args.b.now _ _ _ c.in-One-Area.ensures c.in-One-Area.ensures'
    (c.on_grid.ensures (infix_abs c.args.op c.in-One-Area.first.now) (λ x r called. search rules))

pub returns-in-Area-One : goal.returns-in-Area-One
returns-in-Area-One c =
    infix_answers c.args.op c.args.a.now c.args.b.now _ _ _ c.in-Area-One.ensures c.in-Area-One.ensures'
    (c.on_grid-in-Area-One.ensures (λ x. infix_abs c.args.op x c.in-Area-One.second.now) (λ x r called. search rules))
