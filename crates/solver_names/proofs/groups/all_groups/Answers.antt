use Rattle.std.proofs.Common.{◌∙◌, ap, arith}
use Rattle.std.proofs.lemmas.List.{take_all}
use Rattle.solver_names.specs.Answers.{groups_of}
use Rattle.solver_names.specs.Stated.{different}
use Rattle.solver_names.proofs.DifferentCells.{one_group}
use Rattle.solver_names.proofs.groups.all_groups.Goals as goal

pub loop-constraint-preserved : goal.loop-constraint-preserved
loop-constraint-preserved c =
    one_group c.args.decisions.now c.args.constraints.now c.loop-constraint.constraint-index c.constraint-item.result (groups_of c.loop-constraint.groups.items) (groups_of c.put_group.new.groups.items)
    c.loop-constraint-test.true c.constraint-item.is c.loop-constraint.invariant c.in_ok-put_group.ensures

pub returns : goal.returns
returns c =
    c.loop-constraint.invariant ∙ ap (λ cs. different cs c.args.decisions.now) (take_all c.loop-constraint.constraint-index c.args.constraints.now (omega (arith, c.loop-constraint-test.false)))
