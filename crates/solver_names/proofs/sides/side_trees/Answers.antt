use Rattle.std.proofs.Common.{◌∙◌, ap, arith, flat_map}
use Rattle.std.proofs.lemmas.List.{take_all}
use Rattle.solver_names.specs.declared.constraints.Constraint.{Constraint}
use Rattle.solver_names.specs.Sides.{side_tree}
use Rattle.solver_names.proofs.SideLists.{part_more}
use Rattle.solver_names.proofs.sides.side_trees.Goals as goal

pub loop-constraint-preserved : goal.loop-constraint-preserved
loop-constraint-preserved c =
    part_more (λ (d : Constraint). side_tree c.args.book.now c.args.of.now.sheet.0 d.k d.right) c.deref-constraint-items.result.now c.loop-constraint.constraint-index
    c.constraint-item.result c.loop-constraint.trees.items c.add_side.new.trees.items c.loop-constraint-test.true c.constraint-item.is c.loop-constraint.invariant c.in_ok-add_side.ensures

pub returns : goal.returns
returns c =
    let f = λ (d : Constraint). side_tree c.args.book.now c.args.of.now.sheet.0 d.k d.right in
    c.loop-constraint.invariant
    ∙ ap (flat_map f) (take_all c.loop-constraint.constraint-index c.deref-constraint-items.result.now (omega (arith, c.loop-constraint-test.false)) ∙ c.deref-constraint-items.ensures.value)
    ∙ ap (λ r. flat_map f r.constraints) c.in_ok-names.ensures.read
