use Rattle.std.proofs.Common.{◌≡◌, flat_map, take}
use Rattle.solver_names.specs.declared.constraints.Constraint.{Constraint}
use Rattle.solver_names.specs.Sides.{side_tree}
use Rattle.solver_names.proofs.sides.side_trees.Given as goal

-- the trees so far
abbrev pub invariant-loop-constraint : goal.invariant-loop-constraint
invariant-loop-constraint l = l.trees.items ≡ flat_map (λ (c : Constraint). side_tree l.book l.of.sheet.0 c.k c.right) (take l.constraint-index l.constraint-items)
