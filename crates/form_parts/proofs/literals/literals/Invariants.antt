use Rattle.std.proofs.Common.{◌≡◌, take}
use Rattle.formula_ast.specs.Tree.{trees}
use Rattle.recalculation.specs.Evaluation.{literals}
use Rattle.form_parts.proofs.literals.literals.Given as goal

-- the values so far
abbrev pub invariant-loop-item : goal.invariant-loop-item
invariant-loop-item l = l.values.items ≡ literals (trees (take l.item-index l.items))
