-- The cell is among those of each name in the parts so far. A list of parts counts as one more than all their parts.
use Rattle.std.proofs.Common.{◌+◌, ◌*◌, take}
use Rattle.formula_ast.specs.Size.{node_count, all_count}
use Rattle.formula_ast.specs.Tree.{trees}
use Rattle.workbook.specs.Users.{Grows, KnowsAllUses}
use Rattle.workbook.proofs.users.+adding.Given as goal

abbrev pub invariant-add_all_uses-loop-expr : goal.invariant-add_all_uses-loop-expr
invariant-add_all_uses-loop-expr l = record {
  known : KnowsAllUses l.users l.cell (trees (take l.expr-index l.exprs));
  grows : Grows l.initial.users l.users;
}

abbrev pub decreases-add_uses : goal.decreases-add_uses
decreases-add_uses l = 2 * node_count l.expr.now

abbrev pub decreases-add_all_uses : goal.decreases-add_all_uses
decreases-add_all_uses l = 2 * all_count (trees l.exprs.now) + 1
