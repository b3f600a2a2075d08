-- No part counts for more than the list that it stands in.
use Rattle.std.proofs.Common.{◌≡◌, ◌∙◌, ap, arith, map, rules, subst, sym}
use Rattle.std.proofs.lemmas.List.{take_all}
use Rattle.formula_ast.specs.Sound.{IsSound}
use Rattle.formula_ast.specs.Tree.{trees}
use Rattle.formula_ast.specs.View.{tree_of}
use Rattle.formula_ast.proofs.Parts.{node_count-le}
use Rattle.solver_names.specs.Sides.{placed}
use Rattle.solver_names.proofs.PlacedTrees.{all_is, placed_sound}
use Rattle.solver_names.proofs.sides.+placing.Goals as goal

pub all_placed-one_byte_before-requires : goal.all_placed-one_byte_before-requires
all_placed-one_byte_before-requires t c = (omega (arith, node_count-le c.args.exprs.now c.loop-expr.expr-index c.expr-item.result c.loop-expr-test.true c.expr-item.is), tt)

pub all_placed-returns : goal.all_placed-returns
all_placed-returns t c =
    ap trees (c.loop-expr.invariant ∙ ap (map placed) (take_all c.loop-expr.expr-index c.args.exprs.now (omega (arith, c.loop-expr-test.false)))) ∙ all_is c.args.exprs.now

pub one_byte_before-invariant_of-result : goal.one_byte_before-invariant_of-result
one_byte_before-invariant_of-result t c =
    let is : tree_of c.one_less-span.result c.match-expr.node ≡ placed c.args.expr.now = search rules in
    subst IsSound (sym is) (placed_sound c.args.expr.now c.soundness.ensures)
