-- The areas of a list, part by part.
use Rattle.std.proofs.Common.{arith, sym, ap, ◌∙◌, ◌++◌, take}
use Rattle.formula_ast.specs.Measures.{references_of, all_references_of}
use Rattle.formula_ast.specs.Tree.{trees}
use Rattle.formula_ast.specs.View.{tree_of}
use Rattle.formula_ast.proofs.Parts.{node_count-le, all_references-more, listed-map, one_more}
use Rattle.formula_ast.proofs.expr.+referring.Goals as goal

pub add_all_references-add_references-requires : goal.add_all_references-add_references-requires
add_all_references-add_references-requires t c = (omega (arith, node_count-le c.args.exprs.now c.loop-expr.expr-index c.expr-item.result c.loop-expr-test.true c.expr-item.is), tt)

pub add_all_references-loop-expr-preserved : goal.add_all_references-loop-expr-preserved
add_all_references-loop-expr-preserved t c =
    one_more c.args.found.now.items (all_references_of (trees (take c.loop-expr.expr-index c.args.exprs.now)))
    (references_of c.expr-item.result) c.in_ok-add_references.ensures c.loop-expr.invariant
    (all_references-more c.args.exprs.now c.loop-expr.expr-index c.expr-item.result c.loop-expr-test.true c.expr-item.is)

pub Expr::add_references-returns-in_ok-extend_from_slice-in-Reference :
    goal.Expr::add_references-returns-in_ok-extend_from_slice-in-Reference
Expr::add_references-returns-in_ok-extend_from_slice-in-Reference t c =
    c.in_ok-extend_from_slice-in-Reference.ensures.items
    ∙ ap (λ areas. c.args.found.now.items ++ areas)
    (c.deref-in-Reference.ensures.value
    ∙ sym (listed-map c.in-Reference.areas.items)
    ∙ sym (ap (λ n. references_of (tree_of c.self.inside.span n)) c.in-Reference.is)
    ∙ ap references_of c.self.view_is)
