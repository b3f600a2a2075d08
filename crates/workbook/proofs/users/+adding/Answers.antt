-- The parts, one by one.
use Rattle.std.proofs.Common.{◌≡◌, ◌∙◌, Some, ap, arith, subst, sym}
use Rattle.std.specs.Result.{OnOk}
use Rattle.std.proofs.lemmas.Result.{on_ok_weaker}
use Rattle.formula_ast.specs.Tree as tree
use Rattle.formula_ast.specs.View.{tree_of}
use Rattle.formula_ast.proofs.Parts.{node_count-le}
use Rattle.workbook.specs.Users.{KnowsUses}
use Rattle.workbook.specs.Uses.{is_wanted, some_use}
use Rattle.workbook.proofs.Covered.{either_known, grows_on, more_known, same_name}
use Rattle.workbook.proofs.users.+adding.Goals as goal

pub add_all_uses-add_uses-requires : goal.add_all_uses-add_uses-requires
add_all_uses-add_uses-requires t c = (omega (arith, node_count-le c.args.exprs.now c.loop-expr.expr-index c.expr-item.result c.loop-expr-test.true c.expr-item.is), tt)

pub add_all_uses-loop-expr-preserved : goal.add_all_uses-loop-expr-preserved
add_all_uses-loop-expr-preserved t c = record {
  known =
      more_known c.loop-expr.users c.add_uses.new.users c.args.cell c.add_uses.ensures.grows c.args.exprs.now c.loop-expr.expr-index c.expr-item.result c.loop-expr-test.true
      c.expr-item.is c.loop-expr.invariant.known c.in_ok-add_uses.ensures.known;
  grows = grows_on c.args.users.now c.loop-expr.users c.add_uses.new.users c.loop-expr.invariant.grows c.add_uses.ensures.grows;
}

pub add_uses-returns-in-Name-clause-known : goal.add_uses-returns-in-Name-clause-known
add_uses-returns-in-Name-clause-known t c =
    let span = c.expr.inside.span in
    let name = c.as_str.result.now in
    let is : tree.Name span name ≡ c.args.expr.now = ap (tree.Name span) c.as_str.ensures.value ∙ sym (ap (tree_of span) c.in-Name.is) ∙ c.expr.view_is in
    subst (λ u. OnOk c.add.result (KnowsUses c.add.new.self c.args.cell u)) is
    (on_ok_weaker c.add.result (λ known other h. same_name c.add.new.self c.args.cell name other h known) c.add.ensures.known)

pub add_uses-returns-in_ok-add_uses-in-Infix-clause-known : goal.add_uses-returns-in_ok-add_uses-in-Infix-clause-known
add_uses-returns-in_ok-add_uses-in-Infix-clause-known t c =
    let span = c.expr.inside.span in
    let left = c.deref-in-Infix.result.now in
    let right = c.deref-in-Infix-2.result.now in
    let is : tree.Infix span c.in-Infix.field-0 left right ≡ c.args.expr.now =
    (λ i. tree.Infix span c.in-Infix.field-0 (c.deref-in-Infix.ensures i) (c.deref-in-Infix-2.ensures i)) ∙ sym (ap (tree_of span) c.in-Infix.is) ∙ c.expr.view_is in
    subst (λ u. OnOk c.add_uses-in-Infix-2.result (KnowsUses c.add_uses-in-Infix-2.new.users c.args.cell u)) is
    (on_ok_weaker c.add_uses-in-Infix-2.result
    (either_known c.add_uses-in-Infix.new.users c.add_uses-in-Infix-2.new.users c.args.cell c.add_uses-in-Infix-2.ensures.grows
    (λ name. some_use (is_wanted (Some name)) left) (λ name. some_use (is_wanted (Some name)) right) c.in_ok-add_uses-in-Infix.ensures.known)
    c.add_uses-in-Infix-2.ensures.known)
