-- One branch after the other.
use Rattle.std.proofs.Common.{◌≡◌, [], ◌∷◌, ◌++◌, length, rules, arith, sym, ap, subst, ◌∙◌}
use Rattle.std.specs.Prelude.{All}
use Rattle.std.proofs.lemmas.List.Elements.{All-nil, All-push}
use Rattle.formula_ast.specs.Sound.{IsSound}
use Rattle.formula_parser.specs.Built.{all_trees}
use Rattle.formula_parser.proofs.Branches.{behind, none_behind, one_behind, lost_behind, all_behind}
use Rattle.formula_parser.proofs.call.all_exprs.Goals as goal

pub loop-arg-init : goal.loop-arg-init
loop-arg-init c = record {
  goes = search rules;
  ends = search rules;
  so_far =
      ap (λ ts. behind ts c.into_iter-arg-iterator.result.rest.items) c.new-exprs.ensures.items
      ∙ none_behind c.into_iter-arg-iterator.result.rest.items
      ∙ ap all_trees c.into_iter-arg-iterator.ensures.into_iter_gives.0;
  sound = subst (All IsSound) (sym c.new-exprs.ensures.items) (All-nil IsSound);
}

pub returns-in_default-clause-trees : goal.returns-in_default-clause-trees
returns-in_default-clause-trees c = lost_behind c.loop-arg.exprs.items c.in-Some.arg c.next.new.self.rest.items c.loop-arg.arg-iterator.rest.items (all_trees c.args.args.items) c.in-Some.ensures.steps.0 c.in_default.is c.loop-arg.invariant.so_far

pub loop-arg-preserved : goal.loop-arg-preserved
loop-arg-preserved c = record {
  goes = search rules;
  ends = search rules;
  so_far =
      one_behind c.loop-arg.exprs.items c.push.new.self.items c.in-Some.arg c.next.new.self.rest.items c.loop-arg.arg-iterator.rest.items c.in-Some-expr.expr (all_trees c.args.args.items)
      c.in-Some.ensures.steps.0 c.in-Some-expr.is (c.in_ok-push.ensures.items ∙ ap (λ t. c.loop-arg.exprs.items ++ t ∷ []) c.in-Some-expr.expr-is) c.loop-arg.invariant.so_far;
  sound = subst (All IsSound) (sym c.in_ok-push.ensures.items) (All-push IsSound c.loop-arg.exprs.items _ c.loop-arg.invariant.sound c.soundness.ensures);
}

pub returns-clause-trees : goal.returns-clause-trees
returns-clause-trees c =
    let none : length c.loop-arg.arg-iterator.rest.items ≡ 0 = let o = c.loop-arg.arg-iterator.rest.ok in let s = c.in-None.ensures.steps.0 in omega arith in
    all_behind c.loop-arg.exprs.items c.loop-arg.arg-iterator.rest.items (all_trees c.args.args.items) none c.loop-arg.invariant.so_far
