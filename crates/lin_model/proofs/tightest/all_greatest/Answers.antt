use Rattle.std.proofs.Common.{ap₂, ◌∙◌, ◌++◌, ◌∷◌, [], sym, arith}
use Rattle.std.proofs.lemmas.List.FromFn.{map-range_with_len_more}
use Rattle.linear_models.specs.Bounds.{greatest_of}
use Rattle.lin_model.specs.Inner.{without_objective}
use Rattle.lin_model.proofs.tightest.all_greatest.Goals as goal

pub loop-decision-preserved : goal.loop-decision-preserved
loop-decision-preserved c =
    c.in_ok-push.ensures.items ∙ ap₂ (λ xs x. xs ++ x ∷ []) c.loop-decision.invariant c.greatest_of.ensures
    ∙ sym (map-range_with_len_more (greatest_of (without_objective c.args.of.now c.args.sides.now)) 0 c.loop-decision.decision c.loop-decision.decision (omega arith))
