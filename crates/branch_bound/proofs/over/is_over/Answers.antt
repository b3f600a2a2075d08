use Rattle.std.proofs.Common.{◌≢◌, sym, ◌∙◌, []}
use Rattle.branch_bound.proofs.Overs.{some_waits, over_both, over_objective, over_marks}
use Rattle.branch_bound.proofs.over.is_over.Goals as goal

pub returns-then-is_some-2 : goal.returns-then-is_some-2
returns-then-is_some-2 c =
    let f = c.args.frontier.now in (
      λ t. over_both c.args.model.now f (sym c.is_some.ensures ∙ c.if-is_some.true) (sym c.is_some-then-is_some.ensures ∙ c.if-is_some-2.true),
      λ o. c.if-is_some-2.true,
    )

pub returns-else-is_some-2 : goal.returns-else-is_some-2
returns-else-is_some-2 c =
    let f = c.args.frontier.now in
    let n : f.waiting.items ≢ [] = some_waits _ f.waiting.items _ f.waiting.ok.0 c.is_empty.ensures c.if-is_empty.false in
    let h = over_objective c.args.model.now f n (sym c.is_some.ensures ∙ c.if-is_some.true) (sym c.is_some-then-is_some.ensures ∙ c.if-is_some-2.false) in
    (λ t. h.1 (c.has_no_objective.ensures.0 t), λ o. c.has_no_objective.ensures.1 (h.0 o))

pub returns-then-is_some-3 : goal.returns-then-is_some-3
returns-then-is_some-3 c =
    let f = c.args.frontier.now in
    let n : f.waiting.items ≢ [] = some_waits _ f.waiting.items _ f.waiting.ok.0 c.is_empty.ensures c.if-is_empty.false in
    over_marks c.args.model.now f c.has_marks.result n (sym c.is_some.ensures ∙ c.if-is_some.false) (sym c.is_some-2.ensures ∙ c.if-is_some-3.true) c.has_marks.ensures
