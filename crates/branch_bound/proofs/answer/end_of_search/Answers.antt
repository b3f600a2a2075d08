use Rattle.std.proofs.Common.{rules, ◌∙◌}
use Rattle.searches.specs.Trails.{HasNoMarks}
use Rattle.branch_bound.proofs.Telling.{says_unbounded, says_at_once, says_optimal, says_infeasible, says_none, no_marks}
use Rattle.branch_bound.proofs.answer.end_of_search.Goals as goal

pub returns-then-has_marks : goal.returns-then-has_marks
returns-then-has_marks c = let n : ¬ (HasNoMarks c.args.model.now) = search rules in says_none c.args.model.now c.args.frontier.now c.in-Some-way-2.way c.in-None.is c.in-Some-way-2.is n

pub returns-in-Some-way : goal.returns-in-Some-way
returns-in-Some-way c =
    says_unbounded c.args.model.now c.args.frontier.now c.in-Some.found c.in-Some-way.way _ _ c.in-Some.is c.in-Some-way.is (c.numbers_in.ensures ∙ c.deref.ensures.value)
    (c.numbers_in-in-Some-way.ensures ∙ c.deref-in-Some-way.ensures.value)

pub returns-in-None-way : goal.returns-in-None-way
returns-in-None-way c =
    says_optimal c.args.model.now c.args.frontier.now c.in-Some.found _ c.in-Some.is c.in-None-way.is (c.numbers_in-in-None-way.ensures ∙ c.deref-in-None-way.ensures.value)

pub returns-else-has_marks : goal.returns-else-has_marks
returns-else-has_marks c =
    let n : ¬ (¬ (HasNoMarks c.args.model.now)) = search rules in
    says_at_once c.args.model.now c.args.frontier.now c.in-Some-way-2.way _ _ c.in-None.is c.in-Some-way-2.is (no_marks c.args.model.now n) (c.numbers_in-in-Some-way-2.ensures ∙ c.deref-in-Some-way-2.ensures.value)
    (c.numbers_in-in-Some-way-2-2.ensures ∙ c.deref-in-Some-way-2-2.ensures.value)

pub returns-in-None-way-2 : goal.returns-in-None-way-2
returns-in-None-way-2 c = says_infeasible c.args.model.now c.args.frontier.now c.in-None.is c.in-None-way-2.is
