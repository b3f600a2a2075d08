use Rattle.std.proofs.Common.{arith, refl, ◌≡◌, ◌<◌, sym, ◌∙◌, subst, inl, inr}
use Rattle.search_bounds.specs.Enough.{enough_for}
use Rattle.branch_bound.specs.Searches.{Held, HasEnded}
use Rattle.branch_bound.specs.Ends.{MayGoOn}
use Rattle.branch_bound.proofs.Budgets.{few_units, stop_left}
use Rattle.branch_bound.proofs.Running.{none_yet, one_more, stop_ends, continued, answered_too, stop_continued}
use Rattle.std.proofs.lemmas.Bool.{false≢true}
use Rattle.branch_bound.proofs.search.Search.run.Goals.{then-loop-spent-test+then-not-has_ended+else-units-budget, then-loop-spent-test+else-not-has_ended, else-loop-spent-test}
use Rattle.branch_bound.proofs.search.Search.run.Given as given
use Rattle.branch_bound.proofs.search.Search.run.Goals as goal

pub loop-spent-init : goal.loop-spent-init
loop-spent-init g c = record { trail = none_yet _ _ _ _ _; in_budget = inl refl; spent = omega arith; model = refl; budget = refl; answered = refl; rule = refl }

pub loop-spent-preserved : goal.loop-spent-preserved
loop-spent-preserved g c =
    let i = c.loop-spent.invariant in
    record {
      in_budget = (let a = i.budget in let u = c.units.ensures.value in let v = c.budget.ensures.value in let t = c.if-units-budget.true in let n = c.in-Ok.ensures.counted in inr (omega (arith, a, u, v, t, n)));
      trail = one_more _ _ _ _ _ _ _ _ _ (λ ms. (given.Picker-dyn g (c.step.new.pick.vtable, c.step.new.pick.value)).heard c.step.new.pick.value ms) _ _ _ _ i.trail i.model i.rule c.in-Ok.ensures.ok c.in-Ok.ensures.counted;
      spent = omega arith;
      model = c.step.ensures.same.0 ∙ i.model;
      budget = c.step.ensures.same.1 ∙ i.budget;
      answered = c.step.ensures.same.2 ∙ i.answered;
      rule = c.step.ensures.rule ∙ i.rule;
    }

pub returns-in-Err-clause-ends : goal.returns-in-Err-clause-ends
returns-in-Err-clause-ends g c =
    let i = c.loop-spent.invariant in
    let n : ¬ (HasEnded c.loop-spent.self) = λ h. false≢true (sym c.if-not-has_ended.true ∙ c.has_ended.ensures.1 h) in
    let a = i.trail.counted in
    let b = i.trail.spent_is in
    let l = c.loop-spent-test.true in
    let u = c.units.ensures.value in
    let v = c.budget.ensures.value in
    let t = c.if-units-budget.true in
    let m : MayGoOn c.args.self.now.units c.args.units c.loop-spent.self =
    record { leaf = record { not_ended = n; not_given = i.answered ∙ c.requires }; in_budget = omega (arith, u, v, t); asked = omega (arith, a, b, l) } in
    stop_ends c.args.self.now.units c.args.units c.step.new.self c.stop_of.result (subst (λ (s : Held). MayGoOn c.args.self.now.units c.args.units s) (sym c.in-Err.ensures.stop.0) m) c.stop_of.ensures

pub answer-requires-clause-ended : goal.answer-requires-clause-ended
answer-requires-clause-ended g c = c.has_ended-2.ensures.0 c.if-has_ended.true

pub returns-clause-ends : goal.returns-clause-ends
returns-clause-ends g c =
    let i = c.loop-spent.invariant in
    let n : ¬ (HasEnded c.loop-spent.self) = λ h. false≢true (sym c.if-has_ended.false ∙ c.has_ended-2.ensures.1 h) in
    let a = i.trail.counted in
    let b = i.trail.spent_is in
    let s = i.spent in
    let u = c.units-2.ensures.value in
    let v = c.budget-2.ensures.value in
    let t = c.if-budget-units.false in
    let e : c.loop-spent.spent ≡ c.args.units =
    elim c.loop-spent-test.branch [
      | then-loop-spent-test+then-not-has_ended+else-units-budget w ↦ (let x = w.units.ensures.value in let y = w.budget.ensures.value in let z = w.if-units-budget.false in absurd (omega (arith, x, y, z, u, v, t)))
      | then-loop-spent-test+else-not-has_ended w ↦ (absurd (n (w.has_ended.ensures.0 w.if-not-has_ended.false)))
      | else-loop-spent-test w ↦ (let z = w.loop-spent-test.false in omega (arith, z, s))
    ] in
    (omega (arith, a, b, e), omega (arith, u, v, t), record { not_ended = n; not_given = i.answered ∙ c.requires })

pub returns-in-Err-clause-trail : goal.returns-in-Err-clause-trail
returns-in-Err-clause-trail g c =
    let i = c.loop-spent.invariant in
    stop_continued _ _ _ (λ ms. (given.Picker-dyn g (c.step.new.pick.vtable, c.step.new.pick.value)).heard c.step.new.pick.value ms) _ _ _ c.loop-spent.self c.step.new.self _ c.stop_of.result i.trail c.in-Err.ensures.heard c.in-Err.ensures.stop.0 c.in-Err.ensures.stop.1 c.stop_of.ensures i.spent i.in_budget i.model i.budget

pub returns-then-has_ended-clause-trail : goal.returns-then-has_ended-clause-trail
returns-then-has_ended-clause-trail g c =
    let i = c.loop-spent.invariant in
    answered_too _ _ _ _ c.loop-spent.self c.answer.new.self c.answer.ensures.same (continued _ _ _ _ _ c.loop-spent.self i.trail i.spent i.in_budget i.model i.budget)

pub returns-clause-trail : goal.returns-clause-trail
returns-clause-trail g c =
    let i = c.loop-spent.invariant in
    continued _ _ _ _ _ c.loop-spent.self i.trail i.spent i.in_budget i.model i.budget

pub returns-then-budget-units-clause-trail : goal.returns-then-budget-units-clause-trail
returns-then-budget-units-clause-trail g c =
    let i = c.loop-spent.invariant in
    continued _ _ _ _ _ c.loop-spent.self i.trail i.spent i.in_budget i.model i.budget

pub returns-in-Err-clause-enough : goal.returns-in-Err-clause-enough
returns-in-Err-clause-enough g c b l = stop_left c.step.new.self c.stop_of.result c.stop_of.ensures

pub returns-then-budget-units-clause-enough : goal.returns-then-budget-units-clause-enough
returns-then-budget-units-clause-enough g c b l =
    let i = c.loop-spent.invariant in
    let few = few_units _ _ _ _ _ c.whole-valid.ensures.valid c.model.ensures i.model c.units-2.ensures.trail b in
    let u = c.units-2.ensures.value in
    let v = c.budget-2.ensures.value in
    let e = i.budget in
    let t = c.if-budget-units.true in
    absurd (omega (arith, few, u, v, e, t, l))

pub returns-in-Err-clause-few : goal.returns-in-Err-clause-few
returns-in-Err-clause-few g c b =
    let i = c.loop-spent.invariant in
    let few = few_units _ _ _ _ _ c.whole-valid.ensures.valid c.model.ensures i.model c.units.ensures.trail b in
    subst (λ (s : Held). s.units < enough_for c.args.self.now.model) (sym c.in-Err.ensures.stop.0) few

pub returns-then-has_ended-clause-few : goal.returns-then-has_ended-clause-few
returns-then-has_ended-clause-few g c b =
    let i = c.loop-spent.invariant in
    let few = few_units _ _ _ _ _ c.whole-valid.ensures.valid c.model.ensures i.model c.units-trail.ensures.trail b in
    subst (λ (s : Held). s.units < enough_for c.args.self.now.model) (sym c.answer.ensures.same) few

pub returns-then-budget-units-clause-few : goal.returns-then-budget-units-clause-few
returns-then-budget-units-clause-few g c b = few_units _ _ _ _ _ c.whole-valid.ensures.valid c.model.ensures c.loop-spent.invariant.model c.units-trail.ensures.trail b

pub returns-clause-few : goal.returns-clause-few
returns-clause-few g c b = few_units _ _ _ _ _ c.whole-valid.ensures.valid c.model.ensures c.loop-spent.invariant.model c.units-trail.ensures.trail b
