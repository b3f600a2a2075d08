-- Problems with the same answers.
use Rattle.std.proofs.Common.{◌≡◌, ◌↔◌, refl, sym, ◌∙◌, Option, Some, None, subst}
use Rattle.fractions.specs.Rational.{ℚ, zero_ℚ, ◌<ℚ◌}
use Rattle.fractions.proofs.Order.{lt_irrefl}
use Rattle.optimality.specs.Problem.{Assignment, Worth, Goal, greatest, least, reach, Problem}
use Rattle.optimality.specs.Optimal.{Permitted, IsBetter, objective_at, worth_under}
use Rattle.optimality.specs.Laws.{Agree, SameAnswers, IsConstant, SameAnswersHold}
use Rattle.optimality.proofs.Answers.{agreeing_answers}

some_is : {x y : ℚ} → Some x ≡ Some y → x ≡ y
some_is e = cc

-- agreeing problems agree the other way round
turned : (p q : Problem) → Agree p q → Agree q p
turned p q g = record {
  goal = sym g.goal;
  permitted = λ a. ((g.permitted a).1, (g.permitted a).0);
  objective = λ a h. sym (g.objective a ((g.permitted a).1 h));
}

agreeing : (p q : Problem) → Agree p q → SameAnswers p q
agreeing p q g = record {
  permitted = g.permitted;
  optimal = λ a. (agreeing_answers.optimal p q a g, agreeing_answers.optimal q p a (turned p q g));
  infeasible = (agreeing_answers.infeasible p q g, agreeing_answers.infeasible q p (turned p q g));
  unbounded = (agreeing_answers.unbounded p q g, agreeing_answers.unbounded q p (turned p q g));
}

no_worth : (o : Option Worth) (a : Assignment) (x : ℚ) → o ≡ None → worth_under o a ≡ Some x → ⊥
no_worth None a x e h = cc
no_worth (Some f) a x e h = cc

-- no number is better than itself
not_better : (g : Goal) (x y z : ℚ) → y ≡ x → z ≡ x → ¬ (IsBetter g y z)
not_better greatest x y z e f w = lt_irrefl x (subst (λ t. t <ℚ x) f (subst (λ t. z <ℚ t) e w))
not_better least x y z e f w = lt_irrefl x (subst (λ t. t <ℚ x) e (subst (λ t. y <ℚ t) f w))
not_better (reach v) x y z e f w = w

constant_is : (q : Problem) (x y : ℚ) (a : Assignment) → IsConstant q x → objective_at q a ≡ Some y → y ≡ x
constant_is q x y a c e = sym (some_is (sym (c a) ∙ e))

without : (p q : Problem) (x : ℚ) → p.objective ≡ None → IsConstant q x → ((a : Assignment) → Permitted p a ↔ Permitted q a) → SameAnswers p q
without p q x n c s = record {
  permitted = s;
  optimal = λ a. (
    λ o. record { permitted = (s a).0 o.permitted; best = λ b h w. not_better q.goal x w.mine w.other (constant_is q x w.mine b c w.mine_is) (constant_is q x w.other a c w.other_is) w.better },
    λ o. record { permitted = (s a).1 o.permitted; best = λ b h w. no_worth p.objective b w.mine n w.mine_is },
  );
  infeasible = (λ i a h. i a ((s a).1 h), λ i a h. i a ((s a).0 h));
  unbounded = (
    λ u. absurd (no_worth p.objective (u zero_ℚ).by (u zero_ℚ).worth n (u zero_ℚ).worth_is),
    λ u. let b = u x in absurd (not_better q.goal x b.worth x (constant_is q x b.worth b.by c b.worth_is) refl b.better),
  );
}

pub same_answers_hold : SameAnswersHold
same_answers_hold = record { agreeing = agreeing; without_objective = without }
