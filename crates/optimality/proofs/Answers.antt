-- The laws of answers.
use Rattle.std.proofs.Common.{◌≡◌, ◌≢◌, Some, refl, sym, subst, ◌∙◌, ⊎_elim}
use Rattle.fractions.specs.Rational.{ℚ, zero_ℚ, ◌≤ℚ◌}
use Rattle.fractions.proofs.Field.{ordered_field}
use Rattle.fractions.proofs.Tests.{le_or_lt}
use Rattle.optimality.specs.Problem.{Assignment, Problem, Goal, greatest, least, reach}
use Rattle.optimality.specs.Optimal.{Infeasible, Unbounded, Permitted, Better, IsBetter, Optimal, Beats, objective_at}
use Rattle.optimality.specs.Laws.{AnswersExclude, OneBestValue, Agree}

beaten : (p : Problem) (a : Assignment) (x : ℚ) → Optimal p a → objective_at p a ≡ Some x → Beats p x → ⊥
beaten p a x o is b = o.best b.by b.permitted record { mine = b.worth; other = x; mine_is = b.worth_is; other_is = is; better = b.better }

pub answers_exclude : AnswersExclude
answers_exclude = record {
  optimal_feasible = λ p a o i. i a o.permitted;
  optimal_bounded = λ p a x o is u. beaten p a x o is (u x);
  unbounded_feasible = λ p u i. i (u zero_ℚ).by (u zero_ℚ).permitted;
}

-- neither of two numbers is better than the other
same : (g : Goal) (x y : ℚ) → ((v : ℚ) → g ≢ reach v) → ¬ (IsBetter g x y) → ¬ (IsBetter g y x) → x ≡ y
same greatest x y apart a b = ⊎_elim (λ (l : x ≤ℚ y). ⊎_elim (λ (m : y ≤ℚ x). ordered_field.le_antisymm x y l m) (λ m. absurd (b m)) (le_or_lt y x)) (λ l. absurd (a l)) (le_or_lt x y)
same least x y apart a b = ⊎_elim (λ (l : x ≤ℚ y). ⊎_elim (λ (m : y ≤ℚ x). ordered_field.le_antisymm x y l m) (λ m. absurd (a m)) (le_or_lt y x)) (λ l. absurd (b l)) (le_or_lt x y)
same (reach v) x y apart a b = absurd (apart v refl)

pub one_best_value : OneBestValue
one_best_value p a b x y oa ob xs ys apart =
    same p.goal x y apart
    (λ w. ob.best a oa.permitted record { mine = x; other = y; mine_is = xs; other_is = ys; better = w })
    (λ w. oa.best b ob.permitted record { mine = y; other = x; mine_is = ys; other_is = xs; better = w })

better_moves : (p q : Problem) (a b : Assignment) → Agree p q → Permitted p a → Permitted p b → Better q a b → Better p a b
better_moves p q a b g pa pb w = record {
  mine = w.mine;
  other = w.other;
  mine_is = g.objective a pa ∙ w.mine_is;
  other_is = g.objective b pb ∙ w.other_is;
  better = subst (λ (x : Goal). IsBetter x w.mine w.other) (sym g.goal) w.better;
}

-- two problems that agree have the same answers
pub record AgreeingAnswers : Type 0 where
  pub optimal : (p q : Problem) (a : Assignment) → Agree p q → Optimal p a → Optimal q a
  pub infeasible : (p q : Problem) → Agree p q → Infeasible p → Infeasible q
  pub unbounded : (p q : Problem) → Agree p q → Unbounded p → Unbounded q

pub agreeing_answers : AgreeingAnswers
agreeing_answers = record {
  optimal = λ p q a g o. record {
    permitted = (g.permitted a).0 o.permitted;
    best = λ b pb w. o.best b ((g.permitted b).1 pb) (better_moves p q b a g ((g.permitted b).1 pb) o.permitted w);
  };
  infeasible = λ p q g i a h. i a ((g.permitted a).1 h);
  unbounded = λ p q g u x. let b = u x in record {
    by = b.by;
    permitted = (g.permitted b.by).0 b.permitted;
    worth = b.worth;
    worth_is = sym (g.objective b.by b.permitted) ∙ b.worth_is;
    better = subst (λ (y : Goal). IsBetter y b.worth x) g.goal b.better;
  };
}
