-- The decisions of a difference are those of its sides.
use Rattle.std.specs.Prelude.{◌==◌, nat_lt}
use Rattle.std.proofs.Common.{sym, subst, ℕ, ◌<◌, Bool, true, false, if◌then◌else◌, List, [], ◌∷◌}
use Rattle.fractions.specs.Rational.{ℚ, zero_ℚ, eq_ℚ, ◌+ℚ◌}
use Rattle.affine_forms.specs.FromCalculations.{Calculation, sum, after, exact, turned_into}
use Rattle.affine_forms.specs.Forms.{AffineForm, negated, negated_terms}
use Rattle.affine_forms.specs.Assigned.{ReachTo}
use Rattle.affine_forms.specs.Steps.{beside, merged, in_front, added, subtracted, with_constant}
use Rattle.affine_forms.proofs.Exact.{exact-turned_into}
use Rattle.affine_forms.proofs.Worths.{added_is_form, negated_is_form}
use Rattle.linear_models.specs.Model.{IsFormOf}

pub reach_negated : (n : ℕ) (ts : List (ℕ × ℚ)) → ReachTo ts n → ReachTo (negated_terms ts) n
reach_negated n [] h = tt
reach_negated n (t ∷ ts) h = (h.0, reach_negated n ts h.1)

front_reach : (n j : ℕ) (c : ℚ) (ts : List (ℕ × ℚ)) → j < n → ReachTo ts n → ReachTo (in_front j c ts) n
front_reach n j c ts h r = by_test (eq_ℚ c zero_ℚ)
  where
    by_test : (b : Bool) → ReachTo (if b then ts else ((j, c) ∷ ts)) n
    by_test true = r
    by_test false = (h, r)

module _ (n : ℕ) (t : ℕ × ℚ) (rest : List (ℕ × ℚ) → Calculation (List (ℕ × ℚ))) (p : t.0 < n)
    (h : (us : List (ℕ × ℚ)) → ReachTo us n → ReachTo (exact (rest us)) n) where
  beside_reach : (us : List (ℕ × ℚ)) → ReachTo us n → ReachTo (exact (beside t rest us)) n
  beside_reach [] q = subst (λ ts. ReachTo ts n) (sym (exact-turned_into (λ vs. t ∷ vs) (rest []))) (p, h [] tt)
  beside_reach (u ∷ us) q = by_tests (beside_reach us q.1) (nat_lt t.0 u.0) (t.0 == u.0)
    where
      by_tests : ReachTo (exact (beside t rest us)) n → (a b : Bool)
          → ReachTo (exact (if a then turned_into (λ vs. t ∷ vs) (rest (u ∷ us)) else if b then after (sum t.1 u.1) (λ c. turned_into (in_front t.0 c) (rest us)) else turned_into (λ vs. u ∷ vs) (beside t rest us))) n
      by_tests ih true b = subst (λ ts. ReachTo ts n) (sym (exact-turned_into (λ vs. t ∷ vs) (rest (u ∷ us)))) (p, h (u ∷ us) q)
      by_tests ih false true = subst (λ ts. ReachTo ts n) (sym (exact-turned_into (in_front t.0 (t.1 +ℚ u.1)) (rest us))) (front_reach n t.0 (t.1 +ℚ u.1) _ p (h us q.1))
      by_tests ih false false = subst (λ ts. ReachTo ts n) (sym (exact-turned_into (λ vs. u ∷ vs) (beside t rest us))) (q.0, ih)

merged_reach : (n : ℕ) (ts us : List (ℕ × ℚ)) → ReachTo ts n → ReachTo us n → ReachTo (exact (merged ts us)) n
merged_reach n [] us r q = q
merged_reach n (t ∷ ts) us r q = beside_reach n t (merged ts) r.0 (λ us q. merged_reach n ts us r.1 q) us q

added_reach : (n : ℕ) (f g : AffineForm) → ReachTo f.terms n → ReachTo g.terms n → ReachTo (exact (added f g)).terms n
added_reach n f g r q =
    subst (λ (h : AffineForm). ReachTo h.terms n) (sym (exact-turned_into (with_constant (f.constant +ℚ g.constant)) (merged f.terms g.terms))) (merged_reach n f.terms g.terms r q)

pub difference_is_form : (n : ℕ) (f g : AffineForm) → IsFormOf n f → IsFormOf n g → IsFormOf n (exact (subtracted f g))
difference_is_form n f g r q = record {
  form = added_is_form f (negated g) r.form (negated_is_form g q.form);
  reach = added_reach n f (negated g) r.reach (reach_negated n g.terms q.reach);
}
