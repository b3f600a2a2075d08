-- Values of forms that operations give, and their terms in order.
use Rattle.std.specs.Prelude.{◌≢◌, ◌==◌, nat_lt}
use Rattle.std.proofs.Common.{◌≡◌, refl, sym, ap, ◌∙◌, subst, ℕ, suc, ◌≤◌, ◌<◌, Bool, true, false, if◌then◌else◌, List, [], ◌∷◌, arith}
use Rattle.std.proofs.lemmas.Bool.{ltb-true, ltb-false, eqb-true, eqb-false}
use Rattle.fractions.specs.Rational.{ℚ, zero_ℚ, eq_ℚ, neg_ℚ, ◌*ℚ◌, ◌+ℚ◌, ◌-ℚ◌}
use Rattle.fractions.proofs.Order.{eq_iff}
use Rattle.fractions.proofs.Laws.{ring_laws, neg-neg, neg-zero, zero-mul, zero-add}
use Rattle.calculations.specs.Calculation.{Calculation, done, after, exact, turned_into, followed_by, through}
use Rattle.affine_forms.specs.Forms.{Assignment, AffineForm, RiseFrom, IsForm, worth, sum_at, negated, negated_terms}
use Rattle.affine_forms.specs.Steps.{beside, merged, in_front, scaled_terms, added, scaled, subtracted, with_constant}
use Rattle.affine_forms.proofs.Exact.{exact-turned_into}
use Rattle.affine_forms.proofs.Rising.{rise_lower, front_rises}

-- ---- values
front_worth : (x : Assignment) (j : ℕ) (c : ℚ) (ts : List (ℕ × ℚ)) → sum_at x (in_front j c ts) ≡ c *ℚ x j +ℚ sum_at x ts
front_worth x j c ts = by_test (eq_ℚ c zero_ℚ) refl
  where
    nothing : (c s t : ℚ) → c ≡ zero_ℚ → t ≡ c *ℚ s +ℚ t
    nothing c s t e = sym (ap (λ k. k *ℚ s +ℚ t) e ∙ ap (λ k. k +ℚ t) (zero-mul s) ∙ zero-add t)

    by_test : (b : Bool) → eq_ℚ c zero_ℚ ≡ b → sum_at x (if b then ts else ((j, c) ∷ ts)) ≡ c *ℚ x j +ℚ sum_at x ts
    by_test true e = nothing c (x j) (sum_at x ts) ((eq_iff c zero_ℚ).0 e)
    by_test false e = refl

module _ (x : Assignment) (t : ℕ × ℚ) (rest : List (ℕ × ℚ) → Calculation (List (ℕ × ℚ))) (s : ℚ) (h : (us : List (ℕ × ℚ)) → sum_at x (exact (rest us)) ≡ s +ℚ sum_at x us) where
  in_order : (p s r : ℚ) → p +ℚ (s +ℚ r) ≡ (p +ℚ s) +ℚ r
  in_order p s r = simp ring_laws

  passed : (q p s r : ℚ) → q +ℚ ((p +ℚ s) +ℚ r) ≡ (p +ℚ s) +ℚ (q +ℚ r)
  passed q p s r = simp ring_laws

  together : (a b y z s r : ℚ) → y ≡ z → (a +ℚ b) *ℚ y +ℚ (s +ℚ r) ≡ (a *ℚ y +ℚ s) +ℚ (b *ℚ z +ℚ r)
  together a b y z s r e = rw e (simp ring_laws)

  pub beside_worth : (us : List (ℕ × ℚ)) → sum_at x (exact (beside t rest us)) ≡ (t.1 *ℚ x t.0 +ℚ s) +ℚ sum_at x us
  beside_worth [] = ap (sum_at x) (exact-turned_into (λ ts. t ∷ ts) (rest [])) ∙ ap (λ k. t.1 *ℚ x t.0 +ℚ k) (h []) ∙ in_order _ _ _
  beside_worth (u ∷ us) = by_tests (beside_worth us) (nat_lt t.0 u.0) (t.0 == u.0) refl
    where
      by_tests : sum_at x (exact (beside t rest us)) ≡ (t.1 *ℚ x t.0 +ℚ s) +ℚ sum_at x us → (a b : Bool) → (t.0 == u.0) ≡ b
          → sum_at x (exact (if a then turned_into (λ ts. t ∷ ts) (rest (u ∷ us)) else if b then after (Rattle.calculations.specs.Calculation.sum t.1 u.1) (λ c. turned_into (in_front t.0 c) (rest us)) else turned_into (λ ts. u ∷ ts) (beside t rest us)))
          ≡ (t.1 *ℚ x t.0 +ℚ s) +ℚ (u.1 *ℚ x u.0 +ℚ sum_at x us)
      by_tests ih true b e = ap (sum_at x) (exact-turned_into (λ ts. t ∷ ts) (rest (u ∷ us))) ∙ ap (λ k. t.1 *ℚ x t.0 +ℚ k) (h (u ∷ us)) ∙ in_order _ _ _
      by_tests ih false true e =
          ap (sum_at x) (exact-turned_into (in_front t.0 (t.1 +ℚ u.1)) (rest us))
          ∙ front_worth x t.0 (t.1 +ℚ u.1) (exact (rest us))
          ∙ ap (λ k. (t.1 +ℚ u.1) *ℚ x t.0 +ℚ k) (h us)
          ∙ together t.1 u.1 (x t.0) (x u.0) s (sum_at x us) (ap x (eqb-true t.0 u.0 e))
      by_tests ih false false e =
          ap (sum_at x) (exact-turned_into (λ ts. u ∷ ts) (beside t rest us)) ∙ ap (λ k. u.1 *ℚ x u.0 +ℚ k) ih ∙ passed _ _ _ _

pub merged_worth : (x : Assignment) (ts us : List (ℕ × ℚ)) → sum_at x (exact (merged ts us)) ≡ sum_at x ts +ℚ sum_at x us
merged_worth x [] us = sym (zero-add _)
merged_worth x (t ∷ ts) us = beside_worth x t (merged ts) (sum_at x ts) (merged_worth x ts) us

pub added_worth : (x : Assignment) (f g : AffineForm) → worth x (exact (added f g)) ≡ worth x f +ℚ worth x g
added_worth x f g =
    ap (worth x) (exact-turned_into (with_constant (f.constant +ℚ g.constant)) (merged f.terms g.terms))
    ∙ ap (λ k. (f.constant +ℚ g.constant) +ℚ k) (merged_worth x f.terms g.terms) ∙ regrouped _ _ _ _
  where
    regrouped : (a b c d : ℚ) → (a +ℚ b) +ℚ (c +ℚ d) ≡ (a +ℚ c) +ℚ (b +ℚ d)
    regrouped a b c d = simp ring_laws

negated_sum : (x : Assignment) (ts : List (ℕ × ℚ)) → sum_at x (negated_terms ts) ≡ neg_ℚ (sum_at x ts)
negated_sum x [] = sym neg-zero
negated_sum x (t ∷ ts) = ap (λ k. neg_ℚ t.1 *ℚ x t.0 +ℚ k) (negated_sum x ts) ∙ regrouped _ _ _
  where
    regrouped : (a b c : ℚ) → neg_ℚ a *ℚ b +ℚ neg_ℚ c ≡ neg_ℚ (a *ℚ b +ℚ c)
    regrouped a b c = simp ring_laws

pub negated_worth : (x : Assignment) (f : AffineForm) → worth x (negated f) ≡ neg_ℚ (worth x f)
negated_worth x f = ap (λ k. neg_ℚ f.constant +ℚ k) (negated_sum x f.terms) ∙ regrouped _ _
  where
    regrouped : (a b : ℚ) → neg_ℚ a +ℚ neg_ℚ b ≡ neg_ℚ (a +ℚ b)
    regrouped a b = simp ring_laws

pub subtracted_worth : (x : Assignment) (f g : AffineForm) → worth x (exact (subtracted f g)) ≡ worth x f -ℚ worth x g
subtracted_worth x f g = added_worth x f (negated g) ∙ ap (λ k. worth x f +ℚ k) (negated_worth x g)

pub scaled_sum : (x : Assignment) (k : ℚ) (ts : List (ℕ × ℚ)) → sum_at x (exact (scaled_terms k ts)) ≡ sum_at x ts *ℚ k
scaled_sum x k [] = sym (zero-mul k)
scaled_sum x k (t ∷ ts) =
    ap (sum_at x) (exact-turned_into (in_front t.0 (t.1 *ℚ k)) (scaled_terms k ts)) ∙ front_worth x t.0 (t.1 *ℚ k) _
    ∙ ap (λ r. t.1 *ℚ k *ℚ x t.0 +ℚ r) (scaled_sum x k ts) ∙ regrouped _ _ _ _
  where
    regrouped : (a k b s : ℚ) → a *ℚ k *ℚ b +ℚ s *ℚ k ≡ (a *ℚ b +ℚ s) *ℚ k
    regrouped a k b s = simp ring_laws

pub scaled_worth : (x : Assignment) (k : ℚ) (f : AffineForm) → worth x (exact (scaled k f)) ≡ worth x f *ℚ k
scaled_worth x k f =
    ap (worth x) (exact-turned_into (with_constant (f.constant *ℚ k)) (scaled_terms k f.terms)) ∙ ap (λ r. f.constant *ℚ k +ℚ r) (scaled_sum x k f.terms) ∙ regrouped _ _ _
  where
    regrouped : (a k s : ℚ) → a *ℚ k +ℚ s *ℚ k ≡ (a +ℚ s) *ℚ k
    regrouped a k s = simp ring_laws

-- ---- order
module _ (t : ℕ × ℚ) (ts : List (ℕ × ℚ)) (rest : List (ℕ × ℚ) → Calculation (List (ℕ × ℚ)))
    (h : (m : ℕ) (us : List (ℕ × ℚ)) → RiseFrom m ts → RiseFrom m us → RiseFrom m (exact (rest us))) where
  pub beside_rises : (n : ℕ) (us : List (ℕ × ℚ)) → RiseFrom n (t ∷ ts) → RiseFrom n us → RiseFrom n (exact (beside t rest us))
  beside_rises n [] r q = subst (RiseFrom n) (sym (exact-turned_into (λ vs. t ∷ vs) (rest []))) (r.0, r.1, h (suc t.0) [] r.2 tt)
  beside_rises n (u ∷ us) r q = by_tests (λ m r q. beside_rises m us r q) (nat_lt t.0 u.0) (t.0 == u.0) refl refl
    where
      by_tests : ((m : ℕ) → RiseFrom m (t ∷ ts) → RiseFrom m us → RiseFrom m (exact (beside t rest us))) → (a b : Bool) → nat_lt t.0 u.0 ≡ a → (t.0 == u.0) ≡ b
          → RiseFrom n (exact (if a then turned_into (λ vs. t ∷ vs) (rest (u ∷ us)) else if b then after (Rattle.calculations.specs.Calculation.sum t.1 u.1) (λ c. turned_into (in_front t.0 c) (rest us)) else turned_into (λ vs. u ∷ vs) (beside t rest us)))
      by_tests ih true b d e =
          let below : t.0 < u.0 = ltb-true t.0 u.0 d in
          subst (RiseFrom n) (sym (exact-turned_into (λ vs. t ∷ vs) (rest (u ∷ us)))) (r.0, r.1, h (suc t.0) (u ∷ us) r.2 (omega arith, q.1, q.2))
      by_tests ih false true d e =
          let same : t.0 ≡ u.0 = eqb-true t.0 u.0 e in
          subst (RiseFrom n) (sym (exact-turned_into (in_front t.0 (t.1 +ℚ u.1)) (rest us)))
          (front_rises n t.0 (t.1 +ℚ u.1) (exact (rest us)) r.0 (h (suc t.0) us r.2 (rise_lower (suc u.0) (suc t.0) us (omega arith) q.2)))
      by_tests ih false false d e =
          let above : u.0 ≤ t.0 = ltb-false t.0 u.0 d in
          let other : ¬ (t.0 ≡ u.0) = eqb-false t.0 u.0 e in
          subst (RiseFrom n) (sym (exact-turned_into (λ vs. u ∷ vs) (beside t rest us)))
          (q.0, q.1, ih (suc u.0) (omega (arith, other), r.1, r.2) q.2)

pub merged_rises : (n : ℕ) (ts us : List (ℕ × ℚ)) → RiseFrom n ts → RiseFrom n us → RiseFrom n (exact (merged ts us))
merged_rises n [] us r q = q
merged_rises n (t ∷ ts) us r q = beside_rises t ts (merged ts) (λ m us r q. merged_rises m ts us r q) n us r q

pub added_is_form : (f g : AffineForm) → IsForm f → IsForm g → IsForm (exact (added f g))
added_is_form f g h k =
    subst IsForm (sym (exact-turned_into (with_constant (f.constant +ℚ g.constant)) (merged f.terms g.terms)))
    record { rise = merged_rises 0 f.terms g.terms h.rise k.rise }

some_negated : (c : ℚ) → c ≢ zero_ℚ → neg_ℚ c ≢ zero_ℚ
some_negated c h e = h (sym (neg-neg c) ∙ ap neg_ℚ e ∙ neg-zero)

pub negated_rise : (n : ℕ) (ts : List (ℕ × ℚ)) → RiseFrom n ts → RiseFrom n (negated_terms ts)
negated_rise n [] r = tt
negated_rise n (t ∷ ts) r = (r.0, some_negated t.1 r.1, negated_rise (suc t.0) ts r.2)

pub negated_is_form : (f : AffineForm) → IsForm f → IsForm (negated f)
negated_is_form f h = record { rise = negated_rise 0 f.terms h.rise }

pub scaled_rise : (n : ℕ) (k : ℚ) (ts : List (ℕ × ℚ)) → RiseFrom n ts → RiseFrom n (exact (scaled_terms k ts))
scaled_rise n k [] r = tt
scaled_rise n k (t ∷ ts) r =
    subst (RiseFrom n) (sym (exact-turned_into (in_front t.0 (t.1 *ℚ k)) (scaled_terms k ts))) (front_rises n t.0 (t.1 *ℚ k) _ r.0 (scaled_rise (suc t.0) k ts r.2))

pub scaled_is_form : (k : ℚ) (f : AffineForm) → IsForm f → IsForm (exact (scaled k f))
scaled_is_form k f h =
    subst IsForm (sym (exact-turned_into (with_constant (f.constant *ℚ k)) (scaled_terms k f.terms))) record { rise = scaled_rise 0 k f.terms h.rise }
