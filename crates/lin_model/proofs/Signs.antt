-- Rows of bounds, and forms with their signs turned.
use Rattle.std.specs.Prelude.{◌≢◌}
use Rattle.std.proofs.Common.{◌≡◌, ℕ, zero, suc, ◌<◌, length, get_or, arith, subst, Bool, true, false, List, [], ◌∷◌, Some, cond, refl, sym, ap, ◌∙◌}
use Rattle.fractions.specs.Rational.{ℚ, neg_ℚ, zero_ℚ, one_ℚ, eq_ℚ}
use Rattle.fractions.proofs.Order.{eq_iff}
use Rattle.affine_forms.specs.Forms.{AffineForm}
use Rattle.affine_forms.specs.Assigned.{ReachTo}
use Rattle.linear_models.specs.Standard.{limits_of_least}
use Rattle.linear_models.proofs.Regular.{one_is_some, minus_one_is_some}

-- a least value of 0 has no row
pub least_none : (j : ℕ) (b : ℚ) → b ≡ zero_ℚ → limits_of_least j (Some b) ≡ []
least_none j b e = let q : eq_ℚ b zero_ℚ ≡ true = (eq_iff b zero_ℚ).1 e in let one : List AffineForm = record { constant = b; terms = (j, neg_ℚ one_ℚ) ∷ [] } ∷ [] in ap (λ v. cond v [] one) q

-- any other has one
pub least_some : (j : ℕ) (b : ℚ) → ¬ (b ≡ zero_ℚ) → limits_of_least j (Some b) ≡ record { constant = b; terms = (j, neg_ℚ one_ℚ) ∷ [] } ∷ []
least_some j b n = cases (eq_ℚ b zero_ℚ) refl
  where
    cases : (v : Bool) → eq_ℚ b zero_ℚ ≡ v → cond {A = List AffineForm} v [] (record { constant = b; terms = (j, neg_ℚ one_ℚ) ∷ [] } ∷ []) ≡ record { constant = b; terms = (j, neg_ℚ one_ℚ) ∷ [] } ∷ []
    cases true e = absurd (n ((eq_iff b zero_ℚ).0 e))
    cases false e = refl

-- a term's decision is below the bound of all
pub reach_at : (ts : List (ℕ × ℚ)) (n k : ℕ) (t : ℕ × ℚ) → ReachTo ts n → k < length ts → t ≡ get_or ts k t → t.0 < n
reach_at [] n k t r h e = absurd (omega arith)
reach_at (u ∷ ts) n zero t r h e = subst (λ (v : ℕ × ℚ). v.0 < n) (sym e) r.0
reach_at (u ∷ ts) n (suc k) t r h e = reach_at ts n k t r.1 (omega arith) e

pub is_one : (x : ℚ) → x ≡ one_ℚ → x ≢ zero_ℚ
is_one x e h = one_is_some (sym e ∙ h)

pub is_minus_one : (x y : ℚ) → x ≡ one_ℚ → y ≡ neg_ℚ x → y ≢ zero_ℚ
is_minus_one x y e f h = minus_one_is_some (sym (f ∙ ap neg_ℚ e) ∙ h)
