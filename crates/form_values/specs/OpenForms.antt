-- Forms that aren't the same at every assignment.
use Rattle.std.specs.Prelude.{IsTrue, ℕ, suc, Bool, true, ◌&&◌, not, nat_le, List, [], ◌∷◌}
use Rattle.std.proofs.Common.{ap}
use Rattle.std.proofs.Math.Dec.{leb-zero}
use Rattle.fractions.specs.Rational.{ℚ, zero_ℚ, eq_ℚ, computed}
use Rattle.affine_forms.specs.Forms.{AffineForm, has_terms, decision_form}

-- the decisions of terms rise, the first is at least n, and no coefficient is 0
abbrev pub rises_from : ℕ → List (ℕ × ℚ) → Bool
rises_from n [] = true
rises_from n (t ∷ ts) = nat_le n t.0 && (not (eq_ℚ t.1 zero_ℚ) && rises_from (suc t.0) ts)

-- a form with a term
abbrev pub is_open : AffineForm → Bool
is_open f = has_terms f && rises_from 0 f.terms

-- as that of a decision is
pub decision_is_open : (j : ℕ) → IsTrue (is_open (decision_form j))
unfolding computed eq_ℚ
decision_is_open j = ap (λ b. b && true) (leb-zero j)
