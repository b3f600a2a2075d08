-- Terms in order.
use Rattle.std.specs.Prelude.{◌≢◌}
use Rattle.std.proofs.Common.{◌≡◌, refl, sym, ◌∙◌, ℕ, suc, ◌≤◌, Bool, true, false, if◌then◌else◌, List, [], ◌∷◌, arith}
use Rattle.fractions.specs.Rational.{ℚ, zero_ℚ, one_ℚ, eq_ℚ}
use Rattle.fractions.proofs.Order.{zero_lt_one, ne_of_lt, eq_iff}
use Rattle.affine_forms.specs.Forms.{RiseFrom}
use Rattle.affine_forms.specs.Steps.{in_front}

pub one_is_some : (x : ℚ) → x ≡ one_ℚ → x ≢ zero_ℚ
one_is_some x e h = ne_of_lt zero_ℚ one_ℚ zero_lt_one (sym h ∙ e)

-- in order from a number on, and so from a lower one on
pub rise_lower : (n m : ℕ) (ts : List (ℕ × ℚ)) → m ≤ n → RiseFrom n ts → RiseFrom m ts
rise_lower n m [] h r = tt
rise_lower n m (t ∷ ts) h r = let a : n ≤ t.0 = r.0 in (omega arith, r.1, r.2)

pub not_eq_ℚ : (x y : ℚ) → eq_ℚ x y ≡ false → x ≢ y
not_eq_ℚ x y e h = let s : eq_ℚ x y ≡ true = (eq_iff x y).1 h in cc

-- a term put in front of terms that rise from behind it
pub front_rises : (n j : ℕ) (c : ℚ) (ts : List (ℕ × ℚ)) → n ≤ j → RiseFrom (suc j) ts → RiseFrom n (in_front j c ts)
front_rises n j c ts h r = by_test (eq_ℚ c zero_ℚ) refl
  where
    by_test : (b : Bool) → eq_ℚ c zero_ℚ ≡ b → RiseFrom n (if b then ts else ((j, c) ∷ ts))
    by_test true e = rise_lower (suc j) n ts (omega arith) r
    by_test false e = (h, not_eq_ℚ c zero_ℚ e, r)
