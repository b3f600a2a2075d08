-- The tests behind the order.
use Rattle.std.proofs.Common.{◌≡◌, refl, sym, subst, Bool, true, false, not, T, ◌↔◌, ◌⊎◌, inl, inr, IsTrue}
use Rattle.fractions.specs.Rational.{ℚ, le_ℚ, ◌≤ℚ◌, ◌<ℚ◌}

not_T : (b : Bool) → T (not b) ↔ ¬ (T b)
not_T true = (λ t f. t, λ n. n tt)
not_T false = (λ t f. f, λ n. tt)

pub lt_iff : (x y : ℚ) → (x <ℚ y) ↔ ¬ (y ≤ℚ x)
lt_iff x y = (λ h i. (not_T (le_ℚ y x)).0 h.below i.at_most, λ n. record { below = (not_T (le_ℚ y x)).1 (λ t. n record { at_most = t }) })

pub le_or_lt : (x y : ℚ) → (x ≤ℚ y) ⊎ (y <ℚ x)
le_or_lt x y = cases (le_ℚ x y) refl
  where
    cases : (b : Bool) → le_ℚ x y ≡ b → (x ≤ℚ y) ⊎ (y <ℚ x)
    cases true e = inl record { at_most = subst T (sym e) tt }
    cases false e = inr record { below = subst (λ (b : Bool). T (not b)) (sym e) tt }

pub is_so : (b : Bool) → T b ↔ IsTrue b
is_so true = (λ t. refl, λ e. tt)
is_so false = (λ t. absurd t, λ e. cc)

-- `le_ℚ` and `eq_ℚ` are the tests
pub le_iff : (x y : ℚ) → IsTrue (le_ℚ x y) ↔ (x ≤ℚ y)
le_iff x y = (λ e. record { at_most = (is_so (le_ℚ x y)).1 e }, λ h. (is_so (le_ℚ x y)).0 h.at_most)
