-- The numbers of a row where another comes in, one by one.
use Rattle.std.proofs.Common.{◌≡◌, ℕ, sym, ap₂, ◌∙◌, subst, List}
use Rattle.fractions.specs.Rational.{ℚ, ◌+ℚ◌, ◌*ℚ◌}
use Rattle.fractions.specs.Vectors.{at, without}
use Rattle.dictionaries.specs.Dictionary.{substituted}
use Rattle.dictionaries.specs.Narrow.{IsNarrowStep}
use Rattle.tableau.proofs.Zeros.{at-substituted}

pub same_step : (a b c x y z : ℚ) → a ≡ x → b ≡ y → c ≡ z → IsNarrowStep x y z → IsNarrowStep a b c
same_step a b c x y z e f g n =
    subst (λ t. IsNarrowStep t b c) (sym e) (subst (λ t. IsNarrowStep x t c) (sym f) (subst (λ t. IsNarrowStep x y t) (sym g) n))

pub sum_added : (row by : List ℚ) (k j : ℕ) (entry factor number sum : ℚ) → entry ≡ at (without row k) j → factor ≡ at row k → number ≡ at by j
    → sum ≡ entry +ℚ factor *ℚ number → sum ≡ at (substituted row k by) j
sum_added row by k j entry factor number sum e f g s =
    s ∙ ap₂ ◌+ℚ◌ e (ap₂ ◌*ℚ◌ f g) ∙ sym (at-substituted row k by j)
