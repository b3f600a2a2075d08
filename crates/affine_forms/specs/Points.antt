-- Points and directions among the assignments, at which forms have wanted values, stay or change. (Chvatal, Linear Programming,
-- chapter 1.)
use Rattle.std.specs.Prelude.{◌≡◌, ◌≢◌}
use Rattle.fractions.specs.Rational.{ℚ, zero_ℚ, ◌+ℚ◌, ◌*ℚ◌}
use Rattle.affine_forms.specs.Forms.{Assignment, AffineForm, worth, sum_at}

-- a point moved so far along a direction
abbrev pub moved : Assignment → ℚ → Assignment → Assignment
moved p k d = λ j. p j +ℚ k *ℚ d j

-- a direction along which a form changes
pub record Moves (f : AffineForm) : Type 0 where
  pub direction : Assignment
  pub changes : sum_at direction f.terms ≢ zero_ℚ

-- a direction along which two forms change
pub record BothMove (f g : AffineForm) : Type 0 where
  pub direction : Assignment
  pub first : sum_at direction f.terms ≢ zero_ℚ
  pub second : sum_at direction g.terms ≢ zero_ℚ

-- a direction along which t stays and f changes
pub record Turns (f t : AffineForm) : Type 0 where
  pub direction : Assignment
  pub stays : sum_at direction t.terms ≡ zero_ℚ
  pub changes : sum_at direction f.terms ≢ zero_ℚ

-- a point at which two forms differ
pub record Apart (f g : AffineForm) : Type 0 where
  pub point : Assignment
  pub differ : worth point f ≢ worth point g

-- everywhere d is so many times t
pub record Multiple (d t : AffineForm) : Type 0 where
  pub factor : ℚ
  pub is : (x : Assignment) → worth x d ≡ worth x t *ℚ factor

-- everywhere f is so many times t and a number more
pub record Follows (f t : AffineForm) : Type 0 where
  pub factor : ℚ
  pub more : ℚ
  pub is : (x : Assignment) → worth x f ≡ worth x t *ℚ factor +ℚ more

-- a point at which t is 0 and d isn't
pub record Crossed (d t : AffineForm) : Type 0 where
  pub point : Assignment
  pub zero : worth point t ≡ zero_ℚ
  pub some : worth point d ≢ zero_ℚ
