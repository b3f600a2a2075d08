-- Affine forms: a constant plus a multiple of each variable.
use Rattle.std.specs.Prelude.{◌≡◌, ◌↔◌, ℕ, List}
use Rattle.fractions.specs.Rational.{ℚ, ◌+ℚ◌, ◌*ℚ◌, neg_ℚ, inv_ℚ, zero_ℚ}
use Rattle.fractions.specs.Vectors.{dot, plus, times, at, without, only, with_at}

-- a constant and a list of coefficients, one a variable
pub record Affine : Type 0 where
  pub constant : ℚ
  pub coefficients : List ℚ

-- the value at a point
abbrev pub eval : Affine → List ℚ → ℚ
eval a x = a.constant +ℚ dot a.coefficients x

-- the sum of two forms
abbrev pub affine_add : Affine → Affine → Affine
affine_add a b = record { constant = a.constant +ℚ b.constant; coefficients = plus a.coefficients b.coefficients }

-- k times a form
abbrev pub affine_scale : ℚ → Affine → Affine
affine_scale k a = record { constant = k *ℚ a.constant; coefficients = times k a.coefficients }

-- the form with b in place of the variable i
abbrev pub affine_put : Affine → ℕ → Affine → Affine
affine_put a i b =
    affine_add record { constant = a.constant; coefficients = without a.coefficients i } (affine_scale (at a.coefficients i) b)

-- the row `b = a`, with a coefficient other than 0 at the variable i, solved for that variable: b now stands in its place
abbrev pub solved : Affine → ℕ → Affine
solved a i =
    let r = inv_ℚ (at a.coefficients i) in
    record { constant = neg_ℚ (a.constant *ℚ r); coefficients = plus (times (neg_ℚ r) (without a.coefficients i)) (only i r) }

-- a point that meets the row `b = a` meets the solved row, with b in the variable's place, and the other way round
abbrev pub SolvedRowKeeps : Type 0
SolvedRowKeeps = (a : Affine) (i : ℕ) (x : List ℚ) (b : ℚ) → ¬ (at a.coefficients i ≡ zero_ℚ)
    → (b ≡ eval a x) ↔ (at x i ≡ eval (solved a i) (with_at x i b))
