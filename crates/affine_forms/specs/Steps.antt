-- Operations on affine forms, as operations on their numbers in a stated order.
use Rattle.std.specs.Prelude.{ℕ, Bool, false, ◌==◌, nat_lt, if◌then◌else◌, List, [], ◌∷◌}
use Rattle.fractions.specs.Rational.{ℚ, zero_ℚ, eq_ℚ}
use Rattle.calculations.specs.Calculation.{Calculation, sum, product, quotient, done, after, followed_by, turned_into, through}
use Rattle.affine_forms.specs.Forms.{Assignment, AffineForm, coefficient, constant_form, negated, same_form}

-- a term in front of others, left out where its coefficient is 0
abbrev pub in_front : ℕ → ℚ → List (ℕ × ℚ) → List (ℕ × ℚ)
in_front j c ts = if eq_ℚ c zero_ℚ then ts else (j, c) ∷ ts

-- ---- sums: two coefficients of one decision are added
-- a term beside the terms us, where `rest` are the terms behind it beside given ones
abbrev pub beside : ℕ × ℚ → (List (ℕ × ℚ) → Calculation (List (ℕ × ℚ))) → List (ℕ × ℚ) → Calculation (List (ℕ × ℚ))
beside t rest [] = turned_into (λ ts. t ∷ ts) (rest [])
beside t rest (u ∷ us) =
    if nat_lt t.0 u.0 then turned_into (λ ts. t ∷ ts) (rest (u ∷ us))
    else if t.0 == u.0 then after (sum t.1 u.1) (λ c. turned_into (in_front t.0 c) (rest us))
    else turned_into (λ ts. u ∷ ts) (beside t rest us)

-- the terms of both, in order
abbrev pub merged : List (ℕ × ℚ) → List (ℕ × ℚ) → Calculation (List (ℕ × ℚ))
merged [] us = done us
merged (t ∷ ts) us = beside t (merged ts) us

-- a constant and terms together
abbrev pub with_constant : ℚ → List (ℕ × ℚ) → AffineForm
with_constant c ts = record { constant = c; terms = ts }

-- the sum: the constants, and then the terms
abbrev pub added : AffineForm → AffineForm → Calculation AffineForm
added f g = after (sum f.constant g.constant) (λ c. turned_into (with_constant c) (merged f.terms g.terms))

-- the difference is the sum with the second negated
abbrev pub subtracted : AffineForm → AffineForm → Calculation AffineForm
subtracted f g = added f (negated g)

-- ---- multiples
-- so many times each term
abbrev pub scaled_terms : ℚ → List (ℕ × ℚ) → Calculation (List (ℕ × ℚ))
scaled_terms k [] = done []
scaled_terms k (t ∷ ts) = after (product t.1 k) (λ c. turned_into (in_front t.0 c) (scaled_terms k ts))

-- so many times the form: the constant, and then the terms
abbrev pub scaled : ℚ → AffineForm → Calculation AffineForm
scaled k f = after (product f.constant k) (λ c. turned_into (with_constant c) (scaled_terms k f.terms))

-- whether f is a fraction times t, whose terms are given once more
abbrev pub multiple_by : AffineForm → AffineForm → List (ℕ × ℚ) → Calculation Bool
multiple_by f t [] = done false
multiple_by f t (u ∷ us) = after (quotient (coefficient f.terms u.0) u.1) (λ k. turned_into (same_form f) (scaled k t))

-- whether f is a fraction times t: their coefficients at t's first term are divided, t is multiplied by that, and compared with f
abbrev pub multiple_of : AffineForm → AffineForm → Calculation Bool
multiple_of f t = multiple_by f t t.terms

-- so many times the second added to the first: the products first, and then the sums
abbrev pub added_product : AffineForm → ℚ → AffineForm → Calculation AffineForm
added_product f k g = followed_by (scaled k g) (added f)

-- ---- values
-- the value at an assignment: from the constant, each product is added when it is made
abbrev pub evaluated_at : Assignment → AffineForm → Calculation ℚ
evaluated_at x f = through (λ so_far (t : ℕ × ℚ). after (product t.1 (x t.0)) (λ p. after (sum so_far p) done)) f.constant f.terms

-- ---- sums of several
-- the sum of some forms, from 0
abbrev pub total : List AffineForm → Calculation AffineForm
total fs = through added (constant_form zero_ℚ) fs
