-- Affine forms over the decisions (Chvatal, Linear Programming, chapter 1): a constant, and so many times each of some decisions.
use Rattle.std.specs.Prelude.{◌≢◌, ◌≤◌, ℕ, suc, Bool, true, false, ◌&&◌, ◌==◌, if◌then◌else◌, List, [], ◌∷◌, ⊤}
use Rattle.fractions.specs.Rational.{ℚ, ◌+ℚ◌, ◌*ℚ◌, neg_ℚ, zero_ℚ, one_ℚ, eq_ℚ}

-- a number for each decision
abbrev pub Assignment : Type 0
Assignment = ℕ → ℚ

-- a constant and terms, each the number of a decision and its coefficient
pub record AffineForm : Type 0 where
  pub constant : ℚ
  pub terms : List (ℕ × ℚ)

-- the decisions rise, the first is at least n, and no coefficient is 0
abbrev pub RiseFrom : ℕ → List (ℕ × ℚ) → Type 0
RiseFrom n [] = ⊤
RiseFrom n (t ∷ ts) = (n ≤ t.0) × (t.1 ≢ zero_ℚ) × RiseFrom (suc t.0) ts

-- a form's terms are in order and none is 0, so that each affine function has one form
pub record IsForm (f : AffineForm) : Type 0 where
  pub rise : RiseFrom 0 f.terms

-- ---- values
-- the sum of the terms at an assignment
abbrev pub sum_at : Assignment → List (ℕ × ℚ) → ℚ
sum_at x [] = zero_ℚ
sum_at x (t ∷ ts) = t.1 *ℚ x t.0 +ℚ sum_at x ts

-- the value at an assignment
abbrev pub worth : Assignment → AffineForm → ℚ
worth x f = f.constant +ℚ sum_at x f.terms

-- the coefficient of a decision, 0 where it has no term
abbrev pub coefficient : List (ℕ × ℚ) → ℕ → ℚ
coefficient [] j = zero_ℚ
coefficient (t ∷ ts) j = if t.0 == j then t.1 else coefficient ts j

-- ---- forms that need no calculation
-- the form of a number
abbrev pub constant_form : ℚ → AffineForm
constant_form c = record { constant = c; terms = [] }

-- the form of a decision
abbrev pub decision_form : ℕ → AffineForm
decision_form j = record { constant = zero_ℚ; terms = (j, one_ℚ) ∷ [] }

-- the terms with their signs turned
abbrev pub negated_terms : List (ℕ × ℚ) → List (ℕ × ℚ)
negated_terms [] = []
negated_terms (t ∷ ts) = (t.0, neg_ℚ t.1) ∷ negated_terms ts

-- the form with its sign turned
abbrev pub negated : AffineForm → AffineForm
negated f = record { constant = neg_ℚ f.constant; terms = negated_terms f.terms }

-- whether there is a term
abbrev pub are_some : List (ℕ × ℚ) → Bool
are_some [] = false
are_some (t ∷ ts) = true

-- whether it has a term, that is whether it isn't the same at every assignment
abbrev pub has_terms : AffineForm → Bool
has_terms f = are_some f.terms

-- ---- tests
-- whether two lists have the same terms
abbrev pub same_terms : List (ℕ × ℚ) → List (ℕ × ℚ) → Bool
same_terms [] [] = true
same_terms (t ∷ ts) (u ∷ us) = (t.0 == u.0) && (eq_ℚ t.1 u.1 && same_terms ts us)
same_terms _ _ = false

-- whether two forms are one
abbrev pub same_form : AffineForm → AffineForm → Bool
same_form f g = eq_ℚ f.constant g.constant && same_terms f.terms g.terms
