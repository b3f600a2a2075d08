-- What is true of forms and of relations. (Chvatal, Linear Programming, chapter 1.)
use Rattle.std.specs.Prelude.{IsSome, [], ◌∷◌, ◌≡◌, ◌≢◌, ◌↔◌, ◌⊎◌, IsTrue, ℕ, true, false, List, map}
use Rattle.std.specs.List.{AllByRecursion}
use Rattle.fractions.specs.Rational.{ℚ, ◌+ℚ◌, ◌*ℚ◌, ◌-ℚ◌, neg_ℚ}
use Rattle.fractions.specs.Vectors.{sum_ℚ}
use Rattle.frac128.specs.Narrow.{IsNarrow, IsNarrowSum}
use Rattle.calculations.specs.Calculation.{exact, narrow}
use Rattle.affine_forms.specs.declared.rel.Rel.{Rel}
use Rattle.affine_forms.specs.Forms.{Assignment, AffineForm, IsForm, worth, sum_at, constant_form, decision_form, negated, coefficient, has_terms, same_form}
use Rattle.affine_forms.specs.Points.{moved, Moves, BothMove, Turns, Apart, Multiple, Follows, Crossed}
use Rattle.affine_forms.specs.Relations.{Holds, holds, reversed, mirrored}
use Rattle.affine_forms.specs.Steps.{added, subtracted, scaled, added_product, multiple_of, evaluated_at, total}

-- the result of an operation on forms is worth, everywhere, what the operation on their worths gives
pub record WorthLaws : Type 0 where
  pub constant : (x : Assignment) (c : ℚ) → worth x (constant_form c) ≡ c
  pub decision : (x : Assignment) (j : ℕ) → worth x (decision_form j) ≡ x j
  pub negated : (x : Assignment) (f : AffineForm) → worth x (negated f) ≡ neg_ℚ (worth x f)
  pub added : (x : Assignment) (f g : AffineForm) → worth x (exact (added f g)) ≡ worth x f +ℚ worth x g
  pub subtracted : (x : Assignment) (f g : AffineForm) → worth x (exact (subtracted f g)) ≡ worth x f -ℚ worth x g
  pub scaled : (x : Assignment) (k : ℚ) (f : AffineForm) → worth x (exact (scaled k f)) ≡ worth x f *ℚ k
  pub added_product : (x : Assignment) (f g : AffineForm) (k : ℚ) → worth x (exact (added_product f k g)) ≡ worth x f +ℚ worth x g *ℚ k
  pub total : (x : Assignment) (fs : List AffineForm) → worth x (exact (total fs)) ≡ sum_ℚ (map (worth x) fs)
  pub evaluated : (x : Assignment) (f : AffineForm) → exact (evaluated_at x f) ≡ worth x f

-- operations on forms give forms
pub record FormLaws : Type 0 where
  pub constant : (c : ℚ) → IsForm (constant_form c)
  pub decision : (j : ℕ) → IsForm (decision_form j)
  pub negated : (f : AffineForm) → IsForm f → IsForm (negated f)
  pub added : (f g : AffineForm) → IsForm f → IsForm g → IsForm (exact (added f g))
  pub subtracted : (f g : AffineForm) → IsForm f → IsForm g → IsForm (exact (subtracted f g))
  pub scaled : (k : ℚ) (f : AffineForm) → IsForm f → IsForm (exact (scaled k f))
  pub added_product : (f g : AffineForm) (k : ℚ) → IsForm f → IsForm g → IsForm (exact (added_product f k g))
  pub total : (fs : List AffineForm) → AllByRecursion IsForm fs → IsForm (exact (total fs))

-- each coefficient of the result is what the operation on the coefficients gives
pub record CoefficientLaws : Type 0 where
  pub negated : (f : AffineForm) (j : ℕ) → coefficient (negated f).terms j ≡ neg_ℚ (coefficient f.terms j)
  pub added : (f g : AffineForm) → IsForm f → IsForm g → (j : ℕ) → coefficient (exact (added f g)).terms j ≡ coefficient f.terms j +ℚ coefficient g.terms j
  pub scaled : (k : ℚ) (f : AffineForm) → IsForm f → (j : ℕ) → coefficient (exact (scaled k f)).terms j ≡ coefficient f.terms j *ℚ k

-- a list of terms has one of the decision j, with the coefficient a
abbrev pub HasTerm : List (ℕ × ℚ) → ℕ → ℚ → Type 0
HasTerm [] j a = ⊥
HasTerm (t ∷ ts) j a = ((t.0 ≡ j) × (t.1 ≡ a)) ⊎ HasTerm ts j a

-- a sum of forms is narrow exactly where the sums of the constants and of each two coefficients of one decision are; a multiple
-- where each product is
pub record NarrowLaws : Type 0 where
  pub added : (f g : AffineForm) → IsForm f → IsForm g
      → IsSome (narrow (added f g)) ↔ (IsNarrowSum f.constant g.constant × ((j : ℕ) (a b : ℚ) → HasTerm f.terms j a → HasTerm g.terms j b → IsNarrowSum a b))
  pub scaled : (k : ℚ) (f : AffineForm) → IsSome (narrow (scaled k f)) ↔ (IsNarrow (f.constant *ℚ k) × ((j : ℕ) (a : ℚ) → HasTerm f.terms j a → IsNarrow (a *ℚ k)))

-- the test of equality, and a point for two forms that aren't one
pub record EqualityLaws : Type 0 where
  pub test : (f g : AffineForm) → IsTrue (same_form f g) ↔ (f ≡ g)
  pub others : (f g : AffineForm) → IsForm f → IsForm g → f ≢ g → Apart f g

-- moving a point changes a form in proportion; a form with a term takes any value, and two such forms change along one direction
pub record MovementLaws : Type 0 where
  pub moved : (p : Assignment) (k : ℚ) (d : Assignment) (f : AffineForm) → worth (moved p k d) f ≡ worth p f +ℚ k *ℚ sum_at d f.terms
  pub moves : (f : AffineForm) → IsForm f → IsTrue (has_terms f) → Moves f
  pub any_value : (f : AffineForm) → IsForm f → IsTrue (has_terms f) → (v : ℚ) → (x : Assignment) × (worth x f ≡ v)
  pub both_move : (f g : AffineForm) → IsForm f → IsForm g → IsTrue (has_terms f) → IsTrue (has_terms g) → BothMove f g

-- a multiple of t is one everywhere; anything else isn't 0 at some point where t is; and a form follows t or changes where t stays
pub record MultipleLaws : Type 0 where
  pub multiple : (f t : AffineForm) → exact (multiple_of f t) ≡ true → Multiple f t
  pub other : (f t : AffineForm) → IsForm f → IsForm t → IsTrue (has_terms t) → exact (multiple_of f t) ≡ false → Crossed f t
  pub follows_or_turns : (f t : AffineForm) → IsForm f → IsForm t → IsTrue (has_terms t) → Follows f t ⊎ Turns f t

-- the test of a relation, its reversal, and its mirror
pub record RelationLaws : Type 0 where
  pub test : (r : Rel) (x : ℚ) → IsTrue (holds r x) ↔ Holds r x
  pub reversed : (r : Rel) (x : ℚ) → Holds (reversed r) x ↔ ¬ Holds r x
  pub mirrored : (r : Rel) (x : ℚ) → Holds (mirrored r) (neg_ℚ x) ↔ Holds r x
