-- Sums in a stated order, and their exact values.
use Rattle.std.proofs.Common.{◌≡◌, ℕ, Bool, true, false, refl, sym, ap, ap₂, ◌∙◌, List, [], ◌∷◌, map, Option, Some, None, cond, if◌then◌else◌}
use Rattle.fractions.specs.Rational.{ℚ, ◌+ℚ◌, ◌*ℚ◌, zero_ℚ}
use Rattle.fractions.specs.Vectors.{at, times}
use Rattle.fractions.specs.Rows.{Row, combined, combined_bound}
use Rattle.fractions.proofs.Laws.{add-zero, zero-add, add_assoc}
use Rattle.std.specs.Prelude.{Result, Ok, Err, MatchResult}
use Rattle.frac128.specs.declared.fault.Wide.{Wide}
use Rattle.frac128.specs.Narrow.{is_narrow, is_narrow_sum, IsNarrow, IsNarrowSum}
use Rattle.frac128.proofs.NarrowLaws.{narrow_test, narrow_sum_test}
use Rattle.calculations.specs.Calculation.{sum, product, narrow, exact, stays_narrow}
use Rattle.calculations.proofs.CalculationLaws.{narrow-exact}
use Rattle.affine_forms.specs.Answers.{AnswersInPlace}
use Rattle.affine_forms.specs.Forms.{Assignment, AffineForm, sum_at}
use Rattle.affine_forms.specs.Assigned.{assigned}
use Rattle.affine_forms.specs.Lists.{summed}
use Rattle.linear_models.specs.Worths.{form_at}
use Rattle.linear_programs.proofs.Vectors.{at-plus, at-times}
use Rattle.opt_certificate.specs.Sums.{added_up, paired, column_sum, bound_sum, form_sum}

-- ---- a loop that adds product after product: the first, and then the rest from what it gives
both_true : (b d : Bool) (v : ℚ) → b ≡ true → d ≡ true → (if b then (if d then Some v else None) else None) ≡ Some v
both_true true true v e f = refl
both_true true false v e f = cc
both_true false d v e f = cc

one_false : (b d : Bool) (v : ℚ) → ¬ (b ≡ true) → (if b then (if d then Some v else None) else None) ≡ None
one_false true d v n = absurd (n refl)
one_false false d v n = refl

other_false : (b d : Bool) (v : ℚ) → ¬ (d ≡ true) → (if b then (if d then Some v else None) else None) ≡ None
other_false true true v n = absurd (n refl)
other_false true false v n = refl
other_false false d v n = refl

-- one product
one_fits : (t x y p s : ℚ) → p ≡ x *ℚ y → IsNarrow (x *ℚ y) → s ≡ t +ℚ p → IsNarrowSum t p → narrow (added_up t ((x, y) ∷ [])) ≡ Some s
one_fits t x y p s e h f i =
    both_true (is_narrow (x *ℚ y)) (is_narrow_sum t (x *ℚ y)) _ ((narrow_test (x *ℚ y)).1 h) ((narrow_sum_test t (x *ℚ y)).1 (Rattle.std.proofs.Common.subst (λ q. IsNarrowSum t q) e i))
    ∙ ap Some (sym (f ∙ ap (λ q. t +ℚ q) e))

pub product_wide : (t x y : ℚ) → ¬ (IsNarrow (x *ℚ y)) → narrow (added_up t ((x, y) ∷ [])) ≡ None
product_wide t x y n = one_false (is_narrow (x *ℚ y)) (is_narrow_sum t (x *ℚ y)) _ (λ e. n ((narrow_test (x *ℚ y)).0 e))

sum_wide : (t x y p : ℚ) → p ≡ x *ℚ y → ¬ (IsNarrowSum t p) → narrow (added_up t ((x, y) ∷ [])) ≡ None
sum_wide t x y p e n = other_false (is_narrow (x *ℚ y)) (is_narrow_sum t (x *ℚ y)) _ (λ q. n (Rattle.std.proofs.Common.subst (λ r. IsNarrowSum t r) (sym e) ((narrow_sum_test t (x *ℚ y)).0 q)))

pub product_added : (t x y p : ℚ) → p ≡ x *ℚ y → IsNarrow (x *ℚ y) → (r : Result ℚ Wide) → MatchResult r (λ f. (f ≡ t +ℚ p) × IsNarrowSum t p) (λ _. ¬ (IsNarrowSum t p)) → AnswersInPlace (added_up t ((x, y) ∷ [])) r
product_added t x y p e h (Ok s) m = one_fits t x y p s e h m.0 m.1
product_added t x y p e h (Err wide) m = sum_wide t x y p e m

-- the first product fits, and the rest goes on from its sum
pub goes_on : (start : ℚ) (p : ℚ × ℚ) (ps : List (ℚ × ℚ)) (s : ℚ) → narrow (added_up start (p ∷ [])) ≡ Some s → narrow (added_up start (p ∷ ps)) ≡ narrow (added_up s ps)
goes_on start p ps s h = first (stays_narrow (product p.0 p.1)) (stays_narrow (sum start (p.0 *ℚ p.1))) h
  where
    some_is : {x y : ℚ} → Some x ≡ Some y → x ≡ y
    some_is e = cc

    first : (b d : Bool) → (if b then (if d then Some (start +ℚ p.0 *ℚ p.1) else None) else None) ≡ Some s
        → (if b then (if d then narrow (added_up (start +ℚ p.0 *ℚ p.1) ps) else None) else None) ≡ narrow (added_up s ps)
    first true true e = ap (λ x. narrow (added_up x ps)) (some_is e)
    first true false e = cc
    first false d e = cc

-- the first product doesn't fit, so the whole doesn't
pub stops : (start : ℚ) (p : ℚ × ℚ) (ps : List (ℚ × ℚ)) → narrow (added_up start (p ∷ [])) ≡ None → narrow (added_up start (p ∷ ps)) ≡ None
stops start p ps h = first (stays_narrow (product p.0 p.1)) (stays_narrow (sum start (p.0 *ℚ p.1))) h
  where
    first : (b d : Bool) → (if b then (if d then Some (start +ℚ p.0 *ℚ p.1) else None) else None) ≡ None
        → (if b then (if d then narrow (added_up (start +ℚ p.0 *ℚ p.1) ps) else None) else None) ≡ None
    first true true e = cc
    first true false e = refl
    first false d e = refl

-- ---- the same for the terms of a form at an assignment
pub term_goes_on : (x : Assignment) (start : ℚ) (t : ℕ × ℚ) (ts : List (ℕ × ℚ)) (s : ℚ) → narrow (added_up start ((t.1, x t.0) ∷ [])) ≡ Some s → narrow (summed x start (t ∷ ts)) ≡ narrow (summed x s ts)
term_goes_on x start t ts s h = first (stays_narrow (product t.1 (x t.0))) (stays_narrow (sum start (t.1 *ℚ x t.0))) h
  where
    some_is : {x y : ℚ} → Some x ≡ Some y → x ≡ y
    some_is e = cc

    first : (b d : Bool) → (if b then (if d then Some (start +ℚ t.1 *ℚ x t.0) else None) else None) ≡ Some s
        → (if b then (if d then narrow (summed x (start +ℚ t.1 *ℚ x t.0) ts) else None) else None) ≡ narrow (summed x s ts)
    first true true e = ap (λ y. narrow (summed x y ts)) (some_is e)
    first true false e = cc
    first false d e = cc

pub term_stops : (x : Assignment) (start : ℚ) (t : ℕ × ℚ) (ts : List (ℕ × ℚ)) → narrow (added_up start ((t.1, x t.0) ∷ [])) ≡ None → narrow (summed x start (t ∷ ts)) ≡ None
term_stops x start t ts h = first (stays_narrow (product t.1 (x t.0))) (stays_narrow (sum start (t.1 *ℚ x t.0))) h
  where
    first : (b d : Bool) → (if b then (if d then Some (start +ℚ t.1 *ℚ x t.0) else None) else None) ≡ None
        → (if b then (if d then narrow (summed x (start +ℚ t.1 *ℚ x t.0) ts) else None) else None) ≡ None
    first true true e = cc
    first true false e = refl
    first false d e = refl

exact-summed : (x : Assignment) (start : ℚ) (ts : List (ℕ × ℚ)) → exact (summed x start ts) ≡ start +ℚ sum_at x ts
exact-summed x start [] = sym (add-zero start)
exact-summed x start (t ∷ ts) = exact-summed x (start +ℚ t.1 *ℚ x t.0) ts ∙ add_assoc _ _ _

-- ---- exact values
pub total : List (ℚ × ℚ) → ℚ
total [] = zero_ℚ
total (p ∷ ps) = p.0 *ℚ p.1 +ℚ total ps

exact-added_up : (start : ℚ) (ps : List (ℚ × ℚ)) → exact (added_up start ps) ≡ start +ℚ total ps
unfolding total
exact-added_up start [] = sym (add-zero start)
exact-added_up start (p ∷ ps) = exact-added_up (start +ℚ p.0 *ℚ p.1) ps ∙ add_assoc _ _ _

total-columns : (j : ℕ) (ys : List ℚ) (rows : List Row) → total (paired (λ r. at r.coefficients j) ys rows) ≡ at (combined ys rows) j
unfolding total
total-columns j [] rows = refl
total-columns j (y ∷ ys) [] = refl
total-columns j (y ∷ ys) (r ∷ rows) =
    sym (at-plus (times y r.coefficients) (combined ys rows) j ∙ ap₂ ◌+ℚ◌ (at-times y r.coefficients j) (sym (total-columns j ys rows)))

total-bounds : (ys : List ℚ) (rows : List Row) → total (paired (λ r. r.bound) ys rows) ≡ combined_bound ys rows
unfolding total
total-bounds [] rows = refl
total-bounds (y ∷ ys) [] = refl
total-bounds (y ∷ ys) (r ∷ rows) = ap (λ t. y *ℚ r.bound +ℚ t) (total-bounds ys rows)

pub column_is : (j : ℕ) (ys : List ℚ) (rows : List Row) (x : ℚ) → narrow (column_sum j ys rows) ≡ Some x → x ≡ at (combined ys rows) j
column_is j ys rows x h = sym (narrow-exact _ _ h) ∙ exact-added_up zero_ℚ _ ∙ zero-add _ ∙ total-columns j ys rows

pub bound_is : (ys : List ℚ) (rows : List Row) (x : ℚ) → narrow (bound_sum ys rows) ≡ Some x → x ≡ combined_bound ys rows
bound_is ys rows x h = sym (narrow-exact _ _ h) ∙ exact-added_up zero_ℚ _ ∙ zero-add _ ∙ total-bounds ys rows

pub form_is : (f : AffineForm) (a : List ℚ) (x : ℚ) → narrow (form_sum f a) ≡ Some x → x ≡ form_at f a
form_is f a x h = sym (narrow-exact _ _ h) ∙ exact-summed (assigned a) f.constant f.terms
