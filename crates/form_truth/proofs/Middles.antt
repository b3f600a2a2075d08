-- Forms in the middle of two assignments, and the sides of 0.
use Rattle.std.specs.Prelude.{◌≢◌, pos}
use Rattle.std.specs.declared.cmp.Ordering.TheVariants.{Less, Equal, Greater}
use Rattle.std.proofs.Common.{◌≡◌, refl, sym, ap, ap₂, ◌∙◌, Bool, true, false, if◌then◌else◌, List, [], ◌∷◌, ◌⊎◌, inl, inr, ℕ, arith}
use Rattle.fractions.specs.Rational.{ℚ, zero_ℚ, one_ℚ, ◌+ℚ◌, ◌*ℚ◌, neg_ℚ, inv_ℚ, le_ℚ, ◌≤ℚ◌, ◌<ℚ◌}
use Rattle.fractions.specs.Whole.{whole_ℚ}
use Rattle.fractions.proofs.Laws.{mul_assoc, mul_comm, mul-one, zero-mul, zero-add, add_right_cancel}
use Rattle.fractions.proofs.Field.{ordered_field}
use Rattle.fractions.proofs.Order.{eq_or_ne, le_total, lt_of_le_of_ne, le_of_lt, lt_irrefl, le_antisymm, neg_le}
use Rattle.fractions.proofs.Tests.{le_iff, lt_iff}
use Rattle.fractions.proofs.Common.{by_common₂, zero_same, linear}
use Rattle.fractions.proofs.Quote.{quotes, by_ring}
use Rattle.sheet_model.specs.Tests.{number_cmp}
use Rattle.affine_forms.specs.Forms.{Assignment, AffineForm, worth, sum_at}
use Rattle.affine_forms.specs.Relations.{holds}
use Rattle.form_values.specs.Refusals.{middle, midpoint}
use Rattle.affine_forms.specs.declared.rel.Rel.TheVariants as rel
use Rattle.form_truth.proofs.Relations.{takes, holds_takes}
use Rattle.form_truth.proofs.Bending.{two_is, two_is_some}

-- twice the half
pub half_twice : (one_ℚ +ℚ one_ℚ) *ℚ inv_ℚ (whole_ℚ (pos 2)) ≡ one_ℚ
half_twice = ap (λ t. t *ℚ inv_ℚ (whole_ℚ (pos 2))) (sym two_is) ∙ ordered_field.mul-inv (whole_ℚ (pos 2)) two_is_some

sum_middle : (x y : Assignment) (ts : List (ℕ × ℚ)) → sum_at (midpoint x y) ts ≡ (sum_at x ts +ℚ sum_at y ts) *ℚ inv_ℚ (whole_ℚ (pos 2))
sum_middle x y [] = sym (ap (λ t. t *ℚ inv_ℚ (whole_ℚ (pos 2))) (zero-add zero_ℚ) ∙ zero-mul (inv_ℚ (whole_ℚ (pos 2))))
sum_middle x y (t ∷ ts) = ap (λ s. t.1 *ℚ middle (x t.0) (y t.0) +ℚ s) (sum_middle x y ts) ∙ regrouped _ _ _ _ _ _
  where
    regrouped : (c a b i s r : ℚ) → c *ℚ ((a +ℚ b) *ℚ i) +ℚ (s +ℚ r) *ℚ i ≡ ((c *ℚ a +ℚ s) +ℚ (c *ℚ b +ℚ r)) *ℚ i
    regrouped c a b i s r = by_ring (c ∷ a ∷ b ∷ i ∷ s ∷ r ∷ []) (search quotes depth 20) (search quotes depth 20) refl

-- a form is affine
pub worth_middle : (x y : Assignment) (f : AffineForm) → worth (midpoint x y) f ≡ middle (worth x f) (worth y f)
worth_middle x y f =
    ap (λ s. f.constant +ℚ s) (sum_middle x y f.terms) ∙ ap (λ c. c +ℚ (sum_at x f.terms +ℚ sum_at y f.terms) *ℚ inv_ℚ (whole_ℚ (pos 2))) (sym (mul-one f.constant) ∙ ap (λ t. f.constant *ℚ t) (sym half_twice))
    ∙ regrouped f.constant _ _ (inv_ℚ (whole_ℚ (pos 2)))
  where
    regrouped : (c s r i : ℚ) → c *ℚ ((one_ℚ +ℚ one_ℚ) *ℚ i) +ℚ (s +ℚ r) *ℚ i ≡ ((c +ℚ s) +ℚ (c +ℚ r)) *ℚ i
    regrouped c s r i = by_ring (c ∷ s ∷ r ∷ i ∷ []) (search quotes depth 20) (search quotes depth 20) refl

-- two middles with one side in common
pub same_middle : (a b c : ℚ) → middle a c ≡ middle b c → a ≡ b
same_middle a b c e = add_right_cancel a b c (doubled (a +ℚ c) ∙ ap (λ m. m *ℚ (one_ℚ +ℚ one_ℚ)) e ∙ sym (doubled (b +ℚ c)))
  where
    doubled : (s : ℚ) → s ≡ s *ℚ inv_ℚ (whole_ℚ (pos 2)) *ℚ (one_ℚ +ℚ one_ℚ)
    doubled s = sym (mul_assoc s _ _ ∙ ap (λ t. s *ℚ t) (mul_comm (inv_ℚ (whole_ℚ (pos 2))) (one_ℚ +ℚ one_ℚ) ∙ half_twice) ∙ mul-one s)

-- ---- the order beside 0
pub cmp_zero : (w : ℚ) → w ≡ zero_ℚ → number_cmp w zero_ℚ ≡ Equal
cmp_zero w e = ap (λ w. number_cmp w zero_ℚ) e ∙ at_zero
  where
    le_zero : le_ℚ zero_ℚ zero_ℚ ≡ true
    le_zero = (le_iff zero_ℚ zero_ℚ).1 (Rattle.fractions.proofs.Order.le_refl zero_ℚ)

    at_zero : number_cmp zero_ℚ zero_ℚ ≡ Equal
    at_zero = ap₂ (λ a b. if a then (if b then Equal else Less) else Greater) le_zero le_zero

not_le : (x y : ℚ) → x <ℚ y → le_ℚ y x ≡ false
not_le x y h = by_test (le_ℚ y x) refl
  where
    by_test : (b : Bool) → le_ℚ y x ≡ b → b ≡ false
    by_test true e = absurd ((lt_iff x y).0 h ((le_iff y x).0 e))
    by_test false e = refl

pub cmp_less : (w : ℚ) → w <ℚ zero_ℚ → number_cmp w zero_ℚ ≡ Less
cmp_less w h = ap₂ (λ a b. if a then (if b then Equal else Less) else Greater) ((le_iff w zero_ℚ).1 (le_of_lt w zero_ℚ h)) (not_le w zero_ℚ h)

pub cmp_greater : (w : ℚ) → zero_ℚ <ℚ w → number_cmp w zero_ℚ ≡ Greater
cmp_greater w h = ap (λ a. if a then (if le_ℚ zero_ℚ w then Equal else Less) else Greater) (not_le zero_ℚ w h)

pub below_or_above : (w : ℚ) → w ≢ zero_ℚ → (w <ℚ zero_ℚ) ⊎ (zero_ℚ <ℚ w)
below_or_above w h = by_order (le_total w zero_ℚ)
  where
    by_order : (w ≤ℚ zero_ℚ) ⊎ (zero_ℚ ≤ℚ w) → (w <ℚ zero_ℚ) ⊎ (zero_ℚ <ℚ w)
    by_order (inl l) = inl (lt_of_le_of_ne w zero_ℚ l h)
    by_order (inr l) = inr (lt_of_le_of_ne zero_ℚ w l (λ e. h (sym e)))

-- of a number that isn't 0
pub not_equal : (w : ℚ) → w ≢ zero_ℚ → holds rel.Eq w ≡ false
not_equal w h = by_side (below_or_above w h)
  where
    by_side : (w <ℚ zero_ℚ) ⊎ (zero_ℚ <ℚ w) → holds rel.Eq w ≡ false
    by_side (inl l) = holds_takes rel.Eq w ∙ ap (takes rel.Eq) (cmp_less w l)
    by_side (inr l) = holds_takes rel.Eq w ∙ ap (takes rel.Eq) (cmp_greater w l)

pub unequal : (w : ℚ) → w ≢ zero_ℚ → holds rel.Ne w ≡ true
unequal w h = by_side (below_or_above w h)
  where
    by_side : (w <ℚ zero_ℚ) ⊎ (zero_ℚ <ℚ w) → holds rel.Ne w ≡ true
    by_side (inl l) = holds_takes rel.Ne w ∙ ap (takes rel.Ne) (cmp_less w l)
    by_side (inr l) = holds_takes rel.Ne w ∙ ap (takes rel.Ne) (cmp_greater w l)

-- numbers on the other side
pub turned_below : (w : ℚ) → zero_ℚ <ℚ w → neg_ℚ w <ℚ zero_ℚ
turned_below w h = by_common₂ (λ z w. z ≡ zero_ℚ → z <ℚ w → neg_ℚ w <ℚ z) (λ p n q m d hd. simp (zero_same d hd, linear) (λ e k. omega arith)) zero_ℚ w refl h

pub turned_above : (w : ℚ) → w <ℚ zero_ℚ → zero_ℚ <ℚ neg_ℚ w
turned_above w h = by_common₂ (λ z w. z ≡ zero_ℚ → w <ℚ z → z <ℚ neg_ℚ w) (λ p n q m d hd. simp (zero_same d hd, linear) (λ e k. omega arith)) zero_ℚ w refl h

pub thrice_below : (w : ℚ) → w <ℚ zero_ℚ → w +ℚ (w +ℚ w) <ℚ zero_ℚ
thrice_below w h = by_common₂ (λ z w. z ≡ zero_ℚ → w <ℚ z → w +ℚ (w +ℚ w) <ℚ z) (λ p n q m d hd. simp (zero_same d hd, linear) (λ e k. omega arith)) zero_ℚ w refl h

pub thrice_above : (w : ℚ) → zero_ℚ <ℚ w → zero_ℚ <ℚ w +ℚ (w +ℚ w)
thrice_above w h = by_common₂ (λ z w. z ≡ zero_ℚ → z <ℚ w → z <ℚ w +ℚ (w +ℚ w)) (λ p n q m d hd. simp (zero_same d hd, linear) (λ e k. omega arith)) zero_ℚ w refl h
