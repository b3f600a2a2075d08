-- Values that bend between two assignments.
use Rattle.std.specs.Prelude.{◌≢◌, pos}
use Rattle.std.proofs.Common.{◌≡◌, refl, sym, ap, ap₂, ◌∙◌, true, false, true≢false, [], ◌∷◌}
use Rattle.fractions.specs.Rational.{ℚ, zero_ℚ, one_ℚ, ◌+ℚ◌, ◌*ℚ◌, neg_ℚ, inv_ℚ, le_ℚ, computed}
use Rattle.fractions.specs.Whole.{whole_ℚ}
use Rattle.fractions.proofs.Laws.{mul_assoc, mul_comm, mul-one, zero-mul}
use Rattle.fractions.proofs.Field.{ordered_field}
use Rattle.fractions.proofs.Quote.{quotes, by_ring, by_equation}
use Rattle.affine_forms.specs.Forms.{Assignment}
use Rattle.affine_forms.proofs.Directions.{moved}
use Rattle.form_values.specs.Refusals.{middle, midpoint}

two : ℚ
two = whole_ℚ (pos 2)

pub two_is : whole_ℚ (pos 2) ≡ one_ℚ +ℚ one_ℚ
unfolding computed
two_is = refl

one_above : le_ℚ (one_ℚ +ℚ one_ℚ) zero_ℚ ≡ false
unfolding computed
one_above = refl

zero_at_most : le_ℚ zero_ℚ zero_ℚ ≡ true
unfolding computed
zero_at_most = refl

pub two_is_some : whole_ℚ (pos 2) ≢ zero_ℚ
two_is_some e = true≢false (sym zero_at_most ∙ ap (λ x. le_ℚ x zero_ℚ) (sym e ∙ two_is) ∙ one_above)

-- the middle of a number and itself moved apart
pub middle_of : (p d : ℚ) → middle (p +ℚ one_ℚ *ℚ d) (p +ℚ neg_ℚ one_ℚ *ℚ d) ≡ p
middle_of p d =
    ap (λ s. s *ℚ inv_ℚ (whole_ℚ (pos 2))) (by_ring (p ∷ d ∷ []) (search quotes depth 20) (search quotes depth 20) refl) ∙ mul_assoc p (one_ℚ +ℚ one_ℚ) (inv_ℚ (whole_ℚ (pos 2)))
    ∙ ap (λ t. p *ℚ t) (ap (λ u. u *ℚ inv_ℚ (whole_ℚ (pos 2))) (sym two_is) ∙ ordered_field.mul-inv (whole_ℚ (pos 2)) two_is_some) ∙ mul-one p

-- the assignments on both sides of a point have it in their middle
pub midpoint_is : (p d : Assignment) → midpoint (moved p one_ℚ d) (moved p (neg_ℚ one_ℚ) d) ≡ p
midpoint_is p d = λ i j. middle_of (p j) (d j) i

-- a product of factors that are not 0
pub some_product : (a b : ℚ) → a ≢ zero_ℚ → b ≢ zero_ℚ → a *ℚ b ≢ zero_ℚ
some_product a b h k e =
    h (sym (mul-one a) ∙ ap (λ t. a *ℚ t) (sym (ordered_field.mul-inv b k)) ∙ sym (mul_assoc a b (inv_ℚ b)) ∙ ap (λ t. t *ℚ inv_ℚ b) e ∙ zero-mul (inv_ℚ b))

-- twice the middle is the sum
pub twice_middle : (a b m : ℚ) → m ≡ middle a b → m *ℚ (one_ℚ +ℚ one_ℚ) ≡ a +ℚ b
twice_middle a b m e =
    ap₂ ◌*ℚ◌ e (sym two_is) ∙ mul_assoc (a +ℚ b) (inv_ℚ (whole_ℚ (pos 2))) (whole_ℚ (pos 2))
    ∙ ap (λ t. (a +ℚ b) *ℚ t) (mul_comm (inv_ℚ (whole_ℚ (pos 2))) (whole_ℚ (pos 2)) ∙ ordered_field.mul-inv (whole_ℚ (pos 2)) two_is_some) ∙ mul-one (a +ℚ b)

-- where two factors both change, the product isn't its middle
pub product_bends : (p q a b : ℚ) → a ≢ zero_ℚ → b ≢ zero_ℚ
    → p *ℚ q ≢ middle ((p +ℚ one_ℚ *ℚ a) *ℚ (q +ℚ one_ℚ *ℚ b)) ((p +ℚ neg_ℚ one_ℚ *ℚ a) *ℚ (q +ℚ neg_ℚ one_ℚ *ℚ b))
product_bends p q a b h k e =
    some_product (a *ℚ b) (one_ℚ +ℚ one_ℚ) (some_product a b h k) (λ z. two_is_some (two_is ∙ z))
    (by_equation (neg_ℚ one_ℚ) (twice_middle _ _ _ e) (p ∷ q ∷ a ∷ b ∷ []) (search quotes depth 20) (search quotes depth 20) refl)

-- the middle of a number and itself
pub middle_self : (p : ℚ) → middle p p ≡ p
middle_self p = ap₂ middle (up p) (down p) ∙ middle_of p zero_ℚ
  where
    up : (p : ℚ) → p ≡ p +ℚ one_ℚ *ℚ zero_ℚ
    up p = by_ring (p ∷ []) (search quotes depth 20) (search quotes depth 20) refl

    down : (p : ℚ) → p ≡ p +ℚ neg_ℚ one_ℚ *ℚ zero_ℚ
    down p = by_ring (p ∷ []) (search quotes depth 20) (search quotes depth 20) refl
