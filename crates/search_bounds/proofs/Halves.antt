-- A split in two parts that hold a whole value each parts the choices of whole values.
use Rattle.std.proofs.Common.{◌≡◌, ◌≢◌, ◌⊎◌, inl, inr, ℕ, zero, suc, ◌+◌, ◌<◌, ◌≤◌, refl, sym, ap, ap₂, ◌∙◌, subst, Bool, true, false, cond, List, [], ◌∷◌, length, Option, Some, None, get_or, set, arith, get_or-set_same, get_or-set_other, ℤ, pos, ◌+ℤ◌}
use Rattle.std.specs.Prelude.{◌≤ℤ◌}
use Rattle.fractions.specs.Rational.{ℚ}
use Rattle.fractions.specs.Vectors.{at}
use Rattle.fractions.specs.Whole.{whole_ℚ}
use Rattle.fractions.proofs.Order.{le_trans, lt_of_lt_of_le, lt_of_le_of_lt}
use Rattle.fractions.proofs.Whole.{whole-le, whole-lt}
use Rattle.linear_models.specs.Box.{Box, bound_at, lesser, greater, lower_part, upper_part}
use Rattle.linear_models.specs.Model.{Model, is_whole_at}
use Rattle.linear_models.specs.Laws.{IsBoxOf}
use Rattle.search_bounds.specs.Choices.{choices_in, values_of, wholes_between}
use Rattle.search_bounds.specs.Trees.{HasBothParts}
use Rattle.search_bounds.proofs.Products.{product_some, product_sum}
use Rattle.search_bounds.proofs.WholeBounds.{HasWholeBounds}
use Rattle.search_bounds.proofs.Wholes.{above_self, between_wholes, parted, some_between, lesser_is, greater_is}

marked_within : (marks : List Bool) (j : ℕ) → is_whole_at marks j ≡ true → j < length marks
marked_within [] j e = cc
marked_within (b ∷ marks) zero e = omega arith
marked_within (b ∷ marks) (suc j) e = let k : j < length marks = marked_within marks j e in omega arith

-- ---- a bound put in at the split decision
same_or_not : (i j : ℕ) → (i ≡ j) ⊎ (i ≢ j)
same_or_not i j = grind arith

put_whole : (os : List (Option ℚ)) (j : ℕ) (o : Option ℚ) (z : ℤ) (i : ℕ) → j < length os → o ≡ Some (whole_ℚ z) → (y : ℤ) × (bound_at os i ≡ Some (whole_ℚ y))
    → (y : ℤ) × (bound_at (set os j o) i ≡ Some (whole_ℚ y))
put_whole os j o z i l e h = cases (same_or_not i j)
  where
    cases : (i ≡ j) ⊎ (i ≢ j) → (y : ℤ) × (bound_at (set os j o) i ≡ Some (whole_ℚ y))
    cases (inl q) = (z, ap (λ k. get_or (set os j o) k None) q ∙ get_or-set_same os j o None l ∙ e)
    cases (inr n) = (h.0, get_or-set_other os j i o None n ∙ h.1)

-- what the parts of such a split are
pub record Halved (m : Model) (box : Box) (j : ℕ) (f : ℤ) : Type 0 where
  pub low : HasWholeBounds m (lower_part box j (whole_ℚ f))
  pub high : HasWholeBounds m (upper_part box j (whole_ℚ (f +ℤ pos 1)))
  pub low_some : 1 ≤ choices_in m (lower_part box j (whole_ℚ f))
  pub high_some : 1 ≤ choices_in m (upper_part box j (whole_ℚ (f +ℤ pos 1)))
  pub sum : choices_in m box ≡ choices_in m (lower_part box j (whole_ℚ f)) + choices_in m (upper_part box j (whole_ℚ (f +ℤ pos 1)))

pub halved : (m : Model) (box : Box) (j : ℕ) (f : ℤ) → IsBoxOf m box → HasWholeBounds m box → HasBothParts m box j f → Halved m box j f
halved m box j f b w h = record {
  low = low;
  high = high;
  low_some = product_some n (values_of m (lower_part box j (whole_ℚ f))) (λ i k. each_low i);
  high_some = product_some n (values_of m (upper_part box j (whole_ℚ (f +ℤ pos 1)))) (λ i k. each_high i);
  sum = product_sum n j (values_of m box) (values_of m (lower_part box j (whole_ℚ f))) (values_of m (upper_part box j (whole_ℚ (f +ℤ pos 1)))) within at_split other_low other_high;
}
  where
    n : ℕ
    n = length m.whole

    within : j < length m.whole
    within = marked_within m.whole j h.marked

    a : (z : ℤ) × (bound_at box.least j ≡ Some (whole_ℚ z))
    a = w.least j h.marked

    c : (z : ℤ) × (bound_at box.greatest j ≡ Some (whole_ℚ z))
    c = w.greatest j h.marked

    a_low : a.0 ≤ℤ f
    a_low = (whole-le a.0 f).0 (h.low (whole_ℚ a.0) a.1)

    c_high : (f +ℤ pos 1) ≤ℤ c.0
    c_high = (whole-le (f +ℤ pos 1) c.0).0 (h.high (whole_ℚ c.0) c.1)

    -- the new bounds
    new_greatest : Option ℚ
    new_greatest = Some (lesser (bound_at box.greatest j) (whole_ℚ f))

    new_greatest_is : new_greatest ≡ Some (whole_ℚ f)
    new_greatest_is =
        ap (λ o. Some (lesser o (whole_ℚ f))) c.1
        ∙ ap Some (lesser_is (whole_ℚ c.0) (whole_ℚ f) (lt_of_lt_of_le _ _ _ ((whole-lt f (f +ℤ pos 1)).1 (above_self f)) ((whole-le (f +ℤ pos 1) c.0).1 c_high)))

    new_least : Option ℚ
    new_least = Some (greater (bound_at box.least j) (whole_ℚ (f +ℤ pos 1)))

    new_least_is : new_least ≡ Some (whole_ℚ (f +ℤ pos 1))
    new_least_is =
        ap (λ o. Some (greater o (whole_ℚ (f +ℤ pos 1)))) a.1
        ∙ ap Some (greater_is (whole_ℚ a.0) (whole_ℚ (f +ℤ pos 1)) (lt_of_le_of_lt _ _ _ ((whole-le a.0 f).1 a_low) ((whole-lt f (f +ℤ pos 1)).1 (above_self f))))

    g_within : j < length box.greatest
    g_within = subst (λ k. j < k) (sym b.greatest) within

    l_within : j < length box.least
    l_within = subst (λ k. j < k) (sym b.least) within

    low : HasWholeBounds m (lower_part box j (whole_ℚ f))
    low = record { least = w.least; greatest = λ i e. put_whole box.greatest j new_greatest f i g_within new_greatest_is (w.greatest i e) }

    high : HasWholeBounds m (upper_part box j (whole_ℚ (f +ℤ pos 1)))
    high = record { least = λ i e. put_whole box.least j new_least (f +ℤ pos 1) i l_within new_least_is (w.least i e); greatest = w.greatest }

    -- the bounds at the split decision
    low_greatest : bound_at (lower_part box j (whole_ℚ f)).greatest j ≡ Some (whole_ℚ f)
    low_greatest = get_or-set_same box.greatest j new_greatest None g_within ∙ new_greatest_is

    high_least : bound_at (upper_part box j (whole_ℚ (f +ℤ pos 1))).least j ≡ Some (whole_ℚ (f +ℤ pos 1))
    high_least = get_or-set_same box.least j new_least None l_within ∙ new_least_is

    counted : (box : Box) (x y : ℤ) → bound_at box.least j ≡ Some (whole_ℚ x) → bound_at box.greatest j ≡ Some (whole_ℚ y)
        → values_of m box j ≡ wholes_between (Some (whole_ℚ x)) (Some (whole_ℚ y))
    counted box x y p q =
        ap (λ v. cond v (wholes_between (bound_at box.least j) (bound_at box.greatest j)) 1) h.marked ∙ ap₂ wholes_between p q

    at_split : values_of m box j ≡ values_of m (lower_part box j (whole_ℚ f)) j + values_of m (upper_part box j (whole_ℚ (f +ℤ pos 1))) j
    at_split =
        counted box a.0 c.0 a.1 c.1 ∙ between_wholes a.0 c.0 ∙ parted a.0 c.0 f a_low c_high
        ∙ sym (ap₂ ◌+◌ (counted (lower_part box j (whole_ℚ f)) a.0 f a.1 low_greatest ∙ between_wholes a.0 f) (counted (upper_part box j (whole_ℚ (f +ℤ pos 1))) (f +ℤ pos 1) c.0 high_least c.1 ∙ between_wholes (f +ℤ pos 1) c.0))

    other_low : (i : ℕ) → i ≢ j → values_of m box i ≡ values_of m (lower_part box j (whole_ℚ f)) i
    other_low i d =
        ap (λ o. cond (is_whole_at m.whole i) (wholes_between (bound_at box.least i) o) 1) (sym (get_or-set_other box.greatest j i new_greatest None d))

    other_high : (i : ℕ) → i ≢ j → values_of m box i ≡ values_of m (upper_part box j (whole_ℚ (f +ℤ pos 1))) i
    other_high i d =
        ap (λ o. cond (is_whole_at m.whole i) (wholes_between o (bound_at box.greatest i)) 1) (sym (get_or-set_other box.least j i new_least None d))

    -- no decision is without a whole value
    by_bounds : (x y : ℤ) (i : ℕ) → bound_at box.least i ≡ Some (whole_ℚ x) → bound_at box.greatest i ≡ Some (whole_ℚ y) → 1 ≤ wholes_between (bound_at box.least i) (bound_at box.greatest i)
    by_bounds x y i p q =
        let k : x ≤ℤ y = (whole-le x y).0 (le_trans _ (at h.inside i) _ (h.in_box.least i (whole_ℚ x) p) (h.in_box.greatest i (whole_ℚ y) q)) in
        subst (λ k. 1 ≤ k) (sym (ap₂ wholes_between p q ∙ between_wholes x y)) (some_between x y k)

    each : (i : ℕ) → 1 ≤ values_of m box i
    each i = cases (is_whole_at m.whole i) refl
      where
        cases : (v : Bool) → is_whole_at m.whole i ≡ v → 1 ≤ cond v (wholes_between (bound_at box.least i) (bound_at box.greatest i)) 1
        cases false e = omega arith
        cases true e = let x = w.least i e in let y = w.greatest i e in by_bounds x.0 y.0 i x.1 y.1

    low_at : 1 ≤ values_of m (lower_part box j (whole_ℚ f)) j
    low_at = subst (λ k. 1 ≤ k) (sym (counted (lower_part box j (whole_ℚ f)) a.0 f a.1 low_greatest ∙ between_wholes a.0 f)) (some_between a.0 f a_low)

    high_at : 1 ≤ values_of m (upper_part box j (whole_ℚ (f +ℤ pos 1))) j
    high_at = subst (λ k. 1 ≤ k) (sym (counted (upper_part box j (whole_ℚ (f +ℤ pos 1))) (f +ℤ pos 1) c.0 high_least c.1 ∙ between_wholes (f +ℤ pos 1) c.0)) (some_between (f +ℤ pos 1) c.0 c_high)

    each_low : (i : ℕ) → 1 ≤ values_of m (lower_part box j (whole_ℚ f)) i
    each_low i = cases (same_or_not i j)
      where
        cases : (i ≡ j) ⊎ (i ≢ j) → 1 ≤ values_of m (lower_part box j (whole_ℚ f)) i
        cases (inl q) = subst (λ k. 1 ≤ values_of m (lower_part box j (whole_ℚ f)) k) (sym q) low_at
        cases (inr d) = subst (λ k. 1 ≤ k) (other_low i d) (each i)

    each_high : (i : ℕ) → 1 ≤ values_of m (upper_part box j (whole_ℚ (f +ℤ pos 1))) i
    each_high i = cases (same_or_not i j)
      where
        cases : (i ≡ j) ⊎ (i ≢ j) → 1 ≤ values_of m (upper_part box j (whole_ℚ (f +ℤ pos 1))) i
        cases (inl q) = subst (λ k. 1 ≤ values_of m (upper_part box j (whole_ℚ (f +ℤ pos 1))) k) (sym q) high_at
        cases (inr d) = subst (λ k. 1 ≤ k) (other_high i d) (each i)
