-- Bounds raised by some numbers and then by others, and floors that fit.
use Rattle.std.proofs.Common.{◌≡◌, ◌↔◌, ◌∙◌, ap, sym, subst, ◌⊎◌, inl, inr, refl, ℕ, List, [], ◌∷◌, ◌++◌, Option, Some, None, ℤ, pos, negsuc, lit<, arith}
use Rattle.std.proofs.Math.Nat.{div-le_self}
use Rattle.fractions.specs.Rational.{ℚ, ◌≤ℚ◌, numerator, denominator, ◌/ℚ◌}
use Rattle.fractions.specs.Floor.{floor_ℚ, rounded_down}
use Rattle.fractions.specs.Whole.{whole_ℚ}
use Rattle.frac128.specs.Narrow.{IsNarrow, IsNarrowWhole}
use Rattle.frac128.proofs.NarrowLaws.{narrow-whole}
use Rattle.frac128.proofs.Tens.{quotient-is}
use Rattle.linear_models.specs.Box.{greater, lesser}
use Rattle.linear_models.specs.Bounds.{highest, lowest}
use Rattle.linear_models.proofs.Tightest.{AllAbove, AllBelow, IfThereAbove, IfThereBelow, greater_is, highest_is, lesser_is, lowest_is, some_is}
use Rattle.fractions.proofs.Order.{le_antisymm, le_refl}
use Rattle.lin_model.specs.Inner.{raised, lowered}

pub raised-append : (o : Option ℚ) (xs ys : List ℚ) → raised o (xs ++ ys) ≡ raised (raised o xs) ys
raised-append o [] ys = refl
raised-append o (x ∷ xs) ys = raised-append (Some (greater o x)) xs ys

pub lowered-append : (o : Option ℚ) (xs ys : List ℚ) → lowered o (xs ++ ys) ≡ lowered (lowered o xs) ys
lowered-append o [] ys = refl
lowered-append o (x ∷ xs) ys = lowered-append (Some (lesser o x)) xs ys

-- ---- the greatest of some numbers is what comes of raising nothing to each of them
raised_is : (o : Option ℚ) (cs : List ℚ) (x : ℚ) → (IfThereBelow o x × AllBelow cs x) ↔ IfThereBelow (raised o cs) x
raised_is o [] x = (λ h. h.0, λ h. (h, tt))
raised_is o (c ∷ cs) x =
    let g = greater_is o c x in let r = raised_is (Some (greater o c)) cs x in (
      λ h. r.0 (λ b e. subst (λ t. t ≤ℚ x) (some_is e) (g.1 (h.0, h.1.0)), h.1.1),
      λ h. let k = r.1 h in let m = g.0 (k.0 (greater o c) refl) in (m.0, (m.1, k.1)),
    )

lowered_is : (o : Option ℚ) (cs : List ℚ) (x : ℚ) → (IfThereAbove o x × AllAbove cs x) ↔ IfThereAbove (lowered o cs) x
lowered_is o [] x = (λ h. h.0, λ h. (h, tt))
lowered_is o (c ∷ cs) x =
    let g = lesser_is o c x in let r = lowered_is (Some (lesser o c)) cs x in (
      λ h. r.0 (λ b e. subst (λ t. x ≤ℚ t) (some_is e) (g.1 (h.0, h.1.0)), h.1.1),
      λ h. let k = r.1 h in let m = g.0 (k.0 (lesser o c) refl) in (m.0, (m.1, k.1)),
    )

raised_some : (b : ℚ) (cs : List ℚ) → (d : ℚ) × (raised (Some b) cs ≡ Some d)
raised_some b [] = (b, refl)
raised_some b (c ∷ cs) = raised_some (greater (Some b) c) cs

lowered_some : (b : ℚ) (cs : List ℚ) → (d : ℚ) × (lowered (Some b) cs ≡ Some d)
lowered_some b [] = (b, refl)
lowered_some b (c ∷ cs) = lowered_some (lesser (Some b) c) cs

pub highest-raised : (cs : List ℚ) → highest cs ≡ raised None cs
highest-raised [] = refl
highest-raised (c ∷ cs) =
    let s = raised_some c cs in
    let same : (x : ℚ) → IfThereBelow (raised None (c ∷ cs)) x ↔ IfThereBelow (highest (c ∷ cs)) x =
    (λ x. let r = raised_is None (c ∷ cs) x in let h = highest_is (c ∷ cs) x in (λ k. h.0 (r.1 k).1, λ k. r.0 (λ b e. cc, h.1 k))) in
    let top = greater (highest cs) c in
    let above : s.0 ≤ℚ top = (same top).1 (λ b e. subst (λ t. t ≤ℚ top) (some_is e) (le_refl top)) s.0 s.1 in
    let below : top ≤ℚ s.0 = (same s.0).0 (λ b e. subst (λ t. t ≤ℚ s.0) (some_is (sym s.1 ∙ e)) (le_refl s.0)) top refl in
    ap Some (le_antisymm _ _ below above) ∙ sym s.1

pub lowest-lowered : (cs : List ℚ) → lowest cs ≡ lowered None cs
lowest-lowered [] = refl
lowest-lowered (c ∷ cs) =
    let s = lowered_some c cs in
    let same : (x : ℚ) → IfThereAbove (lowered None (c ∷ cs)) x ↔ IfThereAbove (lowest (c ∷ cs)) x =
    (λ x. let r = lowered_is None (c ∷ cs) x in let h = lowest_is (c ∷ cs) x in (λ k. h.0 (r.1 k).1, λ k. r.0 (λ b e. cc, h.1 k))) in
    let bottom = lesser (lowest cs) c in
    let below : bottom ≤ℚ s.0 = (same bottom).1 (λ b e. subst (λ t. bottom ≤ℚ t) (some_is e) (le_refl bottom)) s.0 s.1 in
    let above : s.0 ≤ℚ bottom = (same s.0).0 (λ b e. subst (λ t. s.0 ≤ℚ t) (some_is (sym s.1 ∙ e)) (le_refl s.0)) bottom refl in
    ap Some (le_antisymm _ _ below above) ∙ sym s.1

small : (z : ℤ) (d : ℕ) → IsNarrowWhole z → IsNarrowWhole (rounded_down z d)
small (pos n) d h = omega (arith, h, div-le_self n d)
small (negsuc n) d h = omega (arith, h, div-le_self n d)

pub narrow_floor : (x : ℚ) → IsNarrow x → IsNarrowWhole (floor_ℚ x)
unfolding floor_ℚ
narrow_floor x h = small (numerator x) (denominator x) h.num

pub over_one : (z : ℤ) → whole_ℚ z /ℚ whole_ℚ (pos 1) ≡ whole_ℚ z
over_one z = quotient-is z 1 (lit< tt)

pub never : (z : ℤ) → IsNarrowWhole z → ¬ ((pos 1 ≡ pos 0) ⊎ ¬ (IsNarrow (whole_ℚ z /ℚ whole_ℚ (pos 1))))
never z h (inl e) = cc
never z h (inr n) = n (rw (over_one z) ((narrow-whole z).0 h))
