-- The floor of a split beside a whole number, and that it fits.
use Rattle.std.proofs.Common.{◌≡◌, inl, inr, ℕ, Bool, true, false, not, ℤ, pos, negsuc, ◌+ℤ◌, ◌-ℤ◌, FitsSigned, to_z, of_z, arith, refl, sym, ap, ◌∙◌, subst, Some}
use Rattle.std.specs.Prelude.{◌↔◌, ◌≤ℤ◌, ◌<ℤ◌, IsTrue}
use Rattle.std.specs.Int.{w128}
use Rattle.std.proofs.lemmas.Bool.{false≢true}
use Rattle.std.proofs.lemmas.Int.{ints, fits_signed_from_abs}
use borrow.Author.Differences.{at_most_in}
use Rattle.fractions.specs.Rational.{ℚ, ◌≤ℚ◌, ◌<ℚ◌, numerator}
use Rattle.fractions.specs.Floor.{floor_ℚ}
use Rattle.fractions.specs.Whole.{whole_ℚ}
use Rattle.fractions.proofs.Floor.{floor_unique}
use Rattle.fractions.proofs.Order.{le_antisymm, le_refl, lt_of_le_of_ne}
use Rattle.fractions.proofs.Tests.{le_or_lt}
use Rattle.fractions.proofs.Whole.{numerator-whole, whole-lt}
use Rattle.frac128.specs.Narrow.{IsNarrow, IsNarrowWhole}
use Rattle.optimality.specs.Optimal.{IsWhole}
use Rattle.optimality.specs.Problem.{Assignment}
use Rattle.fractions.specs.Vectors.{at}
use Rattle.linear_models.specs.Box.{Box, InBox, bound_at}
use Rattle.linear_models.proofs.Wholes.{whole_is}
use Rattle.opt_certificate.proofs.Wholes.{read_back}
use Rattle.searches.specs.Alike.{BoundsDiffer, FloorIs, before_number, at_number, HasTwoBounds}

next_above : (z : ℤ) → whole_ℚ z <ℚ whole_ℚ (z +ℤ pos 1)
next_above z = (whole-lt z (z +ℤ pos 1)).1 (grind (arith, ints))

-- the floor of a whole number is the number
pub whole_floor : (x : ℚ) → IsWhole x → whole_ℚ (floor_ℚ x) ≡ x
whole_floor x w =
    let e = whole_is x w in
    let f : numerator x ≡ floor_ℚ x = floor_unique x (numerator x) (subst (λ t. t ≤ℚ x) e (le_refl x)) (subst (λ t. t <ℚ whole_ℚ (numerator x +ℤ pos 1)) (sym e) (next_above (numerator x))) in
    ap whole_ℚ (sym f) ∙ sym e

one_less : (z : ℤ) → (z +ℤ negsuc 0) +ℤ pos 1 ≡ z
one_less z = omega (arith, ints)

pub floor_before : (box : Box) (c : ℕ) (x b : ℚ) → IsWhole x → bound_at box.least c ≡ Some b → b <ℚ x → FloorIs box c x (floor_ℚ x +ℤ negsuc 0)
floor_before box c x b w e l = before_number b (floor_ℚ x +ℤ negsuc 0) e l (ap whole_ℚ (one_less (floor_ℚ x)) ∙ whole_floor x w)

pub floor_at : (box : Box) (c : ℕ) (x b : ℚ) → IsWhole x → bound_at box.least c ≡ Some b → ¬ (b <ℚ x) → FloorIs box c x (floor_ℚ x)
floor_at box c x b w e n = at_number b (floor_ℚ x) e n (whole_floor x w)

-- ---- what fits
between : (a b z : ℤ) → IsNarrowWhole a → IsNarrowWhole b → a ≤ℤ z → z ≤ℤ b → IsNarrowWhole z
between a b z h k l m = omega (arith, ints)

-- the floor of a whole number that fits, fits
pub whole_narrow : (x : ℚ) → IsWhole x → IsNarrow x → IsNarrowWhole (floor_ℚ x)
whole_narrow x w h = subst (λ (z : ℤ). IsNarrowWhole z) (numerator-whole (floor_ℚ x)) (subst (λ (y : ℚ). IsNarrowWhole (numerator y)) (sym (whole_floor x w)) h.num)

some_is : {x y : ℚ} → Some x ≡ Some y → x ≡ y
some_is e = cc

narrow_of : (b : ℚ) (z : ℤ) → b ≡ whole_ℚ z → IsNarrow b → IsNarrowWhole z
narrow_of b z e h = subst (λ (k : ℤ). IsNarrowWhole k) (ap numerator e ∙ numerator-whole z) h.num

-- so does the floor below it where the least value is less
pub before_narrow : (box : Box) (c : ℕ) (x b : ℚ) → IsWhole x → IsNarrow x → HasTwoBounds box c → bound_at box.least c ≡ Some b → IsNarrow b → b <ℚ x → IsNarrowWhole (floor_ℚ x +ℤ negsuc 0) × IsNarrowWhole ((floor_ℚ x +ℤ negsuc 0) +ℤ pos 1)
before_narrow box c x b w h t e n l =
    let f = whole_narrow x w h in
    let q : b ≡ whole_ℚ t.low = some_is (sym e ∙ t.least) in
    let m : t.low <ℤ floor_ℚ x = (whole-lt t.low (floor_ℚ x)).0 (subst (λ (y : ℚ). whole_ℚ t.low <ℚ y) (sym (whole_floor x w)) (subst (λ (y : ℚ). y <ℚ x) q l)) in
    (between t.low (floor_ℚ x) (floor_ℚ x +ℤ negsuc 0) (narrow_of b t.low q n) f (at_most_in _ _ (omega (arith, ints, m))) (at_most_in _ _ (omega (arith, ints))), subst (λ (z : ℤ). IsNarrowWhole z) (sym (one_less (floor_ℚ x))) f)

-- and the next whole number where the least value isn't less, but the greatest one is another
pub after_narrow : (box : Box) (c : ℕ) (a : Assignment) (b g : ℚ) → InBox box a → IsWhole (at a c) → IsNarrow (at a c) → HasTwoBounds box c → BoundsDiffer box c → bound_at box.least c ≡ Some b → bound_at box.greatest c ≡ Some g → IsNarrow g → ¬ (b <ℚ at a c)
    → IsNarrowWhole (floor_ℚ (at a c)) × IsNarrowWhole (floor_ℚ (at a c) +ℤ pos 1)
after_narrow box c a b g i w h t d e k n l =
    let x = at a c in
    let f = whole_narrow x w h in
    let q : g ≡ whole_ℚ t.high = some_is (sym k ∙ t.greatest) in
    let z : whole_ℚ (floor_ℚ x) <ℚ whole_ℚ t.high = subst (λ (y : ℚ). y <ℚ whole_ℚ t.high) (sym (whole_floor x w)) (subst (λ (y : ℚ). x <ℚ y) q (lt_of_le_of_ne x g (i.greatest c g k) (λ s. d (e ∙ ap Some (sym at_bottom ∙ s) ∙ sym k)))) in
    let m : floor_ℚ x <ℤ t.high = (whole-lt (floor_ℚ x) t.high).0 z in
    (f, between (floor_ℚ x) t.high (floor_ℚ x +ℤ pos 1) f (narrow_of g t.high q n) (at_most_in _ _ (omega (arith, ints))) (at_most_in _ _ (omega (arith, ints, m))))
  where
    at_bottom : at a c ≡ b
    at_bottom = elim (le_or_lt (at a c) b) [ inl s ↦ le_antisymm _ _ s (i.least c b e) | inr s ↦ absurd (l s) ]

-- ---- what the code computes
-- a split beside the number, whose parts fit
pub record IsBeside (box : Box) (c : ℕ) (x : ℚ) (f : ℤ) : Type 0 where
  pub floor : FloorIs box c x f
  pub narrow : IsNarrowWhole f
  pub above : IsNarrowWhole (f +ℤ pos 1)

pub beside_before : (box : Box) (c : ℕ) (a : Assignment) (r b : ℚ) (f : ℤ) → r ≡ at a c → f ≡ floor_ℚ r → IsWhole (at a c) → IsNarrow r → HasTwoBounds box c → bound_at box.least c ≡ Some b → IsNarrow b → b <ℚ r
    → IsNarrowWhole f × IsBeside box c (at a c) (f +ℤ negsuc 0)
beside_before box c a r b f e q w h t k m l =
    let x = at a c in
    let less : b <ℚ x = subst (λ (y : ℚ). b <ℚ y) e l in
    let fits : IsNarrow x = subst IsNarrow e h in
    let n = before_narrow box c x b w fits t k m less in
    let s : floor_ℚ x ≡ f = sym (q ∙ ap floor_ℚ e) in (
      subst (λ (z : ℤ). IsNarrowWhole z) s (whole_narrow x w fits),
      subst (λ (z : ℤ). IsBeside box c x (z +ℤ negsuc 0)) s record { floor = floor_before box c x b w k less; narrow = n.0; above = n.1 },
    )

pub beside_at : (box : Box) (c : ℕ) (a : Assignment) (r b g : ℚ) (f : ℤ) → r ≡ at a c → f ≡ floor_ℚ r → InBox box a → IsWhole (at a c) → IsNarrow r → HasTwoBounds box c → BoundsDiffer box c → bound_at box.least c ≡ Some b
    → bound_at box.greatest c ≡ Some g → IsNarrow g → ¬ (b <ℚ r) → IsBeside box c (at a c) f
beside_at box c a r b g f e q i w h t d k o m l =
    let x = at a c in
    let not_less : ¬ (b <ℚ x) = (λ s. l (subst (λ (y : ℚ). b <ℚ y) (sym e) s)) in
    let n = after_narrow box c a b g i w (subst IsNarrow e h) t d k o m not_less in
    subst (λ (z : ℤ). IsBeside box c x z) (sym (q ∙ ap floor_ℚ e)) record { floor = floor_at box c x b w k not_less; narrow = n.0; above = n.1 }

less_one : (f : ℤ) → f -ℤ pos 1 ≡ f +ℤ negsuc 0
less_one f = omega (arith, ints)

-- a number less 1, as the code computes it
pub folded_less : (f : ℤ) → IsNarrowWhole f → IsNarrowWhole (f +ℤ negsuc 0) → to_z w128 (of_z w128 (to_z w128 (of_z w128 f) -ℤ pos 1)) ≡ f +ℤ negsuc 0
folded_less f h k = ap (λ (t : ℤ). to_z w128 (of_z w128 (t -ℤ pos 1))) (read_back f h) ∙ ap (λ (t : ℤ). to_z w128 (of_z w128 t)) (less_one f) ∙ read_back (f +ℤ negsuc 0) k

pub fits_less : (f : ℤ) → IsNarrowWhole f → IsNarrowWhole (f +ℤ negsuc 0) → FitsSigned w128 (to_z w128 (of_z w128 f) -ℤ pos 1)
fits_less f h k = subst (λ (t : ℤ). FitsSigned w128 (t -ℤ pos 1)) (sym (read_back f h)) (subst (λ (t : ℤ). FitsSigned w128 t) (sym (less_one f)) (fits_signed_from_abs w128 (f +ℤ negsuc 0) (omega (arith, k))))

-- whether two bounds differ, by their numbers
pub differ_is : (box : Box) (c : ℕ) (a b : ℚ) (r : Bool) → bound_at box.least c ≡ Some a → bound_at box.greatest c ≡ Some b → IsTrue r ↔ (a ≡ b) → IsTrue (not r) ↔ BoundsDiffer box c
differ_is box c a b true p q e = (λ t. absurd (false≢true t), λ d. absurd (d (p ∙ ap Some (e.0 refl) ∙ sym q)))
differ_is box c a b false p q e = (λ t h. false≢true (e.1 (some_is (sym p ∙ h ∙ q))), λ d. refl)
