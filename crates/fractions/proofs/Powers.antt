-- The laws of powers.
use Rattle.std.proofs.Common.{◌≡◌, ◌≢◌, ℕ, zero, suc, refl, sym, ap, ap₂, ◌∙◌, arith, ℤ, pos, negsuc, neg_ℤ, ◌+ℤ◌}
use Rattle.std.proofs.lemmas.Int.{ints}
use Rattle.fractions.specs.Rational.{ℚ, zero_ℚ, one_ℚ, ◌*ℚ◌, inv_ℚ}
use Rattle.fractions.specs.Power.{repeated, power_ℚ, PowerRules}
use Rattle.fractions.proofs.Laws.{mul_assoc, mul_comm, mul-one, one-mul, mul-zero, ring_laws}
use Rattle.fractions.proofs.Inverse.{mul-inv, inv_unique, one-ne-zero}

-- a product of what is not 0 is not 0
pub mul-ne-zero : (x y : ℚ) → x ≢ zero_ℚ → y ≢ zero_ℚ → x *ℚ y ≢ zero_ℚ
mul-ne-zero x y h i e =
    i (sym (one-mul y) ∙ ap (λ t. t *ℚ y) (sym (mul-inv x h) ∙ mul_comm x (inv_ℚ x)) ∙ mul_assoc (inv_ℚ x) x y ∙ ap (λ t. inv_ℚ x *ℚ t) e ∙ mul-zero _)

pub repeated-ne-zero : (x : ℚ) (k : ℕ) → x ≢ zero_ℚ → repeated x k ≢ zero_ℚ
repeated-ne-zero x zero h = one-ne-zero
repeated-ne-zero x (suc k) h = mul-ne-zero x (repeated x k) h (repeated-ne-zero x k h)

pub inv-ne-zero : (x : ℚ) → x ≢ zero_ℚ → inv_ℚ x ≢ zero_ℚ
inv-ne-zero x h e = one-ne-zero (sym (mul-inv x h) ∙ ap (λ t. x *ℚ t) e ∙ mul-zero x)

pub inv-inv : (x : ℚ) → x ≢ zero_ℚ → inv_ℚ (inv_ℚ x) ≡ x
inv-inv x h = inv_unique (inv_ℚ x) x (mul_comm _ _ ∙ mul-inv x h)

pub inv-one : inv_ℚ one_ℚ ≡ one_ℚ
inv-one = inv_unique one_ℚ one_ℚ (mul-one one_ℚ)

pub inv-mul : (x y : ℚ) → x ≢ zero_ℚ → y ≢ zero_ℚ → inv_ℚ (x *ℚ y) ≡ inv_ℚ x *ℚ inv_ℚ y
inv-mul x y h i = inv_unique (x *ℚ y) (inv_ℚ x *ℚ inv_ℚ y) (swapped ∙ ap₂ ◌*ℚ◌ (mul-inv x h) (mul-inv y i) ∙ mul-one one_ℚ)
  where
    swapped : (x *ℚ y) *ℚ (inv_ℚ x *ℚ inv_ℚ y) ≡ (x *ℚ inv_ℚ x) *ℚ (y *ℚ inv_ℚ y)
    swapped = simp ring_laws

-- to turn over and to repeat go along
pub inv-repeated : (x : ℚ) (k : ℕ) → x ≢ zero_ℚ → inv_ℚ (repeated x k) ≡ repeated (inv_ℚ x) k
inv-repeated x zero h = inv-one
inv-repeated x (suc k) h = inv-mul x (repeated x k) h (repeated-ne-zero x k h) ∙ ap (λ t. inv_ℚ x *ℚ t) (inv-repeated x k h)

pub power-one_more : (x : ℚ) (e : ℤ) → x ≢ zero_ℚ → power_ℚ x (e +ℤ pos 1) ≡ x *ℚ power_ℚ x e
unfolding power_ℚ
power-one_more x (pos k) h = ap (power_ℚ x) next
  where
    next : pos k +ℤ pos 1 ≡ pos (suc k)
    next = omega (arith, ints)
power-one_more x (negsuc zero) h = sym (ap (λ t. x *ℚ inv_ℚ t) (mul-one x) ∙ mul-inv x h)
power-one_more x (negsuc (suc k)) h =
    ap (power_ℚ x) next ∙ sym (ap (λ t. x *ℚ t) (inv-mul x (repeated x (suc k)) h (repeated-ne-zero x (suc k) h)) ∙ sym (mul_assoc _ _ _) ∙ ap (λ t. t *ℚ inv_ℚ (repeated x (suc k))) (mul-inv x h) ∙ one-mul _)
  where
    next : negsuc (suc k) +ℤ pos 1 ≡ negsuc k
    next = omega (arith, ints)

power-up : (x : ℚ) (k : ℕ) (f : ℤ) → x ≢ zero_ℚ → power_ℚ x (pos k +ℤ f) ≡ repeated x k *ℚ power_ℚ x f
power-up x zero f h = ap (power_ℚ x) (omega (arith, ints)) ∙ sym (one-mul _)
power-up x (suc k) f h = ap (power_ℚ x) (next k f) ∙ power-one_more x (pos k +ℤ f) h ∙ ap (λ t. x *ℚ t) (power-up x k f h) ∙ sym (mul_assoc _ _ _)
  where
    next : (k : ℕ) (f : ℤ) → pos (suc k) +ℤ f ≡ (pos k +ℤ f) +ℤ pos 1
    next k f = omega (arith, ints)

pub power-sum : (x : ℚ) (e f : ℤ) → x ≢ zero_ℚ → power_ℚ x (e +ℤ f) ≡ power_ℚ x e *ℚ power_ℚ x f
unfolding power_ℚ
power-sum x (pos k) f h = power-up x k f h
power-sum x (negsuc k) f h =
    let r = repeated x (suc k) in
    let up : power_ℚ x f ≡ r *ℚ power_ℚ x (negsuc k +ℤ f) = ap (power_ℚ x) (back k f) ∙ power-up x (suc k) (negsuc k +ℤ f) h in
    sym (ap (λ t. inv_ℚ r *ℚ t) up ∙ sym (mul_assoc _ _ _) ∙ ap (λ t. t *ℚ power_ℚ x (negsuc k +ℤ f)) (mul_comm _ _ ∙ mul-inv r (repeated-ne-zero x (suc k) h)) ∙ one-mul _)
  where
    back : (k : ℕ) (f : ℤ) → f ≡ pos (suc k) +ℤ (negsuc k +ℤ f)
    back k f = omega (arith, ints)

power-none : (x : ℚ) → power_ℚ x (pos 0) ≡ one_ℚ
unfolding power_ℚ
power-none x = refl

pub power-neg : (x : ℚ) (e : ℤ) → x ≢ zero_ℚ → power_ℚ x (neg_ℤ e) ≡ inv_ℚ (power_ℚ x e)
power-neg x e h = sym (inv_unique (power_ℚ x e) (power_ℚ x (neg_ℤ e)) (sym (power-sum x e (neg_ℤ e) h) ∙ ap (power_ℚ x) (omega (arith, ints)) ∙ power-none x))

pub power_rules : PowerRules
power_rules = record { none = power-none; one_more = power-one_more; turned = power-neg; sum = power-sum }
