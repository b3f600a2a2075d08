-- Divisors, greatest common divisors and coprime numbers.
use Rattle.std.proofs.Common.{◌≡◌, ℕ, zero, suc, ◌+◌, ◌*◌, ◌/◌, ◌%◌, ◌<◌, sym, ◌∙◌, ap, subst, ⊎_elim, arith}
use Rattle.std.specs.Int.{◌∣◌, IsGcd}
use Rattle.std.proofs.lemmas.Nat.Gcd.{IsGcd-from_zero, IsGcd-from_mod, same_from_IsGcd, dvd_refl, dvd-zero, dvd_trans, dvd_antisymm}
use Rattle.std.proofs.lemmas.Nat.{mod-mul-add}
use Rattle.std.proofs.lemmas.Bool.{cases_eq}
use Rattle.std.proofs.Math.Nat.{dvd-mul_left, dvd-mul_right, mul-dvd-mul_right, dvd_of_mul-dvd-mul_right, div-mul_cancel, eq_of_mul-eq-mul_right, mod-lt, mul-lt-mul_of_pos_right, eq-one_of_dvd-one, one-dvd, div-add-mod', zero-mul, one-mul, mul-one}
use Rattle.frac128.specs.Pairs.{IsCoprime}

-- a remainder scales
pub mod-scale : (a b c : ℕ) → 0 < b → 0 < c → (a * c) % (b * c) ≡ (a % b) * c
mod-scale a b c hb hc =
    let small : (a % b) * c < b * c = mul-lt-mul_of_pos_right (mod-lt a hb) hc in
    let split : a * c ≡ (a / b) * (b * c) + (a % b) * c = ap (λ n. n * c) (sym (div-add-mod' a b)) ∙ omega arith in
    ap (λ n. n % (b * c)) split ∙ mod-mul-add (a / b) (b * c) ((a % b) * c) small

-- a greatest common divisor that stays one when both numbers are scaled
abbrev ScaledGcd : ℕ → ℕ → Type 0
ScaledGcd a b = (g : ℕ) × ((c : ℕ) → 0 < c → IsGcd (a * c) (b * c) (g * c))

gcd_within : (k a b : ℕ) → b < k → ScaledGcd a b
gcd_within zero a b h = absurd (omega arith)
gcd_within (suc k) a b h =
    ⊎_elim
    (λ z. (a, λ c hc. IsGcd-from_zero (a * c) (b * c) (ap (λ n. n * c) z ∙ zero-mul c)))
    (λ nz. let pb : 0 < b = omega arith in
    let lt : a % b < k = omega (arith, mod-lt a pb) in
    let rest = gcd_within k b (a % b) lt in (
      rest.0,
      λ c hc. IsGcd-from_mod (a * c) (b * c) (rest.0 * c)
          (subst (λ n. IsGcd (b * c) n (rest.0 * c)) (sym (mod-scale a b c pb hc)) (rest.1 c hc)),
    ))
    (cases_eq b 0)

-- a greatest common divisor scales
pub IsGcd-scale : (a b g c : ℕ) → 0 < c → IsGcd a b g → IsGcd (a * c) (b * c) (g * c)
IsGcd-scale a b g c hc h =
    let s = gcd_within (suc b) a b (omega arith) in
    let one : IsGcd a b s.0 = simp mul-one at (s.1 1 (omega arith)) in
    subst (λ n. IsGcd (a * c) (b * c) (n * c)) (same_from_IsGcd a b s.0 g one h) (s.1 c hc)

pub IsGcd_of_coprime : (a b : ℕ) → IsCoprime a b → IsGcd a b 1
IsGcd_of_coprime a b h = (one-dvd a, one-dvd b, λ d p q. subst (λ n. n ∣ 1) (sym (h d p q)) (dvd_refl 1))

pub coprime_of_IsGcd : (a b : ℕ) → IsGcd a b 1 → IsCoprime a b
coprime_of_IsGcd a b h d p q = eq-one_of_dvd-one (h.2 d p q)

-- Euclid's lemma
pub dvd_of_coprime : (a b c : ℕ) → IsCoprime a b → a ∣ b * c → a ∣ c
dvd_of_coprime a b c h p =
    ⊎_elim
    (λ z. subst (λ n. a ∣ n) (sym z) (dvd-zero a))
    (λ nz. let pc : 0 < c = omega arith in
    let g = IsGcd-scale a b 1 c pc (IsGcd_of_coprime a b h) in
    subst (λ n. a ∣ n) (one-mul c) (g.2 a (dvd-mul_right a c) p))
    (cases_eq c 0)

pub coprime-swap : (a b : ℕ) → IsCoprime a b → IsCoprime b a
coprime-swap a b h d p q = h d q p

-- what divides one of two coprime numbers is coprime to the other
pub coprime_of_dvd : (a b d : ℕ) → d ∣ a → IsCoprime a b → IsCoprime d b
coprime_of_dvd a b d p h e q r = h e (dvd_trans e q p) r

-- a number that is coprime to two is coprime to their product
pub coprime-mul : (a b n : ℕ) → IsCoprime a n → IsCoprime b n → IsCoprime (a * b) n
coprime-mul a b n ha hb d p q =
    hb d (dvd_of_coprime d a b (coprime-swap a d (λ e r s. ha e r (dvd_trans e s q))) p) q

-- what is left of two numbers without their greatest common divisor is coprime
pub coprime-quotients : (a b g : ℕ) → 0 < g → IsGcd a b g → IsCoprime (a / g) (b / g)
coprime-quotients a b g hg h d p q =
    let pa : d * g ∣ a = subst (λ n. d * g ∣ n) (div-mul_cancel g h.0) (mul-dvd-mul_right d p g) in
    let pb : d * g ∣ b = subst (λ n. d * g ∣ n) (div-mul_cancel g h.1) (mul-dvd-mul_right d q g) in
    eq-one_of_dvd-one (dvd_of_mul-dvd-mul_right {k = g} d hg (subst (λ n. d * g ∣ n) (sym (one-mul g)) (h.2 (d * g) pa pb)))

-- two pairs in lowest terms of one value are one pair
pub same_reduced : (a b c d : ℕ) → 0 < b → 0 < d → IsCoprime a b → IsCoprime c d → a * d ≡ c * b → (a ≡ c) × (b ≡ d)
same_reduced a b c d hb hd p q e =
    let bd : b ∣ d = dvd_of_coprime b a d (coprime-swap a b p) (subst (λ n. b ∣ n) (sym e) (dvd-mul_left b c)) in
    let db : d ∣ b = dvd_of_coprime d c b (coprime-swap c d q) (subst (λ n. d ∣ n) e (dvd-mul_left d a)) in
    let same : b ≡ d = dvd_antisymm bd db in
    (eq_of_mul-eq-mul_right d hd a c (e ∙ ap (λ n. c * n) same), same)
