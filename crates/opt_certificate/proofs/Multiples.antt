-- Whole multiples: of every number of a list at once, and above every number.
use Rattle.std.proofs.Common.{◌≡◌, ℕ, zero, suc, ◌*◌, ◌<◌, sym, ap, ap₂, ◌∙◌, List, [], ◌∷◌, arith, subst, ⊎_elim, ℤ, pos, negsuc, ◌+ℤ◌, ◌*ℤ◌, nat_abs, mul-pos, lit<}
use Rattle.std.specs.Prelude.{◌≤ℤ◌}
use Rattle.std.proofs.lemmas.Int.{ints}
use borrow.Author.Differences.{at_most_in}
use Rattle.fractions.specs.Rational.{ℚ, ◌+ℚ◌, ◌*ℚ◌, ◌≤ℚ◌, ◌<ℚ◌, zero_ℚ, one_ℚ, inv_ℚ, numerator, denominator, frac}
use Rattle.fractions.specs.Whole.{whole_ℚ}
use Rattle.fractions.specs.Floor.{floor_ℚ}
use Rattle.fractions.specs.Vectors.{at}
use Rattle.fractions.proofs.Laws.{mul_assoc, mul_comm, mul-zero, one-mul}
use Rattle.fractions.proofs.Inverse.{mul-inv}
use Rattle.fractions.proofs.Order.{lt_of_lt_of_le, le_of_mul-le-mul_pos, ne_of_lt}
use Rattle.fractions.proofs.Tests.{le_or_lt, lt_iff}
use Rattle.fractions.proofs.Whole.{whole-le, whole-mul, whole-add, whole-zero, denominator-whole}
use Rattle.fractions.proofs.Floor.{floor_is_greatest}
use Rattle.fractions.proofs.Parts.{frac_self, den_pos}
use Rattle.fractions.proofs.Field.{school_rules}
use Rattle.optimality.specs.Optimal.{IsWhole}
use Rattle.linear_models.proofs.Wholes.{whole_is, is_whole}

pub whole_sum : (x y : ℚ) → IsWhole x → IsWhole y → IsWhole (x +ℚ y)
whole_sum x y h i = is_whole _ (numerator x +ℤ numerator y) (ap₂ ◌+ℚ◌ (whole_is x h) (whole_is y i) ∙ sym (whole-add _ _))

pub whole_product : (x y : ℚ) → IsWhole x → IsWhole y → IsWhole (x *ℚ y)
whole_product x y h i = is_whole _ (numerator x *ℤ numerator y) (ap₂ ◌*ℚ◌ (whole_is x h) (whole_is y i) ∙ sym (whole-mul _ _))

pub whole_number : (z : ℤ) → IsWhole (whole_ℚ z)
whole_number z = denominator-whole z

-- a fraction times its denominator
own_multiple : (x : ℚ) → IsWhole (whole_ℚ (pos (denominator x)) *ℚ x)
own_multiple x =
    let d = denominator x in
    let p : 0 < d = den_pos x in
    let e : whole_ℚ (pos d) *ℚ x ≡ frac (pos d *ℤ numerator x) (1 * d) =
    ap (λ t. whole_ℚ (pos d) *ℚ t) (sym (frac_self x)) ∙ school_rules.product (pos d) (numerator x) 1 d (lit< tt) p in
    is_whole _ (numerator x) (e ∙ (school_rules.same (pos d *ℤ numerator x) (numerator x) (1 * d) 1 (omega arith) (lit< tt)).1 (omega (arith, ints)))

-- a number that makes each number of a list whole
pub record Multiple (xs : List ℚ) : Type 0 where
  pub n : ℕ
  pub some : 0 < n
  pub whole : (j : ℕ) → IsWhole (whole_ℚ (pos n) *ℚ at xs j)

zero_whole : IsWhole zero_ℚ
zero_whole = is_whole zero_ℚ (pos 0) (sym whole-zero)

pub multiple : (xs : List ℚ) → Multiple xs
multiple [] = record { n = 1; some = omega arith; whole = λ j. subst IsWhole (sym (mul-zero _)) zero_whole }
multiple (x ∷ xs) =
    let m = multiple xs in
    let d = denominator x in
    let e : whole_ℚ (pos (m.n * d)) ≡ whole_ℚ (pos m.n) *ℚ whole_ℚ (pos d) = ap whole_ℚ (omega (arith, ints)) ∙ whole-mul (pos m.n) (pos d) in
    record { n = m.n * d; some = mul-pos m.some (den_pos x); whole = each m.n d e (own_multiple x) m.whole }
  where
    each : (n d : ℕ) → whole_ℚ (pos (n * d)) ≡ whole_ℚ (pos n) *ℚ whole_ℚ (pos d) → IsWhole (whole_ℚ (pos d) *ℚ x) → ((j : ℕ) → IsWhole (whole_ℚ (pos n) *ℚ at xs j)) → (j : ℕ) → IsWhole (whole_ℚ (pos (n * d)) *ℚ at (x ∷ xs) j)
    each n d e o h zero = subst IsWhole (sym (ap (λ t. t *ℚ x) e ∙ mul_assoc _ _ _)) (whole_product _ _ (whole_number (pos n)) o)
    each n d e o h (suc j) = subst IsWhole (sym (ap (λ t. t *ℚ at xs j) (e ∙ mul_comm _ _) ∙ mul_assoc _ _ _)) (whole_product _ _ (whole_number (pos d)) (h j))

-- ---- some whole multiple of a positive number is above x
above_floor : (x : ℚ) → x <ℚ whole_ℚ (floor_ℚ x +ℤ pos 1)
above_floor x = ⊎_elim (λ (h : whole_ℚ (floor_ℚ x +ℤ pos 1) ≤ℚ x). absurd (too_great ((floor_is_greatest x).greatest _ h))) (λ (h : x <ℚ whole_ℚ (floor_ℚ x +ℤ pos 1)). h) (le_or_lt _ _)
  where
    too_great : (floor_ℚ x +ℤ pos 1) ≤ℤ floor_ℚ x → ⊥
    too_great h = omega (arith, ints)

natural_above : (z : ℤ) → z ≤ℤ pos (nat_abs z)
natural_above (pos n) = at_most_in _ _ (omega (arith, ints))
natural_above (negsuc n) = at_most_in _ _ (omega (arith, ints))

pub some_above : (x : ℚ) → (k : ℕ) × (x <ℚ whole_ℚ (pos k))
some_above x = (nat_abs (floor_ℚ x +ℤ pos 1), lt_of_lt_of_le _ _ _ (above_floor x) ((whole-le _ _).1 (natural_above _)))

pub some_multiple_above : (x g : ℚ) → zero_ℚ <ℚ g → (k : ℕ) × (x <ℚ whole_ℚ (pos k) *ℚ g)
some_multiple_above x g h =
    let s = some_above (x *ℚ inv_ℚ g) in (s.0, strict s.0 s.1)
  where
    back : (x *ℚ inv_ℚ g) *ℚ g ≡ x
    back = mul_assoc _ _ _ ∙ ap (λ t. x *ℚ t) (mul_comm _ _ ∙ mul-inv g (λ e. ne_of_lt _ _ h (sym e))) ∙ mul_comm x one_ℚ ∙ one-mul x

    strict : (k : ℕ) → x *ℚ inv_ℚ g <ℚ whole_ℚ (pos k) → x <ℚ whole_ℚ (pos k) *ℚ g
    strict k i = (lt_iff _ _).1 (λ l. (lt_iff _ _).0 i (le_of_mul-le-mul_pos g _ _ h (subst (λ t. g *ℚ whole_ℚ (pos k) ≤ℚ t) (sym back ∙ mul_comm _ g) (subst (λ t. t ≤ℚ x) (mul_comm _ g) l))))
