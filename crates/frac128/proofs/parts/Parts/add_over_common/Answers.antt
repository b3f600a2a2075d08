use Rattle.std.proofs.Common.{◌≡◌, ℕ, ℤ, pos, ◌*◌, ◌/◌, ◌<◌, ◌≤◌, ◌^◌, ◌+ℤ◌, ◌*ℤ◌, to_z, of_z, ap, sym, ◌∙◌, subst, arith}
use Rattle.std.specs.Prelude.{unsigned_abs, int_lt}
use Rattle.std.specs.Int.{IsGcd, w128}
use Rattle.std.proofs.lemmas.Bool.{false≢true}
use Rattle.frac128.specs.Narrow.{IsNarrowWhole}
use Rattle.frac128.specs.Pairs.{Pair, IsNarrowPair, IsSame, HasNarrowSum, sum}
use Rattle.frac128.specs.Signed.{signed}
use Rattle.frac128.proofs.Readings.{back}
use Rattle.frac128.proofs.Sums.{IsSummed, narrow_sum_at, summed_den_fits, summed_made, both_narrow}
use Rattle.frac128.proofs.parts.Parts.add_over_common.Goals as goal

-- a numerator over the least common multiple, as the call left it
scaled : (z l : ℤ) (n : ℕ) → IsNarrowWhole z → l ≡ to_z w128 (of_z w128 z) *ℤ pos n → l ≡ z *ℤ pos n
scaled z l n h e = rw (back z h) at e

added : (z w l r t : ℤ) (m n : ℕ) → IsNarrowWhole z → IsNarrowWhole w → (l ≡ to_z w128 (of_z w128 z) *ℤ pos m) × IsNarrowWhole l → (r ≡ to_z w128 (of_z w128 w) *ℤ pos n) × IsNarrowWhole r
    → t ≡ to_z w128 (of_z w128 l) +ℤ to_z w128 (of_z w128 r) → t ≡ z *ℤ pos m +ℤ w *ℤ pos n
added z w l r t m n h k el er e =
    e ∙ (λ i. back l el.1 i +ℤ back r er.1 i) ∙ (λ i. scaled z l m h el.0 i +ℤ scaled w r n k er.0 i)

summed : (x y : Pair) (g s h : ℕ) (l r t : ℤ) → IsNarrowPair x → IsNarrowPair y → IsGcd x.den y.den g
    → (l ≡ to_z w128 (of_z w128 x.num) *ℤ pos (y.den / g)) × IsNarrowWhole l → (r ≡ to_z w128 (of_z w128 y.num) *ℤ pos (x.den / g)) × IsNarrowWhole r
    → (t ≡ to_z w128 (of_z w128 l) +ℤ to_z w128 (of_z w128 r)) × IsNarrowWhole t → s ≡ unsigned_abs (to_z w128 (of_z w128 t)) → IsGcd s g h → IsSummed x y g t s h
summed x y g s h l r t p q pg el er et es ph = record {
  x_reduced = p.reduced;
  y_reduced = q.reduced;
  common = pg;
  total_is = added x.num y.num l r t _ _ p.num q.num el er et.0;
  size = es ∙ ap unsigned_abs (back t et.1);
  shared = ph;
}

made : (x y : Pair) (g s h d : ℕ) (l r t v : ℤ) → IsNarrowPair x → IsNarrowPair y → IsGcd x.den y.den g
    → (l ≡ to_z w128 (of_z w128 x.num) *ℤ pos (y.den / g)) × IsNarrowWhole l → (r ≡ to_z w128 (of_z w128 y.num) *ℤ pos (x.den / g)) × IsNarrowWhole r
    → (t ≡ to_z w128 (of_z w128 l) +ℤ to_z w128 (of_z w128 r)) × IsNarrowWhole t → s ≡ unsigned_abs (to_z w128 (of_z w128 t)) → IsGcd s g h
    → (d ≡ (x.den / g) * (y.den / h)) × (d < 2 ^ 127) → v ≡ signed (int_lt (to_z w128 (of_z w128 t)) (pos 0)) (s / h)
    → IsNarrowPair (record { num = to_z w128 (of_z w128 v); den = d }) × IsSame (record { num = to_z w128 (of_z w128 v); den = d }) (sum x y) × HasNarrowSum x y
made x y g s h d l r t v p q pg el er et es ph ed ev =
    let f = summed_made x y g t s h (summed x y g s h l r t p q pg el er et es ph) et.1 d ed.0 ed.1 v (rw (back t et.1) at ev) in
    rw (back v f.0.num) (
      f.0,
      f.1,
      both_narrow x y (record { num = v; den = d }) g l r pg (scaled x.num l _ p.num el.0) (scaled y.num r _ q.num er.0) el.1 er.1
          (subst IsNarrowWhole (et.0 ∙ (λ i. back l el.1 i +ℤ back r er.1 i)) et.1) f.0 f.1,
    )

-- a product with a quotient
of_quotient : (l z : ℤ) (n m : ℕ) → n ≡ m → (l ≡ z *ℤ pos n) × IsNarrowWhole l → (l ≡ z *ℤ pos m) × IsNarrowWhole l
of_quotient l z n m e h = (h.0 ∙ ap (λ k. z *ℤ pos k) e, h.1)

of_quotients : (n a b x y : ℕ) → a ≡ x → b ≡ y → (n ≡ a * b) × (n < 2 ^ 127) → (n ≡ x * y) × (n < 2 ^ 127)
of_quotients n a b x y p q h = (h.0 ∙ (λ i. p i * q i), h.1)

too_great : (a b x y : ℕ) → a ≡ x → b ≡ y → 2 ^ 127 ≤ a * b → 2 ^ 127 ≤ x * y
too_great a b x y p q h = subst (λ n. 2 ^ 127 ≤ n) (λ i. p i * q i) h

pub returns-in_err-left-clause-wide : goal.returns-in_err-left-clause-wide
returns-in_err-left-clause-wide c =
    rw (← c.self.view_is, ← c.other.view_is) (
      λ _ n. let small = narrow_sum_at _ _ _ c.gcd-common.ensures.gcd n in
          c.in_err-left.ensures (rw (back c.self.inside.num c.self.invariant.num, c.quotient-right_rest.ensures) small.left),
      λ _. c.from_residual.ensures.0,
    )

pub returns-in_err-right-clause-wide : goal.returns-in_err-right-clause-wide
returns-in_err-right-clause-wide c =
    rw (← c.self.view_is, ← c.other.view_is) (
      λ _ n. let small = narrow_sum_at _ _ _ c.gcd-common.ensures.gcd n in
          c.in_err-right.ensures (rw (back c.other.inside.num c.other.invariant.num, c.quotient-left_rest.ensures) small.right),
      λ _. c.from_residual-in_err-right.ensures.0,
    )

pub returns-in_err-total-clause-wide : goal.returns-in_err-total-clause-wide
returns-in_err-total-clause-wide c =
    let e = added c.self.inside.num c.other.inside.num _ _ _ _ _ c.self.invariant.num c.other.invariant.num (of_quotient _ _ _ _ c.quotient-right_rest.ensures c.in_ok-left.ensures) (of_quotient _ _ _ _ c.quotient-left_rest.ensures c.in_ok-right.ensures) (λ _. to_z w128 (of_z w128 c.in_ok-left.left) +ℤ to_z w128 (of_z w128 c.in_ok-right.right)) in
    rw (← c.self.view_is, ← c.other.view_is) (
      λ _ n. let small = narrow_sum_at _ _ _ c.gcd-common.ensures.gcd n in
          c.in_err-total.ensures (subst IsNarrowWhole (sym e) small.total),
      λ _. c.from_residual-in_err-total.ensures.0,
    )

pub returns-in_err-den-clause-wide : goal.returns-in_err-den-clause-wide
returns-in_err-den-clause-wide c =
    let s = summed _ _ _ _ _ _ _ _ c.self.invariant c.other.invariant c.gcd-common.ensures.gcd (of_quotient _ _ _ _ c.quotient-right_rest.ensures c.in_ok-left.ensures) (of_quotient _ _ _ _ c.quotient-left_rest.ensures c.in_ok-right.ensures) c.in_ok-total.ensures c.unsigned_abs-size.ensures.value c.gcd-shared.ensures.gcd in
    rw (← c.self.view_is, ← c.other.view_is)
    (λ _ n. let small = summed_den_fits _ _ _ _ _ _ s n in let great = too_great _ _ _ _ c.quotient-left_rest.ensures c.quotient-den_rest.ensures c.in_err-den.ensures in omega arith, λ _. c.from_residual-in_err-den.ensures.0)

pub invariant_of-result : goal.invariant_of-result
invariant_of-result c =
    (made _ _ _ _ _ _ _ _ _ _ c.self.invariant c.other.invariant c.gcd-common.ensures.gcd (of_quotient _ _ _ _ c.quotient-right_rest.ensures c.in_ok-left.ensures) (of_quotient _ _ _ _ c.quotient-left_rest.ensures c.in_ok-right.ensures) c.in_ok-total.ensures c.unsigned_abs-size.ensures.value c.gcd-shared.ensures.gcd (of_quotients _ _ _ _ _ c.quotient-left_rest.ensures c.quotient-den_rest.ensures c.in_ok-den.ensures) (c.with_sign.ensures ∙ ap (signed _) c.quotient-num.ensures)).0

pub returns-clause-value : goal.returns-clause-value
returns-clause-value c =
    let r = made _ _ _ _ _ _ _ _ _ _ c.self.invariant c.other.invariant c.gcd-common.ensures.gcd (of_quotient _ _ _ _ c.quotient-right_rest.ensures c.in_ok-left.ensures) (of_quotient _ _ _ _ c.quotient-left_rest.ensures c.in_ok-right.ensures) c.in_ok-total.ensures c.unsigned_abs-size.ensures.value c.gcd-shared.ensures.gcd (of_quotients _ _ _ _ _ c.quotient-left_rest.ensures c.quotient-den_rest.ensures c.in_ok-den.ensures) (c.with_sign.ensures ∙ ap (signed _) c.quotient-num.ensures) in
    rw (← c.self.view_is, ← c.other.view_is) (r.0, r.1)

pub returns-clause-narrow : goal.returns-clause-narrow
returns-clause-narrow c =
    let r = made _ _ _ _ _ _ _ _ _ _ c.self.invariant c.other.invariant c.gcd-common.ensures.gcd (of_quotient _ _ _ _ c.quotient-right_rest.ensures c.in_ok-left.ensures) (of_quotient _ _ _ _ c.quotient-left_rest.ensures c.in_ok-right.ensures) c.in_ok-total.ensures c.unsigned_abs-size.ensures.value c.gcd-shared.ensures.gcd (of_quotients _ _ _ _ _ c.quotient-left_rest.ensures c.quotient-den_rest.ensures c.in_ok-den.ensures) (c.with_sign.ensures ∙ ap (signed _) c.quotient-num.ensures) in
    rw (← c.self.view_is, ← c.other.view_is) r.2

pub returns-clause-wide : goal.returns-clause-wide
returns-clause-wide c =
    let r = made _ _ _ _ _ _ _ _ _ _ c.self.invariant c.other.invariant c.gcd-common.ensures.gcd (of_quotient _ _ _ _ c.quotient-right_rest.ensures c.in_ok-left.ensures) (of_quotient _ _ _ _ c.quotient-left_rest.ensures c.in_ok-right.ensures) c.in_ok-total.ensures c.unsigned_abs-size.ensures.value c.gcd-shared.ensures.gcd (of_quotients _ _ _ _ _ c.quotient-left_rest.ensures c.quotient-den_rest.ensures c.in_ok-den.ensures) (c.with_sign.ensures ∙ ap (signed _) c.quotient-num.ensures) in
    rw (← c.self.view_is, ← c.other.view_is) (λ e. absurd (false≢true e), λ n. absurd (n r.2))
