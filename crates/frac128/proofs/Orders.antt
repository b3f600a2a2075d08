-- The order of two fractions by their cross products.
use Rattle.std.proofs.Common.{◌≡◌, ℕ, ◌+◌, ◌*◌, ◌/◌, ◌%◌, ◌<◌, ◌^◌, true, false, ℤ, pos, negsuc, ◌*ℤ◌, ◌<ℤ◌, Ordering, ◌∙◌, ap, arith}
use Rattle.std.specs.Prelude.{unsigned_abs, int_lt}
use Rattle.std.specs.declared.cmp.Ordering.TheVariants.{Less, Equal, Greater}
use Rattle.std.specs.Ordering.{MatchOrdering, nat_cmp}
use Rattle.std.proofs.lemmas.Cmp.{ranked}
use Rattle.std.proofs.lemmas.Int.{ints}
use Rattle.std.proofs.Math.Nat.{div-add-mod'}
use Rattle.frac128.specs.Pairs.{Pair, IsBelow, IsReduced}
use Rattle.frac128.proofs.Lowest.{same_fraction}

pub MatchOrdering-map : (o : Ordering) (P Q R P' Q' R' : Type 0) → (P → P') → (Q → Q') → (R → R') → MatchOrdering o P Q R → MatchOrdering o P' Q' R'
MatchOrdering-map Less P Q R P' Q' R' f g h m = f m
MatchOrdering-map Equal P Q R P' Q' R' f g h m = g m
MatchOrdering-map Greater P Q R P' Q' R' f g h m = h m

-- both from 0 up: the order of the products of the sizes
below_up : (z w : ℤ) (b d : ℕ) → int_lt z (pos 0) ≡ false → int_lt w (pos 0) ≡ false → unsigned_abs z * d < unsigned_abs w * b → (z *ℤ pos d) <ℤ (w *ℤ pos b)
below_up (pos m) (pos n) b d p q h = omega (arith, ints)
below_up (negsuc m) w b d p q h = cc
below_up (pos m) (negsuc n) b d p q h = cc

same_up : (z w : ℤ) (b d : ℕ) → int_lt z (pos 0) ≡ false → int_lt w (pos 0) ≡ false → unsigned_abs z * d ≡ unsigned_abs w * b → z *ℤ pos d ≡ w *ℤ pos b
same_up (pos m) (pos n) b d p q h = ap pos h
same_up (negsuc m) w b d p q h = cc
same_up (pos m) (negsuc n) b d p q h = cc

-- both below 0: the other way round
below_down : (z w : ℤ) (b d : ℕ) → int_lt z (pos 0) ≡ true → int_lt w (pos 0) ≡ true → unsigned_abs w * b < unsigned_abs z * d → (z *ℤ pos d) <ℤ (w *ℤ pos b)
below_down (negsuc m) (negsuc n) b d p q h = omega (arith, ints)
below_down (pos m) w b d p q h = grind (arith, ints)
below_down (negsuc m) (pos n) b d p q h = grind (arith, ints)

same_down : (z w : ℤ) (b d : ℕ) → int_lt z (pos 0) ≡ true → int_lt w (pos 0) ≡ true → unsigned_abs w * b ≡ unsigned_abs z * d → z *ℤ pos d ≡ w *ℤ pos b
same_down (negsuc m) (negsuc n) b d p q h = omega (arith, ints)
same_down (pos m) w b d p q h = grind (arith, ints)
same_down (negsuc m) (pos n) b d p q h = grind (arith, ints)

module _ (x y : Pair) (o : Ordering) (p : IsReduced x) (q : IsReduced y) where
  pub order_up : int_lt x.num (pos 0) ≡ false → int_lt y.num (pos 0) ≡ false → o ≡ nat_cmp (unsigned_abs x.num * y.den) (unsigned_abs y.num * x.den) → MatchOrdering o (IsBelow x y) (x ≡ y) (IsBelow y x)
  order_up s t e = MatchOrdering-map o _ _ _ _ _ _
      (λ h. below_up x.num y.num x.den y.den s t h)
      (λ h. same_fraction x y p q (same_up x.num y.num x.den y.den s t h))
      (λ h. below_up y.num x.num y.den x.den t s h)
      (ranked _ _ o e)

  pub order_down : int_lt x.num (pos 0) ≡ true → int_lt y.num (pos 0) ≡ true → o ≡ nat_cmp (unsigned_abs y.num * x.den) (unsigned_abs x.num * y.den) → MatchOrdering o (IsBelow x y) (x ≡ y) (IsBelow y x)
  order_down s t e = MatchOrdering-map o _ _ _ _ _ _
      (λ h. below_down x.num y.num x.den y.den s t h)
      (λ h. same_fraction x y p q (same_down x.num y.num x.den y.den s t h))
      (λ h. below_down y.num x.num y.den x.den t s h)
      (ranked _ _ o e)

-- the product of two numbers by their halves of 64 bits
halves : (ah al bh bl : ℕ) → (ah * bh + al * bh / 18446744073709551616 + ah * bl / 18446744073709551616 + (al * bl / 18446744073709551616 + al * bh % 18446744073709551616 + ah * bl % 18446744073709551616) / 18446744073709551616) * 2 ^ 128 + ((al * bl / 18446744073709551616 + al * bh % 18446744073709551616 + ah * bl % 18446744073709551616) % 18446744073709551616 * 18446744073709551616 + al * bl % 18446744073709551616) ≡ (ah * 18446744073709551616 + al) * (bh * 18446744073709551616 + bl)
halves ah al bh bl = omega arith

pub product_by_halves : (a b : ℕ) → (a / 18446744073709551616 * (b / 18446744073709551616) + a % 18446744073709551616 * (b / 18446744073709551616) / 18446744073709551616 + a / 18446744073709551616 * (b % 18446744073709551616) / 18446744073709551616 + (a % 18446744073709551616 * (b % 18446744073709551616) / 18446744073709551616 + a % 18446744073709551616 * (b / 18446744073709551616) % 18446744073709551616 + a / 18446744073709551616 * (b % 18446744073709551616) % 18446744073709551616) / 18446744073709551616) * 2 ^ 128 + ((a % 18446744073709551616 * (b % 18446744073709551616) / 18446744073709551616 + a % 18446744073709551616 * (b / 18446744073709551616) % 18446744073709551616 + a / 18446744073709551616 * (b % 18446744073709551616) % 18446744073709551616) % 18446744073709551616 * 18446744073709551616 + a % 18446744073709551616 * (b % 18446744073709551616) % 18446744073709551616) ≡ a * b
product_by_halves a b = halves (a / 18446744073709551616) (a % 18446744073709551616) (b / 18446744073709551616) (b % 18446744073709551616) ∙ (λ i. div-add-mod' a 18446744073709551616 i * div-add-mod' b 18446744073709551616 i)
