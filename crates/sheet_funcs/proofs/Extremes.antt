-- The least and the greatest of some numbers.
use Rattle.std.proofs.Common.{◌≡◌, ◌⊎◌, inl, inr, refl, Bool, true, false, List, [], ◌∷◌}
use Rattle.fractions.specs.Rational.{ℚ, le_ℚ, ◌≤ℚ◌}
use Rattle.fractions.proofs.Tests.{le_iff}
use Rattle.fractions.proofs.Order.{le_trans, le_total}
use Rattle.sheet_funcs.specs.Sums.{lesser, greater, least, greatest}

-- the order of three numbers
at_most_both : (x y z : ℚ) → le_ℚ x y ≡ true → le_ℚ y z ≡ true → le_ℚ x z ≡ true
at_most_both x y z e f = (le_iff x z).1 (le_trans x y z ((le_iff x y).0 e) ((le_iff y z).0 f))

turned_round : (x y : ℚ) → le_ℚ x y ≡ false → le_ℚ y x ≡ true
turned_round x y e = from (le_total x y)
  where
    from : (x ≤ℚ y) ⊎ (y ≤ℚ x) → le_ℚ y x ≡ true
    from (inl h) = let so : le_ℚ x y ≡ true = (le_iff x y).1 h in cc
    from (inr h) = (le_iff y x).1 h

above_both : (x y z : ℚ) (b : Bool) → le_ℚ x y ≡ false → le_ℚ y z ≡ false → le_ℚ x z ≡ b → b ≡ false
above_both x y z false e f h = refl
above_both x y z true e f h = let low : le_ℚ y z ≡ true = at_most_both y x z (turned_round x y e) h in cc

-- the lesser of three
lesser_by_tests : (x y z : ℚ) (a b : Bool) → le_ℚ x y ≡ a → le_ℚ y z ≡ b → lesser x (lesser y z) ≡ lesser (lesser x y) z
lesser_by_tests x y z true true e f = rw (e, f, e, at_most_both x y z e f) refl
lesser_by_tests x y z true false e f = rw (e, f) refl
lesser_by_tests x y z false true e f = rw (e, f, e) refl
lesser_by_tests x y z false false e f = rw (e, f, above_both x y z (le_ℚ x z) e f refl) refl

greater_by_tests : (x y z : ℚ) (a b : Bool) → le_ℚ x y ≡ a → le_ℚ y z ≡ b → greater x (greater y z) ≡ greater (greater x y) z
greater_by_tests x y z true true e f = rw (e, f, at_most_both x y z e f) refl
greater_by_tests x y z true false e f = rw (e, f, e) refl
greater_by_tests x y z false true e f = rw (e, f) refl
greater_by_tests x y z false false e f = rw (e, f, e, above_both x y z (le_ℚ x z) e f refl) refl

-- the first two numbers in one
pub least-two : (x y : ℚ) (zs : List ℚ) → least (x ∷ y ∷ zs) ≡ least (lesser x y ∷ zs)
least-two x y [] = refl
least-two x y (z ∷ zs) = lesser_by_tests x y (least (z ∷ zs)) (le_ℚ x y) (le_ℚ y (least (z ∷ zs))) refl refl

pub greatest-two : (x y : ℚ) (zs : List ℚ) → greatest (x ∷ y ∷ zs) ≡ greatest (greater x y ∷ zs)
greatest-two x y [] = refl
greatest-two x y (z ∷ zs) = greater_by_tests x y (greatest (z ∷ zs)) (le_ℚ x y) (le_ℚ y (greatest (z ∷ zs))) refl refl
