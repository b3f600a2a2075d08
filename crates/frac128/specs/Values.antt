-- The value of a pair, and the pair of a value: a narrow pair is in lowest terms, so its value gives it back.
use Rattle.std.specs.Prelude.{◌≡◌, nat_abs}
use Rattle.std.proofs.Common.{lt-ltb}
use Rattle.std.proofs.lemmas.Bool.{eq-eqb}
use Rattle.fractions.specs.Gcd.{gcd}
use Rattle.fractions.specs.Rational.{ℚ, frac, numerator, denominator, IsLowest, is_lowest}
use Rattle.fractions.proofs.Gcd.{gcd_is}
use Rattle.fractions.proofs.Parts.{frac-lowest}
use Rattle.frac128.specs.Pairs.{Pair, IsNarrowPair, IsReduced}
use Rattle.frac128.specs.declared.number.Frac.TheInside.{Inside}

-- the pair of a value in lowest terms
abbrev pub pair_of : ℚ → Pair
pair_of x = record { num = numerator x; den = denominator x }

-- the value of a pair
abbrev pub value : Pair → ℚ
value f = frac f.num f.den

pub lowest : (f : Pair) → IsReduced f → IsLowest f.num f.den
unfolding is_lowest
lowest f h =
    let g = gcd_is (nat_abs f.num) f.den in
    let e : gcd (nat_abs f.num) f.den ≡ 1 = h.coprime _ g.0 g.1 in
    rw (lt-ltb 0 f.den h.positive, eq-eqb (gcd (nat_abs f.num) f.den) 1 e) tt

pub parts_back : (a : Inside) → IsNarrowPair a.parts → ◌≡◌ {A = Inside} record { parts = pair_of (value a.parts) } a
parts_back a h = let l = frac-lowest a.parts.num a.parts.den (lowest a.parts h.reduced) in λ i. record { parts = record { num = l.0 i; den = l.1 i } }
