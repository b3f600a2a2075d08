-- The rows of a table that were lent out and changed.
use Rattle.std.proofs.Common.{◌≡◌, ℕ, sym, ◌∙◌, subst, List, ◌++◌, length, take, drop}
use Rattle.std.proofs.Math.Seq.{take-append_seam}
use Rattle.fractions.specs.Rational.{ℚ}

-- a list that is written back over one as long
pub written_back : (xs new : List (List ℚ)) (n : ℕ) → length new ≡ length xs → n ≡ length xs → new ≡ take n (new ++ drop (length new) xs)
written_back xs new n same all =
    subst (λ m. new ≡ take m (new ++ drop (length new) xs)) (same ∙ sym all) (sym (take-append_seam new _))
