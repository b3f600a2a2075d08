-- A number of digits up to a cap.
use Rattle.std.proofs.Common.{◌≡◌, ℕ, ◌+◌, ◌*◌, ◌≤◌, List, [], ◌∷◌, sym, ap, ◌∙◌, arith, min}
use Rattle.std.specs.Char.{digit_value}
use Rattle.std.specs.Str.Parse.{digits_value_after}

min_step : (m d k : ℕ) → 1 ≤ k → min (m * 10 + d) k ≡ min (min m k * 10 + d) k
min_step m d k h = omega arith

pub min-after : (k : ℕ) → 1 ≤ k → (m : ℕ) (ds : List ℕ) → min (digits_value_after 10 (min m k) ds) k ≡ min (digits_value_after 10 m ds) k
min-after k h m [] = omega arith
min-after k h m (d ∷ ds) =
    sym (min-after k h (min m k * 10 + digit_value d) ds)
    ∙ ap (λ n. min (digits_value_after 10 n ds) k) (sym (min_step m (digit_value d) k h))
    ∙ min-after k h (m * 10 + digit_value d) ds
