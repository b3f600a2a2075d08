-- Lists from whose end zeros are taken.
use Rattle.std.proofs.Common.{◌≡◌, ℕ, suc, ◌-◌, ◌<◌, refl, sym, ap, ◌∙◌, List, [], ◌∷◌, ◌++◌, length, take, get_or, Bool, true, false, cond, arith, length-append}
use Rattle.fractions.specs.Rational.{ℚ, zero_ℚ, eq_ℚ}
use Rattle.fractions.proofs.Order.{eq_iff}
use Rattle.search_certificates.specs.Leaves.{put_before, without_last_zeros}
use Rattle.search_trees.specs.Solved.{EndsInZero}
use Rattle.search_trees.proofs.Lists.{same_ends, last_split}

put_zero : (b : Bool) (y : ℚ) → eq_ℚ y y ≡ b → cond b [] (y ∷ []) ≡ []
put_zero true y e = refl
put_zero false y e = absurd (let q = (eq_iff y y).1 refl in let z : true ≡ false = sym q ∙ e in cc)

pub trimmed_zero : (ys : List ℚ) → without_last_zeros (ys ++ zero_ℚ ∷ []) ≡ without_last_zeros ys
trimmed_zero [] = put_zero (eq_ℚ zero_ℚ zero_ℚ) zero_ℚ refl
trimmed_zero (y ∷ ys) = ap (put_before y) (trimmed_zero ys)

later_zero : (y : ℚ) (ys : List ℚ) → EndsInZero ys → EndsInZero (y ∷ ys)
later_zero y ys (zs, e) = (y ∷ zs, ap (λ zs. y ∷ zs) e)

pub trimmed_whole : (ys : List ℚ) → (EndsInZero ys → ⊥) → without_last_zeros ys ≡ ys
trimmed_whole [] n = refl
trimmed_whole (y ∷ []) n = by_test (eq_ℚ y zero_ℚ) refl
  where
    by_test : (b : Bool) → eq_ℚ y zero_ℚ ≡ b → cond b [] (y ∷ []) ≡ y ∷ []
    by_test true e = absurd (n ([], ap (λ y. y ∷ []) ((eq_iff y zero_ℚ).0 e)))
    by_test false e = refl
trimmed_whole (y ∷ z ∷ zs) n = ap (put_before y) (trimmed_whole (z ∷ zs) (λ e. n (later_zero y (z ∷ zs) e)))

-- ---- a list without its last number, a zero
pub trimmed_pop : (xs ys : List ℚ) (n : ℕ) → n ≡ length xs → EndsInZero xs → ys ≡ take (n - 1) xs → (without_last_zeros ys ≡ without_last_zeros xs) × (length ys < length xs)
trimmed_pop xs ys n m (z, e) q =
    let a = length-append z (zero_ℚ ∷ []) in
    let b = ap length e in
    let size : length xs ≡ suc (length z) = omega (arith, a, b) in
    let place : n - 1 ≡ length z = omega (arith, m, size) in
    let rest : take (length z) xs ≡ z = (same_ends (take (length z) xs) z (get_or xs (length z) zero_ℚ) zero_ℚ (sym (last_split xs zero_ℚ (length z) size) ∙ e)).0 in
    let same : ys ≡ z = q ∙ ap (λ k. take k xs) place ∙ rest in
    let short = ap length same in
    (ap without_last_zeros same ∙ sym (trimmed_zero z) ∙ ap without_last_zeros (sym e), omega (arith, short, size))
