-- A row whose numbers are narrow, and what a pivot makes of it.
use Rattle.std.proofs.Common.{◌≡◌, ◌≢◌, ◌⊎◌, inl, inr, ℕ, zero, suc, ◌<◌, refl, sym, ap, ◌∙◌, subst, List, length, arith, Bool, true, false, eqb}
use Rattle.std.proofs.lemmas.Bool.{eqb-true, eqb-false}
use Rattle.fractions.specs.Rational.{ℚ, zero_ℚ}
use Rattle.fractions.specs.Vectors.{at, without}
use Rattle.fractions.proofs.Order.{eq_or_ne}
use Rattle.frac128.specs.Narrow.{IsNarrow}
use Rattle.frac128.proofs.NarrowLaws.{narrow-zero}
use Rattle.linear_programs.proofs.Vectors.{at-without_same, at-without_other}
use Rattle.dictionaries.specs.Narrow.{IsNarrowAt, IsNarrowStep, IsNarrowSubstituted}
use Rattle.tableau.specs.Entries.{pair_at, AreEntries}
use Rattle.tableau.proofs.Adding.{same_step}
use Rattle.tableau.proofs.Zeros.{narrow_there}

-- a row with a narrow constant and narrow entries has narrow numbers
pub all_numbers_narrow : (row : List ℚ) (kept : List (ℕ × ℚ)) → AreEntries row kept → IsNarrow (at row 0)
    → ((i : ℕ) → i < length kept → IsNarrow (pair_at kept i).1) → (j : ℕ) → j < length row → IsNarrow (at row j)
all_numbers_narrow row kept a r f zero l = r
all_numbers_narrow row kept a r f (suc j) l = cases (eq_or_ne (at row (suc j)) zero_ℚ)
  where
    cases : (at row (suc j) ≡ zero_ℚ) ⊎ (at row (suc j) ≢ zero_ℚ) → IsNarrow (at row (suc j))
    cases (inl z) = subst IsNarrow (sym z) narrow-zero
    cases (inr n) =
        let t = a.all j l n in
        subst (λ k. IsNarrow (at row (suc k))) t.2 (subst IsNarrow (a.each t.0 t.1).value (f t.0 t.1))

narrow_without : (row : List ℚ) (k j : ℕ) → IsNarrow (at row j) → IsNarrow (at (without row k) j)
narrow_without row k j h = cases (eqb j k) refl
  where
    cases : (b : Bool) → eqb j k ≡ b → IsNarrow (at (without row k) j)
    cases true q = subst IsNarrow (sym (ap (at (without row k)) (eqb-true j k q) ∙ at-without_same row k)) narrow-zero
    cases false q = subst IsNarrow (sym (at-without_other row k j (eqb-false j k q))) h

-- where the constant is narrow and the entries of the columns in which something comes in, all is
pub all_checked : (row by : List ℚ) (col : ℕ) (rest factor other : ℚ) → ((j : ℕ) → j < length row → IsNarrow (at row j))
    → rest ≡ at row 0 → factor ≡ at row (suc col) → other ≡ at by 0 → IsNarrowStep rest factor other
    → ((j : ℕ) → suc j < length row → at by (suc j) ≢ zero_ℚ → IsNarrowAt row (suc col) by (suc j))
    → IsNarrowSubstituted row (suc col) by
all_checked row by col rest factor other n e f g h s = there
  where
    cases : (j : ℕ) → suc j < length row → (at by (suc j) ≡ zero_ℚ) ⊎ (at by (suc j) ≢ zero_ℚ) → IsNarrowAt row (suc col) by (suc j)
    cases j l (inl z) = narrow_there row (suc col) by (suc j) (narrow_without row (suc col) (suc j) (n (suc j) l)) z
    cases j l (inr m) = s j l m

    there : (j : ℕ) → j < length row → IsNarrowAt row (suc col) by j
    there zero l =
        let other_place : 0 ≢ suc col = omega arith in
        same_step (at (without row (suc col)) 0) (at row (suc col)) (at by 0) rest factor other (at-without_other row (suc col) 0 other_place ∙ sym e) (sym f) (sym g) h
    there (suc j) l = cases j l (eq_or_ne (at by (suc j)) zero_ℚ)
