-- The number of a cell from those of its two columns, of which one is 0.
use Rattle.std.proofs.Common.{◌≡◌, ℕ, suc, ◌+◌, ◌<◌, sym, ap, ap₂, ◌∙◌, length, arith, Option, Some, None, ◌⊎◌, inl, inr}
use Rattle.std.proofs.lemmas.List.FromFn.{get_or-map-range_with_len}
use Rattle.fractions.specs.Rational.{ℚ, ◌+ℚ◌, ◌-ℚ◌, neg_ℚ, zero_ℚ}
use Rattle.fractions.specs.Vectors.{at}
use Rattle.fractions.proofs.Laws.{neg-zero, add-zero, zero-add}
use Rattle.linear_programs.specs.Program.{Program, AreOpposite, IsCell, cell_number}
use Rattle.dictionaries.specs.Reading.{point_of}

pub at-point : (p : Program) (x : ℕ → ℚ) (j : ℕ) → j < length p.objective → at (point_of p x) j ≡ x (j + 1)
at-point p x j h = get_or-map-range_with_len x 1 (length p.objective) j (j + 1) zero_ℚ h (omega arith)

-- the cell has one column
pub one_column : (p : Program) (x : ℕ → ℚ) (cell : ℕ × Option ℕ) (v : ℚ) → cell.1 ≡ None → IsCell p cell → v ≡ x (cell.0 + 1) → v ≡ cell_number (point_of p x) cell
one_column p x (j, None) v e c h = h ∙ sym (at-point p x j c)
one_column p x (j, Some k) v e c h = absurd (none_some k e)
  where
    none_some : (k : ℕ) → Some k ≡ None → ⊥
    none_some k e = cc

-- it has two
two_columns : (p : Program) (x : ℕ → ℚ) (j k : ℕ) → AreOpposite p j k → cell_number (point_of p x) (j, Some k) ≡ x (j + 1) -ℚ x (k + 1)
two_columns p x j k o = ap₂ (λ a b. a -ℚ b) (at-point p x j o.one) (at-point p x k o.other)

the_first : (p : Program) (x : ℕ → ℚ) (j k : ℕ) (v w : ℚ) → AreOpposite p j k → v ≡ x (j + 1) → w ≡ x (k + 1) → w ≡ zero_ℚ → v ≡ cell_number (point_of p x) (j, Some k)
the_first p x j k v w o hv hw z =
    hv ∙ sym (two_columns p x j k o ∙ ap (λ b. x (j + 1) -ℚ b) (sym hw ∙ z) ∙ ap (λ b. x (j + 1) +ℚ b) neg-zero ∙ add-zero _)

the_second : (p : Program) (x : ℕ → ℚ) (j k : ℕ) (w n : ℚ) → AreOpposite p j k → w ≡ x (k + 1) → ¬ (w ≡ zero_ℚ) → n ≡ neg_ℚ w
    → (x (suc j) ≡ zero_ℚ) ⊎ (x (suc k) ≡ zero_ℚ) → n ≡ cell_number (point_of p x) (j, Some k)
the_second p x j k w n o hw z hn q =
    hn ∙ ap neg_ℚ hw ∙ sym (two_columns p x j k o ∙ ap (λ a. a -ℚ x (k + 1)) (elim q [
      | inl e ↦ ap x (plus_one j) ∙ e
      | inr e ↦ absurd (z (hw ∙ ap x (plus_one k) ∙ e))
    ]) ∙ zero-add _)
  where
    plus_one : (j : ℕ) → j + 1 ≡ suc j
    plus_one j = omega arith

-- the cell by cases
pub first_column : (p : Program) (x : ℕ → ℚ) (cell : ℕ × Option ℕ) (k : ℕ) (v w : ℚ) → cell.1 ≡ Some k → IsCell p cell → v ≡ x (cell.0 + 1) → w ≡ x (k + 1) → w ≡ zero_ℚ
    → v ≡ cell_number (point_of p x) cell
first_column p x (j, None) k v w e c hv hw z = absurd (none_some k e)
  where
    none_some : (k : ℕ) → None ≡ Some k → ⊥
    none_some k e = cc
first_column p x (j, Some i) k v w e c hv hw z = the_first p x j i v w c hv (hw ∙ ap (λ k. x (k + 1)) (sym (inside i k e))) z
  where
    inside : (i k : ℕ) → Some i ≡ Some k → i ≡ k
    inside i k e = cc

pub second_column : (p : Program) (x : ℕ → ℚ) (cell : ℕ × Option ℕ) (k : ℕ) (w n : ℚ) → cell.1 ≡ Some k → IsCell p cell → w ≡ x (k + 1) → ¬ (w ≡ zero_ℚ) → n ≡ neg_ℚ w
    → ((i : ℕ) → AreOpposite p cell.0 i → (x (suc cell.0) ≡ zero_ℚ) ⊎ (x (suc i) ≡ zero_ℚ)) → n ≡ cell_number (point_of p x) cell
second_column p x (j, None) k w n e c hw z hn q = absurd (none_some k e)
  where
    none_some : (k : ℕ) → None ≡ Some k → ⊥
    none_some k e = cc
second_column p x (j, Some i) k w n e c hw z hn q = the_second p x j i w n c (hw ∙ ap (λ k. x (k + 1)) (sym (inside i k e))) z hn (q i c)
  where
    inside : (i k : ℕ) → Some i ≡ Some k → i ≡ k
    inside i k e = cc
