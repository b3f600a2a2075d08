-- Columns before and behind a place of a list whose columns rise.
use Rattle.std.proofs.Common.{◌≡◌, ◌≢◌, ◌⊎◌, inl, inr, ℕ, ◌+◌, ◌<◌, ◌≤◌, sym, subst, List, length, arith, get_or, Bool, false}
use Rattle.std.specs.Prelude.{IsTrue}
use Rattle.std.proofs.lemmas.Bool.{cases_eq}
use Rattle.std.proofs.lemmas.List.{get_or_read}
use Rattle.fractions.specs.Rational.{ℚ, zero_ℚ}
use Rattle.tableau.specs.Entries.{pair_at, IsRising}

-- what is read at a place
pub read : (kept : List (ℕ × ℚ)) (i : ℕ) (pair : ℕ × ℚ) → i < length kept → pair ≡ get_or kept i pair → pair_at kept i ≡ pair
read kept i pair h e = sym (get_or_read kept i pair h e (0, zero_ℚ))

pub all_earlier : (kept : List (ℕ × ℚ)) (m col : ℕ) → IsRising kept → m < length kept → (pair_at kept m).0 < col → (i : ℕ) → i < m + 1 → (pair_at kept i).0 < col
all_earlier kept m col r h l i b = cases (cases_eq i m)
  where
    cases : (i ≡ m) ⊎ (i ≢ m) → (pair_at kept i).0 < col
    cases (inl e) = subst (λ k. (pair_at kept k).0 < col) (sym e) l
    cases (inr n) = let less : (pair_at kept i).0 < (pair_at kept m).0 = r i m (omega arith) h in omega arith

pub none_earlier : (kept : List (ℕ × ℚ)) (m col : ℕ) → IsRising kept → col ≤ (pair_at kept m).0 → (i : ℕ) → m ≤ i → i < length kept → col ≤ (pair_at kept i).0
none_earlier kept m col r l i b h = cases (cases_eq i m)
  where
    cases : (i ≡ m) ⊎ (i ≢ m) → col ≤ (pair_at kept i).0
    cases (inl e) = subst (λ k. col ≤ (pair_at kept k).0) (sym e) l
    cases (inr n) = let less : (pair_at kept m).0 < (pair_at kept i).0 = r m i (omega arith) h in omega arith

pub all_later : (kept : List (ℕ × ℚ)) (m col : ℕ) → IsRising kept → col < (pair_at kept m).0 → (i : ℕ) → m ≤ i → i < length kept → col < (pair_at kept i).0
all_later kept m col r l i b h =
    let later : col + 1 ≤ (pair_at kept i).0 = none_earlier kept m (col + 1) r (omega arith) i b h in omega arith

-- a test for 0 that fails
pub other_than_zero : (b : Bool) (x : ℚ) → b ≡ false → (x ≡ zero_ℚ → IsTrue b) → x ≢ zero_ℚ
other_than_zero b x f g e = let h : IsTrue false = subst IsTrue f (g e) in cc
