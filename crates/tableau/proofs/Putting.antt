-- A row into which numbers are put at the columns of a list of entries, one after the other.
use Rattle.std.proofs.Common.{◌≡◌, ◌≢◌, ℕ, suc, ◌+◌, ◌<◌, sym, ap, ◌∙◌, subst, List, length, arith, set}
use Rattle.std.proofs.lemmas.List.{get_or-set_other, get_or-set_same}
use Rattle.fractions.specs.Rational.{ℚ, zero_ℚ}
use Rattle.fractions.specs.Vectors.{at}
use Rattle.tableau.specs.Entries.{pair_at, IsRising, AreEntries}
use Rattle.tableau.proofs.Below.{below_more}

-- at the first i columns stands what is to come, and elsewhere what was there
pub record IsPutSoFar (kept : List (ℕ × ℚ)) (i : ℕ) (row : List ℚ) (comes was : ℕ → ℚ → Type 0) : Type 0 where
  pub done : (q : ℕ) → q < i → comes (pair_at kept q).0 (at row (suc (pair_at kept q).0))
  pub left : (j : ℕ) → ((q : ℕ) → q < i → (pair_at kept q).0 ≢ j) → was j (at row (suc j))

pub put_none : (kept : List (ℕ × ℚ)) (row : List ℚ) (comes was : ℕ → ℚ → Type 0) → ((j : ℕ) → was j (at row (suc j))) → IsPutSoFar kept 0 row comes was
put_none kept row comes was f = record { done = λ q l. absurd (omega arith); left = λ j n. f j }

pub put_next : (kept : List (ℕ × ℚ)) (i : ℕ) (row new : List ℚ) (x : ℚ) (comes was : ℕ → ℚ → Type 0) → IsRising kept → i < length kept
    → suc (pair_at kept i).0 < length row → new ≡ set row (suc (pair_at kept i).0) x → comes (pair_at kept i).0 x
    → IsPutSoFar kept i row comes was → IsPutSoFar kept (i + 1) new comes was
put_next kept i row new x comes was r h l e c s = record {
  done = below_more (λ q. comes (pair_at kept q).0 (at new (suc (pair_at kept q).0))) i
      (λ q m. subst (comes (pair_at kept q).0) (sym (other (pair_at kept q).0 (before q m))) (s.done q m))
      (subst (comes (pair_at kept i).0) (sym here) c);
  left = λ j n. subst (was j) (sym (other j (λ f. n i (omega arith) (sym f)))) (s.left j (λ q m. n q (omega arith)));
}
  where
    here : at new (suc (pair_at kept i).0) ≡ x
    here = ap (λ t. at t (suc (pair_at kept i).0)) e ∙ get_or-set_same row (suc (pair_at kept i).0) x zero_ℚ l

    before : (q : ℕ) → q < i → (pair_at kept q).0 ≢ (pair_at kept i).0
    before q m = let less : (pair_at kept q).0 < (pair_at kept i).0 = r q i m h in omega arith

    other : (j : ℕ) → j ≢ (pair_at kept i).0 → at new (suc j) ≡ at row (suc j)
    other j n =
        let m : suc j ≢ suc (pair_at kept i).0 = omega arith in
        ap (λ t. at t (suc j)) e ∙ get_or-set_other row (suc (pair_at kept i).0) (suc j) x zero_ℚ m

-- where all are put, what is to come stands where the row of the list has an entry
pub put_there : (by : List ℚ) (kept : List (ℕ × ℚ)) (row : List ℚ) (comes was : ℕ → ℚ → Type 0) → AreEntries by kept → IsPutSoFar kept (length kept) row comes was
    → (j : ℕ) → suc j < length by → at by (suc j) ≢ zero_ℚ → comes j (at row (suc j))
put_there by kept row comes was a s j h n =
    let t = a.all j h n in
    subst (λ k. comes k (at row (suc k))) t.2 (s.done t.0 t.1)

-- and elsewhere what was there
pub put_elsewhere : (by : List ℚ) (kept : List (ℕ × ℚ)) (row : List ℚ) (comes was : ℕ → ℚ → Type 0) → AreEntries by kept → IsPutSoFar kept (length kept) row comes was
    → (j : ℕ) → at by (suc j) ≡ zero_ℚ → was j (at row (suc j))
put_elsewhere by kept row comes was a s j z =
    s.left j (λ q m e. (a.each q m).other_than_zero ((a.each q m).value ∙ ap (λ k. at by (suc k)) e ∙ z))
