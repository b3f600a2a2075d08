-- The numbers of a solved row, one by one.
use Rattle.std.proofs.Common.{◌≡◌, ◌≢◌, ◌⊎◌, inl, inr, ℕ, zero, suc, ◌<◌, sym, ap, ◌∙◌, subst, List, length, arith, cond, Result, Ok, Err, MatchResult}
use Rattle.std.specs.Prelude.{IfOk}
use Rattle.std.proofs.lemmas.Bool.{ne_eqb}
use Rattle.fractions.specs.Rational.{ℚ, zero_ℚ, one_ℚ, neg_ℚ, ◌/ℚ◌}
use Rattle.fractions.specs.Vectors.{at}
use Rattle.fractions.proofs.Order.{eq_or_ne}
use Rattle.dictionaries.specs.Dictionary.{solved_row}
use Rattle.dictionaries.specs.Narrow.{IsNarrowQuotient, IsNarrowSolvedRow, dividend}
use Rattle.tableau.specs.Entries.{AreEntries}
use Rattle.tableau.proofs.Elements.{solved_by_numbers}
use Rattle.tableau.proofs.Putting.{IsPutSoFar, put_there, put_elsewhere}
use Rattle.tableau.proofs.Zeros.{solved_zero, solved_entry}

-- the number that the solved row has at the column j, found by narrow numbers
abbrev pub IsSolvedAt : List ℚ → ℕ → ℕ → ℚ → Type 0
IsSolvedAt row col j x = (x ≡ dividend row (suc col) (suc j) /ℚ at row (suc col)) × IsNarrowQuotient (dividend row (suc col) (suc j)) (at row (suc col))

abbrev pub IsNone : ℕ → ℚ → Type 0
IsNone j x = x ≡ zero_ℚ

-- where the solved entries are put into a row of zeros, each column has its number
pub all_solved : (row into : List ℚ) (kept : List (ℕ × ℚ)) (col : ℕ) → AreEntries row kept → at row (suc col) ≢ zero_ℚ → IsPutSoFar kept (length kept) into (IsSolvedAt row col) IsNone
    → (j : ℕ) → suc j < length row → IsSolvedAt row col j (at into (suc j))
all_solved row into kept col a n s j h = cases (eq_or_ne (at row (suc j)) zero_ℚ)
  where
    cases : (at row (suc j) ≡ zero_ℚ) ⊎ (at row (suc j) ≢ zero_ℚ) → IsSolvedAt row col j (at into (suc j))
    cases (inl z) =
        let other : suc j ≢ suc col = λ e. n (sym (ap (at row) e) ∙ z) in
        solved_zero row (suc col) (suc j) (at into (suc j)) (put_elsewhere row kept into (IsSolvedAt row col) IsNone a s j z) (ne_eqb _ _ other) z
    cases (inr m) = put_there row kept into (IsSolvedAt row col) IsNone a s j h m

dividend_rest : (row : List ℚ) (col : ℕ) → dividend row (suc col) 0 ≡ neg_ℚ (at row 0)
dividend_rest row col = let n : 0 ≢ suc col = omega arith in ap (λ b. cond b one_ℚ (neg_ℚ (at row 0))) (ne_eqb 0 (suc col) n)

-- the constant of the solved row, found by narrow numbers
abbrev pub IsRestSolved : List ℚ → ℕ → ℚ → Type 0
IsRestSolved row col x = (x ≡ neg_ℚ (at row 0) /ℚ at row (suc col)) × IsNarrowQuotient (neg_ℚ (at row 0)) (at row (suc col))

pub rest_solved : (row : List ℚ) (col : ℕ) (x r p : ℚ) → r ≡ neg_ℚ (at row 0) → p ≡ at row (suc col) → (x ≡ r /ℚ p) × IsNarrowQuotient r p → IsRestSolved row col x
rest_solved row col x r p e f h = subst (λ q. (x ≡ neg_ℚ (at row 0) /ℚ q) × IsNarrowQuotient (neg_ℚ (at row 0)) q) f (subst (λ s. (x ≡ s /ℚ p) × IsNarrowQuotient s p) e h)

-- the constant and the entries make the solved row
pub solved : (row into : List ℚ) (col : ℕ) → suc col < length row → length into ≡ length row → IsRestSolved row col (at into 0)
    → ((j : ℕ) → suc j < length row → IsSolvedAt row col j (at into (suc j)))
    → (into ≡ solved_row row (suc col)) × IsNarrowSolvedRow row (suc col)
solved row into col h e r f = (solved_by_numbers row into (suc col) h e (λ i l. (there i l).0), λ i l. (there i l).1)
  where
    there : (i : ℕ) → i < length row → (at into i ≡ dividend row (suc col) i /ℚ at row (suc col)) × IsNarrowQuotient (dividend row (suc col) i) (at row (suc col))
    there zero l = subst (λ d. (at into 0 ≡ d /ℚ at row (suc col)) × IsNarrowQuotient d (at row (suc col))) (sym (dividend_rest row col)) r
    there (suc j) l = f j l

pub solved_result : {T E : Type 0} (row into : List ℚ) (col : ℕ) (result : Result T E) → suc col < length row → length into ≡ length row → IsRestSolved row col (at into 0)
    → MatchResult result (λ _. (j : ℕ) → suc j < length row → IsSolvedAt row col j (at into (suc j))) (λ _. ¬ (IsNarrowSolvedRow row (suc col)))
    → MatchResult result (λ _. (into ≡ solved_row row (suc col)) × IsNarrowSolvedRow row (suc col)) (λ _. ¬ (IsNarrowSolvedRow row (suc col)))
solved_result row into col (Ok x) h e r m = solved row into col h e r m
solved_result row into col (Err x) h e r m = m

pub entry_of_result : {T E : Type 0} (row into : List ℚ) (col : ℕ) (result : Result T E) → at row (suc col) ≢ zero_ℚ
    → MatchResult result (λ _. (into ≡ solved_row row (suc col)) × IsNarrowSolvedRow row (suc col)) (λ _. ¬ (IsNarrowSolvedRow row (suc col)))
    → IfOk result (λ _. at into (suc col) ≢ zero_ℚ)
entry_of_result row into col (Ok x) n m = solved_entry row into (suc col) n m.0
entry_of_result row into col (Err x) n m = tt
