-- Two rows merged column by column into the row where one comes in for a variable of the other.
use Rattle.std.proofs.Common.{◌≡◌, ◌≢◌, ◌⊎◌, inl, inr, ℕ, zero, suc, ◌<◌, ◌≤◌, refl, sym, ap, ◌∙◌, List, length, arith, Bool, true, false, eqb, Result, Ok, Err, MatchResult}
use Rattle.std.proofs.lemmas.Bool.{cases_lt, eqb-true, eqb-false}
use Rattle.std.proofs.lemmas.List.{ext_get_or}
use Rattle.fractions.specs.Rational.{ℚ, ◌+ℚ◌, ◌*ℚ◌, zero_ℚ}
use Rattle.fractions.specs.Vectors.{at, without}
use Rattle.fractions.proofs.Laws.{mul-zero}
use Rattle.fractions.proofs.Order.{eq_or_ne}
use Rattle.frac128.specs.Narrow.{IsNarrow}
use Rattle.linear_programs.proofs.Vectors.{at-without_same, at-without_other}
use Rattle.dictionaries.specs.Dictionary.{substituted}
use Rattle.dictionaries.specs.Narrow.{IsNarrowStep, IsNarrowAt, IsNarrowSubstituted}
use Rattle.dictionaries.proofs.Keeps.{length-substituted}
use Rattle.tableau.specs.Entries.{pair_at, AreEntries}
use Rattle.tableau.proofs.Adding.{sum_added}
use Rattle.tableau.proofs.Narrowness.{all_checked}
use Rattle.tableau.proofs.Zeros.{stays}

-- a column that stands at no place has no entry
pub none_there : (row : List ℚ) (kept : List (ℕ × ℚ)) (j : ℕ) → AreEntries row kept → suc j < length row
    → ((i : ℕ) → i < length kept → (pair_at kept i).0 ≢ j) → at row (suc j) ≡ zero_ℚ
none_there row kept j a h n = cases (eq_or_ne (at row (suc j)) zero_ℚ)
  where
    cases : (at row (suc j) ≡ zero_ℚ) ⊎ (at row (suc j) ≢ zero_ℚ) → at row (suc j) ≡ zero_ℚ
    cases (inl z) = z
    cases (inr m) = let t = a.all j h m in absurd (n t.0 t.1 t.2)

-- between earlier columns and later ones a row has no entry
pub nothing_at : (row : List ℚ) (kept : List (ℕ × ℚ)) (place k j : ℕ) (z : ℚ) → z ≡ zero_ℚ → AreEntries row kept → suc j < length row
    → ((i : ℕ) → i < place → (pair_at kept i).0 < j) → ((i : ℕ) → place ≤ i → i < length kept → j < (pair_at kept i).0) → z ≡ at (without row k) (suc j)
nothing_at row kept place k j z e a h before after = e ∙ sym (without_it (eqb (suc j) k) refl)
  where
    missing : (i : ℕ) → i < length kept → (i < place) ⊎ (place ≤ i) → (pair_at kept i).0 ≢ j
    missing i l (inl m) = let less : (pair_at kept i).0 < j = before i m in omega (arith, less)
    missing i l (inr m) = let less : j < (pair_at kept i).0 = after i m l in omega (arith, less)

    without_it : (b : Bool) → eqb (suc j) k ≡ b → at (without row k) (suc j) ≡ zero_ℚ
    without_it true q = ap (at (without row k)) (eqb-true (suc j) k q) ∙ at-without_same row k
    without_it false q = at-without_other row k (suc j) (eqb-false (suc j) k q) ∙ none_there row kept j a h (λ i l. missing i l (cases_lt i place))

-- where nothing comes in, the row's own entry stays
pub own_stays : (row by : List ℚ) (other : List (ℕ × ℚ)) (col j : ℕ) → AreEntries by other → length by ≡ length row → suc j < length row → at by (suc col) ≢ zero_ℚ
    → ((q : ℕ) → q < length other → (pair_at other q).0 ≢ j) → at (substituted row (suc col) by) (suc j) ≡ at row (suc j)
own_stays row by other col j a e h n m =
    let z : at by (suc j) ≡ zero_ℚ = none_there by other j a (omega arith) m in
    stays row (suc col) by (suc j) (ap (λ u. at row (suc col) *ℚ u) z ∙ mul-zero _) (λ i. n (ap (at by) (sym i) ∙ z))

-- the constant and the entries make the row
pub written_result : {T E : Type 0} (row by into : List ℚ) (col : ℕ) (rest factor other sum : ℚ) (result : Result T E)
    → ((j : ℕ) → j < length row → IsNarrow (at row j)) → length by ≡ length row → length into ≡ length row
    → rest ≡ at row 0 → factor ≡ at row (suc col) → other ≡ at by 0 → (sum ≡ rest +ℚ factor *ℚ other) × IsNarrowStep rest factor other → at into 0 ≡ sum
    → MatchResult result (λ _. (j : ℕ) → suc j < length row
    → (at into (suc j) ≡ at (substituted row (suc col) by) (suc j)) × (at by (suc j) ≢ zero_ℚ → IsNarrowAt row (suc col) by (suc j)))
    (λ _. ¬ (IsNarrowSubstituted row (suc col) by))
    → MatchResult result (λ _. (into ≡ substituted row (suc col) by) × IsNarrowSubstituted row (suc col) by) (λ _. ¬ (IsNarrowSubstituted row (suc col) by))
written_result row by into col rest factor other sum (Err x) n e f p q r s t m = m
written_result row by into col rest factor other sum (Ok x) n e f p q r s t m = (
  ext_get_or zero_ℚ into (substituted row (suc col) by) (f ∙ sym (length-substituted row (suc col) by e)) (λ j l. there j (omega (arith, l, f))),
  all_checked row by col rest factor other n p q r s.1 (λ j l. (m j l).1),
)
  where
    first : 0 ≢ suc col
    first = omega arith

    there : (j : ℕ) → j < length row → at into j ≡ at (substituted row (suc col) by) j
    there zero l = t ∙ sum_added row by (suc col) 0 rest factor other sum (p ∙ sym (at-without_other row (suc col) 0 first)) q r s.0
    there (suc j) l = (m j l).0
