-- Rows by their numbers.
use Rattle.std.proofs.Common.{◌≡◌, ◌≢◌, ℕ, ◌<◌, refl, sym, ap, ap₂, ◌∙◌, List, [], ◌∷◌, length, arith, Bool, true, false, cond, eqb, get_or, set, map}
use Rattle.std.proofs.lemmas.Bool.{eqb-true, eqb-false}
use Rattle.std.proofs.lemmas.List.{ext_get_or, length-set, length-map, get_or-set_other, get_or-map}
use Rattle.std.proofs.lemmas.Grind.{get_or-set_at}
use Rattle.fractions.specs.Rational.{ℚ, ◌+ℚ◌, ◌*ℚ◌, ◌/ℚ◌, inv_ℚ, neg_ℚ, zero_ℚ, one_ℚ}
use Rattle.fractions.specs.Vectors.{at, times, without, only}
use Rattle.fractions.proofs.Quote.{quotes, by_ring}
use Rattle.dictionaries.specs.Dictionary.{solved_row, substituted}
use Rattle.linear_programs.proofs.Vectors.{at-plus, at-times, at-without_same, at-without_other, at-only_same, at-only_other}
use Rattle.dictionaries.proofs.Keeps.{length-solved_row, length-substituted}
use Rattle.dictionaries.specs.Narrow.{dividend}

pub at-solved_row : (row : List ℚ) (k i : ℕ) → at (solved_row row k) i ≡ dividend row k i /ℚ at row k
at-solved_row row k i =
    at-plus (times (neg_ℚ (inv_ℚ (at row k))) (without row k)) (only k (inv_ℚ (at row k))) i
    ∙ ap (λ t. t +ℚ at (only k (inv_ℚ (at row k))) i) (at-times (neg_ℚ (inv_ℚ (at row k))) (without row k) i) ∙ cases (eqb i k) refl
  where
    cases : (b : Bool) → eqb i k ≡ b
        → neg_ℚ (inv_ℚ (at row k)) *ℚ at (without row k) i +ℚ at (only k (inv_ℚ (at row k))) i ≡ cond b one_ℚ (neg_ℚ (at row i)) *ℚ inv_ℚ (at row k)
    cases true e =
        let i_is : i ≡ k = eqb-true i k e in
        ap₂ (λ s t. neg_ℚ (inv_ℚ (at row k)) *ℚ s +ℚ t) (ap (at (without row k)) i_is ∙ at-without_same row k) (ap (at (only k (inv_ℚ (at row k)))) i_is ∙ at-only_same k _)
        ∙ by_ring (inv_ℚ (at row k) ∷ []) (search quotes depth 20) (search quotes depth 20) refl
    cases false e =
        let n : i ≢ k = eqb-false i k e in
        ap₂ (λ s t. neg_ℚ (inv_ℚ (at row k)) *ℚ s +ℚ t) (at-without_other row k i n) (at-only_other k _ i n)
        ∙ by_ring (inv_ℚ (at row k) ∷ at row i ∷ []) (search quotes depth 20) (search quotes depth 20) refl

pub solved_by_numbers : (row out : List ℚ) (k : ℕ) → k < length row → length out ≡ length row
    → ((i : ℕ) → i < length row → at out i ≡ dividend row k i /ℚ at row k) → out ≡ solved_row row k
solved_by_numbers row out k h e f =
    ext_get_or zero_ℚ out (solved_row row k) (e ∙ sym (length-solved_row row k h)) (λ i l. f i (omega arith) ∙ sym (at-solved_row row k i))

pub substituted_by_numbers : (row by out : List ℚ) (k : ℕ) → length by ≡ length row → length out ≡ length row
    → ((i : ℕ) → i < length row → at out i ≡ at (without row k) i +ℚ at row k *ℚ at by i) → out ≡ substituted row k by
substituted_by_numbers row by out k g e f =
    ext_get_or zero_ℚ out (substituted row k by) (e ∙ sym (length-substituted row k by g))
    (λ i l. f i (omega arith) ∙ ap (λ t. at (without row k) i +ℚ t) (sym (at-times (at row k) by i)) ∙ sym (at-plus (without row k) (times (at row k) by) i))

-- the table after a pivot, row by row
pub rows_by_substitution : (rows into : List (List ℚ)) (r k : ℕ) (by : List ℚ) → r < length rows → length into ≡ length rows
    → ((q : ℕ) → q < length rows → q ≢ r → get_or into q [] ≡ substituted (get_or rows q []) k by)
    → set into r by ≡ set (map (λ row. substituted row k by) rows) r by
rows_by_substitution rows into r k by h e f =
    ext_get_or [] (set into r by) (set (map (λ row. substituted row k by) rows) r by)
    (length-set into r by ∙ e ∙ sym (length-set (map (λ row. substituted row k by) rows) r by ∙ length-map rows (λ row. substituted row k by)))
    (λ i l. let m : i < length rows = omega (arith, l, length-set into r by, e) in cases i m (eqb i r) refl)
  where
    cases : (i : ℕ) → i < length rows → (b : Bool) → eqb i r ≡ b
        → get_or (set into r by) i [] ≡ get_or (set (map (λ row. substituted row k by) rows) r by) i []
    cases i m true q = get_or-set_at into r i by [] (eqb-true i r q) (omega (arith, e, h)) ∙ sym (get_or-set_at (map (λ row. substituted row k by) rows) r i by [] (eqb-true i r q) (rw length-map h))
    cases i m false q =
        let n : i ≢ r = eqb-false i r q in
        get_or-set_other into r i by [] n ∙ f i m n
        ∙ sym (get_or-set_other (map (λ row. substituted row k by) rows) r i by [] n ∙ get_or-map (λ row. substituted row k by) rows i [] [] m)
