-- The shape of the numbers after a pivot.
use Rattle.std.proofs.Common.{◌≡◌, ℕ, suc, ◌+◌, sym, ap, ◌∙◌, subst, List, length, set}
use Rattle.std.specs.Prelude.{All, slice_index}
use Rattle.std.proofs.lemmas.List.{length-set}
use Rattle.fractions.specs.Rational.{ℚ}
use Rattle.dictionaries.specs.Dictionary.{Dictionary, IsShaped, IsPlace, row_of, solved_row, pivoted}
use Rattle.dictionaries.specs.Narrow.{IsNarrowPivot, IsNarrowSolvedRow}
use Rattle.dictionaries.proofs.Keeps.{pivot_keeps_shape}
use Rattle.tableau.specs.Table.{Numbers, IsNarrowTable, table_after}

-- the numbers of a dictionary
abbrev pub numbers_of : Dictionary → Numbers
numbers_of d = record { rows = d.rows; objective = d.objective; auxiliary = d.auxiliary }

-- a dictionary of these numbers
abbrev pub with_numbers : List ℕ → List ℕ → Numbers → Dictionary
with_numbers basic nonbasic t = record { basic = basic; nonbasic = nonbasic; rows = t.rows; objective = t.objective; auxiliary = t.auxiliary }

-- whichever variables stand at the two places
same_shape : (basic nonbasic others columns : List ℕ) (t : Numbers) → length basic ≡ length others → length nonbasic ≡ length columns
    → IsShaped (with_numbers basic nonbasic t) → IsShaped (with_numbers others columns t)
same_shape basic nonbasic others columns t e f s = record {
  rows = s.rows ∙ e;
  widths = subst (λ n. All (λ row. length row ≡ n + 1) t.rows) f s.widths;
  objective = s.objective ∙ ap (λ n. n + 1) f;
  auxiliary = s.auxiliary ∙ ap (λ n. n + 1) f;
}

pub shaped_after : (d : Dictionary) (r c k v w : ℕ) (row by : List ℚ) (t : Numbers) → IsShaped d → IsPlace d r c → k ≡ suc c
    → row ≡ row_of d r → by ≡ solved_row row k → t ≡ table_after (numbers_of d) r k by
    → IsShaped (record { basic = set d.basic r v; nonbasic = set d.nonbasic c w; rows = t.rows; objective = t.objective; auxiliary = t.auxiliary })
shaped_after d r c k v w row by t s p e f g h =
    let by_is : by ≡ solved_row (row_of d r) (suc c) = g ∙ ap (solved_row row) e ∙ ap (λ l. solved_row l (suc c)) f in
    let t_is : t ≡ table_after (numbers_of d) r (suc c) (solved_row (row_of d r) (suc c)) =
    h ∙ ap (λ n. table_after (numbers_of d) r n by) e ∙ ap (table_after (numbers_of d) r (suc c)) by_is in
    subst (λ n. IsShaped (with_numbers (set d.basic r v) (set d.nonbasic c w) n)) (sym t_is)
    (same_shape _ _ (set d.basic r v) (set d.nonbasic c w) _ (length-set d.basic r _ ∙ sym (length-set d.basic r v)) (length-set d.nonbasic c _ ∙ sym (length-set d.nonbasic c w)) (pivot_keeps_shape d r c s p))

-- the dictionary after a pivot whose numbers were found narrow
pub pivot_made : (d : Dictionary) (r c v w : ℕ) (row by : List ℚ) (t : Numbers) → v ≡ slice_index d.nonbasic c → w ≡ slice_index d.basic r
    → row ≡ row_of d r → by ≡ solved_row row (suc c) → IsNarrowSolvedRow row (suc c) → t ≡ table_after (numbers_of d) r (suc c) by → IsNarrowTable (numbers_of d) r (suc c) by
    → (with_numbers (set d.basic r v) (set d.nonbasic c w) t ≡ pivoted d r c) × IsNarrowPivot d r c
pivot_made d r c v w row by t e f g h n i m = (
  λ j. with_numbers (set d.basic r (e j)) (set d.nonbasic c (f j)) (t_is j),
  record {
    row = subst (λ l. IsNarrowSolvedRow l (suc c)) g n;
    rows = narrow.rows;
    objective = narrow.objective;
    auxiliary = narrow.auxiliary;
  },
)
  where
    by_is : by ≡ solved_row (row_of d r) (suc c)
    by_is = h ∙ ap (λ l. solved_row l (suc c)) g

    t_is : t ≡ table_after (numbers_of d) r (suc c) (solved_row (row_of d r) (suc c))
    t_is = i ∙ ap (table_after (numbers_of d) r (suc c)) by_is

    narrow : IsNarrowTable (numbers_of d) r (suc c) (solved_row (row_of d r) (suc c))
    narrow = subst (IsNarrowTable (numbers_of d) r (suc c)) by_is m
