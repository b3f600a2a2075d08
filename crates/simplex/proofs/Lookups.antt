-- What the first place of a variable gives.
use Rattle.std.proofs.Common.{◌≡◌, ◌≢◌, ℕ, zero, suc, ◌+◌, ◌<◌, refl, sym, ap, ap₂, ◌∙◌, List, [], ◌∷◌, ◌++◌, length, get_or, map, drop, arith, Bool, true, false, cond, eqb}
use Rattle.std.proofs.lemmas.Bool.{eq-eqb, ne_eqb}
use Rattle.std.proofs.lemmas.List.{get_or-map}
use Rattle.std.specs.List.{range_with_len}
use Rattle.std.proofs.lemmas.List.FromFn.{map-range_with_len_more}
use Rattle.fractions.specs.Rational.{ℚ, ◌+ℚ◌, neg_ℚ, zero_ℚ, one_ℚ}
use Rattle.fractions.specs.Vectors.{dot, at, only}
use Rattle.fractions.proofs.Laws.{zero-add, neg-zero}
use Rattle.dictionaries.specs.Dictionary.{Dictionary, row_of, IsShaped, IsOnce}
use Rattle.dictionaries.specs.Reading.{column_entry, entry_of, solution_at, change_along}
use Rattle.linear_programs.proofs.Vectors.{at-only_same}
use Rattle.dictionaries.proofs.Solutions.{lookup_column, lookup_row}
use Rattle.dictionaries.proofs.Points.{dot-first}
use Rattle.dictionaries.proofs.Directions.{column_entry_nil}

pub entry_absent : (cs : List ℕ) (es : List ℚ) (v : ℕ) → ((i : ℕ) → i < length cs → get_or cs i 0 ≢ v) → column_entry cs es v ≡ zero_ℚ
entry_absent [] es v h = refl
entry_absent (c ∷ cs) [] v h = refl
entry_absent (c ∷ cs) (e ∷ es) v h =
    ap (λ b. cond b e (column_entry cs es v)) (ne_eqb c v (h 0 (omega arith))) ∙ entry_absent cs es v (λ i l. h (suc i) (omega arith))

pub entry_first : (cs : List ℕ) (es : List ℚ) (v r : ℕ) → r < length cs → get_or cs r 0 ≡ v → ((i : ℕ) → i < r → get_or cs i 0 ≢ v) → column_entry cs es v ≡ at es r
entry_first [] es v r l e h = absurd (omega arith)
entry_first (c ∷ cs) [] v r l e h = refl
entry_first (c ∷ cs) (x ∷ es) v zero l e h = ap (λ b. cond b x (column_entry cs es v)) (eq-eqb c v e)
entry_first (c ∷ cs) (x ∷ es) v (suc r) l e h =
    ap (λ b. cond b x (column_entry cs es v)) (ne_eqb c v (h 0 (omega arith))) ∙ entry_first cs es v r (omega arith) e (λ i k. h (suc i) (omega arith))

pub value_absent : (d : Dictionary) (v : ℕ) → ((i : ℕ) → i < length d.basic → get_or d.basic i 0 ≢ v) → solution_at d [] v ≡ zero_ℚ
value_absent d v h = ap₂ ◌+ℚ◌ (column_entry_nil d.nonbasic v) (entry_absent d.basic _ v h) ∙ zero-add zero_ℚ

pub value_first : (d : Dictionary) (v r : ℕ) → IsShaped d → r < length d.basic → get_or d.basic r 0 ≡ v → ((i : ℕ) → i < r → get_or d.basic i 0 ≢ v)
    → solution_at d [] v ≡ at (row_of d r) 0
value_first d v r s l e h =
    ap₂ ◌+ℚ◌ (column_entry_nil d.nonbasic v) (entry_first d.basic (map (λ row. dot row (one_ℚ ∷ [])) d.rows) v r l e h) ∙ zero-add _
    ∙ get_or-map (λ row. dot row (one_ℚ ∷ [])) d.rows r [] zero_ℚ (omega (arith, s.rows)) ∙ dot-first (row_of d r)

at-drop_one : (w : List ℚ) (k : ℕ) → at (drop 1 w) k ≡ at w (suc k)
at-drop_one [] k = refl
at-drop_one (a ∷ w) k = refl

pub multiplier_absent : (columns : List ℕ) (row : List ℚ) (v : ℕ) → ((i : ℕ) → i < length columns → get_or columns i 0 ≢ v) → neg_ℚ (entry_of columns row v) ≡ zero_ℚ
multiplier_absent columns row v h = ap neg_ℚ (entry_absent columns (drop 1 row) v h) ∙ neg-zero

pub multiplier_first : (columns : List ℕ) (row : List ℚ) (v c : ℕ) → c < length columns → get_or columns c 0 ≡ v → ((i : ℕ) → i < c → get_or columns i 0 ≢ v)
    → entry_of columns row v ≡ at row (suc c)
multiplier_first columns row v c l e h = entry_first columns (drop 1 row) v c l e h ∙ at-drop_one row c

-- ---- a direction
only_other : (cs : List ℕ) (c v : ℕ) → get_or cs c 0 ≢ v → column_entry cs (only c one_ℚ) v ≡ zero_ℚ
only_other [] c v h = refl
only_other (x ∷ cs) zero v h = ap (λ b. cond b one_ℚ (column_entry cs [] v)) (ne_eqb x v h) ∙ column_entry_nil cs v
only_other (x ∷ cs) (suc c) v h = cases (eqb x v) (only_other cs c v h)
  where
    cases : (b : Bool) → column_entry cs (only c one_ℚ) v ≡ zero_ℚ → cond b zero_ℚ (column_entry cs (only c one_ℚ) v) ≡ zero_ℚ
    cases true i = refl
    cases false i = i

pub change_own : (d : Dictionary) (c v : ℕ) → IsOnce d → c < length d.nonbasic → get_or d.nonbasic c 0 ≡ v → change_along d c v ≡ one_ℚ
change_own d c v o h e = sym (ap (change_along d c) e) ∙ lookup_column d (only c one_ℚ) _ c o h ∙ at-only_same c one_ℚ

pub change_absent : (d : Dictionary) (c v : ℕ) → get_or d.nonbasic c 0 ≢ v → ((i : ℕ) → i < length d.basic → get_or d.basic i 0 ≢ v) → change_along d c v ≡ zero_ℚ
change_absent d c v n h = ap₂ ◌+ℚ◌ (only_other d.nonbasic c v n) (entry_absent d.basic _ v h) ∙ zero-add zero_ℚ

pub change_row : (d : Dictionary) (c v r : ℕ) → IsShaped d → IsOnce d → r < length d.basic → get_or d.basic r 0 ≡ v → change_along d c v ≡ at (row_of d r) (suc c)
change_row d c v r s o l e =
    sym (ap (change_along d c) e) ∙ lookup_row d (only c one_ℚ) (map (λ row. at row (suc c)) d.rows) r o l ∙ get_or-map (λ row. at row (suc c)) d.rows r [] zero_ℚ (omega (arith, s.rows))

-- ---- a list that grows by one
pub grown : (f : ℕ → ℚ) (a n j : ℕ) (items made : List ℚ) (x : ℚ) → made ≡ items ++ x ∷ [] → items ≡ map f (range_with_len a n) → x ≡ f j → a + n ≡ j
    → made ≡ map f (range_with_len a (n + 1))
grown f a n j items made x e g h k = e ∙ ap₂ (λ l y. l ++ y ∷ []) g h ∙ sym (map-range_with_len_more f a n j k)
