-- Every choice of the non-basic variables is one solution.
use Rattle.std.proofs.Common.{◌≡◌, ℕ, zero, suc, ◌+◌, ◌<◌, ◌≤◌, refl, sym, ap, ap₂, ◌∙◌, List, [], ◌∷◌, length, get_or, map, arith, Bool, true, false, cond, eqb, ◌⊎◌, inl, inr}
use Rattle.std.proofs.lemmas.Bool.{eq-eqb}
use Rattle.std.proofs.lemmas.List.{get_or-map, get_or_past, length-map}
use Rattle.fractions.specs.Rational.{ℚ, ◌+ℚ◌, zero_ℚ, one_ℚ}
use Rattle.fractions.specs.Vectors.{dot, at}
use Rattle.fractions.proofs.Laws.{zero-add, add-zero}
use Rattle.fractions.proofs.Vectors.{dot_comm}
use Rattle.linear_programs.specs.Program.{Program}
use Rattle.dictionaries.specs.Dictionary.{Dictionary, row_of, value_of, Solves, IsShaped, IsDictionaryOf, times_in, IsOnce}
use Rattle.dictionaries.specs.Reading.{column_entry, solution_at}
use Rattle.linear_programs.proofs.Vectors.{dot_agree}
use Rattle.dictionaries.proofs.Places.{first_places}

pub dot_same : (a x y : List ℚ) → ((j : ℕ) → at x j ≡ at y j) → dot a x ≡ dot a y
dot_same a x y h = dot_comm a x ∙ dot_agree x y a (λ i l. h i) ∙ dot_comm y a

pub entry_none : (cs : List ℕ) (es : List ℚ) (v : ℕ) → times_in cs v ≡ 0 → column_entry cs es v ≡ zero_ℚ
entry_none [] es v h = refl
entry_none (c ∷ cs) [] v h = refl
entry_none (c ∷ cs) (e ∷ es) v h = cases (eqb c v) h (λ k. entry_none cs es v k)
  where
    cases : (b : Bool) → cond b 1 0 + times_in cs v ≡ 0 → (times_in cs v ≡ 0 → column_entry cs es v ≡ zero_ℚ) → cond b e (column_entry cs es v) ≡ zero_ℚ
    cases true k f = absurd (omega arith)
    cases false k f = f (omega arith)

pub times_in_some : (cs : List ℕ) (i : ℕ) → i < length cs → 1 ≤ times_in cs (get_or cs i 0)
times_in_some [] i h = absurd (omega arith)
times_in_some (c ∷ cs) zero h = let e = eq-eqb c c refl in rw e (omega arith)
times_in_some (c ∷ cs) (suc i) h = omega (arith, times_in_some cs i (omega arith))

pub entry_at : (cs : List ℕ) (es : List ℚ) (i : ℕ) → i < length cs → times_in cs (get_or cs i 0) ≤ 1 → column_entry cs es (get_or cs i 0) ≡ at es i
entry_at [] es i h t = absurd (omega arith)
entry_at (c ∷ cs) [] i h t = refl
entry_at (c ∷ cs) (e ∷ es) zero h t = ap (λ b. cond b e (column_entry cs es c)) (eq-eqb c c refl)
entry_at (c ∷ cs) (e ∷ es) (suc i) h t =
    cases (eqb c (get_or cs i 0)) t (times_in_some cs i (omega arith)) (λ k. entry_at cs es i (omega arith) k)
  where
    cases : (b : Bool) → cond b 1 0 + times_in cs (get_or cs i 0) ≤ 1 → 1 ≤ times_in cs (get_or cs i 0)
        → (times_in cs (get_or cs i 0) ≤ 1 → column_entry cs es (get_or cs i 0) ≡ at es i)
        → cond b e (column_entry cs es (get_or cs i 0)) ≡ at es i
    cases true k s f = absurd (omega arith)
    cases false k s f = f (omega arith)

pub dictionary_once : (p : Program) (d : Dictionary) → IsDictionaryOf p d → IsOnce d
dictionary_once p d k v = omega (arith, k.places v, first_places p v)

-- a list over the columns plus one over the rows, looked up at a column, and at a row
pub lookup_column : (d : Dictionary) (z w : List ℚ) (j : ℕ) → IsOnce d → j < length d.nonbasic
    → column_entry d.nonbasic z (get_or d.nonbasic j 0) +ℚ column_entry d.basic w (get_or d.nonbasic j 0) ≡ at z j
lookup_column d z w j o h =
    let s = times_in_some d.nonbasic j h in
    ap₂ ◌+ℚ◌ (entry_at d.nonbasic z j h (omega (arith, o (get_or d.nonbasic j 0)))) (entry_none d.basic w (get_or d.nonbasic j 0) (omega (arith, o (get_or d.nonbasic j 0)))) ∙ add-zero (at z j)

pub lookup_row : (d : Dictionary) (z w : List ℚ) (i : ℕ) → IsOnce d → i < length d.basic
    → column_entry d.nonbasic z (get_or d.basic i 0) +ℚ column_entry d.basic w (get_or d.basic i 0) ≡ at w i
lookup_row d z w i o h =
    let s = times_in_some d.basic i h in
    ap₂ ◌+ℚ◌ (entry_none d.nonbasic z (get_or d.basic i 0) (omega (arith, o (get_or d.basic i 0)))) (entry_at d.basic w i h (omega (arith, o (get_or d.basic i 0)))) ∙ zero-add (at w i)

-- a further row at such an assignment
pub value_assigned : (d : Dictionary) (row z : List ℚ) → IsOnce d → length z ≤ length d.nonbasic → value_of row d.nonbasic (solution_at d z) ≡ dot row (one_ℚ ∷ z)
value_assigned d row z o h = dot_same row (one_ℚ ∷ map (solution_at d z) d.nonbasic) (one_ℚ ∷ z) each
  where
    halves : (j n : ℕ) → (j < n) ⊎ (n ≤ j)
    halves j n = grind arith

    inner : (j : ℕ) → (j < length d.nonbasic) ⊎ (length d.nonbasic ≤ j) → at (map (solution_at d z) d.nonbasic) j ≡ at z j
    inner j (inl l) = get_or-map (solution_at d z) d.nonbasic j 0 zero_ℚ l ∙ lookup_column d z (map (λ row. dot row (one_ℚ ∷ z)) d.rows) j o l
    inner j (inr l) = get_or_past (map (solution_at d z) d.nonbasic) j zero_ℚ (rw length-map l) ∙ sym (get_or_past z j zero_ℚ (omega arith))

    each : (j : ℕ) → at (one_ℚ ∷ map (solution_at d z) d.nonbasic) j ≡ at (one_ℚ ∷ z) j
    each zero = refl
    each (suc j) = inner j (halves j (length d.nonbasic))

pub solves_assigned : (d : Dictionary) (z : List ℚ) → IsShaped d → IsOnce d → length z ≤ length d.nonbasic → Solves d (solution_at d z)
solves_assigned d z s o h i l =
    lookup_row d z (map (λ row. dot row (one_ℚ ∷ z)) d.rows) i o l
    ∙ get_or-map (λ row. dot row (one_ℚ ∷ z)) d.rows i [] zero_ℚ (omega (arith, s.rows))
    ∙ sym (value_assigned d (row_of d i) z o h)
