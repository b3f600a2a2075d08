-- The point of a dictionary, and the direction along a column.
use Rattle.std.proofs.Common.{◌≡◌, ℕ, suc, ◌+◌, ◌<◌, refl, sym, ap, ap₂, ◌∙◌, List, [], ◌∷◌, length, get_or, map, arith, Bool, true, false, cond, eqb}
use Rattle.std.specs.List.{range_with_len}
use Rattle.std.proofs.lemmas.List.{get_or-map}
use Rattle.std.proofs.lemmas.List.FromFn.{length-range_with_len, get_or-range_with_len, length-map-range_with_len}
use Rattle.fractions.specs.Rational.{ℚ, ◌+ℚ◌, ◌-ℚ◌, ◌*ℚ◌, neg_ℚ, ◌≤ℚ◌, zero_ℚ, one_ℚ}
use Rattle.fractions.specs.Vectors.{dot, at, AllNonNegative}
use Rattle.fractions.specs.Rows.{Row, Meets}
use Rattle.fractions.proofs.Common.{zero_same, by_common₄, linear}
use Rattle.fractions.proofs.Laws.{add-zero, mul-one}
use Rattle.fractions.proofs.Order.{le_refl}
use Rattle.fractions.proofs.Vectors.{dot-times, dot-nil}
use Rattle.fractions.proofs.Signs.{add_nonneg}
use Rattle.fractions.proofs.Quote.{quotes, by_ring}
use Rattle.linear_programs.specs.Program.{Program, IsPoint, objective_at}
use Rattle.dictionaries.specs.Dictionary.{Dictionary, value_of, Solves, IsShaped, IsFeasible, IsNonBasic, IsDictionaryOf, first_row, first_of_program}
use Rattle.dictionaries.specs.Reading.{column_entry, solution_at, point_of}
use Rattle.dictionaries.proofs.Multipliers.{no_row}
use Rattle.dictionaries.proofs.Solutions.{dictionary_once, lookup_column, value_assigned, solves_assigned}

-- ---- rows of the first dictionary at an assignment
pub first_row_at : (p : Program) (x : ℕ → ℚ) (r : Row)
    → value_of (first_row r) (first_of_program p).nonbasic x ≡ (r.bound -ℚ dot r.coefficients (point_of p x)) +ℚ x 0
first_row_at p x r =
    ap (λ t. r.bound *ℚ one_ℚ +ℚ (one_ℚ *ℚ x 0 +ℚ t)) (dot-times (neg_ℚ one_ℚ) r.coefficients (point_of p x))
    ∙ by_ring (r.bound ∷ x 0 ∷ dot r.coefficients (point_of p x) ∷ []) (search quotes depth 20) (search quotes depth 20) refl

pub slack_at : (p : Program) (x : ℕ → ℚ) (i : ℕ) → Solves (first_of_program p) x → i < length p.rows
    → x (suc (length p.objective) + i) ≡ ((get_or p.rows i no_row).bound -ℚ dot (get_or p.rows i no_row).coefficients (point_of p x)) +ℚ x 0
slack_at p x i s h =
    ap x (sym (get_or-range_with_len (suc (length p.objective)) (length p.rows) i 0 h))
    ∙ s i (rw length-range_with_len h)
    ∙ ap (λ row. value_of row (first_of_program p).nonbasic x) (get_or-map first_row p.rows i no_row [] h)
    ∙ first_row_at p x (get_or p.rows i no_row)

pub objective_is : (p : Program) (x : ℕ → ℚ) → value_of (first_of_program p).objective (first_of_program p).nonbasic x ≡ objective_at p (point_of p x)
objective_is p x = by_ring (p.constant ∷ x 0 ∷ dot p.objective (point_of p x) ∷ []) (search quotes depth 20) (search quotes depth 20) refl

-- ---- lists of facts
meets_by : (rows : List Row) (z : List ℚ) → ((i : ℕ) → i < length rows → dot (get_or rows i no_row).coefficients z ≤ℚ (get_or rows i no_row).bound) → Meets rows z
meets_by [] z h = tt
meets_by (r ∷ rows) z h = (h 0 (omega arith), meets_by rows z (λ i l. h (suc i) (omega arith)))

pub nonnegative_map : (x : ℕ → ℚ) (vs : List ℕ) → ((v : ℕ) → zero_ℚ ≤ℚ x v) → AllNonNegative (map x vs)
nonnegative_map x [] h = tt
nonnegative_map x (v ∷ vs) h = (h v, nonnegative_map x vs h)

-- a solution without a negative variable, in which the extra one is 0, is a point
pub solution_is_point : (p : Program) (x : ℕ → ℚ) → Solves (first_of_program p) x → x 0 ≡ zero_ℚ → ((v : ℕ) → zero_ℚ ≤ℚ x v) → IsPoint p (point_of p x)
solution_is_point p x s e h = record {
  size = length-map-range_with_len x 1 (length p.objective);
  signs = nonnegative_map x (range_with_len 1 (length p.objective)) h;
  rows = meets_by p.rows (point_of p x) (λ i l. at_most _ _ _ _ (slack_at p x i s l) e (h (suc (length p.objective) + i)));
}
  where
    at_most : (v b a o : ℚ) → v ≡ (b -ℚ a) +ℚ o → o ≡ zero_ℚ → zero_ℚ ≤ℚ v → a ≤ℚ b
    at_most = by_common₄ _ (λ p n q m r o s u d hd. simp (zero_same d hd, linear) (omega arith))

-- ---- the point of a dictionary
pub column_entry_nonnegative : (cs : List ℕ) (es : List ℚ) (v : ℕ) → ((k : ℕ) → k < length cs → zero_ℚ ≤ℚ at es k) → zero_ℚ ≤ℚ column_entry cs es v
column_entry_nonnegative [] es v h = le_refl zero_ℚ
column_entry_nonnegative (c ∷ cs) [] v h = le_refl zero_ℚ
column_entry_nonnegative (c ∷ cs) (e ∷ es) v h = cases (eqb c v) (column_entry_nonnegative cs es v (λ k l. h (suc k) (omega arith)))
  where
    cases : (b : Bool) → zero_ℚ ≤ℚ column_entry cs es v → zero_ℚ ≤ℚ cond b e (column_entry cs es v)
    cases true f = h 0 (omega arith)
    cases false f = f

pub dot-first : (row : List ℚ) → dot row (one_ℚ ∷ []) ≡ at row 0
dot-first [] = refl
dot-first (a ∷ w) = ap₂ ◌+ℚ◌ (mul-one a) (dot-nil w) ∙ add-zero a

pub assigned_nonnegative : (d : Dictionary) → IsShaped d → IsFeasible d → (v : ℕ) → zero_ℚ ≤ℚ solution_at d [] v
assigned_nonnegative d s f v =
    add_nonneg _ _ (column_entry_nonnegative d.nonbasic [] v (λ k l. le_refl zero_ℚ))
    (column_entry_nonnegative d.basic _ v (λ k l. rw (get_or-map (λ row. dot row (one_ℚ ∷ [])) d.rows k [] zero_ℚ (omega (arith, s.rows)), dot-first) (f k l)))

pub assigned_column : (p : Program) (d : Dictionary) (z : List ℚ) (v : ℕ) → IsDictionaryOf p d → (n : IsNonBasic d v) → solution_at d z v ≡ at z n.0
assigned_column p d z v k n =
    sym (ap (solution_at d z) n.2) ∙ lookup_column d z (map (λ row. dot row (one_ℚ ∷ z)) d.rows) n.0 (dictionary_once p d k) n.1

-- a feasible dictionary's point is a point, and the objective there is the objective's constant
pub point_is : (p : Program) (d : Dictionary) → IsDictionaryOf p d → IsFeasible d → IsNonBasic d 0 → IsPoint p (point_of p (solution_at d []))
point_is p d k f n =
    solution_is_point p (solution_at d []) ((k.solutions _).1 (solves_assigned d [] k.shaped (dictionary_once p d k) (omega arith)))
    (assigned_column p d [] 0 k n) (assigned_nonnegative d k.shaped f)

pub value_is : (p : Program) (d : Dictionary) → IsDictionaryOf p d → objective_at p (point_of p (solution_at d [])) ≡ at d.objective 0
value_is p d k =
    let s = solves_assigned d [] k.shaped (dictionary_once p d k) (omega arith) in
    sym (objective_is p (solution_at d [])) ∙ sym (k.objective (solution_at d []) s) ∙ value_assigned d d.objective [] (dictionary_once p d k) (omega arith) ∙ dot-first d.objective
