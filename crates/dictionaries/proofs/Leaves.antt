-- The leaf proofs that the last dictionary of a run gives.
use Rattle.std.proofs.Common.{◌≡◌, ◌≢◌, ℕ, suc, ◌+◌, ◌<◌, ◌≤◌, refl, sym, ap, ap₂, ◌∙◌, List, [], ◌∷◌, length, get_or, drop, arith, Bool, true, false, cond, eqb, ◌⊎◌, inl, inr}
use Rattle.std.specs.Prelude.{All}
use Rattle.std.proofs.lemmas.Bool.{eqb-true}
use Rattle.std.proofs.lemmas.List.{get_or_past, get_or-replicate}
use Rattle.std.proofs.lemmas.List.Elements.{All-head, All-tail}
use Rattle.std.proofs.lemmas.List.FromFn.{get_or-map-range_with_len, length-map-range_with_len}
use Rattle.fractions.specs.Rational.{ℚ, ◌+ℚ◌, ◌*ℚ◌, neg_ℚ, ◌≤ℚ◌, ◌<ℚ◌, zero_ℚ}
use Rattle.fractions.specs.Vectors.{at, times, AllNonNegative}
use Rattle.fractions.specs.Rows.{Row, combined, combined_bound}
use Rattle.fractions.proofs.Order.{le_refl, add-le-add, neg_le}
use Rattle.fractions.proofs.Laws.{mul-zero, zero-add, add_comm, neg-zero}
use Rattle.fractions.proofs.Tests.{le_or_lt}
use Rattle.linear_programs.specs.Program.{Program, IsRegular, Bounds, IsContradictory}
use Rattle.dictionaries.specs.Dictionary.{Dictionary, value_of, Solves, first_of_program, IsDictionaryOf}
use Rattle.dictionaries.specs.Reading.{column_entry, entry_of, multipliers}
use Rattle.dictionaries.specs.Bland.{IsOptimal}
use Rattle.linear_programs.proofs.Vectors.{at-plus, at-times, at-drop_one}
use Rattle.dictionaries.proofs.Multipliers.{spread, Combines, row_combines}
use Rattle.dictionaries.proofs.Places.{at-spread, first_places}

-- ---- entries of an optimal row are not positive
column_entry_le : (cs : List ℕ) (es : List ℚ) (v : ℕ) → ((k : ℕ) → k < length cs → get_or cs k 0 ≡ v → at es k ≤ℚ zero_ℚ) → column_entry cs es v ≤ℚ zero_ℚ
column_entry_le [] es v h = le_refl zero_ℚ
column_entry_le (c ∷ cs) [] v h = le_refl zero_ℚ
column_entry_le (c ∷ cs) (e ∷ es) v h = cases (eqb c v) refl (column_entry_le cs es v (λ k l q. h (suc k) (omega arith) q))
  where
    cases : (b : Bool) → eqb c v ≡ b → column_entry cs es v ≤ℚ zero_ℚ → cond b e (column_entry cs es v) ≤ℚ zero_ℚ
    cases true q f = h 0 (omega arith) (eqb-true c v q)
    cases false q f = f

optimal_entry : (d : Dictionary) (row : List ℚ) (v : ℕ) → IsOptimal d row → v ≢ 0 → entry_of d.nonbasic row v ≤ℚ zero_ℚ
optimal_entry d row v o n = column_entry_le d.nonbasic (drop 1 row) v (λ k l q. each k l q (le_or_lt (at row (suc k)) zero_ℚ))
  where
    each : (k : ℕ) → k < length d.nonbasic → get_or d.nonbasic k 0 ≡ v → (at row (suc k) ≤ℚ zero_ℚ) ⊎ (zero_ℚ <ℚ at row (suc k)) → at (drop 1 row) k ≤ℚ zero_ℚ
    each k l q (inl h) = rw (at-drop_one row k) h
    each k l q (inr h) = absurd (o k record { column = l; variable = λ e. n (sym q ∙ e); entry = h })

-- ---- lists that are not negative
pub all_nonnegative : (xs : List ℚ) → ((i : ℕ) → i < length xs → zero_ℚ ≤ℚ at xs i) → AllNonNegative xs
all_nonnegative [] h = tt
all_nonnegative (x ∷ xs) h = (h 0 (omega arith), all_nonnegative xs (λ i l. h (suc i) (omega arith)))

neg_nonneg : (x : ℚ) → x ≤ℚ zero_ℚ → zero_ℚ ≤ℚ neg_ℚ x
neg_nonneg x h = rw neg-zero at (neg_le x zero_ℚ h)

combined_past : (n : ℕ) (y : List ℚ) (rows : List Row) (j : ℕ) → All (λ r. length r.coefficients ≡ n) rows → n ≤ j → at (combined y rows) j ≡ zero_ℚ
combined_past n [] rows j h l = refl
combined_past n (k ∷ y) [] j h l = refl
combined_past n (k ∷ y) (r ∷ rows) j h l =
    let e : length r.coefficients ≡ n = All-head (λ r. length r.coefficients ≡ n) r rows h in
    at-plus (times k r.coefficients) (combined y rows) j
    ∙ ap₂ ◌+ℚ◌ (at-times k r.coefficients j ∙ ap (λ t. k *ℚ t) (get_or_past r.coefficients j zero_ℚ (omega (arith, e))) ∙ mul-zero k)
    (combined_past n y rows j (All-tail (λ r. length r.coefficients ≡ n) r rows h) l) ∙ zero-add zero_ℚ

-- ---- the multipliers of an optimal row
abbrev in_full : Dictionary → List ℚ → List ℚ
in_full d row = spread d.nonbasic (drop 1 row)

full_entry : (p : Program) (d : Dictionary) (row : List ℚ) (v : ℕ) → IsDictionaryOf p d → at (in_full d row) v ≡ entry_of d.nonbasic row v
full_entry p d row v k = at-spread d.nonbasic (drop 1 row) v (omega (arith, first_places p v, k.places v))

multiplier_at : (p : Program) (columns : List ℕ) (row : List ℚ) (i : ℕ) → i < length p.rows
    → at (multipliers p columns row) i ≡ neg_ℚ (entry_of columns row (suc (length p.objective) + i))
multiplier_at p columns row i h =
    get_or-map-range_with_len (λ v. neg_ℚ (entry_of columns row v)) (suc (length p.objective)) (length p.rows) i _ zero_ℚ h refl

multipliers_nonnegative : (p : Program) (d : Dictionary) (row : List ℚ) → IsOptimal d row → AllNonNegative (multipliers p d.nonbasic row)
multipliers_nonnegative p d row o =
    all_nonnegative _ (λ i l. let h : i < length p.rows = rw length-map-range_with_len at l in
    rw (multiplier_at p d.nonbasic row i h) (neg_nonneg _ (optimal_entry d row _ o (λ e. absurd (omega arith)))))

gives : (p : Program) (d : Dictionary) (w t : List ℚ) → IsDictionaryOf p d
    → ((x : ℕ → ℚ) → Solves d x → value_of w d.nonbasic x ≡ value_of t (first_of_program p).nonbasic x)
    → Combines p (in_full d w) w t (multipliers p d.nonbasic w)
gives p d w t k h =
    row_combines p d.nonbasic w t (multipliers p d.nonbasic w) (λ x s. h x ((k.solutions x).0 s))
    (λ i l. multiplier_at p d.nonbasic w i l ∙ ap neg_ℚ (sym (full_entry p d w (suc (length p.objective) + i) k)))

full_nonpositive : (p : Program) (d : Dictionary) (row : List ℚ) (j : ℕ) → IsDictionaryOf p d → IsOptimal d row → at (in_full d row) (suc j) ≤ℚ zero_ℚ
full_nonpositive p d row j k o = rw (full_entry p d row (suc j) k) (optimal_entry d row (suc j) o (λ e. absurd (omega arith)))

below : (x s y : ℚ) → x ≡ s +ℚ y → s ≤ℚ zero_ℚ → x ≤ℚ y
below x s y e h = rw e (rw zero-add at (add-le-add s zero_ℚ y y h (le_refl y)))

-- the multipliers of the last dictionary of phase 2 bound the objective by its constant
pub best_bounds : (p : Program) (d : Dictionary) → IsRegular p → IsDictionaryOf p d → IsOptimal d d.objective
    → Bounds p (multipliers p d.nonbasic d.objective) (at d.objective 0)
best_bounds p d g k o =
    let m = gives p d d.objective (first_of_program p).objective k k.objective in
    record {
      signs = multipliers_nonnegative p d d.objective o;
      columns = λ j. each j (halves j (length p.objective)) m;
      constant = rw (add_comm (combined_bound (multipliers p d.nonbasic d.objective) p.rows) p.constant, m.constant) (le_refl _);
    }
  where
    halves : (j n : ℕ) → (j < n) ⊎ (n ≤ j)
    halves j n = grind arith

    each : (j : ℕ) → (j < length p.objective) ⊎ (length p.objective ≤ j)
        → Combines p (in_full d d.objective) d.objective (first_of_program p).objective (multipliers p d.nonbasic d.objective)
        → at p.objective j ≤ℚ at (combined (multipliers p d.nonbasic d.objective) p.rows) j
    each j (inl h) m = below _ _ _ (m.entries j h) (full_nonpositive p d d.objective j k o)
    each j (inr h) m = rw (get_or_past p.objective j zero_ℚ h, combined_past (length p.objective) (multipliers p d.nonbasic d.objective) p.rows j g h) (le_refl zero_ℚ)

-- the multipliers of the last dictionary of phase 1 are contradictory where variable 0 can't reach 0
pub infeasible_contradicts : (p : Program) (d : Dictionary) → IsRegular p → IsDictionaryOf p d → IsOptimal d d.auxiliary → at d.auxiliary 0 <ℚ zero_ℚ
    → IsContradictory p (multipliers p d.nonbasic d.auxiliary)
infeasible_contradicts p d g k o b =
    let m = gives p d d.auxiliary (first_of_program p).auxiliary k k.auxiliary in
    record {
      signs = multipliers_nonnegative p d d.auxiliary o;
      columns = λ j. each j (halves j (length p.objective)) m;
      constant = rw (sym (zero-add _) ∙ m.constant) b;
    }
  where
    halves : (j n : ℕ) → (j < n) ⊎ (n ≤ j)
    halves j n = grind arith

    each : (j : ℕ) → (j < length p.objective) ⊎ (length p.objective ≤ j)
        → Combines p (in_full d d.auxiliary) d.auxiliary (first_of_program p).auxiliary (multipliers p d.nonbasic d.auxiliary)
        → zero_ℚ ≤ℚ at (combined (multipliers p d.nonbasic d.auxiliary) p.rows) j
    each j (inl h) m = below _ _ _ (sym (get_or-replicate (length p.objective) j zero_ℚ zero_ℚ h) ∙ m.entries j h) (full_nonpositive p d d.auxiliary j k o)
    each j (inr h) m = rw (combined_past (length p.objective) (multipliers p d.nonbasic d.auxiliary) p.rows j g h) (le_refl zero_ℚ)
