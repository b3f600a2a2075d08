-- The extra variable of phase 1: its row, and that it always has a place and, where it is to leave, a column to leave by.
use Rattle.std.proofs.Common.{◌≡◌, ◌≢◌, ℕ, zero, suc, ◌<◌, ◌≤◌, refl, sym, ap, ◌∙◌, List, [], ◌∷◌, length, get_or, map, cond, eqb, arith, ◌⊎◌, inl, inr}
use Rattle.std.proofs.lemmas.Bool.{ne_eqb}
use Rattle.std.proofs.lemmas.List.{length-map}
use Rattle.fractions.specs.Rational.{ℚ, ◌+ℚ◌, neg_ℚ, ◌≤ℚ◌, ◌<ℚ◌, zero_ℚ, one_ℚ}
use Rattle.fractions.specs.Vectors.{dot, at, only}
use Rattle.fractions.proofs.Common.{by_common₂, zero_same, by_common₄, linear}
use Rattle.fractions.proofs.Order.{le_antisymm, ne_of_lt, zero_lt_one, neg_le}
use Rattle.fractions.proofs.Laws.{neg-zero, mul-one, add-zero}
use Rattle.fractions.proofs.Tests.{le_or_lt}
use Rattle.linear_programs.specs.Program.{Program, IsRegular}
use Rattle.dictionaries.specs.Dictionary.{Dictionary, row_of, value_of, Solves, first_of_program, IsDictionaryOf, IsFeasible, IsOnce, times_in}
use Rattle.dictionaries.specs.Reading.{solution_at}
use Rattle.dictionaries.specs.Bland.{Improves, IsCandidate}
use Rattle.linear_programs.proofs.Vectors.{dot_agree, length-only}
use Rattle.dictionaries.proofs.Places.{first_places}
use Rattle.dictionaries.proofs.Keeps.{first_shaped}
use Rattle.dictionaries.proofs.Solutions.{dictionary_once, solves_assigned, value_assigned, times_in_some, lookup_column}
use Rattle.dictionaries.proofs.Points.{dot-first}
use Rattle.dictionaries.proofs.Directions.{dot_step}
use Rattle.dictionaries.proofs.Runs.{auxiliary_is}

-- the extra variable's value, by its own row and by the phase 1 objective, at a choice of the non-basic variables
extra_both : (p : Program) (d : Dictionary) (r : ℕ) (z : List ℚ) → IsDictionaryOf p d → r < length d.basic → get_or d.basic r 0 ≡ 0 → length z ≤ length d.nonbasic
    → dot d.auxiliary (one_ℚ ∷ z) ≡ neg_ℚ (dot (row_of d r) (one_ℚ ∷ z))
extra_both p d r z k h e l =
    let o = dictionary_once p d k in
    let s = solves_assigned d z k.shaped o l in
    sym (value_assigned d d.auxiliary z o l) ∙ k.auxiliary _ s ∙ auxiliary_is p (solution_at d z)
    ∙ ap neg_ℚ (ap (solution_at d z) (sym e) ∙ s r h ∙ value_assigned d (row_of d r) z o l)

-- so the entries of the one are those of the other, negated
pub extra_constant_is : (p : Program) (d : Dictionary) (r : ℕ) → IsDictionaryOf p d → r < length d.basic → get_or d.basic r 0 ≡ 0 → at d.auxiliary 0 ≡ neg_ℚ (at (row_of d r) 0)
extra_constant_is p d r k h e = sym (dot-first d.auxiliary) ∙ extra_both p d r [] k h e (omega arith) ∙ ap neg_ℚ (dot-first (row_of d r))

pub extra_entry_is : (p : Program) (d : Dictionary) (r c : ℕ) → IsDictionaryOf p d → r < length d.basic → get_or d.basic r 0 ≡ 0 → c < length d.nonbasic
    → at d.auxiliary (suc c) ≡ neg_ℚ (at (row_of d r) (suc c))
extra_entry_is p d r c k h e l =
    cancelled _ _ _ _
    (sym (dot_step d.auxiliary c) ∙ extra_both p d r (only c one_ℚ) k h e (omega (arith, length-only c one_ℚ)) ∙ ap neg_ℚ (dot_step (row_of d r) c))
    (extra_both p d r [] k h e (omega arith))
  where
    cancelled : (a b x y : ℚ) → a +ℚ b ≡ neg_ℚ (x +ℚ y) → a ≡ neg_ℚ x → b ≡ neg_ℚ y
    cancelled = by_common₄ _ (λ p n q m r o s u d hd. simp (linear) (omega arith))

-- in phase 1 the extra variable's own row bounds whatever enters
pub extra_candidate : (p : Program) (d : Dictionary) (r c : ℕ) → IsDictionaryOf p d → r < length d.basic → get_or d.basic r 0 ≡ 0 → Improves d d.auxiliary c → IsCandidate d c r
extra_candidate p d r c k h e i = record { row = h; entry = negative _ _ (extra_entry_is p d r c k h e i.column) i.entry }
  where
    negative : (x y : ℚ) → x ≡ neg_ℚ y → zero_ℚ <ℚ x → y <ℚ zero_ℚ
    negative = by_common₂ _ (λ p n q m d hd. simp (zero_same d hd, linear) (omega arith))

-- the optimum of phase 1 is 0, or below
pub auxiliary_zero : (p : Program) (d : Dictionary) (r : ℕ) → IsDictionaryOf p d → IsFeasible d → r < length d.basic → get_or d.basic r 0 ≡ 0 → ¬ (at d.auxiliary 0 <ℚ zero_ℚ)
    → at d.auxiliary 0 ≡ zero_ℚ
auxiliary_zero p d r k f h e n =
    le_antisymm _ _ (rw (extra_constant_is p d r k h e) (rw neg-zero at (neg_le zero_ℚ _ (f r h)))) (at_least _ n (le_or_lt zero_ℚ (at d.auxiliary 0)))
  where
    at_least : (x : ℚ) → ¬ (x <ℚ zero_ℚ) → (zero_ℚ ≤ℚ x) ⊎ (x <ℚ zero_ℚ) → zero_ℚ ≤ℚ x
    at_least x n (inl h) = h
    at_least x n (inr h) = absurd (n h)

-- a row without entries is its constant
row_alone : (d : Dictionary) (row : List ℚ) (x : ℕ → ℚ) → ((c : ℕ) → c < length d.nonbasic → at row (suc c) ≡ zero_ℚ) → value_of row d.nonbasic x ≡ at row 0
row_alone d row x h = dot_agree row (at row 0 ∷ []) (one_ℚ ∷ map x d.nonbasic) each ∙ ap (λ t. t +ℚ zero_ℚ) (mul-one (at row 0)) ∙ add-zero (at row 0)
  where
    each : (i : ℕ) → i < length (one_ℚ ∷ map x d.nonbasic) → at row i ≡ at (at row 0 ∷ []) i
    each zero l = refl
    each (suc i) l = h i (let m : i < length (map x d.nonbasic) = omega arith in rw length-map at m)

-- the extra variable's row has an entry
pub extra_has_entry : (p : Program) (d : Dictionary) (r : ℕ) → IsRegular p → IsDictionaryOf p d → r < length d.basic → get_or d.basic r 0 ≡ 0
    → ((c : ℕ) → c < length d.nonbasic → at (row_of d r) (suc c) ≡ zero_ℚ) → ⊥
extra_has_entry p d r g k h e z =
    let s = first_shaped p g in
    let o : IsOnce (first_of_program p) = first_places p in
    let a = solves_assigned (first_of_program p) [] s o (omega arith) in
    let b = solves_assigned (first_of_program p) (one_ℚ ∷ []) s o (omega arith) in
    ne_of_lt _ _ zero_lt_one (sym (extra_value []) ∙ at_constant (solution_at (first_of_program p) []) a ∙ sym (at_constant (solution_at (first_of_program p) (one_ℚ ∷ [])) b) ∙ extra_value (one_ℚ ∷ []))
  where
    at_constant : (x : ℕ → ℚ) → Solves (first_of_program p) x → x 0 ≡ at (row_of d r) 0
    at_constant x s = ap x (sym e) ∙ (k.solutions x).0 s r h ∙ row_alone d (row_of d r) x z

    extra_value : (z : List ℚ) → solution_at (first_of_program p) z 0 ≡ at z 0
    extra_value z = lookup_column (first_of_program p) z _ 0 (first_places p) (omega arith)

-- the extra variable has a place
none_in : (cs : List ℕ) (v : ℕ) → ((i : ℕ) → i < length cs → get_or cs i 0 ≢ v) → times_in cs v ≡ 0
none_in [] v h = refl
none_in (c ∷ cs) v h =
    let e : ◌≡◌ {A = ℕ} (cond (eqb c v) 1 0) 0 = ap (λ b. cond b 1 0) (ne_eqb c v (h 0 (omega arith))) in
    omega (arith, e, none_in cs v (λ i l. h (suc i) (omega arith)))

pub extra_has_place : (p : Program) (d : Dictionary) → IsDictionaryOf p d → ((i : ℕ) → i < length d.basic → get_or d.basic i 0 ≢ 0) → ((i : ℕ) → i < length d.nonbasic → get_or d.nonbasic i 0 ≢ 0) → ⊥
extra_has_place p d k f g = absurd (omega (arith, k.places 0, none_in d.basic 0 f, none_in d.nonbasic 0 g, times_in_some (first_of_program p).nonbasic 0 (omega arith)))
