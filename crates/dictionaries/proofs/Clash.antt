-- The heart of Bland's argument: a dictionary in which t leaves, and one in which it enters, with one basic solution, cannot both be.
use Rattle.std.proofs.Common.{◌≡◌, ◌≢◌, ℕ, suc, ◌<◌, ◌≤◌, refl, sym, ap, ◌∙◌, subst, [], length, get_or, map, drop, arith, ◌⊎◌, inl, inr}
use Rattle.std.proofs.lemmas.Bool.{cases_eq}
use Rattle.std.proofs.lemmas.List.{get_or-map, get_or_past, length-map}
use Rattle.fractions.specs.Rational.{ℚ, ◌+ℚ◌, ◌*ℚ◌, neg_ℚ, inv_ℚ, ◌≤ℚ◌, ◌<ℚ◌, zero_ℚ, one_ℚ}
use Rattle.fractions.specs.Vectors.{dot, at, only}
use Rattle.fractions.proofs.Laws.{mul-zero, zero-mul, mul-one, add_comm, add_right_cancel, add_assoc}
use Rattle.fractions.proofs.Tests.{le_or_lt}
use Rattle.fractions.proofs.Order.{lt_irrefl, lt_of_lt_of_le, le_of_lt, ne_of_lt}
use Rattle.fractions.proofs.Signs.{mul_nonpos, other_negative, some_positive}
use Rattle.linear_programs.specs.Program.{Program}
use Rattle.dictionaries.specs.Dictionary.{Dictionary, row_of, value_of, IsBasic, IsNonBasic, IsDictionaryOf}
use Rattle.dictionaries.specs.Reading.{solution_at, change_along}
use Rattle.dictionaries.specs.Bland.{Enters, Leaves, ratio_of, Phase, goal_of}
use Rattle.linear_programs.proofs.Vectors.{at-only_same, at-only_other, length-only, at-drop_one}
use Rattle.dictionaries.proofs.Multipliers.{value_parts}
use Rattle.dictionaries.proofs.Solutions.{dictionary_once, solves_assigned, value_assigned, lookup_column, lookup_row}
use Rattle.dictionaries.proofs.Directions.{dot_step, step_adds, dot_adds}
use Rattle.dictionaries.proofs.Determined.{one_row, one_column}
use Rattle.dictionaries.proofs.Bases.{one_or_other}
use Rattle.dictionaries.proofs.Turns.{IsBasicSolution, basic_value, goal_too}

-- s, of the column c, enters the first dictionary, t, of its row r, leaves it, and t, of the column k, enters the second
pub record IsClash (h : Phase) (p : Program) (d e : Dictionary) (c r k : ℕ) (x : ℕ → ℚ) : Type 0 where
  pub first : IsDictionaryOf p d
  pub second : IsDictionaryOf p e
  pub solves_first : IsBasicSolution d x
  pub solves_second : IsBasicSolution e x
  pub enters : Enters d (goal_of h d) c
  pub leaves : Leaves d c r
  pub returns : Enters e (goal_of h e) k
  pub variable : get_or e.nonbasic k 0 ≡ get_or d.basic r 0
  pub still : at (row_of d r) 0 ≡ zero_ℚ
  pub smaller : get_or d.nonbasic c 0 < get_or d.basic r 0
  -- what is basic in the first alone moves, so it is not variable 0 and not above t
  pub moving : (v : ℕ) → IsBasic d v → IsNonBasic e v → (v ≢ 0) × (v ≤ get_or d.basic r 0)

-- ---- along the column c, the goal of the second dictionary grows as that of the first
grows_by : (p q g s t : ℚ) → p ≡ g +ℚ s → q ≡ g +ℚ t → p ≡ q → s ≡ t
grows_by p q g s t a b e = add_right_cancel s t g (add_comm s g ∙ sym a ∙ e ∙ b ∙ add_comm g t)

goal_along : (h : Phase) (p : Program) (d e : Dictionary) (c : ℕ) → IsDictionaryOf p d → IsDictionaryOf p e → c < length d.nonbasic
    → dot (drop 1 (goal_of h e)) (map (change_along d c) e.nonbasic) ≡ at (goal_of h d) (suc c)
goal_along h p d e c k l i =
    let o = dictionary_once p d k in
    let z : length (only c one_ℚ) ≤ length d.nonbasic = omega (arith, length-only c one_ℚ, i) in
    let s = solves_assigned d [] k.shaped o (omega arith) in
    let t = solves_assigned d (only c one_ℚ) k.shaped o z in
    let g = goal_of h e in
    -- both at the stepped assignment and at the basic solution
    grows_by (value_of g e.nonbasic (solution_at d (only c one_ℚ))) (value_of (goal_of h d) d.nonbasic (solution_at d (only c one_ℚ))) (value_of g e.nonbasic (solution_at d [])) _ _
    (value_parts g e.nonbasic (solution_at d (only c one_ℚ))
    ∙ ap (λ t. at g 0 +ℚ t) (dot_adds (drop 1 g) e.nonbasic (solution_at d (only c one_ℚ)) (solution_at d []) (change_along d c) (step_adds d c))
    ∙ sym (add_assoc _ _ _) ∙ ap (λ t. t +ℚ dot (drop 1 g) (map (change_along d c) e.nonbasic)) (sym (value_parts g e.nonbasic (solution_at d []))))
    (value_assigned d (goal_of h d) (only c one_ℚ) o z ∙ dot_step (goal_of h d) c
    ∙ ap (λ t. t +ℚ at (goal_of h d) (suc c)) (sym (value_assigned d (goal_of h d) [] o (omega arith)) ∙ goal_too h p d e (solution_at d []) k l s))
    (sym (goal_too h p d e (solution_at d (only c one_ℚ)) k l t))

-- so a column of the second has a goal entry and a part of the direction of one sign
record IsAgreeing (h : Phase) (d e : Dictionary) (c i : ℕ) : Type 0 where
  column : i < length e.nonbasic
  positive : zero_ℚ <ℚ at (goal_of h e) (suc i) *ℚ change_along d c (get_or e.nonbasic i 0)

agreeing : (h : Phase) (p : Program) (d e : Dictionary) (c : ℕ) → IsDictionaryOf p d → IsDictionaryOf p e → Enters d (goal_of h d) c → (i : ℕ) × IsAgreeing h d e c i
agreeing h p d e c k l n =
    let a = some_positive (drop 1 (goal_of h e)) (map (change_along d c) e.nonbasic)
    (subst (λ t. zero_ℚ <ℚ t) (sym (goal_along h p d e c k l n.improves.column)) n.improves.entry) in
    cases a.0 (subst (λ t. zero_ℚ <ℚ t *ℚ at (map (change_along d c) e.nonbasic) a.0) (at-drop_one (goal_of h e) a.0) a.1) (halves a.0 (length e.nonbasic))
  where
    halves : (j n : ℕ) → (j < n) ⊎ (n ≤ j)
    halves j n = grind arith

    cases : (i : ℕ) → zero_ℚ <ℚ at (goal_of h e) (suc i) *ℚ at (map (change_along d c) e.nonbasic) i → (i < length e.nonbasic) ⊎ (length e.nonbasic ≤ i) → (i : ℕ) × IsAgreeing h d e c i
    cases i q (inl m) = (i, record { column = m; positive = subst (λ t. zero_ℚ <ℚ at (goal_of h e) (suc i) *ℚ t) (get_or-map (change_along d c) e.nonbasic i 0 zero_ℚ m) q })
    cases i q (inr m) =
        absurd (ne_of_lt _ _ q (sym (ap (λ t. at (goal_of h e) (suc i) *ℚ t) (get_or_past (map (change_along d c) e.nonbasic) i zero_ℚ (rw length-map m)) ∙ mul-zero _)))

-- ---- which variable is it?
along_column : (p : Program) (d : Dictionary) (c j v : ℕ) → IsDictionaryOf p d → j < length d.nonbasic → get_or d.nonbasic j 0 ≡ v → change_along d c v ≡ at (only c one_ℚ) j
along_column p d c j v k h q = ap (change_along d c) (sym q) ∙ lookup_column d (only c one_ℚ) _ j (dictionary_once p d k) h

along_row : (p : Program) (d : Dictionary) (c i v : ℕ) → IsDictionaryOf p d → i < length d.basic → get_or d.basic i 0 ≡ v → change_along d c v ≡ at (row_of d i) (suc c)
along_row p d c i v k h q =
    ap (change_along d c) (sym q) ∙ lookup_row d (only c one_ℚ) (map (λ row. at row (suc c)) d.rows) i (dictionary_once p d k) h
    ∙ get_or-map (λ row. at row (suc c)) d.rows i [] zero_ℚ (omega (arith, k.shaped.rows))

ratio-zero : (d : Dictionary) (c r : ℕ) → at (row_of d r) 0 ≡ zero_ℚ → ratio_of d c r ≡ zero_ℚ
ratio-zero d c r e = ap (λ t. t *ℚ inv_ℚ (neg_ℚ (at (row_of d r) (suc c)))) e ∙ zero-mul _

-- what is below t, and is not variable 0, doesn't improve in the second dictionary
no_gain : (h : Phase) (e : Dictionary) (k i : ℕ) → Enters e (goal_of h e) k → i < length e.nonbasic → get_or e.nonbasic i 0 ≢ 0 → get_or e.nonbasic i 0 < get_or e.nonbasic k 0
    → at (goal_of h e) (suc i) ≤ℚ zero_ℚ
no_gain h e k i n l z b = elim (le_or_lt (at (goal_of h e) (suc i)) zero_ℚ) [
  | inl g ↦ g
  | inr g ↦ absurd (let m = n.least i record { column = l; variable = z; entry = g } in omega arith)
]

-- it is not the variable of a column of the first
not_of_column : (h : Phase) (p : Program) (d e : Dictionary) (c r k i j : ℕ) (x : ℕ → ℚ) → IsClash h p d e c r k x → IsAgreeing h d e c i
    → j < length d.nonbasic → get_or d.nonbasic j 0 ≡ get_or e.nonbasic i 0 → ⊥
not_of_column h p d e c r k i j x w a l q = cases (cases_eq j c)
  where
    cases : (j ≡ c) ⊎ (j ≡ c → ⊥) → ⊥
    cases (inl y) =
        let s : get_or e.nonbasic i 0 ≡ get_or d.nonbasic c 0 = sym q ∙ ap (λ j. get_or d.nonbasic j 0) y in
        let g : zero_ℚ <ℚ at (goal_of h e) (suc i) =
        subst (λ t. zero_ℚ <ℚ t) (ap (λ t. at (goal_of h e) (suc i) *ℚ t) (along_column p d c j (get_or e.nonbasic i 0) w.first l q ∙ ap (at (only c one_ℚ)) y ∙ at-only_same c one_ℚ) ∙ mul-one _) a.positive in
        let m = w.returns.least i record { column = a.column; variable = λ z. w.enters.improves.variable (sym s ∙ z); entry = g } in
        absurd (omega (arith, m, s, w.variable, w.smaller))
    cases (inr n) =
        ne_of_lt _ _ a.positive (sym (ap (λ t. at (goal_of h e) (suc i) *ℚ t) (along_column p d c j (get_or e.nonbasic i 0) w.first l q ∙ at-only_other c one_ℚ j n) ∙ mul-zero _))

-- nor that of a row
not_of_row : (h : Phase) (p : Program) (d e : Dictionary) (c r k i j : ℕ) (x : ℕ → ℚ) → IsClash h p d e c r k x → IsAgreeing h d e c i
    → j < length d.basic → get_or d.basic j 0 ≡ get_or e.nonbasic i 0 → ⊥
not_of_row h p d e c r k i j x w a l q = cases (cases_eq (get_or e.nonbasic i 0) (get_or d.basic r 0))
  where
    product : zero_ℚ <ℚ at (goal_of h e) (suc i) *ℚ at (row_of d j) (suc c)
    product = subst (λ t. zero_ℚ <ℚ at (goal_of h e) (suc i) *ℚ t) (along_row p d c j (get_or e.nonbasic i 0) w.first l q) a.positive

    bounds : (get_or e.nonbasic i 0 ≢ 0) × (get_or e.nonbasic i 0 ≤ get_or d.basic r 0)
    bounds = w.moving (get_or e.nonbasic i 0) (j, l, q) (i, a.column, refl)

    apart : (u v : ℕ) → u ≢ v → u ≤ v → u < v
    apart u v n m = omega arith

    cases : (get_or e.nonbasic i 0 ≡ get_or d.basic r 0) ⊎ (get_or e.nonbasic i 0 ≡ get_or d.basic r 0 → ⊥) → ⊥
    cases (inl y) =
        let s : j ≡ r = one_row d j r (dictionary_once p d w.first) l w.leaves.candidate.row (q ∙ y) in
        lt_irrefl zero_ℚ (lt_of_lt_of_le _ _ _ product (mul_nonpos _ _ (le_of_lt _ _ gain) (le_of_lt _ _ (subst (λ j. at (row_of d j) (suc c) <ℚ zero_ℚ) (sym s) w.leaves.candidate.entry))))
      where
        gain : zero_ℚ <ℚ at (goal_of h e) (suc i)
        gain = elim (le_or_lt (at (goal_of h e) (suc i)) zero_ℚ) [
          | inl g ↦ absurd (two_columns (cases_eq i k) g)
          | inr g ↦ g
        ]
          where
            two_columns : (i ≡ k) ⊎ (i ≡ k → ⊥) → at (goal_of h e) (suc i) ≤ℚ zero_ℚ → ⊥
            two_columns (inl z) g = lt_irrefl zero_ℚ (lt_of_lt_of_le _ _ _ (subst (λ k. zero_ℚ <ℚ at (goal_of h e) (suc k)) (sym z) w.returns.improves.entry) g)
            two_columns (inr n) g = absurd (n (one_column e i k (dictionary_once p e w.second) a.column w.returns.improves.column (y ∙ sym w.variable)))
    cases (inr n) =
        let b : get_or e.nonbasic i 0 < get_or e.nonbasic k 0 = subst (λ t. get_or e.nonbasic i 0 < t) (sym w.variable) (apart _ _ n bounds.1) in
        let g : at (row_of d j) (suc c) <ℚ zero_ℚ = other_negative _ _ product (no_gain h e k i w.returns a.column bounds.0 b) in
        let z : at (row_of d j) 0 ≡ zero_ℚ = sym (basic_value d x j w.solves_first l) ∙ ap x q ∙ w.solves_second.rest i a.column in
        let f = w.leaves.ties j record { row = l; entry = g } (ratio-zero d c j z ∙ sym (ratio-zero d c r w.still)) in
        absurd (omega (arith, f, q, b, w.variable))

pub no_clash : (h : Phase) (p : Program) (d e : Dictionary) (c r k : ℕ) (x : ℕ → ℚ) → IsClash h p d e c r k x → ⊥
no_clash h p d e c r k x w =
    let a = agreeing h p d e c w.first w.second w.enters in
    elim (one_or_other p d e (get_or e.nonbasic a.0 0) w.first w.second (a.0, a.1.column, refl)) [
      | inl b ↦ not_of_row h p d e c r k a.0 b.0 x w a.1 b.1 b.2
      | inr b ↦ not_of_column h p d e c r k a.0 b.0 x w a.1 b.1 b.2
    ]
