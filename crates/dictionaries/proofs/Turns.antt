-- Turns: pivots by Bland's rule within one phase, and what holds of each.
use Rattle.std.proofs.Common.{◌≡◌, ℕ, suc, ◌<◌, refl, sym, ap, ◌∙◌, subst, [], ◌∷◌, length, get_or, set, arith, ◌⊎◌, inl, inr}
use Rattle.std.proofs.lemmas.Bool.{cases_eq}
use Rattle.std.proofs.lemmas.List.{get_or-set_same, get_or-set_other, length-set}
use Rattle.fractions.specs.Rational.{ℚ, ◌+ℚ◌, ◌*ℚ◌, neg_ℚ, inv_ℚ, ◌≤ℚ◌, zero_ℚ, one_ℚ}
use Rattle.fractions.specs.Vectors.{at}
use Rattle.fractions.proofs.Laws.{mul-zero}
use Rattle.fractions.proofs.Order.{le_antisymm, mul_nonneg, le_of_lt, ne_of_lt, zero_lt_one, le_of_mul-le-mul_pos}
use Rattle.fractions.proofs.Inverse.{mul-inv}
use Rattle.fractions.proofs.Quote.{quotes, by_equation, by_inequality}
use Rattle.linear_programs.specs.Program.{Program}
use Rattle.dictionaries.specs.Dictionary.{Dictionary, row_of, value_of, Solves, pivoted, solved_row, substituted, IsPlace, IsFeasible, IsBasic, IsDictionaryOf}
use Rattle.dictionaries.specs.Reading.{solution_at}
use Rattle.dictionaries.specs.Bland.{Enters, Leaves, IsCandidate, ratio_of, Phase, one, two, goal_of}
use Rattle.dictionaries.proofs.Solutions.{dictionary_once, solves_assigned, lookup_column}
use Rattle.dictionaries.proofs.Keeps.{pivot_keeps_dictionary}
use Rattle.dictionaries.proofs.Feasible.{neg_pos, ratio_is, ratio_nonnegative, substituted_constant, leaving_keeps_feasible}
use Rattle.dictionaries.proofs.Bases.{value_still}

pub record IsTurn (h : Phase) (d e : Dictionary) : Type 0 where
  pub row : ℕ
  pub column : ℕ
  pub enters : Enters d (goal_of h d) column
  pub leaves : Leaves d column row
  pub after : e ≡ pivoted d row column

-- the entering variable, and the leaving one
abbrev pub entering : {h : Phase} {d e : Dictionary} → IsTurn h d e → ℕ
entering {h} {d} n = get_or d.nonbasic n.column 0

abbrev pub leaving : {h : Phase} {d e : Dictionary} → IsTurn h d e → ℕ
leaving {h} {d} n = get_or d.basic n.row 0

-- ---- what stays
pub record IsSound (p : Program) (d : Dictionary) : Type 0 where
  pub dictionary : IsDictionaryOf p d
  pub feasible : IsFeasible d

place_of : {h : Phase} {d e : Dictionary} (n : IsTurn h d e) → IsPlace d n.row n.column
place_of n = record { row = n.leaves.candidate.row; column = n.enters.improves.column; entry = ne_of_lt _ _ n.leaves.candidate.entry }

pub turn_sound : (h : Phase) (p : Program) (d e : Dictionary) → IsSound p d → IsTurn h d e → IsSound p e
turn_sound h p d e s n = subst (IsSound p) (sym n.after) record {
  dictionary = pivot_keeps_dictionary p d n.row n.column s.dictionary (place_of n);
  feasible = leaving_keeps_feasible d n.row n.column s.dictionary.shaped s.feasible n.leaves;
}

-- the solutions of one dictionary of a program are those of another, and so is the goal at them
pub solves_too : (p : Program) (d e : Dictionary) (x : ℕ → ℚ) → IsDictionaryOf p d → IsDictionaryOf p e → Solves d x → Solves e x
solves_too p d e x k l s = (l.solutions x).0 ((k.solutions x).1 s)

pub goal_too : (h : Phase) (p : Program) (d e : Dictionary) (x : ℕ → ℚ) → IsDictionaryOf p d → IsDictionaryOf p e → Solves d x
    → value_of (goal_of h d) d.nonbasic x ≡ value_of (goal_of h e) e.nonbasic x
goal_too one p d e x k l s = k.auxiliary x s ∙ sym (l.auxiliary x (solves_too p d e x k l s))
goal_too two p d e x k l s = k.objective x s ∙ sym (l.objective x (solves_too p d e x k l s))

-- ---- the basic variables after a pivot
basic_back : (d : Dictionary) (r c v : ℕ) → r < length d.basic → IsBasic (pivoted d r c) v → (get_or d.nonbasic c 0 ≡ v) ⊎ IsBasic d v
basic_back d r c v h b = cases b.0 (rw length-set at b.1) b.2 (cases_eq b.0 r)
  where
    cases : (i : ℕ) → i < length d.basic → get_or (pivoted d r c).basic i 0 ≡ v → (i ≡ r) ⊎ (i ≡ r → ⊥) → (get_or d.nonbasic c 0 ≡ v) ⊎ IsBasic d v
    cases i l q (inl e) = inl (sym (ap (λ i. get_or (pivoted d r c).basic i 0) e ∙ get_or-set_same d.basic r _ 0 h) ∙ q)
    cases i l q (inr n) = inr (i, l, sym (get_or-set_other d.basic r i _ 0 n) ∙ q)

basic_there : (d : Dictionary) (r c v : ℕ) → IsBasic d v → (get_or d.basic r 0 ≡ v) ⊎ IsBasic (pivoted d r c) v
basic_there d r c v b = cases b.0 b.1 b.2 (cases_eq b.0 r)
  where
    cases : (i : ℕ) → i < length d.basic → get_or d.basic i 0 ≡ v → (i ≡ r) ⊎ (i ≡ r → ⊥) → (get_or d.basic r 0 ≡ v) ⊎ IsBasic (pivoted d r c) v
    cases i l q (inl e) = inl (sym (ap (λ i. get_or d.basic i 0) e) ∙ q)
    cases i l q (inr n) = inr (i, rw length-set l, get_or-set_other d.basic r i _ 0 n ∙ q)

basic_in : (d : Dictionary) (r c : ℕ) → r < length d.basic → IsBasic (pivoted d r c) (get_or d.nonbasic c 0)
basic_in d r c h = (r, rw length-set h, get_or-set_same d.basic r _ 0 h)

pub turn_back : {h : Phase} {d e : Dictionary} (v : ℕ) (n : IsTurn h d e) → IsBasic e v → (entering n ≡ v) ⊎ IsBasic d v
turn_back {h} {d} v n b = basic_back d n.row n.column v n.leaves.candidate.row (subst (λ e. IsBasic e v) n.after b)

pub turn_there : {h : Phase} {d e : Dictionary} (v : ℕ) (n : IsTurn h d e) → IsBasic d v → (leaving n ≡ v) ⊎ IsBasic e v
turn_there {h} {d} v n b = elim (basic_there d n.row n.column v b) [
  | inl q ↦ inl q
  | inr i ↦ inr (subst (λ e. IsBasic e v) (sym n.after) i)
]

pub turn_in : {h : Phase} {d e : Dictionary} (n : IsTurn h d e) → IsBasic e (entering n)
turn_in {h} {d} n = subst (λ e. IsBasic e (get_or d.nonbasic n.column 0)) (sym n.after) (basic_in d n.row n.column n.leaves.candidate.row)

-- ---- the basic solution
pub record IsBasicSolution (d : Dictionary) (x : ℕ → ℚ) : Type 0 where
  pub meets : Solves d x
  pub rest : (j : ℕ) → j < length d.nonbasic → x (get_or d.nonbasic j 0) ≡ zero_ℚ

pub has_solution : (p : Program) (d : Dictionary) → IsDictionaryOf p d → IsBasicSolution d (solution_at d [])
has_solution p d k = record {
  meets = solves_assigned d [] k.shaped (dictionary_once p d k) (omega arith);
  rest = λ j h. lookup_column d [] _ j (dictionary_once p d k) h;
}

-- there a basic variable is its row's constant
pub basic_value : (d : Dictionary) (x : ℕ → ℚ) (i : ℕ) → IsBasicSolution d x → i < length d.basic → x (get_or d.basic i 0) ≡ at (row_of d i) 0
basic_value d x i b h = b.meets i h ∙ value_still (row_of d i) d.nonbasic x b.rest

-- where the leaving row's constant is 0, the basic solution stays
pub turn_solution : (h : Phase) (p : Program) (d e : Dictionary) (x : ℕ → ℚ) → IsSound p d → (n : IsTurn h d e) → at (row_of d n.row) 0 ≡ zero_ℚ → IsBasicSolution d x → IsBasicSolution e x
turn_solution h p d e x s n z b =
    record { meets = solves_too p d e x s.dictionary (turn_sound h p d e s n).dictionary b.meets; rest = subst (λ e. (j : ℕ) → j < length e.nonbasic → x (get_or e.nonbasic j 0) ≡ zero_ℚ) (sym n.after) each }
  where
    each : (j : ℕ) → j < length (pivoted d n.row n.column).nonbasic → x (get_or (pivoted d n.row n.column).nonbasic j 0) ≡ zero_ℚ
    each j l = cases (rw length-set at l) (cases_eq j n.column)
      where
        cases : j < length d.nonbasic → (j ≡ n.column) ⊎ (j ≡ n.column → ⊥) → x (get_or (set d.nonbasic n.column (get_or d.basic n.row 0)) j 0) ≡ zero_ℚ
        cases l (inl q) =
            ap x (ap (λ j. get_or (set d.nonbasic n.column (get_or d.basic n.row 0)) j 0) q ∙ get_or-set_same d.nonbasic n.column _ 0 n.enters.improves.column)
            ∙ basic_value d x n.row b n.leaves.candidate.row ∙ z
        cases l (inr m) = ap x (get_or-set_other d.nonbasic n.column j _ 0 m) ∙ b.rest j l

-- ---- the goal's constant never falls
goal_after : (h : Phase) (d : Dictionary) (r c : ℕ) → goal_of h (pivoted d r c) ≡ substituted (goal_of h d) (suc c) (solved_row (row_of d r) (suc c))
goal_after one d r c = refl
goal_after two d r c = refl

goal_constant : {h : Phase} {d e : Dictionary} (n : IsTurn h d e) → at (goal_of h e) 0 ≡ at (goal_of h d) 0 +ℚ at (goal_of h d) (suc n.column) *ℚ ratio_of d n.column n.row
goal_constant {h} {d} n =
    ap (λ e. at (goal_of h e) 0) n.after ∙ ap (λ row. at row 0) (goal_after h d n.row n.column)
    ∙ substituted_constant (goal_of h d) (solved_row (row_of d n.row) (suc n.column)) n.column
    ∙ ap (λ t. at (goal_of h d) 0 +ℚ at (goal_of h d) (suc n.column) *ℚ t) (ratio_is d n.column n.row n.leaves.candidate)

ratio_nonneg : {h : Phase} {d e : Dictionary} (n : IsTurn h d e) → IsFeasible d → zero_ℚ ≤ℚ ratio_of d n.column n.row
ratio_nonneg {h} {d} n f = ratio_nonnegative (at (row_of d n.row) 0) (at (row_of d n.row) (suc n.column)) (f n.row n.leaves.candidate.row) n.leaves.candidate.entry

grown : (z p r : ℚ) → zero_ℚ ≤ℚ p *ℚ r → z ≤ℚ z +ℚ p *ℚ r
grown z p r h = by_inequality one_ℚ (le_of_lt _ _ zero_lt_one) h (z ∷ p ∷ r ∷ []) (search quotes depth 20) (search quotes depth 20) refl

pub goal_grows : {h : Phase} {d e : Dictionary} (n : IsTurn h d e) → IsFeasible d → at (goal_of h d) 0 ≤ℚ at (goal_of h e) 0
goal_grows {h} {d} n f = subst (λ t. at (goal_of h d) 0 ≤ℚ t) (sym (goal_constant n)) (grown _ _ _ (mul_nonneg _ _ (le_of_lt _ _ n.enters.improves.entry) (ratio_nonneg n f)))

-- where it stays, the leaving row's constant is 0
not_grown : (z p r : ℚ) → z +ℚ p *ℚ r ≤ℚ z → p *ℚ r ≤ℚ p *ℚ zero_ℚ
not_grown z p r h = by_inequality one_ℚ (le_of_lt _ _ zero_lt_one) h (z ∷ p ∷ r ∷ []) (search quotes depth 20) (search quotes depth 20) refl

-- the constant is the ratio times the negated entry
pub times-ratio : (d : Dictionary) (c r : ℕ) → IsCandidate d c r → neg_ℚ (at (row_of d r) (suc c)) *ℚ ratio_of d c r ≡ at (row_of d r) 0
times-ratio d c r k =
    let a = neg_ℚ (at (row_of d r) (suc c)) in
    by_equation (at (row_of d r) 0) (mul-inv a (λ e. ne_of_lt _ _ (neg_pos _ k.entry) (sym e))) (at (row_of d r) 0 ∷ neg_ℚ (at (row_of d r) (suc c)) ∷ inv_ℚ (neg_ℚ (at (row_of d r) (suc c))) ∷ [])
    (search quotes depth 20) (search quotes depth 20) refl

pub goal_stays : {h : Phase} {d e : Dictionary} (n : IsTurn h d e) → IsFeasible d → at (goal_of h e) 0 ≤ℚ at (goal_of h d) 0 → at (row_of d n.row) 0 ≡ zero_ℚ
goal_stays {h} {d} n f i =
    let g = at (goal_of h d) (suc n.column) in
    let j : at (goal_of h d) 0 +ℚ g *ℚ ratio_of d n.column n.row ≤ℚ at (goal_of h d) 0 = subst (λ t. t ≤ℚ at (goal_of h d) 0) (goal_constant n) i in
    let r : ratio_of d n.column n.row ≤ℚ zero_ℚ = le_of_mul-le-mul_pos g (ratio_of d n.column n.row) zero_ℚ n.enters.improves.entry (not_grown _ _ _ j) in
    let z : ratio_of d n.column n.row ≡ zero_ℚ = le_antisymm _ _ r (ratio_nonneg n f) in
    sym (times-ratio d n.column n.row n.leaves.candidate) ∙ ap (λ t. neg_ℚ (at (row_of d n.row) (suc n.column)) *ℚ t) z ∙ mul-zero _
