-- What holds of every dictionary of a Bland run.
use Rattle.std.proofs.Common.{◌≡◌, ◌≢◌, ℕ, suc, ◌<◌, refl, sym, ap, ap₂, ◌∙◌, subst, List, [], ◌∷◌, length, ◌+◌, get_or, replicate, arith, inl, inr, cond}
use Rattle.std.proofs.lemmas.Bool.{ne_eqb}
use Rattle.std.proofs.lemmas.List.{get_or-map}
use Rattle.std.proofs.lemmas.List.Elements.{All-get_or}
use Rattle.std.proofs.lemmas.List.FromFn.{length-range_with_len, get_or-range_with_len}
use Rattle.fractions.specs.Rational.{ℚ, ◌+ℚ◌, ◌*ℚ◌, ◌/ℚ◌, inv_ℚ, neg_ℚ, zero_ℚ, one_ℚ}
use Rattle.fractions.specs.Vectors.{at}
use Rattle.fractions.proofs.Laws.{neg-neg, neg-zero}
use Rattle.fractions.proofs.Vectors.{dot_comm}
use Rattle.fractions.proofs.Quote.{quotes, by_ring}
use Rattle.fractions.proofs.Order.{ne_of_lt, zero_lt_one, lt_irrefl, lt_of_le_of_lt}
use Rattle.linear_programs.specs.Program.{Program, IsRegular}
use Rattle.dictionaries.specs.Dictionary.{Dictionary, row_of, value_of, first_row, first_of_program, IsShaped, IsFeasible, IsPlace, IsDictionaryOf, pivoted, IsBasic}
use Rattle.dictionaries.specs.Reading.{solution_at, point_of}
use Rattle.dictionaries.specs.Bland.{NextPivot, begins, goes_on, retires, Begins, IsCandidate, Leaves, IsPivotRow, leaves, too_wide, IsNarrowRatio, Phase, one, two, IsInPhase}
use Rattle.dictionaries.specs.Run.{IsOnTheWay, IsNext, Follow, last_of, RunStaysOnTheWay}
use Rattle.dictionaries.specs.Narrow.{IsNarrowPivot, IsNarrowQuotient, dividend}
use Rattle.frac128.specs.Narrow.{IsNarrow}
use Rattle.dictionaries.proofs.Multipliers.{no_row}
use Rattle.linear_programs.proofs.Vectors.{dot-zeros}
use Rattle.dictionaries.proofs.Solutions.{dictionary_once, value_assigned, solves_assigned}
use Rattle.dictionaries.proofs.Points.{dot-first}
use Rattle.dictionaries.proofs.Keeps.{first_is_dictionary, pivot_keeps_dictionary}
use Rattle.dictionaries.proofs.Feasible.{inv-neg, leaving_keeps_feasible, retiring_keeps_feasible, beginning_makes_feasible}

first_entry : (p : Program) (i : ℕ) → i < length (first_of_program p).basic → at (row_of (first_of_program p) i) 1 ≡ one_ℚ
first_entry p i h = ap (λ row. at row 1) (get_or-map first_row p.rows i no_row [] (rw length-range_with_len at h))

first_extra : (p : Program) (c : ℕ) → c < length (first_of_program p).nonbasic → get_or (first_of_program p).nonbasic c 0 ≡ 0 → c ≡ 0
first_extra p c h e =
    let k = get_or-range_with_len 0 (suc (length p.objective)) c 0 (rw length-range_with_len at h) in omega (arith, k, e)

pub first_basic : (p : Program) (i : ℕ) → i < length (first_of_program p).basic → get_or (first_of_program p).basic i 0 ≢ 0
first_basic p i h e =
    let k = get_or-range_with_len (suc (length p.objective)) (length p.rows) i 0 (rw length-range_with_len at h) in absurd (omega (arith, k, e))

-- in phase 1 no constant is negative
pub one_feasible : (p : Program) (d : Dictionary) → IsOnTheWay p d → IsBasic d 0 → IsFeasible d
one_feasible p d w o = elim w.feasible [
  | inl e ↦ absurd (found d e o.0 o.1 o.2)
  | inr f ↦ f
]
  where
    found : (d : Dictionary) → d ≡ first_of_program p → (i : ℕ) → i < length d.basic → get_or d.basic i 0 ≡ 0 → ⊥
    found d e i h q = first_basic p i (subst (λ d. i < length d.basic) e h) (subst (λ (d : Dictionary). get_or d.basic i 0 ≡ 0) e q)

-- in the first dictionary the extra variable's entries are 1
pub begun : (p : Program) (d : Dictionary) (r c : ℕ) → IsOnTheWay p d → Begins d r c → (i : ℕ) → i < length d.basic → at (row_of d i) (suc c) ≡ one_ℚ
begun p d r c w b = elim w.feasible [
  | inl e ↦ first d e b.column b.extra
  | inr f ↦ absurd (lt_irrefl zero_ℚ (lt_of_le_of_lt _ _ _ (f r b.row) b.negative))
]
  where
    first : (d : Dictionary) → d ≡ first_of_program p → c < length d.nonbasic → get_or d.nonbasic c 0 ≡ 0 → (i : ℕ) → i < length d.basic → at (row_of d i) (suc c) ≡ one_ℚ
    first d e h x i l =
        let z = first_extra p c (subst (λ (d : Dictionary). c < length d.nonbasic) e h) (subst (λ (d : Dictionary). get_or d.nonbasic c 0 ≡ 0) e x) in
        ap₂ (λ (d : Dictionary) c. at (row_of d i) (suc c)) e z ∙ first_entry p i (subst (λ (d : Dictionary). i < length d.basic) e l)

-- the phase 1 objective is minus the extra variable
pub auxiliary_is : (p : Program) (x : ℕ → ℚ) → value_of (first_of_program p).auxiliary (first_of_program p).nonbasic x ≡ neg_ℚ (x 0)
auxiliary_is p x =
    ap (λ t. zero_ℚ *ℚ one_ℚ +ℚ (neg_ℚ one_ℚ *ℚ x 0 +ℚ t)) (dot_comm (replicate (length p.objective) zero_ℚ) (point_of p x) ∙ dot-zeros (point_of p x) (length p.objective))
    ∙ by_ring (x 0 ∷ []) (search quotes depth 20) (search quotes depth 20) refl

-- so where its optimum is 0, the constant of the extra variable's row is 0
extra_constant : (p : Program) (d : Dictionary) (r : ℕ) → IsDictionaryOf p d → r < length d.basic → get_or d.basic r 0 ≡ 0 → at d.auxiliary 0 ≡ zero_ℚ → at (row_of d r) 0 ≡ zero_ℚ
extra_constant p d r k h e z =
    let o = dictionary_once p d k in
    let s = solves_assigned d [] k.shaped o (omega arith) in
    let v : solution_at d [] 0 ≡ at (row_of d r) 0 =
    ap (solution_at d []) (sym e) ∙ s r h ∙ value_assigned d (row_of d r) [] o (omega arith) ∙ dot-first (row_of d r) in
    let w : zero_ℚ ≡ neg_ℚ (solution_at d [] 0) =
    sym z ∙ sym (value_assigned d d.auxiliary [] o (omega arith) ∙ dot-first d.auxiliary) ∙ k.auxiliary _ s ∙ auxiliary_is p (solution_at d []) in
    sym v ∙ sym (neg-neg _) ∙ ap neg_ℚ (sym w) ∙ neg-zero

-- the next pivot is at a place
place_of_candidate : (d : Dictionary) (r c : ℕ) → c < length d.nonbasic → IsCandidate d c r → IsPlace d r c
place_of_candidate d r c h k = record { row = k.row; column = h; entry = ne_of_lt _ _ k.entry }

pub candidate_of : (d : Dictionary) (c r : ℕ) → IsPivotRow d c r → IsCandidate d c r
candidate_of d c r (leaves f l) = l.candidate
candidate_of d c r (too_wide w) = w.candidate

pub next_is_place : (p : Program) (d : Dictionary) (r c : ℕ) → IsOnTheWay p d → NextPivot d r c → IsPlace d r c
next_is_place p d r c w (begins b) = record { row = b.row; column = b.column; entry = λ e. ne_of_lt _ _ zero_lt_one (sym e ∙ begun p d r c w b r b.row) }
next_is_place p d r c w (goes_on h o b) = place_of_candidate d r c b.enters.improves.column (candidate_of d c r b.pivot_row)
next_is_place p d r c w (retires o t z l) = record { row = l.row; column = l.column; entry = l.entry }

-- a pivot at a ratio that isn't narrow isn't narrow
quotient_is : (b a : ℚ) → a ≢ zero_ℚ → neg_ℚ b /ℚ a ≡ b /ℚ neg_ℚ a
quotient_is b a n =
    by_ring (b ∷ inv_ℚ a ∷ []) {y = b *ℚ neg_ℚ (inv_ℚ a)} (search quotes depth 20) (search quotes depth 20) refl ∙ ap (λ t. b *ℚ t) (sym (inv-neg a n))

first_dividend : (row : List ℚ) (c : ℕ) → dividend row (suc c) 0 ≡ neg_ℚ (at row 0)
first_dividend row c = ap (λ b. cond b one_ℚ (neg_ℚ (at row 0))) (ne_eqb 0 (suc c) (λ e. absurd (omega arith)))

pub narrow_ratio : (d : Dictionary) (r c : ℕ) → IsCandidate d c r → 0 < length (row_of d r) → IsNarrowPivot d r c → IsNarrowRatio d c r
unfolding IsNarrowQuotient
narrow_ratio d r c k l n =
    subst IsNarrow (ap (λ t. t /ℚ at (row_of d r) (suc c)) (first_dividend (row_of d r) c) ∙ quotient_is (at (row_of d r) 0) (at (row_of d r) (suc c)) (ne_of_lt _ _ k.entry)) (n.row 0 l)

pub row_length : (d : Dictionary) (i : ℕ) → IsShaped d → i < length d.basic → length (row_of d i) ≡ length d.nonbasic + 1
row_length d i s h = All-get_or (λ row. length row ≡ length d.nonbasic + 1) d.rows i [] (omega (arith, s.rows)) s.widths

-- so a pivot that is made is at the leaving row
pub made_leaves : (d : Dictionary) (r c : ℕ) → IsShaped d → IsPivotRow d c r → IsNarrowPivot d r c → Leaves d c r
made_leaves d r c s (leaves f l) n = l
made_leaves d r c s (too_wide w) n =
    absurd (w.wide (narrow_ratio d r c w.candidate (let e = row_length d r s w.candidate.row in omega arith) n))

-- what it makes is on the way
phase_feasible : (p : Program) (d : Dictionary) (h : Phase) → IsOnTheWay p d → IsInPhase h d → IsFeasible d
phase_feasible p d one w o = one_feasible p d w o
phase_feasible p d two w o = o.1

pub next_on_the_way : (p : Program) (d : Dictionary) (r c : ℕ) → IsOnTheWay p d → NextPivot d r c → IsNarrowPivot d r c → IsDictionaryOf p (pivoted d r c) × IsFeasible (pivoted d r c)
next_on_the_way p d r c w n m = (pivot_keeps_dictionary p d r c w.dictionary (next_is_place p d r c w n), kept n)
  where
    kept : NextPivot d r c → IsFeasible (pivoted d r c)
    kept (begins b) = beginning_makes_feasible d r c w.dictionary.shaped (begun p d r c w b) b.row b.negative b.least
    kept (goes_on h o b) = leaving_keeps_feasible d r c w.dictionary.shaped (phase_feasible p d h w o) (made_leaves d r c w.dictionary.shaped b.pivot_row m)
    kept (retires o t z l) = retiring_keeps_feasible d r c w.dictionary.shaped (one_feasible p d w o) l.row (extra_constant p d r w.dictionary l.row l.extra z)

pub first_on_the_way : (p : Program) → IsRegular p → IsOnTheWay p (first_of_program p)
first_on_the_way p g = record { dictionary = first_is_dictionary p g; feasible = inl refl }

pub step_is_dictionary : (p : Program) (d e : Dictionary) → IsOnTheWay p d → IsNext d e → IsDictionaryOf p e
step_is_dictionary p d e w n = subst (IsDictionaryOf p) (sym n.after) (next_on_the_way p d n.row n.column w n.is_next n.is_narrow).0

pub step_feasible : (p : Program) (d e : Dictionary) → IsOnTheWay p d → IsNext d e → IsFeasible e
step_feasible p d e w n = subst IsFeasible (sym n.after) (next_on_the_way p d n.row n.column w n.is_next n.is_narrow).1

pub step_on_the_way : (p : Program) (d e : Dictionary) → IsOnTheWay p d → IsNext d e → IsOnTheWay p e
step_on_the_way p d e w n = record { dictionary = step_is_dictionary p d e w n; feasible = inr (step_feasible p d e w n) }

pub last_on_the_way : (p : Program) (d : Dictionary) (later : List Dictionary) → IsOnTheWay p d → Follow d later → IsOnTheWay p (last_of d later)
last_on_the_way p d [] w f = w
last_on_the_way p d (e ∷ es) w f = last_on_the_way p e es (step_on_the_way p d e w f.0) f.1

pub run_stays_on_the_way : RunStaysOnTheWay
run_stays_on_the_way p later g f = last_on_the_way p (first_of_program p) later (first_on_the_way p g) f
