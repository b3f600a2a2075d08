-- In phase 1 the constant of variable 0 is positive: what brings it to 0 is a pivot at its own row, since of equal ratios the least number leaves.
use Rattle.std.proofs.Common.{◌≡◌, ◌≢◌, ◌⊎◌, inl, inr, ℕ, suc, ◌<◌, ◌≤◌, refl, sym, ap, ◌∙◌, subst, List, [], ◌∷◌, length, get_or, arith}
use Rattle.std.proofs.lemmas.Bool.{cases_eq}
use Rattle.std.proofs.lemmas.List.{get_or-set_same, get_or-set_other, length-set}
use Rattle.fractions.specs.Rational.{ℚ, ◌+ℚ◌, ◌*ℚ◌, neg_ℚ, inv_ℚ, ◌≤ℚ◌, ◌<ℚ◌, zero_ℚ, one_ℚ}
use Rattle.fractions.specs.Vectors.{at}
use Rattle.fractions.proofs.Laws.{mul-one, neg-zero, neg-neg}
use Rattle.fractions.proofs.Tests.{le_or_lt}
use Rattle.fractions.proofs.Order.{le_antisymm, ne_of_lt, le_of_lt, zero_lt_one, le_of_mul-le-mul_pos}
use Rattle.fractions.proofs.Inverse.{inv_unique}
use Rattle.fractions.proofs.Quote.{quotes, by_ring, by_inequality}
use Rattle.linear_programs.specs.Program.{Program}
use Rattle.dictionaries.specs.Dictionary.{Dictionary, row_of, pivoted, solved_row, first_of_program}
use Rattle.dictionaries.specs.Bland.{NextPivot, begins, goes_on, retires, Begins, IsCandidate, Leaves, ratio_of, IsBlandPivot, Phase, one, two, goal_of, IsInPhase}
use Rattle.dictionaries.specs.Narrow.{IsNarrowPivot}
use Rattle.dictionaries.specs.Run.{IsOnTheWay, Follow, last_of, NeverRetires}
use Rattle.dictionaries.proofs.Solutions.{dictionary_once}
use Rattle.dictionaries.proofs.Determined.{one_row}
use Rattle.dictionaries.proofs.Bases.{not_basic_too}
use Rattle.dictionaries.proofs.Feasible.{neg_pos, ratio_is, entered_constant, substituted_constant}
use Rattle.dictionaries.proofs.Pivots.{row_entered, row_other}
use Rattle.dictionaries.proofs.PhaseOne.{extra_constant_is, extra_candidate}
use Rattle.dictionaries.proofs.Runs.{begun, first_basic, made_leaves, step_on_the_way, last_on_the_way, first_on_the_way}
use Rattle.dictionaries.proofs.Turns.{times-ratio}

-- variable 0's row has a positive constant
abbrev IsAbove : Dictionary → Type 0
IsAbove d = (i : ℕ) → i < length d.basic → get_or d.basic i 0 ≡ 0 → zero_ℚ <ℚ at (row_of d i) 0

not_zero_negative : (x : ℚ) → x ≡ zero_ℚ → zero_ℚ <ℚ x → ⊥
not_zero_negative x e h = ne_of_lt _ _ h (sym e)

negated_zero : (x : ℚ) → neg_ℚ x ≡ zero_ℚ → x ≡ zero_ℚ
negated_zero x e = sym (neg-neg x) ∙ ap neg_ℚ e ∙ neg-zero

-- a row that lets its variable grow further than by t is not at 0 there
above : (b a t s : ℚ) → b ≡ neg_ℚ a *ℚ s → a <ℚ zero_ℚ → t ≤ℚ s → (s ≡ t → ⊥) → zero_ℚ <ℚ b +ℚ a *ℚ t
above b a t s e n h k = elim (le_or_lt (b +ℚ a *ℚ t) zero_ℚ) [
  | inl g ↦ absurd (k (le_antisymm _ _ (le_of_mul-le-mul_pos (neg_ℚ a) s t (neg_pos a n) (subst (λ b. b ≤ℚ neg_ℚ a *ℚ t) e (moved b a t g))) h))
  | inr g ↦ g
]
  where
    moved : (b a t : ℚ) → b +ℚ a *ℚ t ≤ℚ zero_ℚ → b ≤ℚ neg_ℚ a *ℚ t
    moved b a t h = by_inequality one_ℚ (le_of_lt _ _ zero_lt_one) h (b ∷ a ∷ t ∷ []) (search quotes depth 20) (search quotes depth 20) refl

above_after : (p : Program) (d : Dictionary) (r c : ℕ) → IsOnTheWay p d → IsAbove d → NextPivot d r c → IsNarrowPivot d r c → IsAbove (pivoted d r c)
above_after p d r c w a n m i l q = cases n (rw length-set at l) (cases_eq i r)
  where
    inverse_one : inv_ℚ one_ℚ ≡ one_ℚ
    inverse_one = inv_unique one_ℚ one_ℚ (mul-one one_ℚ)

    -- the row that variable 0 comes to
    begun_row : (b : Begins d r c) → at (row_of (pivoted d r c) r) 0 ≡ neg_ℚ (at (row_of d r) 0)
    begun_row b =
        ap (λ row. at row 0) (row_entered d r c w.dictionary.shaped b.row) ∙ entered_constant (row_of d r) c
        ∙ ap (λ t. neg_ℚ (inv_ℚ t) *ℚ at (row_of d r) 0) (begun p d r c w b r b.row) ∙ ap (λ t. neg_ℚ t *ℚ at (row_of d r) 0) inverse_one
        ∙ by_ring (at (row_of d r) 0 ∷ []) (search quotes depth 20) (search quotes depth 20) refl

    basic_same : i < length d.basic → i ≢ r → get_or d.basic i 0 ≡ 0
    basic_same h k = sym (get_or-set_other d.basic r i _ 0 k) ∙ q

    entered_is : r < length d.basic → i ≡ r → get_or d.nonbasic c 0 ≡ 0
    entered_is h e = sym (get_or-set_same d.basic r _ 0 h) ∙ sym (ap (λ i. get_or (pivoted d r c).basic i 0) e) ∙ q

    -- another row's ratio is less
    grows : Leaves d c r → IsCandidate d c i → i ≢ r → get_or d.basic i 0 ≡ 0 → zero_ℚ <ℚ at (row_of (pivoted d r c) i) 0
    grows v k e z =
        subst (λ t. zero_ℚ <ℚ t) (sym (ap (λ row. at row 0) (row_other d r c i w.dictionary.shaped k.row e) ∙ substituted_constant (row_of d i) (solved_row (row_of d r) (suc c)) c
        ∙ ap (λ t. at (row_of d i) 0 +ℚ at (row_of d i) (suc c) *ℚ t) (ratio_is d c r v.candidate)))
        (above (at (row_of d i) 0) (at (row_of d i) (suc c)) (ratio_of d c r) (ratio_of d c i) (sym (times-ratio d c i k)) k.entry (v.least i k)
        (λ s. e (one_row d i r (dictionary_once p d w.dictionary) k.row v.candidate.row (z ∙ sym (least_is (v.ties i k s))))))
      where
        least_is : get_or d.basic r 0 ≤ get_or d.basic i 0 → get_or d.basic r 0 ≡ 0
        least_is h = omega (arith, h, z)

    by_phase : (h : Phase) → IsInPhase h d → IsBlandPivot d (goal_of h d) r c → i < length d.basic → (i ≡ r) ⊎ (i ≡ r → ⊥) → zero_ℚ <ℚ at (row_of (pivoted d r c) i) 0
    by_phase one o b h (inl e) = absurd (b.enters.improves.variable (entered_is (made_leaves d r c w.dictionary.shaped b.pivot_row m).candidate.row e))
    by_phase one o b h (inr k) =
        grows (made_leaves d r c w.dictionary.shaped b.pivot_row m) (extra_candidate p d i c w.dictionary h (basic_same h k) b.enters.improves) k (basic_same h k)
    by_phase two o b h (inl e) = absurd (b.enters.improves.variable (entered_is (made_leaves d r c w.dictionary.shaped b.pivot_row m).candidate.row e))
    by_phase two o b h (inr k) = absurd (not_basic_too d 0 (dictionary_once p d w.dictionary) (i, h, basic_same h k) o.0)

    cases : NextPivot d r c → i < length d.basic → (i ≡ r) ⊎ (i ≡ r → ⊥) → zero_ℚ <ℚ at (row_of (pivoted d r c) i) 0
    cases (begins b) h (inl e) = subst (λ t. zero_ℚ <ℚ t) (sym (ap (λ i. at (row_of (pivoted d r c) i) 0) e ∙ begun_row b)) (neg_pos _ b.negative)
    cases (begins b) h (inr k) = absurd (not_basic_too d 0 (dictionary_once p d w.dictionary) (i, h, basic_same h k) (c, b.column, b.extra))
    cases (goes_on f o b) h e = by_phase f o b h e
    cases (retires o t z b) h e = absurd (not_zero_negative _ (zero_constant z b.row b.extra) (a r b.row b.extra))
      where
        zero_constant : at d.auxiliary 0 ≡ zero_ℚ → r < length d.basic → get_or d.basic r 0 ≡ 0 → at (row_of d r) 0 ≡ zero_ℚ
        zero_constant z h e = negated_zero _ (sym (extra_constant_is p d r w.dictionary h e) ∙ z)

run_above : (p : Program) (d : Dictionary) (later : List Dictionary) → IsOnTheWay p d → IsAbove d → Follow d later → IsAbove (last_of d later)
run_above p d [] w a f = a
run_above p d (e ∷ es) w a f = run_above p e es (step_on_the_way p d e w f.0) (subst IsAbove (sym f.0.after) (above_after p d f.0.row f.0.column w a f.0.is_next f.0.is_narrow)) f.1

pub never_retires : NeverRetires
never_retires p later g f i z =
    let d = last_of (first_of_program p) later in
    let w = last_on_the_way p (first_of_program p) later (first_on_the_way p g) f in
    not_zero_negative _ (negated_zero _ (sym (extra_constant_is p d i.0 w.dictionary i.1 i.2) ∙ z))
    (run_above p (first_of_program p) later (first_on_the_way p g) (λ j h q. absurd (first_basic p j h q)) f i.0 i.1 i.2)
