-- The next pivot is one: a dictionary on the way determines it.
use Rattle.std.proofs.Common.{◌≡◌, ◌≢◌, ℕ, suc, ◌<◌, ◌≤◌, sym, ap, ◌∙◌, subst, List, length, get_or, arith, ◌⊎◌, inl, inr}
use Rattle.std.proofs.lemmas.Bool.{cases_eq}
use Rattle.fractions.specs.Rational.{ℚ, ◌<ℚ◌, zero_ℚ, one_ℚ}
use Rattle.fractions.specs.Vectors.{at, only}
use Rattle.fractions.proofs.Order.{le_antisymm, ne_of_lt, zero_lt_one, lt_irrefl, lt_of_le_of_lt}
use Rattle.dictionaries.specs.Dictionary.{Dictionary, row_of, IsOnce, IsFeasible, IsNonBasic, times_in, IsBasic}
use Rattle.dictionaries.specs.Reading.{column_entry}
use Rattle.dictionaries.specs.Bland.{NextPivot, begins, goes_on, retires, Begins, Enters, Leaves, Retires, IsOptimal, IsPivotRow, leaves, too_wide, IsBlandPivot, Phase, one, two, goal_of, IsInPhase}
use Rattle.dictionaries.specs.Run.{NextIsDetermined}
use Rattle.linear_programs.proofs.Vectors.{at-only_same, at-only_other}
use Rattle.dictionaries.proofs.Solutions.{entry_at, times_in_some, dictionary_once}

-- a number that stands once stands at one place
one_place : (cs : List ℕ) (i j : ℕ) → i < length cs → j < length cs → times_in cs (get_or cs i 0) ≤ 1 → get_or cs i 0 ≡ get_or cs j 0 → i ≡ j
one_place cs i j h k t e = cases (cases_eq j i)
  where
    both : at (only i one_ℚ) i ≡ at (only i one_ℚ) j
    both = sym (entry_at cs (only i one_ℚ) i h t) ∙ ap (λ v. column_entry cs (only i one_ℚ) v) e ∙ entry_at cs (only i one_ℚ) j k (subst (λ v. times_in cs v ≤ 1) e t)

    cases : (j ≡ i) ⊎ (j ≡ i → ⊥) → i ≡ j
    cases (inl q) = sym q
    cases (inr n) = absurd (ne_of_lt _ _ zero_lt_one (sym (at-only_other i one_ℚ j n) ∙ sym both ∙ at-only_same i one_ℚ))

pub one_column : (d : Dictionary) (i j : ℕ) → IsOnce d → i < length d.nonbasic → j < length d.nonbasic → get_or d.nonbasic i 0 ≡ get_or d.nonbasic j 0 → i ≡ j
one_column d i j o h k e = one_place d.nonbasic i j h k (omega (arith, o (get_or d.nonbasic i 0))) e

pub one_row : (d : Dictionary) (i j : ℕ) → IsOnce d → i < length d.basic → j < length d.basic → get_or d.basic i 0 ≡ get_or d.basic j 0 → i ≡ j
one_row d i j o h k e = one_place d.basic i j h k (omega (arith, o (get_or d.basic i 0))) e

pub one_entering : (d : Dictionary) (row : List ℚ) (c e : ℕ) → IsOnce d → Enters d row c → Enters d row e → c ≡ e
one_entering d row c e o a b =
    let l = a.least e b.improves in
    let m = b.least c a.improves in
    one_column d c e o a.improves.column b.improves.column (omega (arith, l, m))

one_leaving : (d : Dictionary) (c r s : ℕ) → IsOnce d → Leaves d c r → Leaves d c s → r ≡ s
one_leaving d c r s o a b =
    let q = le_antisymm _ _ (a.least s b.candidate) (b.least r a.candidate) in
    let l = a.ties s b.candidate (sym q) in
    let m = b.ties r a.candidate q in
    one_row d r s o a.candidate.row b.candidate.row (omega (arith, l, m))

one_beginning : (d : Dictionary) (r c s e : ℕ) → IsOnce d → Begins d r c → Begins d s e → (r ≡ s) × (c ≡ e)
one_beginning d r c s e o a b =
    let q = le_antisymm _ _ (a.least s b.row) (b.least r a.row) in
    let l = a.ties s b.row (sym q) in
    let m = b.ties r a.row q in
    (one_row d r s o a.row b.row (omega (arith, l, m)), one_column d c e o a.column b.column (a.extra ∙ sym b.extra))

one_retiring : (d : Dictionary) (r c s e : ℕ) → IsOnce d → Retires d r c → Retires d s e → (r ≡ s) × (c ≡ e)
one_retiring d r c s e o a b =
    let q = one_row d r s o a.row b.row (a.extra ∙ sym b.extra) in
    let l = a.least e b.column (subst (λ s. at (row_of d s) (suc e) ≢ zero_ℚ) (sym q) b.entry) in
    let m = b.least c a.column (subst (λ s. at (row_of d s) (suc c) ≢ zero_ℚ) q a.entry) in
    (q, one_column d c e o a.column b.column (omega (arith, l, m)))

-- variable 0 is not both basic and non-basic
pub not_both : (d : Dictionary) → IsOnce d → IsBasic d 0 → IsNonBasic d 0 → ⊥
not_both d o a b =
    let s = subst (λ v. 1 ≤ times_in d.basic v) a.2 (times_in_some d.basic a.0 a.1) in
    let t = subst (λ v. 1 ≤ times_in d.nonbasic v) b.2 (times_in_some d.nonbasic b.0 b.1) in
    absurd (omega (arith, o 0, s, t))

pub not_negative : (d : Dictionary) (r : ℕ) → IsFeasible d → r < length d.basic → at (row_of d r) 0 <ℚ zero_ℚ → ⊥
not_negative d r f h n = lt_irrefl zero_ℚ (lt_of_le_of_lt _ _ _ (f r h) n)

one_pivot_row : (d : Dictionary) (c r s : ℕ) → IsOnce d → IsPivotRow d c r → IsPivotRow d c s → r ≡ s
one_pivot_row d c r s o (leaves f l) (leaves g m) = one_leaving d c r s o l m
one_pivot_row d c r s o (leaves f l) (too_wide b) = absurd (b.wide (f s b.candidate))
one_pivot_row d c r s o (too_wide a) (leaves g m) = absurd (a.wide (g r a.candidate))
one_pivot_row d c r s o (too_wide a) (too_wide b) =
    let l = a.least s b.candidate b.wide in
    let m = b.least r a.candidate a.wide in
    one_row d r s o a.candidate.row b.candidate.row (omega (arith, l, m))

one_pivot : (d : Dictionary) (row : List ℚ) (r c s e : ℕ) → IsOnce d → IsBlandPivot d row r c → IsBlandPivot d row s e → (r ≡ s) × (c ≡ e)
one_pivot d row r c s e o a b =
    let q = one_entering d row c e o a.enters b.enters in
    (one_pivot_row d c r s o a.pivot_row (subst (λ e. IsPivotRow d e s) (sym q) b.pivot_row), q)

not_negative_in : (d : Dictionary) (h : Phase) (r c : ℕ) → IsOnce d → IsInPhase h d → Begins d r c → ⊥
not_negative_in d one r c o i a = not_both d o i (c, a.column, a.extra)
not_negative_in d two r c o i a = not_negative d r i.1 a.row a.negative

pub next_is_determined : NextIsDetermined
next_is_determined p d r c s e w n m = by_rules (dictionary_once p d w.dictionary) n m
  where
    by_phases : (h k : Phase) → IsOnce d → IsInPhase h d → IsBlandPivot d (goal_of h d) r c → IsInPhase k d → IsBlandPivot d (goal_of k d) s e → (r ≡ s) × (c ≡ e)
    by_phases one one o i a j b = one_pivot d d.auxiliary r c s e o a b
    by_phases one two o i a j b = absurd (not_both d o i j.0)
    by_phases two one o i a j b = absurd (not_both d o j i.0)
    by_phases two two o i a j b = one_pivot d d.objective r c s e o a b

    not_optimal : (h : Phase) (r c : ℕ) → IsOnce d → IsBasic d 0 → IsOptimal d d.auxiliary → IsInPhase h d → IsBlandPivot d (goal_of h d) r c → ⊥
    not_optimal one r c o i x j b = x c b.enters.improves
    not_optimal two r c o i x j b = not_both d o i j.0

    by_rules : IsOnce d → NextPivot d r c → NextPivot d s e → (r ≡ s) × (c ≡ e)
    by_rules o (begins a) (begins b) = one_beginning d r c s e o a b
    by_rules o (begins a) (goes_on h i b) = absurd (not_negative_in d h r c o i a)
    by_rules o (begins a) (retires i x z l) = absurd (not_both d o i (c, a.column, a.extra))
    by_rules o (goes_on h i a) (begins b) = absurd (not_negative_in d h s e o i b)
    by_rules o (goes_on h i a) (goes_on k j b) = by_phases h k o i a j b
    by_rules o (goes_on h i a) (retires j y z k) = absurd (not_optimal h r c o j y i a)
    by_rules o (retires i x z l) (begins b) = absurd (not_both d o i (e, b.column, b.extra))
    by_rules o (retires i x z l) (goes_on k j b) = absurd (not_optimal k s e o i x j b)
    by_rules o (retires i x z l) (retires j y u k) = one_retiring d r c s e o l k
