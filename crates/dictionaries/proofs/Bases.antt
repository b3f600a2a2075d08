-- Basic and non-basic variables, and that a dictionary is told by its basic variables.
use Rattle.std.proofs.Common.{◌≡◌, ℕ, zero, suc, ◌+◌, ◌<◌, ◌≤◌, refl, sym, ap, ◌∙◌, subst, List, [], ◌∷◌, length, get_or, map, drop, arith, Bool, true, false, cond, eqb, ◌⊎◌, inl, inr}
use Rattle.std.proofs.lemmas.Bool.{cases_eq, eqb-true}
use Rattle.std.proofs.lemmas.List.{get_or-map, get_or_past, length-map}
use Rattle.fractions.specs.Rational.{ℚ, ◌+ℚ◌, ◌≤ℚ◌, zero_ℚ, one_ℚ}
use Rattle.fractions.specs.Vectors.{dot, at, only}
use Rattle.fractions.proofs.Laws.{add_comm, add_right_cancel}
use Rattle.linear_programs.specs.Program.{Program}
use Rattle.dictionaries.specs.Dictionary.{Dictionary, row_of, value_of, Solves, IsFeasible, IsBasic, IsNonBasic, SameBasis, IsOnce, times_in, IsDictionaryOf}
use Rattle.dictionaries.specs.Reading.{entry_of, solution_at, SameRow, BasisTellsDictionary}
use Rattle.linear_programs.proofs.Vectors.{at-only_same, at-only_other, length-only, at-drop_one}
use Rattle.dictionaries.proofs.Solutions.{dictionary_once, lookup_column, value_assigned, solves_assigned, times_in_some, entry_at, entry_none, dot_same}
use Rattle.dictionaries.proofs.Points.{dot-first}
use Rattle.dictionaries.proofs.Directions.{dot_step}
use Rattle.dictionaries.proofs.Determined.{one_column}

-- ---- places in a list
abbrev pub IsAt : List ℕ → ℕ → Type 0
IsAt cs v = (i : ℕ) × (i < length cs) × (get_or cs i 0 ≡ v)

pub at_or : (cs : List ℕ) (v : ℕ) → IsAt cs v ⊎ ¬ (IsAt cs v)
at_or [] v = inr (λ p. absurd (let h = p.1 in omega arith))
at_or (c ∷ cs) v = cases (cases_eq c v) (at_or cs v)
  where
    later : (c ≡ v → ⊥) → ¬ (IsAt cs v) → (i : ℕ) → i < length (c ∷ cs) → get_or (c ∷ cs) i 0 ≡ v → ⊥
    later n m zero h q = n q
    later n m (suc i) h q = m (i, omega arith, q)

    cases : (c ≡ v) ⊎ (c ≡ v → ⊥) → IsAt cs v ⊎ ¬ (IsAt cs v) → IsAt (c ∷ cs) v ⊎ ¬ (IsAt (c ∷ cs) v)
    cases (inl e) r = inl (0, omega arith, e)
    cases (inr n) (inl p) = inl (suc p.0, let h = p.1 in omega arith, p.2)
    cases (inr n) (inr m) = inr (λ p. later n m p.0 p.1 p.2)

pub at_counts : (cs : List ℕ) (v : ℕ) → IsAt cs v → 1 ≤ times_in cs v
at_counts cs v p = subst (λ v. 1 ≤ times_in cs v) p.2 (times_in_some cs p.0 p.1)

pub counts_at : (cs : List ℕ) (v : ℕ) → 1 ≤ times_in cs v → IsAt cs v
counts_at [] v h = absurd (omega arith)
counts_at (c ∷ cs) v h = cases (eqb c v) refl h (λ k. counts_at cs v k)
  where
    cases : (b : Bool) → eqb c v ≡ b → 1 ≤ cond b 1 0 + times_in cs v → (1 ≤ times_in cs v → IsAt cs v) → IsAt (c ∷ cs) v
    cases true q h f = (0, omega arith, eqb-true c v q)
    cases false q h f = let p = f (omega arith) in (suc p.0, let l = p.1 in omega arith, p.2)

pub none_counts : (cs : List ℕ) (v : ℕ) → ¬ (IsAt cs v) → times_in cs v ≡ 0
none_counts cs v n = zero_or (times_in cs v) (λ h. n (counts_at cs v h))
  where
    zero_or : (k : ℕ) → (1 ≤ k → ⊥) → k ≡ 0
    zero_or zero f = refl
    zero_or (suc k) f = absurd (f (omega arith))

pub basic_or : (d : Dictionary) (v : ℕ) → IsBasic d v ⊎ ¬ (IsBasic d v)
basic_or d v = at_or d.basic v

-- no variable is both
pub not_basic_too : (d : Dictionary) (v : ℕ) → IsOnce d → IsBasic d v → IsNonBasic d v → ⊥
not_basic_too d v o a b = absurd (omega (arith, o v, at_counts d.basic v a, at_counts d.nonbasic v b))

-- a variable of one dictionary is one of the other
pub one_or_other : (p : Program) (d e : Dictionary) (v : ℕ) → IsDictionaryOf p d → IsDictionaryOf p e → IsNonBasic e v → IsBasic d v ⊎ IsNonBasic d v
one_or_other p d e v k l n = elim (at_or d.basic v) [
  | inl b ↦ inl b
  | inr m ↦ inr (counts_at d.nonbasic v (omega (arith, k.places v, l.places v, at_counts e.nonbasic v n, none_counts d.basic v m)))
]

-- ---- a row where the columns are known
pub value_where : (row : List ℚ) (columns : List ℕ) (x : ℕ → ℚ) (z : List ℚ) → length z ≤ length columns
    → ((j : ℕ) → j < length columns → x (get_or columns j 0) ≡ at z j) → value_of row columns x ≡ dot row (one_ℚ ∷ z)
value_where row columns x z s h = dot_same row (one_ℚ ∷ map x columns) (one_ℚ ∷ z) each
  where
    halves : (j n : ℕ) → (j < n) ⊎ (n ≤ j)
    halves j n = grind arith

    inner : (j : ℕ) → (j < length columns) ⊎ (length columns ≤ j) → at (map x columns) j ≡ at z j
    inner j (inl l) = get_or-map x columns j 0 zero_ℚ l ∙ h j l
    inner j (inr l) = get_or_past (map x columns) j zero_ℚ (rw length-map l) ∙ sym (get_or_past z j zero_ℚ (omega arith))

    each : (j : ℕ) → at (one_ℚ ∷ map x columns) j ≡ at (one_ℚ ∷ z) j
    each zero = refl
    each (suc j) = inner j (halves j (length columns))

-- where each non-basic variable is 0, a row is its constant
pub value_still : (row : List ℚ) (columns : List ℕ) (x : ℕ → ℚ) → ((j : ℕ) → j < length columns → x (get_or columns j 0) ≡ zero_ℚ) → value_of row columns x ≡ at row 0
value_still row columns x h = value_where row columns x [] (omega arith) h ∙ dot-first row

pub entry_at_column : (d : Dictionary) (row : List ℚ) (j : ℕ) → IsOnce d → j < length d.nonbasic → entry_of d.nonbasic row (get_or d.nonbasic j 0) ≡ at row (suc j)
entry_at_column d row j o h = entry_at d.nonbasic (drop 1 row) j h (omega (arith, o (get_or d.nonbasic j 0))) ∙ at-drop_one row j

-- ---- dictionaries of one program with one basis
record AreOfOneBasis (p : Program) (d e : Dictionary) : Type 0 where
  first : IsDictionaryOf p d
  second : IsDictionaryOf p e
  same : SameBasis d e

-- the columns of the second are those of the first
column_of : (p : Program) (d e : Dictionary) (v : ℕ) → AreOfOneBasis p d e → IsNonBasic e v → IsNonBasic d v
column_of p d e v a n = elim (one_or_other p d e v a.first a.second n) [
  | inl b ↦ absurd (not_basic_too e v (dictionary_once p e a.second) ((a.same v).0 b) n)
  | inr m ↦ m
]

turned_round : (p : Program) (d e : Dictionary) → AreOfOneBasis p d e → AreOfOneBasis p e d
turned_round p d e a = record { first = a.second; second = a.first; same = λ v. ((a.same v).1, (a.same v).0) }

-- rows that agree at each solution
abbrev Agree : (d e : Dictionary) → List ℚ → List ℚ → Type 0
Agree d e u w = (x : ℕ → ℚ) → Solves d x → value_of u d.nonbasic x ≡ value_of w e.nonbasic x

constants_agree : (p : Program) (d e : Dictionary) (u w : List ℚ) → AreOfOneBasis p d e → Agree d e u w → at u 0 ≡ at w 0
constants_agree p d e u w a h =
    let o = dictionary_once p d a.first in
    let s = solves_assigned d [] a.first.shaped o (omega arith) in
    sym (value_assigned d u [] o (omega arith) ∙ dot-first u) ∙ h (solution_at d []) s
    ∙ value_still w e.nonbasic (solution_at d []) (λ j l. let n = column_of p d e (get_or e.nonbasic j 0) a (j, l, refl) in ap (solution_at d []) (sym n.2) ∙ lookup_column d [] _ n.0 o n.1)

entries_agree : (p : Program) (d e : Dictionary) (u w : List ℚ) (v : ℕ) → AreOfOneBasis p d e → Agree d e u w → IsNonBasic d v → IsNonBasic e v
    → entry_of d.nonbasic u v ≡ entry_of e.nonbasic w v
entries_agree p d e u w v a h m n =
    let o = dictionary_once p d a.first in
    let q = dictionary_once p e a.second in
    let z = only m.0 one_ℚ in
    let l : length z ≤ length d.nonbasic = omega (arith, length-only m.0 one_ℚ, m.1) in
    let k : length (only n.0 one_ℚ) ≤ length e.nonbasic = omega (arith, length-only n.0 one_ℚ, n.1) in
    let s = solves_assigned d z a.first.shaped o l in
    ap (entry_of d.nonbasic u) (sym m.2) ∙ entry_at_column d u m.0 o m.1
    ∙ cancelled _ _ _ _ (constants_agree p d e u w a h)
    (sym (value_assigned d u z o l ∙ dot_step u m.0 ∙ ap (λ t. t +ℚ at u (suc m.0)) (dot-first u)) ∙ h (solution_at d z) s
    ∙ value_where w e.nonbasic (solution_at d z) (only n.0 one_ℚ) k (λ j i. each j i o q) ∙ dot_step w n.0 ∙ ap (λ t. t +ℚ at w (suc n.0)) (dot-first w))
    ∙ sym (ap (entry_of e.nonbasic w) (sym n.2) ∙ entry_at_column e w n.0 q n.1)
  where
    cancelled : (a b s t : ℚ) → a ≡ b → a +ℚ s ≡ b +ℚ t → s ≡ t
    cancelled a b s t e h = add_right_cancel _ _ b (add_comm s b ∙ sym (ap (λ x. x +ℚ s) e) ∙ h ∙ add_comm b t)

    each : (j : ℕ) → j < length e.nonbasic → IsOnce d → IsOnce e → solution_at d (only m.0 one_ℚ) (get_or e.nonbasic j 0) ≡ at (only n.0 one_ℚ) j
    each j i o q =
        let c = column_of p d e (get_or e.nonbasic j 0) a (j, i, refl) in
        ap (solution_at d (only m.0 one_ℚ)) (sym c.2) ∙ lookup_column d (only m.0 one_ℚ) _ c.0 o c.1 ∙ same c.0 c.1 c.2 (cases_eq j n.0)
      where
        same : (k : ℕ) → k < length d.nonbasic → get_or d.nonbasic k 0 ≡ get_or e.nonbasic j 0 → (j ≡ n.0) ⊎ (j ≡ n.0 → ⊥) → at (only m.0 one_ℚ) k ≡ at (only n.0 one_ℚ) j
        same k g r (inl y) =
            ap (at (only m.0 one_ℚ)) (one_column d k m.0 o g m.1 (r ∙ ap (λ j. get_or e.nonbasic j 0) y ∙ n.2 ∙ sym m.2)) ∙ at-only_same m.0 one_ℚ
            ∙ sym (ap (at (only n.0 one_ℚ)) y ∙ at-only_same n.0 one_ℚ)
        same k g r (inr y) =
            at-only_other m.0 one_ℚ k (λ t. y (one_column e j n.0 q i n.1 (sym r ∙ ap (λ k. get_or d.nonbasic k 0) t ∙ m.2 ∙ sym n.2)))
            ∙ sym (at-only_other n.0 one_ℚ j y)

same_row : (p : Program) (d e : Dictionary) (u w : List ℚ) → AreOfOneBasis p d e → Agree d e u w → SameRow d e u w
same_row p d e u w a h = record {
  constant = constants_agree p d e u w a h;
  entries = λ v. elim (at_or e.nonbasic v) [
    | inl n ↦ entries_agree p d e u w v a h (column_of p d e v a n) n
    | inr n ↦ entry_none d.nonbasic (drop 1 u) v (none_counts d.nonbasic v (λ m. n (column_of p e d v (turned_round p d e a) m))) ∙ sym (entry_none e.nonbasic (drop 1 w) v (none_counts e.nonbasic v n))
  ];
}

pub basis_tells_dictionary : BasisTellsDictionary
basis_tells_dictionary p d e k l same =
    let a : AreOfOneBasis p d e = record { first = k; second = l; same = same } in
    let there : (x : ℕ → ℚ) → Solves d x → Solves e x = λ x s. (l.solutions x).0 ((k.solutions x).1 s) in
    record {
      rows = λ i j hi hj q. same_row p d e (row_of d i) (row_of e j) a (λ x s. sym (s i hi) ∙ ap x q ∙ there x s j hj);
      objective = same_row p d e d.objective e.objective a (λ x s. k.objective x s ∙ sym (l.objective x (there x s)));
      auxiliary = same_row p d e d.auxiliary e.auxiliary a (λ x s. k.auxiliary x s ∙ sym (l.auxiliary x (there x s)));
    }

-- so they are feasible together
pub same_feasible : (p : Program) (d e : Dictionary) → IsDictionaryOf p d → IsDictionaryOf p e → SameBasis d e → IsFeasible e → IsFeasible d
same_feasible p d e k l same f i h =
    let b = (same (get_or d.basic i 0)).0 (i, h, refl) in
    subst (λ t. zero_ℚ ≤ℚ t) (sym ((basis_tells_dictionary p d e k l same).rows i b.0 h b.1 (sym b.2)).constant) (f b.0 b.1)
