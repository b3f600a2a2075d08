-- Where one of two opposite columns is basic, the other has no entry in the objective: both can grow together, and the objective stays.
use Rattle.std.proofs.Common.{◌≡◌, ◌≢◌, ℕ, suc, ◌<◌, ◌≤◌, refl, sym, ap, ap₂, ◌∙◌, [], length, get_or, arith, ◌⊎◌, inl, inr}
use Rattle.std.specs.List.{range_with_len}
use Rattle.std.proofs.lemmas.Bool.{cases_eq}
use Rattle.std.proofs.lemmas.List.Elements.{All-weaker}
use Rattle.fractions.specs.Rational.{ℚ, ◌+ℚ◌, ◌<ℚ◌, zero_ℚ, one_ℚ}
use Rattle.fractions.specs.Vectors.{dot, at, only}
use Rattle.fractions.specs.Rows.{Row}
use Rattle.fractions.proofs.Order.{ne_of_lt}
use Rattle.fractions.proofs.Laws.{add-zero, zero-add, add_comm, add_right_cancel}
use Rattle.linear_programs.specs.Program.{Program, objective_at, AreOpposite}
use Rattle.dictionaries.specs.Dictionary.{Dictionary, IsDictionaryOf, IsOnce, IsBasic}
use Rattle.dictionaries.specs.Reading.{solution_at, change_along, column_entry, point_of, OppositeNeverImproves, OneOfTwoIsZero}
use Rattle.linear_programs.proofs.Vectors.{at-only_same, at-only_other, length-only}
use Rattle.dictionaries.proofs.Solutions.{dictionary_once, solves_assigned, lookup_column, entry_none, entry_at}
use Rattle.dictionaries.proofs.Points.{objective_is, dot-first}
use Rattle.dictionaries.proofs.Directions.{dot_step, dot_adds, column_entry_nil}
use Rattle.dictionaries.proofs.Opposites.{one_of_two_is_basic, bump, bump_none, bump_other, dot-bump, grown_solves}
use Rattle.dictionaries.proofs.Determined.{one_column}
use Rattle.dictionaries.proofs.Bases.{value_where, value_still, not_basic_too, at_or, none_counts}

no_entry : (m e z : ℚ) → m +ℚ e ≡ z → z ≡ m → e ≡ zero_ℚ
no_entry m e z h i = add_right_cancel e zero_ℚ m (add_comm e m ∙ h ∙ i ∙ sym (zero-add m))

pub opposite_never_improves : OppositeNeverImproves
opposite_never_improves p d j k a c w o ha hc ea ec =
    let once = dictionary_once p d w in
    let s = solves_assigned d [] w.shaped once (omega arith) in
    let g = (w.solutions (λ v. solution_at d [] v +ℚ bump j k v)).0 (grown_solves p j k (solution_at d []) o ((w.solutions _).1 s)) in
    let l : length (only c one_ℚ) ≤ length d.nonbasic = omega (arith, length-only c one_ℚ, hc) in
    no_entry (at d.objective 0) (at d.objective (suc c)) (objective_at p (point_of p (λ v. solution_at d [] v +ℚ bump j k v)))
    (ap (λ t. t +ℚ at d.objective (suc c)) (sym (dot-first d.objective)) ∙ sym (dot_step d.objective c)
    ∙ sym (value_where d.objective d.nonbasic (λ v. solution_at d [] v +ℚ bump j k v) (only c one_ℚ) l (λ i h. each once i h (cases_eq i c)))
    ∙ w.objective (λ v. solution_at d [] v +ℚ bump j k v) g ∙ objective_is p (λ v. solution_at d [] v +ℚ bump j k v))
    (ap (λ t. p.constant +ℚ t) (dot_adds p.objective (range_with_len 1 (length p.objective)) (λ v. solution_at d [] v +ℚ bump j k v) (solution_at d []) (bump j k) (λ v. refl)
    ∙ ap (λ t. dot p.objective (point_of p (solution_at d [])) +ℚ t) (dot-bump p.objective (length p.objective) j k o.different o.one o.other ∙ o.objective) ∙ add-zero _)
    ∙ sym (objective_is p (solution_at d [])) ∙ sym (w.objective (solution_at d []) s)
    ∙ value_still d.objective d.nonbasic (solution_at d []) (λ i h. lookup_column d [] _ i once h))
  where
    each : IsOnce d → (i : ℕ) → i < length d.nonbasic → (i ≡ c) ⊎ (i ≡ c → ⊥) → solution_at d [] (get_or d.nonbasic i 0) +ℚ bump j k (get_or d.nonbasic i 0) ≡ at (only c one_ℚ) i
    each once i h (inl e) =
        ap (λ t. t +ℚ bump j k (get_or d.nonbasic i 0)) (lookup_column d [] _ i once h) ∙ zero-add _
        ∙ ap (bump j k) (ap (λ i. get_or d.nonbasic i 0) e ∙ ec) ∙ bump_other j k o.different ∙ sym (ap (at (only c one_ℚ)) e ∙ at-only_same c one_ℚ)
    each once i h (inr n) =
        ap (λ t. t +ℚ bump j k (get_or d.nonbasic i 0)) (lookup_column d [] _ i once h) ∙ zero-add _
        ∙ bump_none j k (get_or d.nonbasic i 0) (λ q. not_basic_too d (suc j) once (a, ha, ea) (i, h, q)) (λ q. n (one_column d i c once h hc (q ∙ sym ec)))
        ∙ sym (at-only_other c one_ℚ i n)

-- ---- one of the two is 0
-- a variable that isn't basic is 0 in the basic solution
value_free : (d : Dictionary) (v : ℕ) → ¬ (IsBasic d v) → solution_at d [] v ≡ zero_ℚ
value_free d v n = ap₂ ◌+ℚ◌ (column_entry_nil d.nonbasic v) (entry_none d.basic _ v (none_counts d.basic v n)) ∙ zero-add zero_ℚ

-- and stays in each direction but its own
change_free : (d : Dictionary) (c v : ℕ) → IsOnce d → ¬ (IsBasic d v) → c < length d.nonbasic → get_or d.nonbasic c 0 ≢ v → change_along d c v ≡ zero_ℚ
change_free d c v o n h q =
    ap₂ ◌+ℚ◌ (elim (at_or d.nonbasic v) [
      | inl p ↦ ap (column_entry d.nonbasic (only c one_ℚ)) (sym p.2) ∙ entry_at d.nonbasic (only c one_ℚ) p.0 p.1 (omega (arith, o (get_or d.nonbasic p.0 0)))
          ∙ at-only_other c one_ℚ p.0 (λ e. q (ap (λ i. get_or d.nonbasic i 0) (sym e) ∙ p.2))
      | inr p ↦ entry_none d.nonbasic (only c one_ℚ) v (none_counts d.nonbasic v p)
    ]) (entry_none d.basic _ v (none_counts d.basic v n)) ∙ zero-add zero_ℚ

turned : (p : Program) (j k : ℕ) → AreOpposite p j k → AreOpposite p k j
turned p j k o = record {
  different = λ e. o.different (sym e);
  one = o.other;
  other = o.one;
  rows = All-weaker (λ (r : Row). at r.coefficients j +ℚ at r.coefficients k ≡ zero_ℚ) (λ (r : Row). at r.coefficients k +ℚ at r.coefficients j ≡ zero_ℚ) (λ r h. add_comm _ _ ∙ h) p.rows o.rows;
  objective = add_comm _ _ ∙ o.objective;
}

-- where one is basic, the other stays along what improves
other_stays : (p : Program) (d : Dictionary) (j k c : ℕ) → IsDictionaryOf p d → AreOpposite p j k → c < length d.nonbasic → zero_ℚ <ℚ at d.objective (suc c) → IsBasic d (suc j)
    → change_along d c (suc k) ≡ zero_ℚ
other_stays p d j k c w o h i b =
    change_free d c (suc k) (dictionary_once p d w) (λ e. one_of_two_is_basic p d j k b.0 e.0 w o b.1 e.1 b.2 e.2) h
    (λ q. ne_of_lt _ _ i (sym (opposite_never_improves p d j k b.0 c w o b.1 h b.2 q)))

pub one_of_two_is_zero : OneOfTwoIsZero
one_of_two_is_zero = record {
  solution = λ p d j k w o. elim (at_or d.basic (suc j)) [
    | inl b ↦ inr (value_free d (suc k) (λ e. one_of_two_is_basic p d j k b.0 e.0 w o b.1 e.1 b.2 e.2))
    | inr n ↦ inl (value_free d (suc j) n)
  ];
  direction = λ p d j k c w o h i. elim (at_or d.basic (suc j)) [
    | inl b ↦ inr (other_stays p d j k c w o h i b)
    | inr n ↦ neither p d j k c w o h i n (at_or d.basic (suc k)) (cases_eq (get_or d.nonbasic c 0) (suc j))
  ];
}
  where
    neither : (p : Program) (d : Dictionary) (j k c : ℕ) → IsDictionaryOf p d → AreOpposite p j k → c < length d.nonbasic → zero_ℚ <ℚ at d.objective (suc c) → ¬ (IsBasic d (suc j))
        → IsBasic d (suc k) ⊎ ¬ (IsBasic d (suc k)) → (get_or d.nonbasic c 0 ≡ suc j) ⊎ (get_or d.nonbasic c 0 ≡ suc j → ⊥) → (change_along d c (suc j) ≡ zero_ℚ) ⊎ (change_along d c (suc k) ≡ zero_ℚ)
    neither p d j k c w o h i n (inl b) q = inl (other_stays p d k j c w (turned p j k o) h i b)
    neither p d j k c w o h i n (inr m) (inl q) =
        inr (change_free d c (suc k) (dictionary_once p d w) m h (λ e. o.different (let s : suc j ≡ suc k = sym q ∙ e in omega arith)))
    neither p d j k c w o h i n (inr m) (inr q) = inl (change_free d c (suc j) (dictionary_once p d w) n h q)
