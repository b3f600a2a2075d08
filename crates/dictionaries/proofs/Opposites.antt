-- Of two opposite columns at most one is basic: both could grow together, and no other variable would change.
use Rattle.std.proofs.Common.{◌≡◌, ◌≢◌, ℕ, suc, ◌+◌, ◌<◌, ◌≤◌, refl, sym, ap, ap₂, ◌∙◌, subst, List, [], ◌∷◌, length, get_or, map, arith, cond, eqb, ◌⊎◌, inl, inr}
use Rattle.std.specs.List.{range_with_len}
use Rattle.std.proofs.lemmas.Bool.{cases_eq, eq-eqb, ne_eqb}
use Rattle.std.proofs.lemmas.List.{get_or-map, get_or_past}
use Rattle.std.proofs.lemmas.List.Elements.{All-get_or}
use Rattle.std.proofs.lemmas.List.FromFn.{length-range_with_len, get_or-range_with_len, get_or-map-range_with_len, length-map-range_with_len}
use Rattle.fractions.specs.Rational.{ℚ, ◌+ℚ◌, ◌-ℚ◌, zero_ℚ, one_ℚ}
use Rattle.fractions.specs.Vectors.{dot, at, plus, only}
use Rattle.fractions.specs.Rows.{Row}
use Rattle.fractions.proofs.Laws.{add-zero, zero-add, one-mul, add_comm, add_right_cancel}
use Rattle.fractions.proofs.Order.{ne_of_lt, zero_lt_one}
use Rattle.fractions.proofs.Vectors.{dot_comm, dot-plus, dot-only}
use Rattle.linear_programs.specs.Program.{Program, AreOpposite}
use Rattle.dictionaries.specs.Dictionary.{row_of, value_of, Solves, IsOnce, first_row, first_of_program, times_in}
use Rattle.dictionaries.specs.Reading.{solution_at, point_of, OneOfTwoIsBasic}
use Rattle.linear_programs.proofs.Vectors.{at-plus, at-only_same, at-only_other}
use Rattle.dictionaries.proofs.Multipliers.{no_row}
use Rattle.dictionaries.proofs.Solutions.{dictionary_once, solves_assigned, times_in_some, dot_same}
use Rattle.dictionaries.proofs.Points.{first_row_at, slack_at}
use Rattle.dictionaries.proofs.Directions.{dot_adds}

-- 1 at two variables
abbrev pub bump : ℕ → ℕ → ℕ → ℚ
bump j k v = cond (eqb (suc j) v) one_ℚ (cond (eqb (suc k) v) one_ℚ zero_ℚ)

pub bump_none : (j k v : ℕ) → v ≢ suc j → v ≢ suc k → bump j k v ≡ zero_ℚ
bump_none j k v n m =
    ap (λ b. cond b one_ℚ (cond (eqb (suc k) v) one_ℚ zero_ℚ)) (ne_eqb (suc j) v (λ e. n (sym e))) ∙ ap (λ b. cond b one_ℚ zero_ℚ) (ne_eqb (suc k) v (λ e. m (sym e)))

pub bump_one : (j k : ℕ) → bump j k (suc j) ≡ one_ℚ
bump_one j k = ap (λ b. cond b one_ℚ (cond (eqb (suc k) (suc j)) one_ℚ zero_ℚ)) (eq-eqb (suc j) (suc j) refl)

pub bump_other : (j k : ℕ) → j ≢ k → bump j k (suc k) ≡ one_ℚ
bump_other j k n =
    ap (λ b. cond b one_ℚ (cond (eqb (suc k) (suc k)) one_ℚ zero_ℚ)) (ne_eqb (suc j) (suc k) (λ e. n (let q : j ≡ k = omega arith in q)))
    ∙ ap (λ b. cond b one_ℚ zero_ℚ) (eq-eqb (suc k) (suc k) refl)

bump_list : (n j k : ℕ) → j ≢ k → j < n → k < n → (i : ℕ) → at (map (bump j k) (range_with_len 1 n)) i ≡ at (plus (only j one_ℚ) (only k one_ℚ)) i
bump_list n j k d hj hk i = inner (halves i n) ∙ sym (at-plus (only j one_ℚ) (only k one_ℚ) i)
  where
    halves : (i n : ℕ) → (i < n) ⊎ (n ≤ i)
    halves i n = grind arith

    cases : (i : ℕ) → (i ≡ j) ⊎ (i ≡ j → ⊥) → (i ≡ k) ⊎ (i ≡ k → ⊥) → bump j k (suc i) ≡ at (only j one_ℚ) i +ℚ at (only k one_ℚ) i
    cases i (inl e) (inl f) = absurd (d (sym e ∙ f))
    cases i (inl e) (inr g) =
        ap (λ i. bump j k (suc i)) e ∙ bump_one j k ∙ sym (ap₂ ◌+ℚ◌ (ap (at (only j one_ℚ)) e ∙ at-only_same j one_ℚ) (at-only_other k one_ℚ i g) ∙ add-zero one_ℚ)
    cases i (inr g) (inl f) =
        ap (λ i. bump j k (suc i)) f ∙ bump_other j k d ∙ sym (ap₂ ◌+ℚ◌ (at-only_other j one_ℚ i g) (ap (at (only k one_ℚ)) f ∙ at-only_same k one_ℚ) ∙ zero-add one_ℚ)
    cases i (inr g) (inr h) =
        bump_none j k (suc i) (λ e. g (let q : i ≡ j = omega arith in q)) (λ e. h (let q : i ≡ k = omega arith in q))
        ∙ sym (ap₂ ◌+ℚ◌ (at-only_other j one_ℚ i g) (at-only_other k one_ℚ i h) ∙ add-zero zero_ℚ)

    inner : (i < n) ⊎ (n ≤ i) → at (map (bump j k) (range_with_len 1 n)) i ≡ at (only j one_ℚ) i +ℚ at (only k one_ℚ) i
    inner (inl l) = get_or-map-range_with_len (bump j k) 1 n i (suc i) zero_ℚ l (omega arith) ∙ cases i (cases_eq i j) (cases_eq i k)
    inner (inr l) =
        get_or_past _ i zero_ℚ (rw length-map-range_with_len l)
        ∙ sym (ap₂ ◌+ℚ◌ (at-only_other j one_ℚ i (λ e. absurd (omega arith))) (at-only_other k one_ℚ i (λ e. absurd (omega arith))) ∙ add-zero zero_ℚ)

pub dot-bump : (a : List ℚ) (n j k : ℕ) → j ≢ k → j < n → k < n → dot a (map (bump j k) (range_with_len 1 n)) ≡ at a j +ℚ at a k
dot-bump a n j k d hj hk =
    dot_same a _ _ (bump_list n j k d hj hk) ∙ dot_comm a _ ∙ dot-plus (only j one_ℚ) (only k one_ℚ) a
    ∙ ap₂ ◌+ℚ◌ (dot-only j one_ℚ a ∙ one-mul _) (dot-only k one_ℚ a ∙ one-mul _)

-- an assignment that gives each slack what its row leaves is a solution of the first dictionary
solves_by_slacks : (p : Program) (x : ℕ → ℚ)
    → ((i : ℕ) → i < length p.rows → x (suc (length p.objective) + i) ≡ ((get_or p.rows i no_row).bound -ℚ dot (get_or p.rows i no_row).coefficients (point_of p x)) +ℚ x 0)
    → Solves (first_of_program p) x
solves_by_slacks p x h i l =
    let m : i < length p.rows = rw length-range_with_len at l in
    ap x (get_or-range_with_len (suc (length p.objective)) (length p.rows) i 0 m) ∙ h i m ∙ sym (first_row_at p x (get_or p.rows i no_row))
    ∙ ap (λ row. value_of row (first_of_program p).nonbasic x) (sym (get_or-map first_row p.rows i no_row [] m))

-- both opposite columns grown by 1
pub grown_solves : (p : Program) (j k : ℕ) (x : ℕ → ℚ) → AreOpposite p j k → Solves (first_of_program p) x → Solves (first_of_program p) (λ v. x v +ℚ bump j k v)
grown_solves p j k x o s = solves_by_slacks p (λ v. x v +ℚ bump j k v) each
  where
    no_change : (r : Row) → at r.coefficients j +ℚ at r.coefficients k ≡ zero_ℚ → dot r.coefficients (point_of p (λ v. x v +ℚ bump j k v)) ≡ dot r.coefficients (point_of p x)
    no_change r e =
        dot_adds r.coefficients (range_with_len 1 (length p.objective)) (λ v. x v +ℚ bump j k v) x (bump j k) (λ v. refl)
        ∙ ap (λ t. dot r.coefficients (point_of p x) +ℚ t) (dot-bump r.coefficients (length p.objective) j k o.different o.one o.other ∙ e) ∙ add-zero _

    each : (i : ℕ) → i < length p.rows
        → x (suc (length p.objective) + i) +ℚ bump j k (suc (length p.objective) + i)
        ≡ ((get_or p.rows i no_row).bound -ℚ dot (get_or p.rows i no_row).coefficients (point_of p (λ v. x v +ℚ bump j k v))) +ℚ (x 0 +ℚ bump j k 0)
    each i h =
        let hj = o.one in
        let hk = o.other in
        ap (λ t. x (suc (length p.objective) + i) +ℚ t) (bump_none j k (suc (length p.objective) + i) (λ e. absurd (omega arith)) (λ e. absurd (omega arith))) ∙ add-zero _
        ∙ slack_at p x i s h
        ∙ ap₂ (λ a o. ((get_or p.rows i no_row).bound -ℚ a) +ℚ o)
        (sym (no_change (get_or p.rows i no_row) (All-get_or (λ r. at r.coefficients j +ℚ at r.coefficients k ≡ zero_ℚ) p.rows i no_row h o.rows)))
        (sym (ap (λ t. x 0 +ℚ t) (bump_none j k 0 (λ e. absurd (omega arith)) (λ e. absurd (omega arith))) ∙ add-zero _))

map_on : (vs : List ℕ) (f g : ℕ → ℚ) → ((i : ℕ) → i < length vs → f (get_or vs i 0) ≡ g (get_or vs i 0)) → map f vs ≡ map g vs
map_on [] f g h = refl
map_on (v ∷ vs) f g h = ap₂ ◌∷◌ (h 0 (omega arith)) (map_on vs f g (λ i l. h (suc i) (omega arith)))

pub one_of_two_is_basic : OneOfTwoIsBasic
one_of_two_is_basic p d j k a b r o ha hb ea eb =
    let once = dictionary_once p d r in
    let s = solves_assigned d [] r.shaped once (omega arith) in
    let g = (r.solutions _).0 (grown_solves p j k (solution_at d []) o ((r.solutions _).1 s)) in
    one_is_zero (solution_at d [] (suc j)) (sym (ap (λ t. solution_at d [] (suc j) +ℚ t) (bump_one j k))
    ∙ sym (ap (λ v. solution_at d [] v +ℚ bump j k v) ea) ∙ g a ha ∙ same (row_of d a) once ∙ sym (s a ha) ∙ ap (solution_at d []) ea)
  where
    one_is_zero : (x : ℚ) → x +ℚ one_ℚ ≡ x → ⊥
    one_is_zero x e = ne_of_lt _ _ zero_lt_one (sym (add_right_cancel one_ℚ zero_ℚ x (add_comm one_ℚ x ∙ e ∙ sym (zero-add x))))

    apart : IsOnce d → (i : ℕ) → i < length d.nonbasic → (c v : ℕ) → c < length d.basic → get_or d.basic c 0 ≡ v → get_or d.nonbasic i 0 ≢ v
    apart once i l c v h q e =
        let s = subst (λ v. 1 ≤ times_in d.basic v) q (times_in_some d.basic c h) in
        let t = subst (λ v. 1 ≤ times_in d.nonbasic v) e (times_in_some d.nonbasic i l) in
        absurd (omega (arith, once v, s, t))

    same : (row : List ℚ) → IsOnce d → value_of row d.nonbasic (λ v. solution_at d [] v +ℚ bump j k v) ≡ value_of row d.nonbasic (solution_at d [])
    same row once =
        ap (λ l. dot row (one_ℚ ∷ l)) (map_on d.nonbasic (λ v. solution_at d [] v +ℚ bump j k v) (solution_at d []) (λ i l.
        ap (λ t. solution_at d [] (get_or d.nonbasic i 0) +ℚ t)
        (bump_none j k (get_or d.nonbasic i 0) (apart once i l a (suc j) ha ea) (apart once i l b (suc k) hb eb)) ∙ add-zero _))
