-- The direction along a column that no row bounds.
use Rattle.std.proofs.Common.{◌≡◌, ◌≢◌, ℕ, zero, suc, ◌+◌, ◌<◌, ◌≤◌, refl, sym, ap, ap₂, ◌∙◌, List, [], ◌∷◌, length, get_or, map, arith, Bool, true, false, cond, eqb, ◌⊎◌, inl, inr}
use Rattle.std.specs.List.{range_with_len}
use Rattle.std.proofs.lemmas.List.{get_or-map}
use Rattle.std.proofs.lemmas.List.Elements.{All-from_get_or}
use Rattle.std.proofs.lemmas.List.FromFn.{length-map-range_with_len}
use Rattle.fractions.specs.Rational.{ℚ, ◌+ℚ◌, ◌-ℚ◌, ◌*ℚ◌, ◌≤ℚ◌, ◌<ℚ◌, zero_ℚ, one_ℚ}
use Rattle.fractions.specs.Vectors.{dot, at, plus, only}
use Rattle.fractions.proofs.Common.{zero_same, by_common₅, by_common₆, linear}
use Rattle.fractions.proofs.Laws.{add-zero, one-mul}
use Rattle.fractions.proofs.Order.{le_refl, zero_lt_one, le_of_lt}
use Rattle.fractions.proofs.Tests.{le_or_lt}
use Rattle.fractions.proofs.Vectors.{dot_comm, dot-plus, dot-nil, dot-only}
use Rattle.fractions.proofs.Quote.{quotes, by_ring}
use Rattle.fractions.proofs.Signs.{add_nonneg}
use Rattle.linear_programs.specs.Program.{Program, IsWayOut}
use Rattle.dictionaries.specs.Dictionary.{Dictionary, row_of, IsShaped, IsNonBasic, IsDictionaryOf}
use Rattle.dictionaries.specs.Reading.{column_entry, solution_at, change_along, point_of}
use Rattle.dictionaries.specs.Bland.{Improves, IsUnbounded}
use Rattle.linear_programs.proofs.Vectors.{at-only_other, length-only}
use Rattle.dictionaries.proofs.Multipliers.{no_row}
use Rattle.dictionaries.proofs.Solutions.{dictionary_once, lookup_column, value_assigned, solves_assigned}
use Rattle.dictionaries.proofs.Points.{slack_at, objective_is, nonnegative_map, column_entry_nonnegative}

-- ---- a step along the column adds the direction
column_entry_sum : (cs : List ℕ) (rows : List (List ℚ)) (f g h : List ℚ → ℚ) (v : ℕ) → ((row : List ℚ) → f row ≡ g row +ℚ h row)
    → column_entry cs (map f rows) v ≡ column_entry cs (map g rows) v +ℚ column_entry cs (map h rows) v
column_entry_sum [] rows f g h v e = sym (add-zero zero_ℚ)
column_entry_sum (c ∷ cs) [] f g h v e = sym (add-zero zero_ℚ)
column_entry_sum (c ∷ cs) (row ∷ rows) f g h v e = cases (eqb c v) (column_entry_sum cs rows f g h v e)
  where
    cases : (b : Bool) → column_entry cs (map f rows) v ≡ column_entry cs (map g rows) v +ℚ column_entry cs (map h rows) v
        → cond b (f row) (column_entry cs (map f rows) v) ≡ cond b (g row) (column_entry cs (map g rows) v) +ℚ cond b (h row) (column_entry cs (map h rows) v)
    cases true i = e row
    cases false i = i

pub dot_step : (row : List ℚ) (c : ℕ) → dot row (one_ℚ ∷ only c one_ℚ) ≡ dot row (one_ℚ ∷ []) +ℚ at row (suc c)
dot_step [] c = sym (add-zero zero_ℚ)
dot_step (a ∷ w) c =
    ap (λ t. a *ℚ one_ℚ +ℚ t) (dot_comm w (only c one_ℚ) ∙ dot-only c one_ℚ w ∙ one-mul (at w c))
    ∙ ap (λ t. t +ℚ at w c) (sym (add-zero _) ∙ ap (λ t. a *ℚ one_ℚ +ℚ t) (sym (dot-nil w)))

pub column_entry_nil : (cs : List ℕ) (v : ℕ) → column_entry cs [] v ≡ zero_ℚ
column_entry_nil [] v = refl
column_entry_nil (c ∷ cs) v = refl

pub step_adds : (d : Dictionary) (c v : ℕ) → solution_at d (only c one_ℚ) v ≡ solution_at d [] v +ℚ change_along d c v
step_adds d c v =
    ap (λ t. column_entry d.nonbasic (only c one_ℚ) v +ℚ t)
    (column_entry_sum d.basic d.rows (λ row. dot row (one_ℚ ∷ only c one_ℚ)) (λ row. dot row (one_ℚ ∷ [])) (λ row. at row (suc c)) v (λ row. dot_step row c))
    ∙ by_ring (column_entry d.nonbasic (only c one_ℚ) v ∷ column_entry d.basic (map (λ row. dot row (one_ℚ ∷ [])) d.rows) v ∷ column_entry d.basic (map (λ row. at row (suc c)) d.rows) v ∷ [])
    {y = (zero_ℚ +ℚ column_entry d.basic (map (λ row. dot row (one_ℚ ∷ [])) d.rows) v) +ℚ (column_entry d.nonbasic (only c one_ℚ) v +ℚ column_entry d.basic (map (λ row. at row (suc c)) d.rows) v)}
    (search quotes depth 20) (search quotes depth 20) refl
    ∙ ap (λ t. (t +ℚ column_entry d.basic (map (λ row. dot row (one_ℚ ∷ [])) d.rows) v) +ℚ change_along d c v) (sym (column_entry_nil d.nonbasic v))

map_adds : (vs : List ℕ) (x y z : ℕ → ℚ) → ((v : ℕ) → x v ≡ y v +ℚ z v) → map x vs ≡ plus (map y vs) (map z vs)
map_adds [] x y z h = refl
map_adds (v ∷ vs) x y z h = ap₂ ◌∷◌ (h v) (map_adds vs x y z h)

pub dot_adds : (a : List ℚ) (vs : List ℕ) (x y z : ℕ → ℚ) → ((v : ℕ) → x v ≡ y v +ℚ z v) → dot a (map x vs) ≡ dot a (map y vs) +ℚ dot a (map z vs)
dot_adds a vs x y z h =
    ap (dot a) (map_adds vs x y z h) ∙ dot_comm a _ ∙ dot-plus (map y vs) (map z vs) a ∙ ap₂ ◌+ℚ◌ (dot_comm (map y vs) a) (dot_comm (map z vs) a)

-- ---- the direction's facts
along_nonnegative : (d : Dictionary) (c v : ℕ) → IsShaped d → IsUnbounded d c → zero_ℚ ≤ℚ change_along d c v
along_nonnegative d c v s u =
    add_nonneg _ _ (column_entry_nonnegative d.nonbasic (only c one_ℚ) v (λ k l. unit_nonnegative c k))
    (column_entry_nonnegative d.basic _ v (λ k l. rw (get_or-map (λ row. at row (suc c)) d.rows k [] zero_ℚ (omega (arith, s.rows))) (each k l (le_or_lt zero_ℚ (at (row_of d k) (suc c))))))
  where
    unit_nonnegative : (c k : ℕ) → zero_ℚ ≤ℚ at (only c one_ℚ) k
    unit_nonnegative zero zero = le_of_lt _ _ zero_lt_one
    unit_nonnegative zero (suc k) = le_refl zero_ℚ
    unit_nonnegative (suc c) zero = le_refl zero_ℚ
    unit_nonnegative (suc c) (suc k) = unit_nonnegative c k

    each : (k : ℕ) → k < length d.basic → (zero_ℚ ≤ℚ at (row_of d k) (suc c)) ⊎ (at (row_of d k) (suc c) <ℚ zero_ℚ) → zero_ℚ ≤ℚ at (row_of d k) (suc c)
    each k l (inl h) = h
    each k l (inr h) = absurd (u k record { row = l; entry = h })

along_extra : (p : Program) (d : Dictionary) (c : ℕ) → IsDictionaryOf p d → (n : IsNonBasic d 0) → get_or d.nonbasic c 0 ≢ 0 → change_along d c 0 ≡ zero_ℚ
along_extra p d c k n m =
    sym (ap (change_along d c) n.2) ∙ lookup_column d (only c one_ℚ) (map (λ row. at row (suc c)) d.rows) n.0 (dictionary_once p d k) n.1
    ∙ at-only_other c one_ℚ n.0 (λ e. m (sym (ap (λ i. get_or d.nonbasic i 0) e) ∙ n.2))

-- where no row bounds an improving variable, the program has a way out
pub way_out : (p : Program) (d : Dictionary) (c : ℕ) → IsDictionaryOf p d → IsNonBasic d 0 → Improves d d.objective c → IsUnbounded d c
    → IsWayOut p (point_of p (change_along d c))
way_out p d c k n i u =
    let o = dictionary_once p d k in
    let l : length (only c one_ℚ) ≤ length d.nonbasic = omega (arith, length-only c one_ℚ, i.column) in
    let s = solves_assigned d [] k.shaped o (omega arith) in
    let t = solves_assigned d (only c one_ℚ) k.shaped o l in
    record {
      size = length-map-range_with_len (change_along d c) 1 (length p.objective);
      signs = nonnegative_map (change_along d c) (range_with_len 1 (length p.objective)) (λ v. along_nonnegative d c v k.shaped u);
      rows = All-from_get_or (λ r. dot r.coefficients (point_of p (change_along d c)) ≤ℚ zero_ℚ) p.rows no_row (λ j h.
          kept _ _ _ _ _ _ _ _ _ _ (slack_at p (solution_at d []) j ((k.solutions _).1 s) h) (slack_at p (solution_at d (only c one_ℚ)) j ((k.solutions _).1 t) h)
          (step_adds d c (suc (length p.objective) + j)) (step_adds d c 0) (along_extra p d c k n i.variable)
          (dot_adds (get_or p.rows j no_row).coefficients (range_with_len 1 (length p.objective)) (solution_at d (only c one_ℚ)) (solution_at d []) (change_along d c) (step_adds d c))
          (along_nonnegative d c (suc (length p.objective) + j) k.shaped u));
      improves = improved _ _ _ _ _
          (ap (λ t. p.constant +ℚ t) (sym (dot_adds p.objective (range_with_len 1 (length p.objective)) (solution_at d (only c one_ℚ)) (solution_at d []) (change_along d c) (step_adds d c)))
          ∙ sym (objective_is p (solution_at d (only c one_ℚ))) ∙ sym (k.objective _ t) ∙ value_assigned d d.objective (only c one_ℚ) o l ∙ dot_step d.objective c)
          (sym (objective_is p (solution_at d [])) ∙ sym (k.objective _ s) ∙ value_assigned d d.objective [] o (omega arith)) i.entry;
    }
  where
    lowered : (v b a o dv da : ℚ) → v ≡ (b -ℚ a) +ℚ o → v +ℚ dv ≡ (b -ℚ (a +ℚ da)) +ℚ (o +ℚ zero_ℚ) → zero_ℚ ≤ℚ dv → da ≤ℚ zero_ℚ
    lowered = by_common₆ _ (λ p n q m r o s u a b e f d hd. simp (zero_same d hd, linear) (omega arith))

    kept : (v w b a e o u dv du da : ℚ) → v ≡ (b -ℚ a) +ℚ o → w ≡ (b -ℚ e) +ℚ u → w ≡ v +ℚ dv → u ≡ o +ℚ du → du ≡ zero_ℚ → e ≡ a +ℚ da → zero_ℚ ≤ℚ dv → da ≤ℚ zero_ℚ
    kept v w b a e o u dv du da p q r s t x h =
        lowered v b a o dv da p (sym r ∙ q ∙ ap₂ (λ e u. (b -ℚ e) +ℚ u) x (s ∙ ap (λ y. o +ℚ y) t)) h

    improved : (k s q m e : ℚ) → k +ℚ (s +ℚ q) ≡ m +ℚ e → k +ℚ s ≡ m → zero_ℚ <ℚ e → zero_ℚ <ℚ q
    improved = by_common₅ _ (λ p n q m r o s u a b d hd. simp (zero_same d hd, linear) (omega arith))
