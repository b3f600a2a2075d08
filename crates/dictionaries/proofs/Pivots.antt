-- A pivot keeps a dictionary's solutions and the value of every row at them.
use Rattle.std.proofs.Common.{◌≡◌, ◌≢◌, ◌↔◌, ℕ, suc, ◌<◌, refl, sym, ap, ap₂, ◌∙◌, subst, List, [], ◌∷◌, length, set, get_or, map, arith, ◌⊎◌, inl, inr}
use Rattle.std.proofs.lemmas.List.{get_or-set_same, get_or-set_other, get_or-map, length-map, length-set, map-set}
use Rattle.std.proofs.lemmas.Bool.{cases_eq}
use Rattle.fractions.specs.Rational.{ℚ, ◌+ℚ◌, ◌*ℚ◌, inv_ℚ, neg_ℚ, zero_ℚ, one_ℚ}
use Rattle.fractions.specs.Vectors.{dot, at, times, without, only}
use Rattle.fractions.proofs.Inverse.{mul-inv}
use Rattle.fractions.proofs.Vectors.{dot-plus, dot-times, dot-without, dot-only}
use Rattle.fractions.proofs.Quote.{quotes, by_equation}
use Rattle.dictionaries.specs.Dictionary.{Dictionary, row_of, value_of, Solves, IsShaped, IsPlace, solved_row, substituted, pivoted, PivotKeepsSolutions}
use Rattle.linear_programs.proofs.Vectors.{dot-without-set}

solved_there : (p u w r b : ℚ) → p *ℚ r ≡ one_ℚ → b ≡ w +ℚ p *ℚ u → u ≡ neg_ℚ r *ℚ w +ℚ r *ℚ b
solved_there p u w r b h e =
    rw e (by_equation (neg_ℚ u) h (p ∷ u ∷ w ∷ r ∷ []) (search quotes depth 20) (search quotes depth 20) refl)

solved_back : (p u w r b : ℚ) → p *ℚ r ≡ one_ℚ → u ≡ neg_ℚ r *ℚ w +ℚ r *ℚ b → b ≡ w +ℚ p *ℚ u
solved_back p u w r b h e =
    rw e (by_equation (w +ℚ neg_ℚ b) h (p ∷ w ∷ r ∷ b ∷ []) (search quotes depth 20) (search quotes depth 20) refl)

-- the values of the columns, and the place of one
abbrev values : List ℕ → (ℕ → ℚ) → List ℚ
values columns x = one_ℚ ∷ map x columns

values-set : (columns : List ℕ) (c b : ℕ) (x : ℕ → ℚ) → values (set columns c b) x ≡ set (values columns x) (suc c) (x b)
values-set columns c b x = ap (λ l. one_ℚ ∷ l) (map-set x columns c b)

values_at : (columns : List ℕ) (c : ℕ) (x : ℕ → ℚ) → c < length columns → at (values columns x) (suc c) ≡ x (get_or columns c 0)
values_at columns c x h = get_or-map x columns c 0 zero_ℚ h

values_at_set : (columns : List ℕ) (c b : ℕ) (x : ℕ → ℚ) → c < length columns → at (values (set columns c b) x) (suc c) ≡ x b
values_at_set columns c b x h =
    ap (λ l. at l (suc c)) (values-set columns c b x) ∙ get_or-set_same (map x columns) c (x b) zero_ℚ (rw length-map h)

without_same : (row : List ℚ) (columns : List ℕ) (c b : ℕ) (x : ℕ → ℚ)
    → dot (without row (suc c)) (values (set columns c b) x) ≡ dot (without row (suc c)) (values columns x)
without_same row columns c b x = ap (dot (without row (suc c))) (values-set columns c b x) ∙ dot-without-set row (values columns x) (suc c) (x b)

value_split : (row : List ℚ) (columns : List ℕ) (c : ℕ) (x : ℕ → ℚ) → c < length columns
    → value_of row columns x ≡ dot (without row (suc c)) (values columns x) +ℚ at row (suc c) *ℚ x (get_or columns c 0)
value_split row columns c x h =
    dot-without row (values columns x) (suc c) ∙ ap (λ t. dot (without row (suc c)) (values columns x) +ℚ at row (suc c) *ℚ t) (values_at columns c x h)

value-solved_row : (row : List ℚ) (columns : List ℕ) (c b : ℕ) (x : ℕ → ℚ) → c < length columns
    → value_of (solved_row row (suc c)) (set columns c b) x
    ≡ neg_ℚ (inv_ℚ (at row (suc c))) *ℚ dot (without row (suc c)) (values columns x) +ℚ inv_ℚ (at row (suc c)) *ℚ x b
value-solved_row row columns c b x h =
    let r = inv_ℚ (at row (suc c)) in
    dot-plus (times (neg_ℚ r) (without row (suc c))) (only (suc c) r) (values (set columns c b) x)
    ∙ ap₂ ◌+ℚ◌ (dot-times (neg_ℚ r) (without row (suc c)) (values (set columns c b) x) ∙ ap (λ t. neg_ℚ r *ℚ t) (without_same row columns c b x))
    (dot-only (suc c) r (values (set columns c b) x) ∙ ap (λ t. r *ℚ t) (values_at_set columns c b x h))

-- the leaving row is met exactly where the entered one is
pub entered_iff : (row : List ℚ) (columns : List ℕ) (c b : ℕ) (x : ℕ → ℚ) → c < length columns → at row (suc c) ≢ zero_ℚ
    → (x b ≡ value_of row columns x) ↔ (x (get_or columns c 0) ≡ value_of (solved_row row (suc c)) (set columns c b) x)
entered_iff row columns c b x h n =
    let r = mul-inv (at row (suc c)) n in (
      λ e. solved_there _ _ _ _ _ r (e ∙ value_split row columns c x h) ∙ sym (value-solved_row row columns c b x h),
      λ e. solved_back _ _ _ _ _ r (e ∙ value-solved_row row columns c b x h) ∙ sym (value_split row columns c x h),
    )

-- a row keeps its value where the entered one is met
pub value-substituted : (row by : List ℚ) (columns : List ℕ) (c b : ℕ) (x : ℕ → ℚ) → c < length columns
    → x (get_or columns c 0) ≡ value_of by (set columns c b) x
    → value_of (substituted row (suc c) by) (set columns c b) x ≡ value_of row columns x
value-substituted row by columns c b x h e =
    dot-plus (without row (suc c)) (times (at row (suc c)) by) (values (set columns c b) x)
    ∙ ap₂ ◌+ℚ◌ (without_same row columns c b x) (dot-times (at row (suc c)) by (values (set columns c b) x) ∙ ap (λ t. at row (suc c) *ℚ t) (sym e))
    ∙ sym (value_split row columns c x h)

-- the rows after a pivot
pub row_entered : (d : Dictionary) (r c : ℕ) → IsShaped d → r < length d.basic → row_of (pivoted d r c) r ≡ solved_row (row_of d r) (suc c)
row_entered d r c s h =
    get_or-set_same _ r _ [] (rw length-map (omega (arith, s.rows)))

pub row_other : (d : Dictionary) (r c i : ℕ) → IsShaped d → i < length d.basic → i ≢ r
    → row_of (pivoted d r c) i ≡ substituted (row_of d i) (suc c) (solved_row (row_of d r) (suc c))
row_other d r c i s h n =
    get_or-set_other _ r i _ [] n ∙ get_or-map (λ row. substituted row (suc c) (solved_row (row_of d r) (suc c))) d.rows i [] [] (omega (arith, s.rows))

-- the basic variables after a pivot
basic_entered : (d : Dictionary) (r c : ℕ) → r < length d.basic → get_or (pivoted d r c).basic r 0 ≡ get_or d.nonbasic c 0
basic_entered d r c h = get_or-set_same d.basic r _ 0 h

basic_other : (d : Dictionary) (r c i : ℕ) → i ≢ r → get_or (pivoted d r c).basic i 0 ≡ get_or d.basic i 0
basic_other d r c i n = get_or-set_other d.basic r i _ 0 n

abbrev RowHolds : Dictionary → (ℕ → ℚ) → ℕ → Type 0
RowHolds d x i = x (get_or d.basic i 0) ≡ value_of (row_of d i) d.nonbasic x

-- the row r of the dictionary holds exactly where it does after the pivot
row_iff : (d : Dictionary) (r c : ℕ) (x : ℕ → ℚ) → IsShaped d → IsPlace d r c → RowHolds d x r ↔ RowHolds (pivoted d r c) x r
row_iff d r c x s p =
    let i = entered_iff (row_of d r) d.nonbasic c (get_or d.basic r 0) x p.column p.entry in
    let a = ap x (basic_entered d r c p.row) in
    let b = ap (λ row. value_of row (pivoted d r c).nonbasic x) (row_entered d r c s p.row) in
    (λ e. a ∙ i.0 e ∙ sym b, λ e. i.1 (sym a ∙ e ∙ b))

-- where the row r holds, each other row holds exactly where it does after the pivot
other_iff : (d : Dictionary) (r c i : ℕ) (x : ℕ → ℚ) → IsShaped d → IsPlace d r c → RowHolds (pivoted d r c) x r → i < length d.basic → i ≢ r
    → RowHolds d x i ↔ RowHolds (pivoted d r c) x i
other_iff d r c i x s p h l n =
    let by = solved_row (row_of d r) (suc c) in
    let e : x (get_or d.nonbasic c 0) ≡ value_of by (pivoted d r c).nonbasic x =
    ap x (sym (basic_entered d r c p.row)) ∙ h ∙ ap (λ row. value_of row (pivoted d r c).nonbasic x) (row_entered d r c s p.row) in
    let a = ap x (basic_other d r c i n) in
    let b = ap (λ row. value_of row (pivoted d r c).nonbasic x) (row_other d r c i s l n) ∙ value-substituted (row_of d i) by d.nonbasic c (get_or d.basic r 0) x p.column e in
    (λ g. a ∙ g ∙ sym b, λ g. sym a ∙ g ∙ b)

pub pivot_keeps_solutions : PivotKeepsSolutions
pivot_keeps_solutions d r c x s p = (
  λ h i l. let m : i < length d.basic = rw length-set at l in forth i m (cases_eq i r) (h i m) ((row_iff d r c x s p).0 (h r p.row)),
  λ h i l. back i l (cases_eq i r) (h i (rw length-set l)) (h r (rw length-set p.row)),
)
  where
    forth : (i : ℕ) → i < length d.basic → (i ≡ r) ⊎ (i ≡ r → ⊥) → RowHolds d x i → RowHolds (pivoted d r c) x r → RowHolds (pivoted d r c) x i
    forth i l (inl e) h k = subst (RowHolds (pivoted d r c) x) (sym e) k
    forth i l (inr n) h k = (other_iff d r c i x s p k l n).0 h

    back : (i : ℕ) → i < length d.basic → (i ≡ r) ⊎ (i ≡ r → ⊥) → RowHolds (pivoted d r c) x i → RowHolds (pivoted d r c) x r → RowHolds d x i
    back i l (inl e) h k = subst (RowHolds d x) (sym e) ((row_iff d r c x s p).1 k)
    back i l (inr n) h k = (other_iff d r c i x s p k l n).1 h

-- each further row keeps its value at the solutions
pub pivot_keeps_value : (d : Dictionary) (r c : ℕ) (row : List ℚ) (x : ℕ → ℚ) → IsShaped d → IsPlace d r c → Solves (pivoted d r c) x
    → value_of (substituted row (suc c) (solved_row (row_of d r) (suc c))) (pivoted d r c).nonbasic x ≡ value_of row d.nonbasic x
pivot_keeps_value d r c row x s p h =
    value-substituted row (solved_row (row_of d r) (suc c)) d.nonbasic c (get_or d.basic r 0) x p.column
    (ap x (sym (basic_entered d r c p.row)) ∙ h r (rw length-set p.row) ∙ ap (λ row. value_of row (pivoted d r c).nonbasic x) (row_entered d r c s p.row))
