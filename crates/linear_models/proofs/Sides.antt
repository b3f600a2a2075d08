-- A row of two sides is a row of the linear model, or bounds of a decision.
use Rattle.std.proofs.Common.{◌≡◌, ◌↔◌, ℕ, ◌<◌, Bool, true, false, refl, sym, ap, ap₂, ◌∙◌, List, [], ◌∷◌, ◌++◌, map, Option, Some, None, cond, eqb, subst, append-nil, append_assoc}
use Rattle.std.specs.Prelude.{flat_map}
use Rattle.std.specs.List.{AllByRecursion}
use Rattle.std.proofs.lemmas.Bool.{eqb-true, eq-eqb}
use Rattle.fractions.specs.Rational.{ℚ, ◌+ℚ◌, ◌-ℚ◌, ◌≤ℚ◌, zero_ℚ}
use Rattle.fractions.specs.Vectors.{at}
use Rattle.fractions.proofs.Common.{by_common₂, linear, zero_same}
use Rattle.fractions.proofs.Order.{le_refl, le_antisymm}
use Rattle.fractions.proofs.Laws.{add-zero, zero-add, one-mul}
use Rattle.affine_forms.proofs.Exact.{exact-turned_into}
use Rattle.optimality.specs.Problem.{Assignment, Relation, at_most, equal, at_least}
use Rattle.optimality.specs.Optimal.{Stand, Meets}
use Rattle.affine_forms.specs.FromCalculations.{Calculation, exact}
use Rattle.affine_forms.specs.Forms.{AffineForm, sum_at, decision_form}
use Rattle.affine_forms.specs.Assigned.{assigned}
use Rattle.affine_forms.specs.Steps.{subtracted}
use Rattle.linear_models.specs.Worths.{form_at}
use Rattle.linear_models.specs.Model.{RowHolds}
use Rattle.linear_models.specs.Statement.{Constraint, row_of_sides}
use Rattle.linear_models.specs.Bounds.{bounded_by, bounded, is_number, lows, highs, lows_in, highs_in}
use Rattle.linear_models.specs.Linear.{row_or_none, row_left}
use Rattle.linear_models.specs.Agreement.{IsOwn}
use Rattle.linear_models.proofs.Differences.{form-difference}
use Rattle.linear_models.proofs.Tightest.{AllBelow, AllAbove}

some_is : {x y : ℚ} → Some x ≡ Some y → x ≡ y
some_is e = cc

some_same : {i j : ℕ} → Some i ≡ Some j → i ≡ j
some_same e = cc

stands : (r : Relation) (x y v w : ℚ) → x ≡ v → y ≡ w → Stand r x y → Stand r v w
stands r x y v w e f h = subst (λ t. Stand r v t) f (subst (λ t. Stand r t y) e h)

-- both sides are numbers, so the row is their relation
pub sides_stand : (a : Assignment) (r : Constraint) → Meets a (row_of_sides r) ↔ Stand r.relation (form_at r.left a) (form_at r.right a)
sides_stand a r = (
  λ h. stands r.relation h.left h.right _ _ (sym (some_is h.left_is)) (sym (some_is h.right_is)) h.stand,
  λ h. record { left = form_at r.left a; right = form_at r.right a; left_is = refl; right_is = refl; stand = h },
)

-- ---- a row of the model
le_moved : (x y : ℚ) → (x ≤ℚ y) ↔ ((x -ℚ y) ≤ℚ zero_ℚ)
le_moved = by_common₂ _ (λ p n q m d hd. simp (zero_same d hd, linear) ((λ h. omega Rattle.std.proofs.Common.arith), (λ h. omega Rattle.std.proofs.Common.arith)))

ge_moved : (x y : ℚ) → (y ≤ℚ x) ↔ (zero_ℚ ≤ℚ (x -ℚ y))
ge_moved = by_common₂ _ (λ p n q m d hd. simp (zero_same d hd, linear) ((λ h. omega Rattle.std.proofs.Common.arith), (λ h. omega Rattle.std.proofs.Common.arith)))

eq_moved : (x y : ℚ) → (x ≡ y) ↔ ((x -ℚ y) ≡ zero_ℚ)
eq_moved = by_common₂ _ (λ p n q m d hd. simp (zero_same d hd, linear) ((λ h. omega Rattle.std.proofs.Common.arith), (λ h. omega Rattle.std.proofs.Common.arith)))

moved : (r : Relation) (x y : ℚ) → Stand r x y ↔ Stand r (x -ℚ y) zero_ℚ
moved at_most x y = le_moved x y
moved equal x y = eq_moved x y
moved at_least x y = ge_moved x y

pub difference_stands : (f g : AffineForm) (r : Relation) (a : Assignment) → Stand r (form_at f a) (form_at g a) ↔ RowHolds a (exact (subtracted f g), r)
difference_stands f g r a =
    subst (λ t. Stand r (form_at f a) (form_at g a) ↔ Stand r t zero_ℚ) (sym (form-difference f g a)) (moved r (form_at f a) (form_at g a))

-- ---- bounds
bound_stands : (r : Relation) (x c : ℚ) → Stand r x c ↔ (AllBelow (lows r c) x × AllAbove (highs r c) x)
bound_stands at_most x c = (λ h. (tt, (h, tt)), λ h. h.1.0)
bound_stands equal x c = (λ h. ((subst (λ t. t ≤ℚ x) h (le_refl x), tt), (subst (λ t. x ≤ℚ t) h (le_refl x), tt)), λ h. le_antisymm _ _ h.1.0 h.0.0)
bound_stands at_least x c = (λ h. ((h, tt), tt), λ h. h.0.0)

-- the form of a decision is its number
decision_at : (j : ℕ) (a : Assignment) → form_at (decision_form j) a ≡ at a j
decision_at j a = zero-add _ ∙ add-zero _ ∙ one-mul (at a j)

own_is : (own : Option ℕ) (ts : List (ℕ × ℚ)) (j : ℕ) → bounded_by own ts ≡ Some j → (own ≡ Some j) × (ts ≡ [])
own_is None ts j e = cc
own_is (Some i) [] j e = (e, refl)
own_is (Some i) (t ∷ ts) j e = cc

-- ---- rows, exactly
abbrev pub row_exact : Option ℕ → Constraint → List (AffineForm × Relation)
row_exact None r = (exact (subtracted r.left r.right), r.relation) ∷ []
row_exact (Some j) r = []

abbrev pub rows_exact : List Constraint → List (AffineForm × Relation)
rows_exact [] = []
rows_exact (r ∷ rs) = row_exact (bounded r) r ++ rows_exact rs

one_exact : (o : Option ℕ) (r : Constraint) → exact (row_or_none o r) ≡ row_exact o r
one_exact None r = exact-turned_into _ (subtracted r.left r.right)
one_exact (Some j) r = refl

pub all_exact : (rs : List Constraint) (last : Calculation (List (AffineForm × Relation))) → flat_map exact (map row_left rs ++ last ∷ []) ≡ rows_exact rs ++ exact last
all_exact [] last = append-nil (exact last)
all_exact (r ∷ rs) last = ap₂ ◌++◌ (one_exact (bounded r) r) (all_exact rs last) ∙ sym (append_assoc (row_exact (bounded r) r) (rows_exact rs) (exact last))

-- what a row gives: a row of the model, least values and greatest values, by the decision that it bounds
pub record Gives (n : ℕ) (a : Assignment) (o : Option ℕ) (r : Constraint) : Type 0 where
  pub rows : AllByRecursion (RowHolds a) (row_exact o r)
  pub lows : (j : ℕ) → j < n → AllBelow (cond (is_number j o) (lows r.relation r.right.constant) []) (at a j)
  pub highs : (j : ℕ) → j < n → AllAbove (cond (is_number j o) (highs r.relation r.right.constant) []) (at a j)

row_gives : (n : ℕ) (a : Assignment) (r : Constraint) (o : Option ℕ) → IsOwn n r → bounded r ≡ o → Stand r.relation (form_at r.left a) (form_at r.right a) ↔ Gives n a o r
row_gives n a r None w e =
    let d = difference_stands r.left r.right r.relation a in
    (λ h. record { rows = (d.0 h, tt); lows = λ j l. tt; highs = λ j l. tt }, λ h. d.1 h.rows.0)
row_gives n a r (Some i) w e =
    let own = own_is r.own r.right.terms i e in
    let left : form_at r.left a ≡ at a i = ap (λ f. form_at f a) (w i own.0).1 ∙ decision_at i a in
    let right : form_at r.right a ≡ r.right.constant = ap (λ ts. r.right.constant +ℚ sum_at (assigned a) ts) own.1 ∙ add-zero r.right.constant in
    let b = bound_stands r.relation (at a i) r.right.constant in (
      λ h. let k = b.0 (stands r.relation _ _ _ _ left right h) in record { rows = tt; lows = λ j l. below j (eqb i j) refl k.0; highs = λ j l. above j (eqb i j) refl k.1 },
      λ h. stands r.relation _ _ _ _ (sym left) (sym right) (b.1 (this_low (eqb i i) (eq-eqb i i refl) (h.lows i (w i own.0).0), this_high (eqb i i) (eq-eqb i i refl) (h.highs i (w i own.0).0))),
    )
  where
    below : (j : ℕ) (v : Bool) → eqb i j ≡ v → AllBelow (lows r.relation r.right.constant) (at a i) → AllBelow (cond v (lows r.relation r.right.constant) []) (at a j)
    below j true q h = subst (λ k. AllBelow (lows r.relation r.right.constant) (at a k)) (eqb-true i j q) h
    below j false q h = tt

    above : (j : ℕ) (v : Bool) → eqb i j ≡ v → AllAbove (highs r.relation r.right.constant) (at a i) → AllAbove (cond v (highs r.relation r.right.constant) []) (at a j)
    above j true q h = subst (λ k. AllAbove (highs r.relation r.right.constant) (at a k)) (eqb-true i j q) h
    above j false q h = tt

    this_low : (v : Bool) → v ≡ true → AllBelow (cond v (lows r.relation r.right.constant) []) (at a i) → AllBelow (lows r.relation r.right.constant) (at a i)
    this_low true q h = h
    this_low false q h = cc

    this_high : (v : Bool) → v ≡ true → AllAbove (cond v (highs r.relation r.right.constant) []) (at a i) → AllAbove (highs r.relation r.right.constant) (at a i)
    this_high true q h = h
    this_high false q h = cc

-- ---- all rows
pub parts_below : (xs ys : List ℚ) (x : ℚ) → AllBelow (xs ++ ys) x ↔ (AllBelow xs x × AllBelow ys x)
parts_below [] ys x = (λ h. (tt, h), λ h. h.1)
parts_below (c ∷ xs) ys x = let b = parts_below xs ys x in (λ h. ((h.0, (b.0 h.1).0), (b.0 h.1).1), λ h. (h.0.0, b.1 (h.0.1, h.1)))

pub parts_above : (xs ys : List ℚ) (x : ℚ) → AllAbove (xs ++ ys) x ↔ (AllAbove xs x × AllAbove ys x)
parts_above [] ys x = (λ h. (tt, h), λ h. h.1)
parts_above (c ∷ xs) ys x = let b = parts_above xs ys x in (λ h. ((h.0, (b.0 h.1).0), (b.0 h.1).1), λ h. (h.0.0, b.1 (h.0.1, h.1)))

pub all_parts : {X : Type 0} (P : X → Type 0) (xs ys : List X) → AllByRecursion P (xs ++ ys) ↔ (AllByRecursion P xs × AllByRecursion P ys)
all_parts P [] ys = (λ h. (tt, h), λ h. h.1)
all_parts P (x ∷ xs) ys = let b = all_parts P xs ys in (λ h. ((h.0, (b.0 h.1).0), (b.0 h.1).1), λ h. (h.0.0, b.1 (h.0.1, h.1)))

pub record AllGive (n : ℕ) (a : Assignment) (rs : List Constraint) : Type 0 where
  pub rows : AllByRecursion (RowHolds a) (rows_exact rs)
  pub lows : (j : ℕ) → j < n → AllBelow (flat_map (lows_in j) rs) (at a j)
  pub highs : (j : ℕ) → j < n → AllAbove (flat_map (highs_in j) rs) (at a j)

pub rows_give : (n : ℕ) (a : Assignment) (rs : List Constraint) → AllByRecursion (IsOwn n) rs → AllByRecursion (Meets a) (map row_of_sides rs) ↔ AllGive n a rs
rows_give n a [] w = (λ h. record { rows = tt; lows = λ j l. tt; highs = λ j l. tt }, λ h. tt)
rows_give n a (r ∷ rs) w =
    let s = sides_stand a r in
    let g = row_gives n a r (bounded r) w.0 refl in
    let more = rows_give n a rs w.1 in (
      λ h. both (g.0 (s.0 h.0)) (more.0 h.1),
      λ h. (
        s.1 (g.1 record { rows = (rows_parts.0 h.rows).0; lows = λ j l. ((low_parts j).0 (h.lows j l)).0; highs = λ j l. ((high_parts j).0 (h.highs j l)).0 }),
        more.1 record { rows = (rows_parts.0 h.rows).1; lows = λ j l. ((low_parts j).0 (h.lows j l)).1; highs = λ j l. ((high_parts j).0 (h.highs j l)).1 },
      ),
    )
  where
    rows_parts : AllByRecursion (RowHolds a) (rows_exact (r ∷ rs)) ↔ (AllByRecursion (RowHolds a) (row_exact (bounded r) r) × AllByRecursion (RowHolds a) (rows_exact rs))
    rows_parts = all_parts (RowHolds a) (row_exact (bounded r) r) (rows_exact rs)

    low_parts : (j : ℕ) → AllBelow (flat_map (lows_in j) (r ∷ rs)) (at a j) ↔ (AllBelow (lows_in j r) (at a j) × AllBelow (flat_map (lows_in j) rs) (at a j))
    low_parts j = parts_below (lows_in j r) (flat_map (lows_in j) rs) (at a j)

    high_parts : (j : ℕ) → AllAbove (flat_map (highs_in j) (r ∷ rs)) (at a j) ↔ (AllAbove (highs_in j r) (at a j) × AllAbove (flat_map (highs_in j) rs) (at a j))
    high_parts j = parts_above (highs_in j r) (flat_map (highs_in j) rs) (at a j)

    both : Gives n a (bounded r) r → AllGive n a rs → AllGive n a (r ∷ rs)
    both g m = record { rows = rows_parts.1 (g.rows, m.rows); lows = λ j l. (low_parts j).1 (g.lows j l, m.lows j l); highs = λ j l. (high_parts j).1 (g.highs j l, m.highs j l) }
