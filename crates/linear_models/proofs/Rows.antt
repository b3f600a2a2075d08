-- Rows of a standard program, and the forms that they are.
use Rattle.std.proofs.Common.{◌≡◌, ◌↔◌, ℕ, zero, suc, ◌+◌, Bool, true, false, not, refl, sym, ap, ◌∙◌, subst, List, [], ◌∷◌, ◌++◌, map, length, Option, Some, None, arith, cond}
use Rattle.std.specs.Prelude.{flat_map}
use Rattle.std.specs.List.{AllByRecursion}
use Rattle.fractions.specs.Rational.{ℚ, ◌+ℚ◌, neg_ℚ, zero_ℚ, one_ℚ, ◌≤ℚ◌, eq_ℚ}
use Rattle.fractions.specs.Vectors.{dot, at}
use Rattle.fractions.specs.Rows.{Meets}
use Rattle.fractions.proofs.Common.{by_common₂, linear, zero_same}
use Rattle.fractions.proofs.Order.{le_antisymm, eq_iff, le_refl, neg_le}
use Rattle.fractions.proofs.Tests.{le_iff}
use Rattle.fractions.proofs.Laws.{neg-neg, neg-zero, one-mul, neg-mul}
use Rattle.optimality.specs.Problem.{Assignment, Relation, at_most, equal, at_least}
use Rattle.affine_forms.specs.Forms.{AffineForm, IsForm, sum_at, negated}
use Rattle.affine_forms.specs.Assigned.{assigned}
use Rattle.linear_models.specs.Worths.{form_at}
use Rattle.linear_models.specs.Box.{bound_at}
use Rattle.linear_models.specs.Model.{RowHolds}
use Rattle.linear_models.specs.Standard.{is_split, limits_of_row, limits_of_least, limits_of_greatest, limits_of_bounds, program_row}
use Rattle.linear_models.proofs.Forms.{joined, dot-spread_terms}
use Rattle.linear_models.proofs.Differences.{form-negated}

abbrev pub AtMostZero : Assignment → List AffineForm → Type 0
AtMostZero a [] = Unit {0}
AtMostZero a (f ∷ fs) = form_at f a ≤ℚ zero_ℚ × AtMostZero a fs

moved : (b t : ℚ) → (t ≤ℚ neg_ℚ b) ↔ ((b +ℚ t) ≤ℚ zero_ℚ)
moved = by_common₂ _ (λ p n q m d hd. simp (zero_same d hd, linear) ((λ h. omega arith), (λ h. omega arith)))

row_is : (splits : List Bool) (f : AffineForm) (y : List ℚ) → IsForm f → (dot (program_row splits f).coefficients y ≤ℚ (program_row splits f).bound) ↔ (form_at f (joined splits y) ≤ℚ zero_ℚ)
row_is splits f y r = subst (λ t. (t ≤ℚ neg_ℚ f.constant) ↔ (form_at f (joined splits y) ≤ℚ zero_ℚ)) (sym (dot-spread_terms splits f.terms y r.rise)) (moved f.constant (sum_at (assigned (joined splits y)) f.terms))

pub rows_are : (splits : List Bool) (fs : List AffineForm) (y : List ℚ) → AllByRecursion IsForm fs → Meets (map (program_row splits) fs) y ↔ AtMostZero (joined splits y) fs
rows_are splits [] y i = (λ h. tt, λ h. tt)
rows_are splits (f ∷ fs) y i =
    let r = row_is splits f y i.0 in let rs = rows_are splits fs y i.1 in
    (λ h. (r.0 h.0, rs.0 h.1), λ h. (r.1 h.0, rs.1 h.1))

-- ---- parts of a list of forms
pub both_parts : (a : Assignment) (fs gs : List AffineForm) → AtMostZero a (fs ++ gs) ↔ (AtMostZero a fs × AtMostZero a gs)
both_parts a [] gs = (λ h. (tt, h), λ h. h.1)
both_parts a (f ∷ fs) gs =
    let b = both_parts a fs gs in
    (λ h. ((h.0, (b.0 h.1).0), (b.0 h.1).1), λ h. (h.0.0, b.1 (h.0.1, h.1)))

-- ---- the model's rows
neg_at_most : (x : ℚ) → (neg_ℚ x ≤ℚ zero_ℚ) ↔ (zero_ℚ ≤ℚ x)
neg_at_most x = (λ h. rw (neg-neg, neg-zero) at (neg_le _ _ h), λ h. rw neg-zero at (neg_le _ _ h))

negated_at_most : (f : AffineForm) (a : Assignment) → (form_at (negated f) a ≤ℚ zero_ℚ) ↔ (zero_ℚ ≤ℚ form_at f a)
negated_at_most f a = subst (λ t. (t ≤ℚ zero_ℚ) ↔ (zero_ℚ ≤ℚ form_at f a)) (sym (form-negated f a)) (neg_at_most (form_at f a))

pub row_limits : (a : Assignment) (f : AffineForm) (r : Relation) → AtMostZero a (limits_of_row (f, r)) ↔ RowHolds a (f, r)
row_limits a f at_most = (λ h. h.0, λ h. (h, tt))
row_limits a f at_least = let n = negated_at_most f a in (λ h. n.0 h.0, λ h. (n.1 h, tt))
row_limits a f equal =
    let n = negated_at_most f a in (
      λ h. le_antisymm _ _ h.0 (n.0 h.1.0),
      λ h. (subst (λ t. form_at f a ≤ℚ t) h (le_refl _), (n.1 (subst (λ t. t ≤ℚ form_at f a) h (le_refl _)), tt)),
    )

pub all_row_limits : (a : Assignment) (rows : List (AffineForm × Relation)) → AtMostZero a (flat_map limits_of_row rows) ↔ AllByRecursion (RowHolds a) rows
all_row_limits a [] = (λ h. tt, λ h. tt)
all_row_limits a (r ∷ rows) =
    let b = both_parts a (limits_of_row r) (flat_map limits_of_row rows) in
    let one = row_limits a r.0 r.1 in
    let more = all_row_limits a rows in
    (λ h. (one.0 (b.0 h).0, more.0 (b.0 h).1), λ h. b.1 (one.1 h.0, more.1 h.1))

-- ---- bounds
least_limit : (j : ℕ) (b : ℚ) (a : Assignment) → (form_at record { constant = b; terms = (j, neg_ℚ one_ℚ) ∷ [] } a ≤ℚ zero_ℚ) ↔ (b ≤ℚ at a j)
least_limit j b a = subst (λ t. ((b +ℚ (t +ℚ zero_ℚ)) ≤ℚ zero_ℚ) ↔ (b ≤ℚ at a j)) (sym (neg-mul one_ℚ (at a j) ∙ ap neg_ℚ (one-mul (at a j)))) (turned b (at a j))
  where
    turned : (b x : ℚ) → ((b +ℚ (neg_ℚ x +ℚ zero_ℚ)) ≤ℚ zero_ℚ) ↔ (b ≤ℚ x)
    turned = by_common₂ _ (λ p n q m d hd. simp (zero_same d hd, linear) ((λ h. omega arith), (λ h. omega arith)))

greatest_limit : (j : ℕ) (b : ℚ) (a : Assignment) → (form_at record { constant = neg_ℚ b; terms = (j, one_ℚ) ∷ [] } a ≤ℚ zero_ℚ) ↔ (at a j ≤ℚ b)
greatest_limit j b a = subst (λ t. ((neg_ℚ b +ℚ (t +ℚ zero_ℚ)) ≤ℚ zero_ℚ) ↔ (at a j ≤ℚ b)) (sym (one-mul (at a j))) (turned b (at a j))
  where
    turned : (b x : ℚ) → ((neg_ℚ b +ℚ (x +ℚ zero_ℚ)) ≤ℚ zero_ℚ) ↔ (x ≤ℚ b)
    turned = by_common₂ _ (λ p n q m d hd. simp (zero_same d hd, linear) ((λ h. omega arith), (λ h. omega arith)))

-- a decision's least value, where it is not negative if it has one column
pub least_there : (j : ℕ) (l : Option ℚ) (a : Assignment) → (is_split l ≡ false → zero_ℚ ≤ℚ at a j) → AtMostZero a (limits_of_least j l) → (b : ℚ) → l ≡ Some b → b ≤ℚ at a j
least_there j None a s h b e = cc
least_there j (Some c) a s h b e = subst (λ t. t ≤ℚ at a j) (some_is e) (cases (eq_ℚ c zero_ℚ) refl h)
  where
    some_is : Some c ≡ Some b → c ≡ b
    some_is e = cc

    one_column : eq_ℚ c zero_ℚ ≡ true → is_split (Some c) ≡ false
    one_column q = let z : c ≡ zero_ℚ = (eq_iff c zero_ℚ).0 q in ap not ((le_iff zero_ℚ c).1 (subst (λ t. zero_ℚ ≤ℚ t) (sym z) (le_refl zero_ℚ)))

    cases : (v : Bool) → eq_ℚ c zero_ℚ ≡ v → AtMostZero a (cond v [] (record { constant = c; terms = (j, neg_ℚ one_ℚ) ∷ [] } ∷ [])) → c ≤ℚ at a j
    cases true q g = subst (λ t. t ≤ℚ at a j) (sym ((eq_iff c zero_ℚ).0 q)) (s (one_column q))
    cases false q g = (least_limit j c a).0 g.0

pub least_back : (j : ℕ) (l : Option ℚ) (a : Assignment) → ((b : ℚ) → l ≡ Some b → b ≤ℚ at a j) → AtMostZero a (limits_of_least j l)
least_back j None a h = tt
least_back j (Some c) a h = cases (eq_ℚ c zero_ℚ)
  where
    cases : (v : Bool) → AtMostZero a (cond v [] (record { constant = c; terms = (j, neg_ℚ one_ℚ) ∷ [] } ∷ []))
    cases true = tt
    cases false = ((least_limit j c a).1 (h c refl), tt)

pub greatest_there : (j : ℕ) (g : Option ℚ) (a : Assignment) → AtMostZero a (limits_of_greatest j g) → (b : ℚ) → g ≡ Some b → at a j ≤ℚ b
greatest_there j None a h b e = cc
greatest_there j (Some c) a h b e = subst (λ t. at a j ≤ℚ t) (some_is e) ((greatest_limit j c a).0 h.0)
  where
    some_is : Some c ≡ Some b → c ≡ b
    some_is e = cc

pub greatest_back : (j : ℕ) (g : Option ℚ) (a : Assignment) → ((b : ℚ) → g ≡ Some b → at a j ≤ℚ b) → AtMostZero a (limits_of_greatest j g)
greatest_back j None a h = tt
greatest_back j (Some c) a h = ((greatest_limit j c a).1 (h c refl), tt)

-- the bounds from a decision on
pub record BoundsHold (j : ℕ) (ls gs : List (Option ℚ)) (a : Assignment) : Type 0 where
  pub least : (i : ℕ) (b : ℚ) → bound_at ls i ≡ Some b → b ≤ℚ at a (j + i)
  pub greatest : (i : ℕ) (b : ℚ) → bound_at gs i ≡ Some b → at a (j + i) ≤ℚ b

abbrev pub AreColumns : ℕ → List (Option ℚ) → Assignment → Type 0
AreColumns j ls a = (i : ℕ) → is_split (bound_at ls i) ≡ false → zero_ℚ ≤ℚ at a (j + i)

next : (j i : ℕ) → suc j + i ≡ j + suc i
next j i = omega arith

here : (j : ℕ) → j ≡ j + 0
here j = omega arith

pub bounds_there : (j : ℕ) (ls gs : List (Option ℚ)) (a : Assignment) → length gs ≡ length ls → AreColumns j ls a → AtMostZero a (limits_of_bounds j ls gs) → BoundsHold j ls gs a
bounds_there j [] [] a e s h = record { least = λ i b q. cc; greatest = λ i b q. cc }
bounds_there j [] (g ∷ gs) a e s h = absurd (omega arith)
bounds_there j (l ∷ ls) [] a e s h = absurd (omega arith)
bounds_there j (l ∷ ls) (g ∷ gs) a e s h =
    let first = (both_parts a (limits_of_least j l) (limits_of_greatest j g ++ limits_of_bounds (suc j) ls gs)).0 h in
    let others = (both_parts a (limits_of_greatest j g) (limits_of_bounds (suc j) ls gs)).0 first.1 in
    let more = bounds_there (suc j) ls gs a (omega arith) (λ i q. subst (λ k. zero_ℚ ≤ℚ at a k) (sym (next j i)) (s (suc i) q)) others.1 in
    record { least = lows (λ q. subst (λ k. zero_ℚ ≤ℚ at a k) (sym (here j)) (s 0 q)) first.0 more; greatest = highs others.0 more }
  where
    lows : (is_split l ≡ false → zero_ℚ ≤ℚ at a j) → AtMostZero a (limits_of_least j l) → BoundsHold (suc j) ls gs a → (i : ℕ) (b : ℚ) → bound_at (l ∷ ls) i ≡ Some b → b ≤ℚ at a (j + i)
    lows s f m zero b q = subst (λ k. b ≤ℚ at a k) (here j) (least_there j l a s f b q)
    lows s f m (suc i) b q = subst (λ k. b ≤ℚ at a k) (next j i) (m.least i b q)

    highs : AtMostZero a (limits_of_greatest j g) → BoundsHold (suc j) ls gs a → (i : ℕ) (b : ℚ) → bound_at (g ∷ gs) i ≡ Some b → at a (j + i) ≤ℚ b
    highs f m zero b q = subst (λ k. at a k ≤ℚ b) (here j) (greatest_there j g a f b q)
    highs f m (suc i) b q = subst (λ k. at a k ≤ℚ b) (next j i) (m.greatest i b q)

pub bounds_back : (j : ℕ) (ls gs : List (Option ℚ)) (a : Assignment) → BoundsHold j ls gs a → AtMostZero a (limits_of_bounds j ls gs)
bounds_back j [] gs a h = tt
bounds_back j (l ∷ ls) [] a h = tt
bounds_back j (l ∷ ls) (g ∷ gs) a h =
    (both_parts a (limits_of_least j l) (limits_of_greatest j g ++ limits_of_bounds (suc j) ls gs)).1 (
      least_back j l a (λ b q. subst (λ k. b ≤ℚ at a k) (sym (here j)) (h.least 0 b q)),
      (both_parts a (limits_of_greatest j g) (limits_of_bounds (suc j) ls gs)).1 (
        greatest_back j g a (λ b q. subst (λ k. at a k ≤ℚ b) (sym (here j)) (h.greatest 0 b q)),
        bounds_back (suc j) ls gs a record { least = λ i b q. subst (λ k. b ≤ℚ at a k) (sym (next j i)) (h.least (suc i) b q); greatest = λ i b q. subst (λ k. at a k ≤ℚ b) (sym (next j i)) (h.greatest (suc i) b q) },
      ),
    )
