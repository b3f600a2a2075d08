-- MAX of open arguments.
use Rattle.std.specs.Prelude.{◌≢◌}
use Rattle.std.specs.List.{AllByRecursion}
use Rattle.std.proofs.Common.{◌≡◌, refl, sym, ap, ap₂, ◌∙◌, subst, Bool, true, false, true≢false, if◌then◌else◌, List, [], ◌∷◌, map, ◌⊎◌, inl, inr}
use Rattle.fractions.specs.Rational.{ℚ, zero_ℚ, one_ℚ, ◌+ℚ◌, ◌-ℚ◌, ◌*ℚ◌, neg_ℚ, inv_ℚ, le_ℚ, ◌≤ℚ◌, computed}
use Rattle.fractions.proofs.Laws.{mul_assoc, mul_comm, mul-one, zero-add}
use Rattle.fractions.proofs.Order.{le_antisymm, le_total, le_trans, add-le-add, le_refl, le_iff_sub}
use Rattle.fractions.proofs.Tests.{le_iff}
use Rattle.fractions.proofs.Field.{ordered_field}
use Rattle.fractions.proofs.Quote.{quotes, by_ring}
use Rattle.calculations.specs.Calculation.{exact}
use Rattle.sheet_model.specs.declared.value.Value.TheVariants.{Number}
use Rattle.sheet_funcs.specs.Arguments.{answered}
use Rattle.sheet_funcs.specs.Sums.{greatest, greater, max_of}
use Rattle.affine_forms.specs.Forms.{Assignment, AffineForm, IsForm, worth, sum_at, same_terms}
use Rattle.affine_forms.proofs.Directions.{moved, worth_moved, along, sum_along}
use Rattle.affine_forms.proofs.Multiples.{Differ, terms_differ}
use Rattle.form_values.specs.Meaning.{arg_at}
use Rattle.form_values.specs.Refusals.{Bends, bends, middle, midpoint}
use Rattle.form_values.specs.declared.abs.AbsArg.{AbsArg}
use Rattle.form_table.specs.Items.{extreme, extreme_of, forms_of, max_form}
use Rattle.form_truth.proofs.Right.{IsRight, IsRightArg}
use Rattle.form_truth.proofs.Fitting.{entry_at}
use Rattle.form_truth.proofs.Bending.{twice_middle}
use Rattle.form_truth.proofs.Numbers.{same_right}
use Rattle.form_truth.proofs.Collecting.{AreSound, all_forms}
use Rattle.form_truth.proofs.Extremes.{le_shift, apart_middle}
use Rattle.form_truth.proofs.Sums.{of_items_right}

-- ---- the greater and the greatest
greater_first : (x y : ℚ) → x ≤ℚ greater x y
greater_first x y = by_test (le_ℚ x y) refl
  where
    by_test : (b : Bool) → le_ℚ x y ≡ b → x ≤ℚ (if b then y else x)
    by_test true e = (le_iff x y).0 e
    by_test false e = le_refl x

greater_second : (x y : ℚ) → y ≤ℚ greater x y
greater_second x y = by_test (le_ℚ x y) refl (le_total x y)
  where
    by_test : (b : Bool) → le_ℚ x y ≡ b → (x ≤ℚ y) ⊎ (y ≤ℚ x) → y ≤ℚ (if b then y else x)
    by_test true e o = le_refl y
    by_test false e (inl h) = let s : le_ℚ x y ≡ true = (le_iff x y).1 h in absurd (true≢false (sym s ∙ e))
    by_test false e (inr h) = h

greatest_first : (x : ℚ) (xs : List ℚ) → x ≤ℚ greatest (x ∷ xs)
greatest_first x [] = le_refl x
greatest_first x (y ∷ xs) = greater_first x (greatest (y ∷ xs))

greatest_second : (x y : ℚ) (xs : List ℚ) → y ≤ℚ greatest (x ∷ y ∷ xs)
greatest_second x y xs = le_trans _ _ _ (greatest_first y xs) (greater_second x (greatest (y ∷ xs)))

-- at least both of two numbers, and one of them
greater_is : (m x y : ℚ) → x ≤ℚ m → y ≤ℚ m → (m ≡ x) ⊎ (m ≡ y) → m ≡ greater x y
greater_is m x y h k o = by_test (le_ℚ x y) refl o
  where
    by_test : (b : Bool) → le_ℚ x y ≡ b → (m ≡ x) ⊎ (m ≡ y) → m ≡ (if b then y else x)
    by_test true e (inr s) = s
    by_test true e (inl s) = le_antisymm m y (subst (λ z. z ≤ℚ y) (sym s) ((le_iff x y).0 e)) k
    by_test false e (inl s) = s
    by_test false e (inr s) = absurd (true≢false (sym ((le_iff x y).1 (subst (λ z. x ≤ℚ z) s h)) ∙ e))

either : (x y : ℚ) → (greater x y ≡ x) ⊎ (greater x y ≡ y)
either x y = by_test (le_ℚ x y)
  where
    by_test : (b : Bool) → ((if b then y else x) ≡ x) ⊎ ((if b then y else x) ≡ y)
    by_test true = inr refl
    by_test false = inl refl

greater_assoc : (x y z : ℚ) → greater x (greater y z) ≡ greater (greater x y) z
greater_assoc x y z =
    greater_is (greater x (greater y z)) (greater x y) z
    (by_either (either x y) (greater_first x (greater y z)) (le_trans _ _ _ (greater_first y z) (greater_second x (greater y z))))
    (le_trans _ _ _ (greater_second y z) (greater_second x (greater y z)))
    (by_both (either x (greater y z)) (either y z))
  where
    by_either : (greater x y ≡ x) ⊎ (greater x y ≡ y) → x ≤ℚ greater x (greater y z) → y ≤ℚ greater x (greater y z) → greater x y ≤ℚ greater x (greater y z)
    by_either (inl e) h k = subst (λ t. t ≤ℚ greater x (greater y z)) (sym e) h
    by_either (inr e) h k = subst (λ t. t ≤ℚ greater x (greater y z)) (sym e) k

    by_both : (greater x (greater y z) ≡ x) ⊎ (greater x (greater y z) ≡ greater y z) → (greater y z ≡ y) ⊎ (greater y z ≡ z) → (greater x (greater y z) ≡ greater x y) ⊎ (greater x (greater y z) ≡ z)
    by_both o (inl e) = inl (ap (greater x) e)
    by_both (inl d) (inr e) = inl (greater_is (greater x (greater y z)) x y (greater_first x (greater y z)) (le_trans _ _ _ (greater_first y z) (greater_second x (greater y z))) (inl d))
    by_both (inr d) (inr e) = inr (d ∙ e)

greatest_two : (x y : ℚ) (zs : List ℚ) → greatest (x ∷ y ∷ zs) ≡ greatest (greater x y ∷ zs)
greatest_two x y [] = refl
greatest_two x y (z ∷ zs) = greater_assoc x y (greatest (z ∷ zs))

-- ---- forms that differ by constants
-- the one with the greater constant is the greater
chosen_worth : (x : Assignment) (f best : AffineForm) → f.terms ≡ best.terms → greater (worth x best) (worth x f) ≡ worth x (if le_ℚ best.constant f.constant then f else best)
chosen_worth x f best e = ap (λ b. if b then worth x f else worth x best) (sym shifted) ∙ by_test (le_ℚ best.constant f.constant)
  where
    shifted : le_ℚ best.constant f.constant ≡ le_ℚ (worth x best) (worth x f)
    shifted = le_shift best.constant f.constant (sum_at x f.terms) ∙ ap (λ s. le_ℚ (best.constant +ℚ s) (worth x f)) (ap (sum_at x) e)

    by_test : (b : Bool) → (if b then worth x f else worth x best) ≡ worth x (if b then f else best)
    by_test true = refl
    by_test false = refl

-- ---- what is at least two forms of other slopes bends
one_more : le_ℚ zero_ℚ (neg_ℚ one_ℚ) ≡ false
unfolding computed
one_more = refl

not_greater : (a : ℚ) → a +ℚ one_ℚ ≤ℚ a → ⊥
not_greater a h = true≢false (sym ((le_iff zero_ℚ (neg_ℚ one_ℚ)).1 (subst (λ t. zero_ℚ ≤ℚ t) (by_ring (a ∷ []) (search quotes depth 20) (search quotes depth 20) refl) ((le_iff_sub (a +ℚ one_ℚ) a).0 h))) ∙ one_more)

pub upper_bends : (value : Assignment → ℚ) (u v : AffineForm) → ((x : Assignment) → worth x u ≤ℚ value x) → ((x : Assignment) → worth x v ≤ℚ value x) → (d : Assignment)
    → sum_at d u.terms ≢ sum_at d v.terms → Bends (λ x. Number (value x))
upper_bends value u v h k d n =
    let p : Assignment = (λ j. zero_ℚ) in
    let s = sum_at d u.terms in
    let r = sum_at d v.terms in
    let far = (value p *ℚ (one_ℚ +ℚ one_ℚ) -ℚ (worth p u +ℚ worth p v)) +ℚ one_ℚ in
    let t = far *ℚ inv_ℚ (s -ℚ r) in
    let up = moved p t d in
    let down = moved p (neg_ℚ t) d in
    let between : midpoint up down ≡ p = (λ i j. apart_middle (p j) (d j) t i) in
    let steep : s -ℚ r ≢ zero_ℚ = (λ z. n (equal s r z)) in
    let gone : t *ℚ (s -ℚ r) ≡ far = mul_assoc far _ _ ∙ ap (λ q. far *ℚ q) (mul_comm _ _ ∙ ordered_field.mul-inv (s -ℚ r) steep) ∙ mul-one far in
    bends up down (value up) (value down) refl refl
    (λ e.
    let m : value (midpoint up down) ≡ middle (value up) (value down) = cc in
    not_greater (value p *ℚ (one_ℚ +ℚ one_ℚ))
    (subst (λ a. a ≤ℚ value p *ℚ (one_ℚ +ℚ one_ℚ)) (ap₂ ◌+ℚ◌ (worth_moved p t d u) (worth_moved p (neg_ℚ t) d v) ∙ regrouped (worth p u) (worth p v) t s r (value p *ℚ (one_ℚ +ℚ one_ℚ)) gone)
    (subst (λ a. worth up u +ℚ worth down v ≤ℚ a) (sym (twice_middle (value up) (value down) (value p) (ap value (sym between) ∙ m))) (add-le-add _ _ _ _ (h up) (k down)))))
  where
    equal : (r s : ℚ) → r -ℚ s ≡ zero_ℚ → r ≡ s
    equal r s e = by_ring (r ∷ s ∷ []) (search quotes depth 20) (search quotes depth 20) refl ∙ ap (λ q. q +ℚ s) e ∙ zero-add s

    regrouped : (a b t s r m : ℚ) → t *ℚ (s -ℚ r) ≡ (m -ℚ (a +ℚ b)) +ℚ one_ℚ → (a +ℚ t *ℚ s) +ℚ (b +ℚ neg_ℚ t *ℚ r) ≡ m +ℚ one_ℚ
    regrouped a b t s r m e =
        by_ring (a ∷ b ∷ t ∷ s ∷ r ∷ []) (search quotes depth 20) (search quotes depth 20) refl ∙ ap (λ q. (a +ℚ b) +ℚ q) e ∙ by_ring (a ∷ b ∷ m ∷ []) (search quotes depth 20) (search quotes depth 20) refl

-- ---- MAX
two_terms_bend : (best f : AffineForm) (fs : List AffineForm) → IsForm best → IsForm f → same_terms f.terms best.terms ≡ false → Bends (λ x. Number (greatest (worth x best ∷ worth x f ∷ map (worth x) fs)))
two_terms_bend best f fs h k e =
    let d = terms_differ 0 f.terms best.terms k.rise h.rise e in
    upper_bends (λ x. greatest (worth x best ∷ worth x f ∷ map (worth x) fs)) best f (λ x. greatest_first (worth x best) (worth x f ∷ map (worth x) fs)) (λ x. greatest_second (worth x best) (worth x f) (map (worth x) fs)) (along d.decision)
    (λ s. d.other (sym (sum_along 0 d.decision f.terms k.rise) ∙ sym s ∙ sum_along 0 d.decision best.terms h.rise))

extreme_right : (fs : List AffineForm) (best : AffineForm) → AllByRecursion IsForm fs → IsForm best → IsRight (λ x. Number (greatest (worth x best ∷ map (worth x) fs))) [] (exact (extreme (λ x y. le_ℚ y x) best fs))
extreme_right [] best h k = λ x. sym (entry_at x best k)
extreme_right (f ∷ fs) best h k = by_test (λ next n. extreme_right fs next h.1 n) (same_terms f.terms best.terms) refl
  where
    next_form : (b : Bool) → IsForm (if b then f else best)
    next_form true = h.0
    next_form false = k

    by_test : ((next : AffineForm) → IsForm next → IsRight (λ x. Number (greatest (worth x next ∷ map (worth x) fs))) [] (exact (extreme (λ x y. le_ℚ y x) next fs)))
        → (b : Bool) → same_terms f.terms best.terms ≡ b
        → IsRight (λ x. Number (greatest (worth x best ∷ worth x f ∷ map (worth x) fs))) [] (exact (if b then extreme (λ x y. le_ℚ y x) (if le_ℚ best.constant f.constant then f else best) fs else Rattle.form_values.specs.Trials.breaks))
    by_test ih true e =
        same_right _ (λ x. Number (greatest (worth x (if le_ℚ best.constant f.constant then f else best) ∷ map (worth x) fs))) [] _
        (λ x. ap (λ w. Number (greatest (w ∷ map (worth x) fs))) (sym (chosen_worth x f best (Rattle.affine_forms.proofs.Multiples.same_terms_is f.terms best.terms e))) ∙ ap Number (sym (greatest_two (worth x best) (worth x f) (map (worth x) fs))))
        (ih (if le_ℚ best.constant f.constant then f else best) (next_form (le_ℚ best.constant f.constant)))
    by_test ih false e = two_terms_bend best f fs k h.0 e

extreme_of_right : (fs : List AffineForm) → AllByRecursion IsForm fs → IsRight (λ x. Number (greatest (map (worth x) fs))) [] (exact (extreme_of (λ x y. le_ℚ y x) fs))
extreme_of_right [] h = λ x. refl
extreme_of_right (f ∷ fs) h = extreme_right fs f h.1 h.0

pub max_right : (args : List AbsArg) → AreSound args → IsRightArg (λ x. exact (max_of (map (arg_at x) args))) args (exact (max_form args))
max_right args sound =
    of_items_right args sound (λ xs. Number (greatest xs)) (extreme_of (λ x y. le_ℚ y x)) (extreme_of_right (forms_of args) (all_forms args sound)) (λ xs. answered (Number (greatest xs))) (λ xs. refl)
