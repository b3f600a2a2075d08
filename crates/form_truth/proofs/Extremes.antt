-- MIN of open arguments.
use Rattle.std.specs.Prelude.{◌≢◌}
use Rattle.std.specs.List.{AllByRecursion}
use Rattle.std.proofs.Common.{◌≡◌, refl, sym, ap, ap₂, ◌∙◌, subst, Bool, true, false, true≢false, if◌then◌else◌, List, [], ◌∷◌, map, ◌⊎◌, inl, inr, arith}
use Rattle.fractions.specs.Rational.{ℚ, zero_ℚ, one_ℚ, ◌+ℚ◌, ◌-ℚ◌, ◌*ℚ◌, neg_ℚ, inv_ℚ, le_ℚ, ◌≤ℚ◌, computed}
use Rattle.fractions.proofs.Laws.{mul_assoc, mul_comm, mul-one, zero-add}
use Rattle.fractions.proofs.Order.{le_antisymm, le_total, le_trans, add-le-add, le_refl, le_iff_sub}
use Rattle.fractions.proofs.Tests.{le_iff}
use Rattle.fractions.proofs.Field.{ordered_field}
use Rattle.fractions.proofs.Common.{by_common₃, linear}
use Rattle.fractions.proofs.Quote.{quotes, by_ring}
use Rattle.calculations.specs.Calculation.{exact}
use Rattle.sheet_model.specs.declared.value.Value.TheVariants.{Number}
use Rattle.sheet_funcs.specs.Arguments.{answered}
use Rattle.sheet_funcs.specs.Sums.{least, lesser, min_of}
use Rattle.affine_forms.specs.Forms.{Assignment, AffineForm, IsForm, worth, sum_at, same_terms}
use Rattle.affine_forms.proofs.Directions.{moved, worth_moved, along, sum_along}
use Rattle.affine_forms.proofs.Multiples.{Differ, terms_differ}
use Rattle.form_values.specs.Meaning.{arg_at}
use Rattle.form_values.specs.Refusals.{Bends, bends, middle, midpoint}
use Rattle.form_values.specs.declared.abs.AbsArg.{AbsArg}
use Rattle.form_table.specs.Items.{extreme, extreme_of, forms_of, min_form}
use Rattle.form_truth.proofs.Right.{IsRight, IsRightArg}
use Rattle.form_truth.proofs.Fitting.{entry_at}
use Rattle.form_truth.proofs.Bending.{middle_of, twice_middle}
use Rattle.form_truth.proofs.Numbers.{same_right}
use Rattle.form_truth.proofs.Collecting.{AreSound, all_forms}
use Rattle.form_truth.proofs.Sums.{of_items_right}

-- ---- the lesser and the least
lesser_first : (x y : ℚ) → lesser x y ≤ℚ x
lesser_first x y = by_test (le_ℚ x y) refl (le_total x y)
  where
    by_test : (b : Bool) → le_ℚ x y ≡ b → (x ≤ℚ y) ⊎ (y ≤ℚ x) → (if b then x else y) ≤ℚ x
    by_test true e o = le_refl x
    by_test false e (inl h) = let s : le_ℚ x y ≡ true = (le_iff x y).1 h in absurd (true≢false (sym s ∙ e))
    by_test false e (inr h) = h

lesser_second : (x y : ℚ) → lesser x y ≤ℚ y
lesser_second x y = by_test (le_ℚ x y) refl
  where
    by_test : (b : Bool) → le_ℚ x y ≡ b → (if b then x else y) ≤ℚ y
    by_test true e = (le_iff x y).0 e
    by_test false e = le_refl y

least_first : (x : ℚ) (xs : List ℚ) → least (x ∷ xs) ≤ℚ x
least_first x [] = le_refl x
least_first x (y ∷ xs) = lesser_first x (least (y ∷ xs))

least_second : (x y : ℚ) (xs : List ℚ) → least (x ∷ y ∷ xs) ≤ℚ y
least_second x y xs = le_trans _ _ _ (lesser_second x (least (y ∷ xs))) (least_first y xs)

-- at most both of two numbers, and one of them
lesser_is : (m x y : ℚ) → m ≤ℚ x → m ≤ℚ y → (m ≡ x) ⊎ (m ≡ y) → m ≡ lesser x y
lesser_is m x y h k o = by_test (le_ℚ x y) refl o
  where
    by_test : (b : Bool) → le_ℚ x y ≡ b → (m ≡ x) ⊎ (m ≡ y) → m ≡ (if b then x else y)
    by_test true e (inl s) = s
    by_test true e (inr s) = le_antisymm m x h (subst (λ z. x ≤ℚ z) (sym s) ((le_iff x y).0 e))
    by_test false e (inr s) = s
    by_test false e (inl s) = absurd (true≢false (sym ((le_iff x y).1 (subst (λ z. z ≤ℚ y) s k)) ∙ e))

either : (x y : ℚ) → (lesser x y ≡ x) ⊎ (lesser x y ≡ y)
either x y = by_test (le_ℚ x y)
  where
    by_test : (b : Bool) → ((if b then x else y) ≡ x) ⊎ ((if b then x else y) ≡ y)
    by_test true = inl refl
    by_test false = inr refl

lesser_assoc : (x y z : ℚ) → lesser x (lesser y z) ≡ lesser (lesser x y) z
lesser_assoc x y z =
    lesser_is (lesser x (lesser y z)) (lesser x y) z
    (by_either (either x y) (lesser_first x (lesser y z)) (le_trans _ _ _ (lesser_second x (lesser y z)) (lesser_first y z)))
    (le_trans _ _ _ (lesser_second x (lesser y z)) (lesser_second y z))
    (by_both (either x (lesser y z)) (either y z))
  where
    by_either : (lesser x y ≡ x) ⊎ (lesser x y ≡ y) → lesser x (lesser y z) ≤ℚ x → lesser x (lesser y z) ≤ℚ y → lesser x (lesser y z) ≤ℚ lesser x y
    by_either (inl e) h k = subst (λ t. lesser x (lesser y z) ≤ℚ t) (sym e) h
    by_either (inr e) h k = subst (λ t. lesser x (lesser y z) ≤ℚ t) (sym e) k

    by_both : (lesser x (lesser y z) ≡ x) ⊎ (lesser x (lesser y z) ≡ lesser y z) → (lesser y z ≡ y) ⊎ (lesser y z ≡ z) → (lesser x (lesser y z) ≡ lesser x y) ⊎ (lesser x (lesser y z) ≡ z)
    by_both o (inl e) = inl (ap (lesser x) e)
    by_both (inl d) (inr e) = inl (lesser_is (lesser x (lesser y z)) x y (lesser_first x (lesser y z)) (le_trans _ _ _ (lesser_second x (lesser y z)) (lesser_first y z)) (inl d))
    by_both (inr d) (inr e) = inr (d ∙ e)

least_two : (x y : ℚ) (zs : List ℚ) → least (x ∷ y ∷ zs) ≡ least (lesser x y ∷ zs)
least_two x y [] = refl
least_two x y (z ∷ zs) = lesser_assoc x y (least (z ∷ zs))

-- ---- forms that differ by constants
pub le_shift : (a b s : ℚ) → le_ℚ a b ≡ le_ℚ (a +ℚ s) (b +ℚ s)
le_shift a b s = same_bool (le_ℚ a b) _ (λ h. (le_iff _ _).1 (add-le-add a b s s ((le_iff a b).0 h) (le_refl s))) (λ h. (le_iff a b).1 (back a b s ((le_iff _ _).0 h)))
  where
    same_bool : (b c : Bool) → (b ≡ true → c ≡ true) → (c ≡ true → b ≡ true) → b ≡ c
    same_bool true c f g = sym (f refl)
    same_bool false true f g = g refl
    same_bool false false f g = refl

    back : (a b s : ℚ) → a +ℚ s ≤ℚ b +ℚ s → a ≤ℚ b
    back = by_common₃ _ (λ p n q m r o d hd. simp linear (omega arith))

-- the one with the lesser constant is the lesser
chosen_worth : (x : Assignment) (f best : AffineForm) → f.terms ≡ best.terms → lesser (worth x best) (worth x f) ≡ worth x (if le_ℚ f.constant best.constant then f else best)
chosen_worth x f best e =
    sym (lesser_is (worth x (if le_ℚ f.constant best.constant then f else best)) (worth x best) (worth x f) (at_most_best (le_ℚ f.constant best.constant) refl) (at_most_other (le_ℚ f.constant best.constant) refl) (one_of (le_ℚ f.constant best.constant)))
  where
    shifted : le_ℚ f.constant best.constant ≡ le_ℚ (worth x f) (worth x best)
    shifted = le_shift f.constant best.constant (sum_at x f.terms) ∙ ap (λ s. le_ℚ (worth x f) (best.constant +ℚ s)) (ap (sum_at x) e)

    at_most_best : (b : Bool) → le_ℚ f.constant best.constant ≡ b → worth x (if b then f else best) ≤ℚ worth x best
    at_most_best true h = (le_iff _ _).0 (sym shifted ∙ h)
    at_most_best false h = le_refl _

    by_total : (worth x best ≤ℚ worth x f) ⊎ (worth x f ≤ℚ worth x best) → le_ℚ f.constant best.constant ≡ false → worth x best ≤ℚ worth x f
    by_total (inl l) h = l
    by_total (inr l) h = absurd (true≢false (sym ((le_iff _ _).1 l) ∙ sym shifted ∙ h))

    at_most_other : (b : Bool) → le_ℚ f.constant best.constant ≡ b → worth x (if b then f else best) ≤ℚ worth x f
    at_most_other true h = le_refl _
    at_most_other false h = by_total (le_total (worth x best) (worth x f)) h

    one_of : (b : Bool) → (worth x (if b then f else best) ≡ worth x best) ⊎ (worth x (if b then f else best) ≡ worth x f)
    one_of true = inr refl
    one_of false = inl refl

-- ---- what is at most two forms of other slopes bends
one_more : le_ℚ zero_ℚ (neg_ℚ one_ℚ) ≡ false
unfolding computed
one_more = refl

not_less : (a : ℚ) → a ≤ℚ a -ℚ one_ℚ → ⊥
not_less a h = true≢false (sym ((le_iff zero_ℚ (neg_ℚ one_ℚ)).1 (subst (λ t. zero_ℚ ≤ℚ t) (by_ring (a ∷ []) (search quotes depth 20) (search quotes depth 20) refl) ((le_iff_sub a (a -ℚ one_ℚ)).0 h))) ∙ one_more)

pub apart_middle : (a b k : ℚ) → middle (a +ℚ k *ℚ b) (a +ℚ neg_ℚ k *ℚ b) ≡ a
apart_middle a b k = ap₂ middle (up a b k) (down a b k) ∙ middle_of a (k *ℚ b)
  where
    up : (a b k : ℚ) → a +ℚ k *ℚ b ≡ a +ℚ one_ℚ *ℚ (k *ℚ b)
    up a b k = by_ring (a ∷ b ∷ k ∷ []) (search quotes depth 20) (search quotes depth 20) refl

    down : (a b k : ℚ) → a +ℚ neg_ℚ k *ℚ b ≡ a +ℚ neg_ℚ one_ℚ *ℚ (k *ℚ b)
    down a b k = by_ring (a ∷ b ∷ k ∷ []) (search quotes depth 20) (search quotes depth 20) refl

pub lower_bends : (value : Assignment → ℚ) (u v : AffineForm) → ((x : Assignment) → value x ≤ℚ worth x u) → ((x : Assignment) → value x ≤ℚ worth x v) → (d : Assignment)
    → sum_at d u.terms ≢ sum_at d v.terms → Bends (λ x. Number (value x))
lower_bends value u v h k d n =
    let p : Assignment = (λ j. zero_ℚ) in
    let s = sum_at d u.terms in
    let r = sum_at d v.terms in
    let far = ((worth p u +ℚ worth p v) -ℚ value p *ℚ (one_ℚ +ℚ one_ℚ)) +ℚ one_ℚ in
    let t = far *ℚ inv_ℚ (r -ℚ s) in
    let up = moved p t d in
    let down = moved p (neg_ℚ t) d in
    let between : midpoint up down ≡ p = (λ i j. apart_middle (p j) (d j) t i) in
    let steep : r -ℚ s ≢ zero_ℚ = (λ z. n (sym (equal r s z))) in
    let gone : t *ℚ (r -ℚ s) ≡ far = mul_assoc far _ _ ∙ ap (λ q. far *ℚ q) (mul_comm _ _ ∙ ordered_field.mul-inv (r -ℚ s) steep) ∙ mul-one far in
    bends up down (value up) (value down) refl refl
    (λ e.
    let m : value (midpoint up down) ≡ middle (value up) (value down) = cc in
    not_less (value p *ℚ (one_ℚ +ℚ one_ℚ))
    (subst (λ a. value p *ℚ (one_ℚ +ℚ one_ℚ) ≤ℚ a) (ap₂ ◌+ℚ◌ (worth_moved p t d u) (worth_moved p (neg_ℚ t) d v) ∙ regrouped (worth p u) (worth p v) t s r (value p *ℚ (one_ℚ +ℚ one_ℚ)) gone)
    (subst (λ a. a ≤ℚ worth up u +ℚ worth down v) (sym (twice_middle (value up) (value down) (value p) (ap value (sym between) ∙ m))) (add-le-add _ _ _ _ (h up) (k down)))))
  where
    equal : (r s : ℚ) → r -ℚ s ≡ zero_ℚ → r ≡ s
    equal r s e = by_ring (r ∷ s ∷ []) (search quotes depth 20) (search quotes depth 20) refl ∙ ap (λ q. q +ℚ s) e ∙ zero-add s

    regrouped : (a b t s r m : ℚ) → t *ℚ (r -ℚ s) ≡ ((a +ℚ b) -ℚ m) +ℚ one_ℚ → (a +ℚ t *ℚ s) +ℚ (b +ℚ neg_ℚ t *ℚ r) ≡ m -ℚ one_ℚ
    regrouped a b t s r m e =
        by_ring (a ∷ b ∷ t ∷ s ∷ r ∷ []) (search quotes depth 20) (search quotes depth 20) refl ∙ ap (λ q. (a +ℚ b) -ℚ q) e ∙ by_ring (a ∷ b ∷ m ∷ []) (search quotes depth 20) (search quotes depth 20) refl

-- ---- MIN
two_terms_bend : (best f : AffineForm) (fs : List AffineForm) → IsForm best → IsForm f → same_terms f.terms best.terms ≡ false → Bends (λ x. Number (least (worth x best ∷ worth x f ∷ map (worth x) fs)))
two_terms_bend best f fs h k e =
    let d = terms_differ 0 f.terms best.terms k.rise h.rise e in
    lower_bends (λ x. least (worth x best ∷ worth x f ∷ map (worth x) fs)) best f (λ x. least_first (worth x best) (worth x f ∷ map (worth x) fs)) (λ x. least_second (worth x best) (worth x f) (map (worth x) fs)) (along d.decision)
    (λ s. d.other (sym (sum_along 0 d.decision f.terms k.rise) ∙ sym s ∙ sum_along 0 d.decision best.terms h.rise))

pub extreme_right : (fs : List AffineForm) (best : AffineForm) → AllByRecursion IsForm fs → IsForm best → IsRight (λ x. Number (least (worth x best ∷ map (worth x) fs))) [] (exact (extreme le_ℚ best fs))
extreme_right [] best h k = λ x. sym (entry_at x best k)
extreme_right (f ∷ fs) best h k = by_test (λ next n. extreme_right fs next h.1 n) (same_terms f.terms best.terms) refl
  where
    next_form : (b : Bool) → IsForm (if b then f else best)
    next_form true = h.0
    next_form false = k

    by_test : ((next : AffineForm) → IsForm next → IsRight (λ x. Number (least (worth x next ∷ map (worth x) fs))) [] (exact (extreme le_ℚ next fs)))
        → (b : Bool) → same_terms f.terms best.terms ≡ b
        → IsRight (λ x. Number (least (worth x best ∷ worth x f ∷ map (worth x) fs))) [] (exact (if b then extreme le_ℚ (if le_ℚ f.constant best.constant then f else best) fs else Rattle.form_values.specs.Trials.breaks))
    by_test ih true e =
        same_right _ (λ x. Number (least (worth x (if le_ℚ f.constant best.constant then f else best) ∷ map (worth x) fs))) [] _
        (λ x. ap (λ w. Number (least (w ∷ map (worth x) fs))) (sym (chosen_worth x f best (Rattle.affine_forms.proofs.Multiples.same_terms_is f.terms best.terms e))) ∙ ap Number (sym (least_two (worth x best) (worth x f) (map (worth x) fs))))
        (ih (if le_ℚ f.constant best.constant then f else best) (next_form (le_ℚ f.constant best.constant)))
    by_test ih false e = two_terms_bend best f fs k h.0 e

pub extreme_of_right : (fs : List AffineForm) → AllByRecursion IsForm fs → IsRight (λ x. Number (least (map (worth x) fs))) [] (exact (extreme_of le_ℚ fs))
extreme_of_right [] h = λ x. refl
extreme_of_right (f ∷ fs) h = extreme_right fs f h.1 h.0

pub min_right : (args : List AbsArg) → AreSound args → IsRightArg (λ x. exact (min_of (map (arg_at x) args))) args (exact (min_form args))
min_right args sound =
    of_items_right args sound (λ xs. Number (least xs)) (extreme_of le_ℚ) (extreme_of_right (forms_of args) (all_forms args sound)) (λ xs. answered (Number (least xs))) (λ xs. refl)
