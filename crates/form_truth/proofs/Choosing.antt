-- IF of an open test.
use Rattle.std.specs.Prelude.{◌≢◌, IsTrue, not, slice_get, ◌&&◌}
use Rattle.std.specs.List.{AllByRecursion}
use Rattle.std.specs.declared.cmp.Ordering.TheVariants.{Less, Greater}
use Rattle.std.proofs.Common.{◌≡◌, refl, sym, ap, ap₂, ◌∙◌, subst, Bool, true, false, true≢false, if◌then◌else◌, List, [], ◌∷◌, ◌⊎◌, inl, inr, ℕ, Option, Some, None, Err}
use Rattle.fractions.specs.Rational.{ℚ, zero_ℚ, one_ℚ, ◌+ℚ◌, ◌*ℚ◌, ◌-ℚ◌, neg_ℚ, ◌<ℚ◌, eq_ℚ}
use Rattle.fractions.proofs.Laws.{add-zero, zero-mul, add_right_cancel, zero-add, mul-one}
use Rattle.fractions.proofs.Order.{eq_or_ne}
use Rattle.fractions.proofs.Quote.{quotes, by_ring}
use Rattle.calculations.specs.Calculation.{exact}
use Rattle.sheet_model.specs.Operators.{single}
use Rattle.sheet_model.specs.declared.value.Value.{Value}
use Rattle.sheet_model.specs.declared.value.Value.TheVariants.{Number, Text, Logical, Empty, Error}
use Rattle.sheet_model.specs.declared.grid.Arg.{Arg}
use Rattle.sheet_model.specs.declared.grid.Arg.TheVariants as arg
use Rattle.sheet_funcs.specs.Arguments.{elements_of}
use Rattle.affine_forms.specs.Forms.{Assignment, AffineForm, IsForm, worth, has_terms, are_some, same_form, same_terms, constant_form, sum_at}
use Rattle.affine_forms.specs.Steps.{subtracted, multiple_of}
use Rattle.affine_forms.proofs.Exact.{exact-followed_by}
use Rattle.affine_forms.proofs.Worths.{subtracted_worth, added_is_form, negated_is_form}
use Rattle.affine_forms.proofs.Directions.{Moves, moves, moved, worth_moved, reached, reached_worth}
use Rattle.affine_forms.proofs.Multiples.{multiple_true, multiple_false, Apart, forms_differ}
use Rattle.form_values.specs.Meaning.{arg_at}
use Rattle.form_values.proofs.Opening.{IsAbs, IsOpen}
use Rattle.affine_forms.specs.Relations.{holds}
use Rattle.form_values.specs.Refusals.{Bends, bends, SomeBends, Varies, middle, midpoint}
use Rattle.form_values.specs.Trials.{Breaks, given, on_given, made}
use Rattle.affine_forms.specs.declared.rel.Rel.{Rel}
use Rattle.affine_forms.specs.declared.rel.Rel.TheVariants as rel
use Rattle.form_values.specs.declared.abs.Abs.{Abs}
use Rattle.form_values.specs.declared.abs.Abs.TheVariants.{Known, Affine, Test}
use Rattle.form_values.specs.declared.abs.AbsArg.{AbsArg}
use Rattle.form_values.specs.declared.abs.AbsArg.TheVariants.{One, Area}
use Rattle.form_table.specs.Wanted as wanted
use Rattle.form_values.specs.Meaning as meaning
use Rattle.form_table.specs.Choosing.{same_arg, number_branch, if_multiple, differ_by_multiple, branch_where, chosen_by, of_branches, if_open, if_test}
use Rattle.form_truth.proofs.Relations.{takes, holds_takes}
use Rattle.form_truth.proofs.Right.{IsRightArg}
use Rattle.form_truth.proofs.Exact.{exact-made, exact-and_then}
use Rattle.form_truth.proofs.Fitting.{constant_worth}
use Rattle.form_truth.proofs.Bending.{midpoint_is, middle_of}
use Rattle.form_truth.proofs.Middles.{worth_middle, same_middle, cmp_zero, cmp_less, cmp_greater, below_or_above, not_equal, unequal, turned_below, turned_above, thrice_below, thrice_above}
use Rattle.form_truth.proofs.Singles.{single_at}
use Rattle.form_truth.proofs.Sameness.{same_arg_is}

-- ---- branches that are numbers
pub record IsBranch (a : AbsArg) (f : AffineForm) : Type 0 where
  pub form : IsForm f
  pub worth_is : (x : Assignment) → arg_at x a ≡ arg.One (Number (worth x f))

branch_is : (a : AbsArg) → AllByRecursion IsAbs (meaning.elements_of a) → (f : AffineForm) → number_branch a ≡ Some f → IsBranch a f
branch_is (One (Known (Number y))) h f e = let s : constant_form y ≡ f = cc in subst (IsBranch (One (Known (Number y)))) s (record { form = record { rise = tt }; worth_is = λ x. ap (λ w. arg.One (Number w)) (sym (constant_worth x y)) })
branch_is (One (Affine g)) h f e = let s : g.form ≡ f = cc in subst (IsBranch (One (Affine g))) s (record { form = h.0.0; worth_is = λ x. refl })
branch_is (One (Known (Text t))) h f e = cc
branch_is (One (Known (Logical b))) h f e = cc
branch_is (One (Known Empty)) h f e = cc
branch_is (One (Known (Error k))) h f e = cc
branch_is (One (Test g r)) h f e = cc
branch_is (Area g) h f e = cc

-- ---- equations of numbers
zero_difference : (a b : ℚ) → a -ℚ b ≡ zero_ℚ → a ≡ b
zero_difference a b e = by_ring (a ∷ b ∷ []) (search quotes depth 20) (search quotes depth 20) refl ∙ ap (λ t. t +ℚ b) e ∙ zero-add b

some_difference : (a b : ℚ) → a -ℚ b ≢ zero_ℚ → a ≢ b
some_difference a b h e = h (ap (λ t. t -ℚ b) e ∙ Rattle.fractions.proofs.Laws.add-neg b)

-- a number as the only element
pub one_bends : (value : Assignment → Arg) (number : Assignment → Value) → ((x : Assignment) → value x ≡ arg.One (number x)) → Bends number → SomeBends (λ x. elements_of (value x))
one_bends value number e b = record { place = 0; element = number; is_there = λ x. ap (λ a. slice_get (elements_of a) 0) (e x); bent = b }

module _ (t f g : AffineForm) (o : IsOpen t) where
  -- a value that is one form's where t is 0, and another's elsewhere
  pub crossing_bends : (value : Assignment → ℚ) → (p : Assignment) → worth p t ≡ zero_ℚ → worth p f ≢ worth p g → ((x : Assignment) → worth x t ≡ zero_ℚ → value x ≡ worth x f)
      → ((x : Assignment) → worth x t ≢ zero_ℚ → value x ≡ worth x g) → Bends (λ x. Number (value x))
  crossing_bends value p z apart at off =
      let m = moves t o.0 o.1 in
      let d = m.direction in
      let up = moved p one_ℚ d in
      let down = moved p (neg_ℚ one_ℚ) d in
      let up_is : worth up t ≢ zero_ℚ = (λ e. m.changes (sym (whole (sum_at d t.terms)) ∙ ap (λ w. w +ℚ one_ℚ *ℚ sum_at d t.terms) (sym z) ∙ sym (worth_moved p one_ℚ d t) ∙ e)) in
      let down_is : worth down t ≢ zero_ℚ = (λ e. m.changes (opposite (sum_at d t.terms) (ap (λ w. w +ℚ neg_ℚ one_ℚ *ℚ sum_at d t.terms) (sym z) ∙ sym (worth_moved p (neg_ℚ one_ℚ) d t) ∙ e))) in
      bends up down (value up) (value down) refl refl
      (λ e.
      let s : value (midpoint up down) ≡ middle (value up) (value down) = cc in
      apart (sym (at p z) ∙ ap value (sym (midpoint_is p d)) ∙ s ∙ ap₂ middle (off up up_is) (off down down_is) ∙ sym (worth_middle up down g) ∙ ap (λ q. worth q g) (midpoint_is p d)))
    where
      whole : (s : ℚ) → zero_ℚ +ℚ one_ℚ *ℚ s ≡ s
      whole s = by_ring (s ∷ []) (search quotes depth 20) (search quotes depth 20) refl

      opposite : (s : ℚ) → zero_ℚ +ℚ neg_ℚ one_ℚ *ℚ s ≡ zero_ℚ → s ≡ zero_ℚ
      opposite s e = by_ring (s ∷ []) (search quotes depth 20) (search quotes depth 20) refl ∙ ap neg_ℚ e ∙ Rattle.fractions.proofs.Laws.neg-zero

  -- ---- a test of order: one form where t is on one side of 0, and the other on the other side
  -- a point where the forms differ and t isn't 0
  pub record Beside : Type 0 where
    pub point : Assignment
    pub differ : worth point f ≢ worth point g
    pub aside : worth point t ≢ zero_ℚ

  beside : Apart f g → Beside
  beside a = by_test (eq_or_ne (worth a.point t) zero_ℚ)
    where
      by_moves : (m : Moves t) → worth a.point t ≡ zero_ℚ → Beside
      by_moves m z = by_first (eq_or_ne (worth (moved a.point one_ℚ m.direction) f) (worth (moved a.point one_ℚ m.direction) g))
        where
          up_aside : (s : ℚ) → s ≢ zero_ℚ → zero_ℚ +ℚ one_ℚ *ℚ s ≢ zero_ℚ
          up_aside s h e = h (by_ring (s ∷ []) (search quotes depth 20) (search quotes depth 20) refl ∙ e)

          down_aside : (s : ℚ) → s ≢ zero_ℚ → zero_ℚ +ℚ neg_ℚ one_ℚ *ℚ s ≢ zero_ℚ
          down_aside s h e = h (by_ring (s ∷ []) (search quotes depth 20) (search quotes depth 20) refl ∙ ap neg_ℚ e ∙ Rattle.fractions.proofs.Laws.neg-zero)

          by_first : (worth (moved a.point one_ℚ m.direction) f ≡ worth (moved a.point one_ℚ m.direction) g) ⊎ (worth (moved a.point one_ℚ m.direction) f ≢ worth (moved a.point one_ℚ m.direction) g) → Beside
          by_first (inr n) =
              record {
                point = moved a.point one_ℚ m.direction;
                differ = n;
                aside = λ e. up_aside (sum_at m.direction t.terms) m.changes (ap (λ w. w +ℚ one_ℚ *ℚ sum_at m.direction t.terms) (sym z) ∙ sym (worth_moved a.point one_ℚ m.direction t) ∙ e);
              }
          by_first (inl n) =
              record {
                point = moved a.point (neg_ℚ one_ℚ) m.direction;
                differ = λ e. a.differ
                    (sym (ap (λ q. worth q f) (midpoint_is a.point m.direction)) ∙ worth_middle (moved a.point one_ℚ m.direction) (moved a.point (neg_ℚ one_ℚ) m.direction) f ∙ ap₂ middle n e
                    ∙ sym (worth_middle (moved a.point one_ℚ m.direction) (moved a.point (neg_ℚ one_ℚ) m.direction) g) ∙ ap (λ q. worth q g) (midpoint_is a.point m.direction));
                aside = λ e. down_aside (sum_at m.direction t.terms) m.changes (ap (λ w. w +ℚ neg_ℚ one_ℚ *ℚ sum_at m.direction t.terms) (sym z) ∙ sym (worth_moved a.point (neg_ℚ one_ℚ) m.direction t) ∙ e);
              }

      by_test : (worth a.point t ≡ zero_ℚ) ⊎ (worth a.point t ≢ zero_ℚ) → Beside
      by_test (inr n) = record { point = a.point; differ = a.differ; aside = n }
      by_test (inl z) = by_moves (moves t o.0 o.1) z

-- one form at one assignment, and another at a second one and in the middle
two_bend : (value : Assignment → ℚ) (u v : AffineForm) (q y : Assignment) → worth q u ≢ worth q v → value q ≡ worth q u → value y ≡ worth y v → value (midpoint q y) ≡ worth (midpoint q y) v
    → Bends (λ x. Number (value x))
two_bend value u v q y apart at_q at_y at_middle =
    bends q y (value q) (value y) refl refl
    (λ e.
    let s : value (midpoint q y) ≡ middle (value q) (value y) = cc in
    apart (same_middle (worth q u) (worth q v) (worth y v) (ap₂ middle (sym at_q) (sym at_y) ∙ sym s ∙ at_middle ∙ worth_middle q y v)))

-- a relation that holds on one side of 0 alone
abbrev pub is_sided : Rel → Bool
is_sided rel.Eq = false
is_sided rel.Ne = false
is_sided _ = true

other_side : (r : Rel) → is_sided r ≡ true → takes r Greater ≡ not (takes r Less)
other_side rel.Lt h = refl
other_side rel.Le h = refl
other_side rel.Ge h = refl
other_side rel.Gt h = refl
other_side rel.Eq h = cc
other_side rel.Ne h = cc

module _ (t f g : AffineForm) (o : IsOpen t) (r : Rel) (sided : is_sided r ≡ true) where
  abbrev pub chosen_at : Assignment → ℚ
  chosen_at x = if holds r (worth x t) then worth x f else worth x g

  at_true : (x : Assignment) → holds r (worth x t) ≡ true → chosen_at x ≡ worth x f
  at_true x e = ap (λ b. if b then worth x f else worth x g) e

  at_false : (x : Assignment) → holds r (worth x t) ≡ false → chosen_at x ≡ worth x g
  at_false x e = ap (λ b. if b then worth x f else worth x g) e

  -- by what the relation says at the one point, and at the other ones
  by_sides : (q y : Assignment) → worth q f ≢ worth q g → (b : Bool) → holds r (worth q t) ≡ b → holds r (worth y t) ≡ not b → holds r (worth (midpoint q y) t) ≡ not b → Bends (λ x. Number (chosen_at x))
  by_sides q y n true a c d = two_bend chosen_at f g q y n (at_true q a) (at_false y c) (at_false (midpoint q y) d)
  by_sides q y n false a c d = two_bend chosen_at g f q y (λ e. n (sym e)) (at_false q a) (at_true y c) (at_true (midpoint q y) d)

  twice_not : (b : Bool) → b ≡ not (not b)
  twice_not true = refl
  twice_not false = refl

  beyond : (w : ℚ) → middle w (neg_ℚ (w +ℚ (w +ℚ w))) ≡ neg_ℚ w
  beyond w = ap₂ middle (from_up w) (from_down w) ∙ middle_of (neg_ℚ w) (w +ℚ w)
    where
      from_up : (w : ℚ) → w ≡ neg_ℚ w +ℚ one_ℚ *ℚ (w +ℚ w)
      from_up w = by_ring (w ∷ []) (search quotes depth 20) (search quotes depth 20) refl

      from_down : (w : ℚ) → neg_ℚ (w +ℚ (w +ℚ w)) ≡ neg_ℚ w +ℚ neg_ℚ one_ℚ *ℚ (w +ℚ w)
      from_down w = by_ring (w ∷ []) (search quotes depth 20) (search quotes depth 20) refl

  far : (q : Assignment) → Assignment
  far q = reached t (moves t o.0 o.1) q (neg_ℚ (worth q t +ℚ (worth q t +ℚ worth q t)))

  far_worth : (q : Assignment) → worth (far q) t ≡ neg_ℚ (worth q t +ℚ (worth q t +ℚ worth q t))
  unfolding far
  far_worth q = reached_worth t (moves t o.0 o.1) q (neg_ℚ (worth q t +ℚ (worth q t +ℚ worth q t)))

  between_worth : (q : Assignment) → worth (midpoint q (far q)) t ≡ neg_ℚ (worth q t)
  between_worth q = worth_middle q (far q) t ∙ ap (middle (worth q t)) (far_worth q) ∙ beyond (worth q t)

  by_order : (q : Assignment) → worth q f ≢ worth q g → (worth q t <ℚ zero_ℚ) ⊎ (zero_ℚ <ℚ worth q t) → Bends (λ x. Number (chosen_at x))
  by_order q n (inl l) =
      by_sides q (far q) n (takes r Less) (holds_takes r (worth q t) ∙ ap (takes r) (cmp_less (worth q t) l))
      (ap (holds r) (far_worth q) ∙ holds_takes r _ ∙ ap (takes r) (cmp_greater _ (turned_above _ (thrice_below (worth q t) l))) ∙ other_side r sided)
      (ap (holds r) (between_worth q) ∙ holds_takes r _ ∙ ap (takes r) (cmp_greater _ (turned_above (worth q t) l)) ∙ other_side r sided)
  by_order q n (inr l) =
      by_sides q (far q) n (not (takes r Less)) (holds_takes r (worth q t) ∙ ap (takes r) (cmp_greater (worth q t) l) ∙ other_side r sided)
      (ap (holds r) (far_worth q) ∙ holds_takes r _ ∙ ap (takes r) (cmp_less _ (turned_below _ (thrice_above (worth q t) l))) ∙ twice_not (takes r Less))
      (ap (holds r) (between_worth q) ∙ holds_takes r _ ∙ ap (takes r) (cmp_less _ (turned_below (worth q t) l)) ∙ twice_not (takes r Less))

  pub side_bends : Beside t f g o → Bends (λ x. Number (chosen_at x))
  side_bends b = by_order b.point b.differ (below_or_above (worth b.point t) b.aside)

-- ---- the result of IF
-- other values have other forms
known_terms : (y : ℚ) (g : AffineForm) → IsTrue (has_terms g) → same_form (constant_form y) g ≡ false
known_terms y g h = by_terms g.terms h
  where
    by_terms : (ts : List (ℕ × ℚ)) → are_some ts ≡ true → (eq_ℚ y g.constant && same_terms [] ts) ≡ false
    by_terms [] e = absurd (true≢false (sym e))
    by_terms (u ∷ us) e = not_both (eq_ℚ y g.constant)
      where
        not_both : (b : Bool) → (b && false) ≡ false
        not_both true = refl
        not_both false = refl

terms_known : (f : AffineForm) (y : ℚ) → IsTrue (has_terms f) → same_form f (constant_form y) ≡ false
terms_known f y h = by_terms f.terms h
  where
    by_terms : (ts : List (ℕ × ℚ)) → are_some ts ≡ true → (eq_ℚ f.constant y && same_terms ts []) ≡ false
    by_terms [] e = absurd (true≢false (sym e))
    by_terms (u ∷ us) e = not_both (eq_ℚ f.constant y)
      where
        not_both : (b : Bool) → (b && false) ≡ false
        not_both true = refl
        not_both false = refl

and_true : (b : Bool) → b ≡ false → (b && true) ≡ false
and_true b e = ap (λ c. c && true) e

other_forms : (a b : AbsArg) → AllByRecursion IsAbs (meaning.elements_of a) → AllByRecursion IsAbs (meaning.elements_of b) → (f g : AffineForm) → number_branch a ≡ Some f → number_branch b ≡ Some g
    → same_arg a b ≡ false → same_form f g ≡ false
other_forms (One (Known (Number y))) (One (Known (Number z))) h k f g d e n =
    let p : constant_form y ≡ f = cc in
    let q : constant_form z ≡ g = cc in
    subst (λ f. same_form f g ≡ false) p (subst (λ g. same_form (constant_form y) g ≡ false) q (and_true (eq_ℚ y z) n))
other_forms (One (Known (Number y))) (One (Affine g')) h k f g d e n =
    let p : constant_form y ≡ f = cc in
    let q : g'.form ≡ g = cc in
    subst (λ f. same_form f g ≡ false) p (subst (λ g. same_form (constant_form y) g ≡ false) q (known_terms y g'.form k.0.1))
other_forms (One (Affine f')) (One (Known (Number z))) h k f g d e n =
    let p : f'.form ≡ f = cc in
    let q : constant_form z ≡ g = cc in
    subst (λ f. same_form f g ≡ false) p (subst (λ g. same_form f'.form g ≡ false) q (terms_known f'.form z h.0.1))
other_forms (One (Affine f')) (One (Affine g')) h k f g d e n =
    let p : f'.form ≡ f = cc in
    let q : g'.form ≡ g = cc in
    subst (λ f. same_form f g ≡ false) p (subst (λ g. same_form f'.form g ≡ false) q n)
other_forms (One (Known (Text y))) b h k f g d e n = cc
other_forms (One (Known (Logical y))) b h k f g d e n = cc
other_forms (One (Known Empty)) b h k f g d e n = cc
other_forms (One (Known (Error y))) b h k f g d e n = cc
other_forms (One (Test y r)) b h k f g d e n = cc
other_forms (Area y) b h k f g d e n = cc
other_forms a (One (Known (Text y))) h k f g d e n = cc
other_forms a (One (Known (Logical y))) h k f g d e n = cc
other_forms a (One (Known Empty)) h k f g d e n = cc
other_forms a (One (Known (Error y))) h k f g d e n = cc
other_forms a (One (Test y r)) h k f g d e n = cc
other_forms a (Area y) h k f g d e n = cc

-- the difference of the branches crosses 0 with the tested form, or is a multiple of it
module _ (t f g : AffineForm) (o : IsOpen t) (h : IsForm f) (k : IsForm g) where
  difference_is : exact (differ_by_multiple t f g) ≡ exact (multiple_of (exact (subtracted f g)) t)
  difference_is = exact-followed_by (subtracted f g) (λ d. multiple_of d t)

  agree_at_zero : exact (differ_by_multiple t f g) ≡ true → (x : Assignment) → worth x t ≡ zero_ℚ → worth x f ≡ worth x g
  agree_at_zero e x z =
      let m = multiple_true (exact (subtracted f g)) t (sym difference_is ∙ e) in
      zero_difference (worth x f) (worth x g) (sym (subtracted_worth x f g) ∙ m.is x ∙ ap (λ w. w *ℚ m.factor) z ∙ zero-mul m.factor)

  differ_at_zero : exact (differ_by_multiple t f g) ≡ false → (p : Assignment) × (worth p t ≡ zero_ℚ) × (worth p f ≢ worth p g)
  differ_at_zero e =
      let c = multiple_false (exact (subtracted f g)) t (added_is_form f (Rattle.affine_forms.specs.Forms.negated g) h (negated_is_form g k)) o.0 o.1 (sym difference_is ∙ e) in
      (c.point, c.zero, some_difference _ _ (λ n. c.some (subtracted_worth c.point f g ∙ n)))

abbrev pub if_value : AffineForm → Rel → AbsArg → AbsArg → Assignment → Arg
if_value t r a b x = if holds r (worth x t) then arg_at x a else arg_at x b

zero_or_not : (t : AffineForm) (x : Assignment) → (worth x t ≡ zero_ℚ) ⊎ (worth x t ≢ zero_ℚ)
zero_or_not t x = eq_or_ne (worth x t) zero_ℚ

module _ (t : AffineForm) (o : IsOpen t) (a b : AbsArg) (f g : AffineForm) (p : IsBranch a f) (q : IsBranch b g) where
  number_value : Rel → Assignment → ℚ
  number_value r x = if holds r (worth x t) then worth x f else worth x g

  value_is : (r : Rel) (x : Assignment) → if_value t r a b x ≡ arg.One (Number (number_value r x))
  unfolding number_value
  value_is r x = by_test (holds r (worth x t))
    where
      by_test : (c : Bool) → (if c then arg_at x a else arg_at x b) ≡ arg.One (Number (if c then worth x f else worth x g))
      by_test true = p.worth_is x
      by_test false = q.worth_is x

  value_true : (r : Rel) (x : Assignment) → holds r (worth x t) ≡ true → number_value r x ≡ worth x f
  unfolding number_value
  value_true r x e = ap (λ c. if c then worth x f else worth x g) e

  value_false : (r : Rel) (x : Assignment) → holds r (worth x t) ≡ false → number_value r x ≡ worth x g
  unfolding number_value
  value_false r x e = ap (λ c. if c then worth x f else worth x g) e

  equal_zero : (x : Assignment) → worth x t ≡ zero_ℚ → holds rel.Eq (worth x t) ≡ true
  equal_zero x z = holds_takes rel.Eq (worth x t) ∙ ap (takes rel.Eq) (cmp_zero (worth x t) z)

  unequal_zero : (x : Assignment) → worth x t ≡ zero_ℚ → holds rel.Ne (worth x t) ≡ false
  unequal_zero x z = holds_takes rel.Ne (worth x t) ∙ ap (takes rel.Ne) (cmp_zero (worth x t) z)

  -- a branch in whose favour the others agree
  equal_right : (args : List AbsArg) (c : Bool) → exact (differ_by_multiple t f g) ≡ c → IsRightArg (if_value t rel.Eq a b) args (exact (if_multiple b c))
  equal_right args true e = λ x. by_zero x (zero_or_not t x)
    where
      by_zero : (x : Assignment) → (worth x t ≡ zero_ℚ) ⊎ (worth x t ≢ zero_ℚ) → if_value t rel.Eq a b x ≡ arg_at x b
      by_zero x (inl z) =
          ap (λ c. if c then arg_at x a else arg_at x b) (equal_zero x z) ∙ p.worth_is x ∙ ap (λ w. arg.One (Number w)) (agree_at_zero t f g o p.form q.form e x z) ∙ sym (q.worth_is x)
      by_zero x (inr n) = ap (λ c. if c then arg_at x a else arg_at x b) (not_equal (worth x t) n)
  equal_right args false e =
      let c = differ_at_zero t f g o p.form q.form e in
      one_bends (if_value t rel.Eq a b) (λ x. Number (number_value rel.Eq x)) (value_is rel.Eq)
      (crossing_bends t f g o (number_value rel.Eq) c.0 c.1 c.2 (λ x z. value_true rel.Eq x (equal_zero x z)) (λ x n. value_false rel.Eq x (not_equal (worth x t) n)))

  unequal_right : (args : List AbsArg) (c : Bool) → exact (differ_by_multiple t f g) ≡ c → IsRightArg (if_value t rel.Ne a b) args (exact (if_multiple a c))
  unequal_right args true e = λ x. by_zero x (zero_or_not t x)
    where
      by_zero : (x : Assignment) → (worth x t ≡ zero_ℚ) ⊎ (worth x t ≢ zero_ℚ) → if_value t rel.Ne a b x ≡ arg_at x a
      by_zero x (inl z) =
          ap (λ c. if c then arg_at x a else arg_at x b) (unequal_zero x z) ∙ q.worth_is x ∙ ap (λ w. arg.One (Number w)) (sym (agree_at_zero t f g o p.form q.form e x z)) ∙ sym (p.worth_is x)
      by_zero x (inr n) = ap (λ c. if c then arg_at x a else arg_at x b) (unequal (worth x t) n)
  unequal_right args false e =
      let c = differ_at_zero t f g o p.form q.form e in
      one_bends (if_value t rel.Ne a b) (λ x. Number (number_value rel.Ne x)) (value_is rel.Ne)
      (crossing_bends t g f o (number_value rel.Ne) c.0 c.1 (λ s. c.2 (sym s)) (λ x z. value_false rel.Ne x (unequal_zero x z)) (λ x n. value_true rel.Ne x (unequal (worth x t) n)))

  branch_trial : (branch : AbsArg) → exact (branch_where t branch f g) ≡ exact (if_multiple branch (exact (differ_by_multiple t f g)))
  branch_trial branch =
      exact-and_then (made (λ b. b) (differ_by_multiple t f g)) (if_multiple branch) ∙ ap (λ r. exact (on_given r (if_multiple branch))) (exact-made (λ b. b) (differ_by_multiple t f g))

  order_right : (args : List AbsArg) (r : Rel) → is_sided r ≡ true → same_form f g ≡ false → IsRightArg (if_value t r a b) args (Err Breaks)
  unfolding number_value
  order_right args r s n =
      one_bends (if_value t r a b) (λ x. Number (number_value r x)) (value_is r) (side_bends t f g o r s (beside t f g o (forms_differ f g p.form q.form n)))

  pub numbers_right : (args : List AbsArg) (r : Rel) → same_form f g ≡ false → IsRightArg (if_value t r a b) args (exact (chosen_by t r a b f g))
  numbers_right args rel.Eq n = subst (IsRightArg (if_value t rel.Eq a b) args) (sym (branch_trial b)) (equal_right args (exact (differ_by_multiple t f g)) refl)
  numbers_right args rel.Ne n = subst (IsRightArg (if_value t rel.Ne a b) args) (sym (branch_trial a)) (unequal_right args (exact (differ_by_multiple t f g)) refl)
  numbers_right args rel.Lt n = order_right args rel.Lt refl n
  numbers_right args rel.Le n = order_right args rel.Le refl n
  numbers_right args rel.Ge n = order_right args rel.Ge refl n
  numbers_right args rel.Gt n = order_right args rel.Gt refl n

module _ (t : AffineForm) (o : IsOpen t) (r : Rel) (test : AbsArg) (v : Varies (λ x. arg_at x test)) where
  branches_right : (a b one other : AbsArg) → AllByRecursion IsAbs (meaning.elements_of a) → AllByRecursion IsAbs (meaning.elements_of b) → same_arg a b ≡ false
      → (c d : Option AffineForm) → number_branch a ≡ c → number_branch b ≡ d → IsRightArg (if_value t r a b) (test ∷ one ∷ other ∷ []) (exact (of_branches t r a b c d))
  branches_right a b one other h k n (Some f) (Some g) e s =
      numbers_right t o a b f g (branch_is a h f e) (branch_is b k g s) (test ∷ one ∷ other ∷ []) r (other_forms a b h k f g e s n)
  branches_right a b one other h k n (Some f) None e s = record { argument = test; is_there = refl; varies = v }
  branches_right a b one other h k n None d e s = record { argument = test; is_there = refl; varies = v }

  same_branches : (a b : AbsArg) → a ≡ b → (x : Assignment) (c : Bool) → (if c then arg_at x a else arg_at x b) ≡ arg_at x a
  same_branches a b e x true = refl
  same_branches a b e x false = ap (arg_at x) (sym e)

  open_right : (a b one other : AbsArg) → AllByRecursion IsAbs (meaning.elements_of a) → AllByRecursion IsAbs (meaning.elements_of b) → IsRightArg (if_value t r a b) (test ∷ one ∷ other ∷ []) (exact (if_open t r a b))
  open_right a b one other h k = by_test (same_arg a b) refl
    where
      by_test : (c : Bool) → same_arg a b ≡ c → IsRightArg (if_value t r a b) (test ∷ one ∷ other ∷ []) (exact (if c then given a else of_branches t r a b (number_branch a) (number_branch b)))
      by_test true e = λ x. same_branches a b (same_arg_is a b e) x (holds r (worth x t))
      by_test false e = branches_right a b one other h k e (number_branch a) (number_branch b) refl refl

-- grids of one element are single values
pub single_sound : (a : AbsArg) → AllByRecursion IsAbs (meaning.elements_of a) → AllByRecursion IsAbs (meaning.elements_of (wanted.single a))
single_sound (One a) h = h
single_sound (Area g) h = by_items g.items refl
  where
    by_items : (items : List Abs) → g.items ≡ items → AllByRecursion IsAbs (meaning.elements_of (wanted.one_of g items))
    by_items [] e = h
    by_items (a ∷ []) e = subst (AllByRecursion IsAbs) e h
    by_items (a ∷ b ∷ items) e = h

pub choice_right : (t : AffineForm) → IsOpen t → (r : Rel) (test one other : AbsArg) → Varies (λ x. arg_at x test) → AllByRecursion IsAbs (meaning.elements_of one) → AllByRecursion IsAbs (meaning.elements_of other)
    → IsRightArg (λ x. if holds r (worth x t) then single (arg_at x one) else single (arg_at x other)) (test ∷ one ∷ other ∷ []) (exact (if_test t r one other))
choice_right t o r test one other v h k =
    subst (λ (value : Assignment → Arg). IsRightArg value (test ∷ one ∷ other ∷ []) (exact (if_test t r one other)))
    (λ i x. if holds r (worth x t) then sym (single_at x one) i else sym (single_at x other) i)
    (open_right t o r test v (wanted.single one) (wanted.single other) one other (single_sound one h) (single_sound other k))
