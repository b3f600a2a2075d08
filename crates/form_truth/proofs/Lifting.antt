-- Operators lifted to grids: what is right of each element, or of each pair, is right of the grid.
use Rattle.std.specs.Prelude.{slice_get, ◌&&◌, ◌==◌, zip, pos}
use Rattle.std.specs.List.{AllByRecursion}
use Rattle.std.proofs.Common.{◌≡◌, refl, sym, ap, ap₂, ◌∙◌, subst, Bool, true, false, if◌then◌else◌, List, [], ◌∷◌, map, ℕ, zero, suc, Some, None, Result, Ok, Err}
use Rattle.fractions.specs.Rational.{inv_ℚ}
use Rattle.fractions.specs.Whole.{whole_ℚ}
use Rattle.calculations.specs.Calculation.{Calculation, exact, for_each, turned_into, done}
use Rattle.cell_refs.specs.declared.op.Op.{Op}
use Rattle.cell_refs.specs.declared.error_kind.ErrorKind.TheVariants as kind
use Rattle.sheet_model.specs.Operators as operators
use Rattle.sheet_model.specs.Operators.{percent_value, percent_of, minus_value, minus_of, infix_value, infix_of}
use Rattle.sheet_model.specs.declared.value.Value.{Value}
use Rattle.sheet_model.specs.declared.value.Value.TheVariants.{Number, Error}
use Rattle.sheet_model.specs.declared.grid.Arg.{Arg}
use Rattle.sheet_model.specs.declared.grid.Arg.TheVariants as arg
use Rattle.sheet_funcs.specs.Arguments.{elements_of}
use Rattle.affine_forms.specs.Forms.{Assignment, negated}
use Rattle.affine_forms.specs.Steps.{scaled}
use Rattle.affine_forms.proofs.Exact.{exact-followed_by, exact-turned_into}
use Rattle.affine_forms.proofs.Worths.{negated_is_form, negated_worth, scaled_is_form, scaled_worth}
use Rattle.form_values.specs.Grids.{Raster}
use Rattle.form_values.specs.Meaning.{abs_at, arg_at}
use Rattle.form_values.proofs.Opening.{IsAbs}
use Rattle.form_values.specs.Refusals.{Bends, Varies}
use Rattle.form_values.specs.Trials.{Trial, Refusal, Breaks, Undecided, given, on_given, and_then, each_tried, one}
use Rattle.form_values.specs.declared.abs.Abs.{Abs}
use Rattle.form_values.specs.declared.abs.Abs.TheVariants.{Known, Affine, Test}
use Rattle.form_values.specs.declared.abs.AbsArg.{AbsArg}
use Rattle.form_values.specs.declared.abs.AbsArg.TheVariants.{One, Area}
use Rattle.form_table.specs.Wanted as wanted
use Rattle.form_values.specs.Meaning as meaning
use Rattle.form_values.specs.Entries.{entry}
use Rattle.form_table.specs.Operators.{minus_abs, minus_form, percent_abs, percent_form, infix_abs, infix_form, on_each, on_pairs, grid_made, with_items}
use Rattle.form_truth.proofs.Right.{IsRight, IsRightArg, ArgumentVaries}
use Rattle.form_truth.proofs.Exact.{exact-made, exact-and_then}
use Rattle.form_truth.proofs.Fitting.{entry_at, test_varies}
use Rattle.form_truth.proofs.Singles.{single_at}
use Rattle.form_truth.proofs.Grids.{grid_varies}
use Rattle.form_truth.proofs.Choosing.{one_bends, single_sound}
use Rattle.form_truth.proofs.Infix.{infix_right}
use Rattle.form_truth.proofs.Raising.{power_is_right}

-- the exact answers for each
each_exact : {A B : Type 0} (f : A → Calculation B) (xs : List A) → exact (for_each f xs) ≡ map (λ a. exact (f a)) xs
each_exact f [] = refl
each_exact f (a ∷ xs) =
    exact-followed_by (f a) (λ y. turned_into (λ ys. y ∷ ys) (for_each f xs)) ∙ exact-turned_into (λ ys. exact (f a) ∷ ys) (for_each f xs) ∙ ap (λ ys. exact (f a) ∷ ys) (each_exact f xs)

-- an argument varies where one of its elements does
one_same : (v w : Value) → arg.One v ≡ arg.One w → v ≡ w
one_same v w e = cc

pub one_varies : (b : Abs) → Varies (λ x. abs_at x b) → Varies (λ x. arg_at x (One b))
one_varies b v = record { one = v.one; other = v.other; differ = λ e. v.differ (one_same _ _ e) }

element_varies : (a : AbsArg) (n : ℕ) (b : Abs) → slice_get (meaning.elements_of a) n ≡ Some b → Varies (λ x. abs_at x b) → Varies (λ x. arg_at x a)
element_varies (Area g) n b e v = grid_varies g record { place = n; element = b; is_there = e; so = v }
element_varies (One c) zero b e v = let s : c ≡ b = cc in one_varies c (subst (λ c. Varies (λ x. abs_at x c)) (sym s) v)
element_varies (One c) (suc n) b e v = cc

single_elements : (a : AbsArg) → meaning.elements_of (wanted.single a) ≡ meaning.elements_of a
single_elements (One a) = refl
single_elements (Area g) = by_items g.items refl
  where
    by_items : (items : List Abs) → g.items ≡ items → meaning.elements_of (wanted.one_of g items) ≡ g.items
    by_items [] e = refl
    by_items (a ∷ []) e = sym e
    by_items (a ∷ b ∷ items) e = refl

-- where an element varies of what is left of an argument of one element
single_varies : (a : AbsArg) (n : ℕ) (b : Abs) → slice_get (meaning.elements_of (wanted.single a)) n ≡ Some b → Varies (λ x. abs_at x b) → Varies (λ x. arg_at x a)
single_varies a n b e v = element_varies a n b (sym (ap (λ items. slice_get items n) (single_elements a)) ∙ e) v

-- an element of sound ones is sound
one_of_sound : (items : List Abs) (n : ℕ) (b : Abs) → AllByRecursion IsAbs items → slice_get items n ≡ Some b → IsAbs b
one_of_sound [] n b h e = cc
one_of_sound (a ∷ items) zero b h e = let s : a ≡ b = cc in subst IsAbs s h.0
one_of_sound (a ∷ items) (suc n) b h e = one_of_sound items n b h.1 e

-- ---- what is tried on each of some elements or pairs, where an open argument has the number that the trial names
module _ {E : Type 0} (f : E → Trial Abs) (value : Assignment → E → Value) (args : List AbsArg) where
  abbrev pub EachIsRight : E → Result Abs Refusal → Type 0
  EachIsRight e (Ok b) = (x : Assignment) → value x e ≡ abs_at x b
  EachIsRight e (Err Breaks) = Bends (λ x. value x e)
  EachIsRight e (Err (Undecided i)) = ArgumentVaries arg_at args i

  pub record Bent (items : List E) : Type 0 where
    pub place : ℕ
    pub element : E
    pub is_there : slice_get items place ≡ Some element
    pub so : Bends (λ x. value x element)

  abbrev pub ListIsRight : List E → Result (List Abs) Refusal → Type 0
  ListIsRight items (Ok answers) = (x : Assignment) → map (value x) items ≡ map (abs_at x) answers
  ListIsRight items (Err Breaks) = Bent items
  ListIsRight items (Err (Undecided i)) = ArgumentVaries arg_at args i

  others_right : (e : E) (items : List E) (b : Abs) → ((x : Assignment) → value x e ≡ abs_at x b) → (r : Result (List Abs) Refusal) → ListIsRight items r
      → ListIsRight (e ∷ items) (exact (on_given r (λ bs. given (b ∷ bs))))
  others_right e items b h (Ok bs) k = λ x. ap₂ (λ v vs. v ∷ vs) (h x) (k x)
  others_right e items b h (Err Breaks) k = record { place = suc k.place; element = k.element; is_there = k.is_there; so = k.so }
  others_right e items b h (Err (Undecided i)) k = k

  first_right : (e : E) (items : List E) (r : Result Abs Refusal) → EachIsRight e r → (rest : Trial (List Abs)) → ListIsRight items (exact rest)
      → ListIsRight (e ∷ items) (exact (on_given r (λ b. and_then rest (λ bs. given (b ∷ bs)))))
  first_right e items (Ok b) h rest k =
      subst (ListIsRight (e ∷ items)) (sym (exact-and_then rest (λ bs. given (b ∷ bs)))) (others_right e items b h (exact rest) k)
  first_right e items (Err Breaks) h rest k = record { place = 0; element = e; is_there = refl; so = h }
  first_right e items (Err (Undecided i)) h rest k = h

  pub all_right : (items : List E) → ((n : ℕ) (e : E) → slice_get items n ≡ Some e → EachIsRight e (exact (f e))) → ListIsRight items (exact (each_tried f items))
  all_right [] h = λ x. refl
  all_right (e ∷ items) h =
      subst (ListIsRight (e ∷ items)) (sym (exact-and_then (f e) (λ b. and_then (each_tried f items) (λ bs. given (b ∷ bs)))))
      (first_right e items (exact (f e)) (h 0 e refl) (each_tried f items) (all_right items (λ n d s. h (suc n) d s)))

  mapped_get : (v : E → Value) (items : List E) (n : ℕ) (e : E) → slice_get items n ≡ Some e → slice_get (map v items) n ≡ Some (v e)
  mapped_get v [] n e s = cc
  mapped_get v (d ∷ items) zero e s = let t : d ≡ e = cc in ap (λ d. Some (v d)) t
  mapped_get v (d ∷ items) (suc n) e s = mapped_get v items n e s

  -- a grid of these
  module _ (g : Raster) (items : List E) (at : Assignment → Arg) (is : (x : Assignment) → at x ≡ arg.Area (record { rows = g.rows; columns = g.columns; items = map (value x) items })) where
    grid_result : (r : Result (List Abs) Refusal) → ListIsRight items r → IsRightArg at args (exact (on_given r (λ bs. given (with_items g bs))))
    grid_result (Ok bs) h = λ x. is x ∙ ap (λ vs. arg.Area (record { rows = g.rows; columns = g.columns; items = vs })) (h x)
    grid_result (Err Breaks) h =
        record {
          place = h.place;
          element = λ x. value x h.element;
          is_there = λ x. ap (λ a. slice_get (elements_of a) h.place) (is x) ∙ mapped_get (value x) items h.place h.element h.is_there;
          bent = h.so;
        }
    grid_result (Err (Undecided i)) h = h

    pub lifted_right : ((n : ℕ) (e : E) → slice_get items n ≡ Some e → EachIsRight e (exact (f e))) → IsRightArg at args (exact (grid_made g (each_tried f items)))
    lifted_right h = subst (IsRightArg at args) (sym (exact-and_then (each_tried f items) (λ bs. given (with_items g bs)))) (grid_result (exact (each_tried f items)) (all_right items h))

  -- a single value of these
  single_result : (e : E) (at : Assignment → Arg) → ((x : Assignment) → at x ≡ arg.One (value x e)) → (r : Result Abs Refusal) → EachIsRight e r → IsRightArg at args (exact (on_given r (λ b. given (One b))))
  single_result e at is (Ok b) h = λ x. is x ∙ ap arg.One (h x)
  single_result e at is (Err Breaks) h = one_bends at (λ x. value x e) is h
  single_result e at is (Err (Undecided i)) h = h

  pub single_right : (e : E) (at : Assignment → Arg) → ((x : Assignment) → at x ≡ arg.One (value x e)) → EachIsRight e (exact (f e)) → IsRightArg at args (exact (one (f e)))
  single_right e at is h = subst (IsRightArg at args) (sym (exact-and_then (f e) (λ b. given (One b)))) (single_result e at is (exact (f e)) h)

-- the values of what is done to each
map_twice : {A B : Type 0} (c : B → Calculation Value) (v : A → B) (items : List A) → map (λ b. exact (c b)) (map v items) ≡ map (λ a. exact (c (v a))) items
map_twice c v [] = refl
map_twice c v (a ∷ items) = ap (λ vs. exact (c (v a)) ∷ vs) (map_twice c v items)

grid_exact : {A B : Type 0} (g : Raster) (c : B → Calculation Value) (v : A → B) (items : List A)
    → exact (turned_into (operators.with_items (record { rows = g.rows; columns = g.columns; items = [] })) (for_each c (map v items)))
    ≡ arg.Area (record { rows = g.rows; columns = g.columns; items = map (λ a. exact (c (v a))) items })
grid_exact g c v items =
    exact-turned_into _ (for_each c (map v items)) ∙ ap (λ vs. arg.Area (record { rows = g.rows; columns = g.columns; items = vs })) (each_exact c (map v items) ∙ map_twice c v items)

-- ---- %
percent_element : (args : List AbsArg) (a : Abs) → IsAbs a → (Varies (λ x. abs_at x a) → ArgumentVaries arg_at args 0)
    → EachIsRight percent_abs (λ x a. exact (percent_value (abs_at x a))) args a (exact (percent_abs a))
percent_element args (Known v) h k =
    subst (EachIsRight percent_abs (λ x a. exact (percent_value (abs_at x a))) args (Known v)) (sym (exact-made Known (percent_value v))) (λ x. refl)
percent_element args (Affine o) h k =
    subst (EachIsRight percent_abs (λ x a. exact (percent_value (abs_at x a))) args (Affine o)) (sym (exact-made entry (scaled (inv_ℚ (whole_ℚ (pos 100))) o.form)))
    (λ x. ap Number (sym (scaled_worth x (inv_ℚ (whole_ℚ (pos 100))) o.form)) ∙ sym (entry_at x (exact (scaled (inv_ℚ (whole_ℚ (pos 100))) o.form)) (scaled_is_form (inv_ℚ (whole_ℚ (pos 100))) o.form h.0)))
percent_element args (Test f r) h k = k (test_varies f r h)

-- ---- minus
minus_element : (args : List AbsArg) (a : Abs) → IsAbs a → (Varies (λ x. abs_at x a) → ArgumentVaries arg_at args 0)
    → EachIsRight minus_abs (λ x a. exact (minus_value (abs_at x a))) args a (exact (minus_abs a))
minus_element args (Known v) h k =
    subst (EachIsRight minus_abs (λ x a. exact (minus_value (abs_at x a))) args (Known v)) (sym (exact-made Known (minus_value v))) (λ x. refl)
minus_element args (Affine o) h k = λ x. ap Number (sym (negated_worth x o.form)) ∙ sym (entry_at x (negated o.form) (negated_is_form o.form h.0))
minus_element args (Test f r) h k = k (test_varies f r h)

-- ---- what is done to each element
module _ (f : Abs → Trial Abs) (value : Value → Calculation Value)
    (right : (args : List AbsArg) (a : Abs) → IsAbs a → (Varies (λ x. abs_at x a) → ArgumentVaries arg_at args 0) → EachIsRight f (λ x a. exact (value (abs_at x a))) args a (exact (f a))) where
  each_single : (a s : AbsArg) → AllByRecursion IsAbs (meaning.elements_of s) → ((n : ℕ) (b : Abs) → slice_get (meaning.elements_of s) n ≡ Some b → Varies (λ x. abs_at x b) → Varies (λ x. arg_at x a))
      → IsRightArg (λ x. exact (operators.on_each value (arg_at x s))) (a ∷ []) (exact (on_each f s))
  each_single a (One b) h v =
      single_right f (λ x a. exact (value (abs_at x a))) (a ∷ []) b (λ x. exact (operators.on_each value (arg_at x (One b)))) (λ x. exact-turned_into arg.One (value (abs_at x b)))
      (right (a ∷ []) b h.0 (λ w. record { argument = a; is_there = refl; varies = v 0 b refl w }))
  each_single a (Area g) h v =
      lifted_right f (λ x a. exact (value (abs_at x a))) (a ∷ []) g g.items (λ x. exact (operators.on_each value (arg_at x (Area g)))) (λ x. grid_exact g value (abs_at x) g.items)
      (λ n b s. right (a ∷ []) b (one_of_sound g.items n b h s) (λ w. record { argument = a; is_there = refl; varies = v n b s w }))

  each_right : (a : AbsArg) → AllByRecursion IsAbs (meaning.elements_of a) → IsRightArg (λ x. exact (operators.on_each value (operators.single (arg_at x a)))) (a ∷ []) (exact (on_each f (wanted.single a)))
  each_right a h =
      subst (λ (v : Assignment → Arg). IsRightArg v (a ∷ []) (exact (on_each f (wanted.single a)))) (λ i x. exact (operators.on_each value (sym (single_at x a) i)))
      (each_single a (wanted.single a) (single_sound a h) (λ n b s w. single_varies a n b s w))

pub percent_right : (a : AbsArg) → AllByRecursion IsAbs (meaning.elements_of a) → IsRightArg (λ x. exact (percent_of (arg_at x a))) (a ∷ []) (exact (percent_form a))
percent_right = each_right percent_abs percent_value percent_element

pub minus_right : (a : AbsArg) → AllByRecursion IsAbs (meaning.elements_of a) → IsRightArg (λ x. exact (minus_of (arg_at x a))) (a ∷ []) (exact (minus_form a))
minus_right = each_right minus_abs minus_value minus_element

-- ---- the infix operators
-- what is right of two values, of the arguments that they are elements of
module _ (a b : Abs) (one other : AbsArg) (first : Varies (λ x. abs_at x a) → Varies (λ x. arg_at x one)) (second : Varies (λ x. abs_at x b) → Varies (λ x. arg_at x other)) where
  which_varies : (i : ℕ) → ArgumentVaries abs_at (a ∷ b ∷ []) i → ArgumentVaries arg_at (one ∷ other ∷ []) i
  which_varies zero h =
      let s : a ≡ h.argument = (let t : Some a ≡ Some h.argument = h.is_there in cc) in
      record { argument = one; is_there = refl; varies = first (subst (λ c. Varies (λ x. abs_at x c)) (sym s) h.varies) }
  which_varies (suc zero) h =
      let s : b ≡ h.argument = (let t : Some b ≡ Some h.argument = h.is_there in cc) in
      record { argument = other; is_there = refl; varies = second (subst (λ c. Varies (λ x. abs_at x c)) (sym s) h.varies) }
  which_varies (suc (suc i)) h = let t : None ≡ Some h.argument = h.is_there in cc

  pub from_right : {E : Type 0} (f : E → Trial Abs) (value : Assignment → E → Value) (e : E) (r : Result Abs Refusal) → IsRight (λ x. value x e) (a ∷ b ∷ []) r → EachIsRight f value (one ∷ other ∷ []) e r
  from_right f value e (Ok c) h = h
  from_right f value e (Err Breaks) h = h
  from_right f value e (Err (Undecided i)) h = which_varies i h

zip_map : (x : Assignment) (items others : List Abs) → zip (map (abs_at x) items) (map (abs_at x) others) ≡ map (λ (p : Abs × Abs). (abs_at x p.0, abs_at x p.1)) (zip items others)
zip_map x [] others = refl
zip_map x (a ∷ items) [] = refl
zip_map x (a ∷ items) (b ∷ others) = ap (λ ps. (abs_at x a, abs_at x b) ∷ ps) (zip_map x items others)

zip_get : (items others : List Abs) (n : ℕ) (p : Abs × Abs) → slice_get (zip items others) n ≡ Some p → (slice_get items n ≡ Some p.0) × (slice_get others n ≡ Some p.1)
zip_get [] others n p e = cc
zip_get (a ∷ items) [] n p e = cc
zip_get (a ∷ items) (b ∷ others) zero p e = let s : (a, b) ≡ p = cc in (ap (λ (q : Abs × Abs). Some q.0) s, ap (λ (q : Abs × Abs). Some q.1) s)
zip_get (a ∷ items) (b ∷ others) (suc n) p e = zip_get items others n p e

module _ (o : Op) (one other : AbsArg) where
  -- an element varies in an argument
  abbrev Inside : AbsArg → AbsArg → Type 0
  Inside a s = (n : ℕ) (b : Abs) → slice_get (meaning.elements_of s) n ≡ Some b → Varies (λ x. abs_at x b) → Varies (λ x. arg_at x a)

  areas_right : (g h : Raster) → AllByRecursion IsAbs g.items → AllByRecursion IsAbs h.items → Inside one (Area g) → Inside other (Area h) → (c : Bool)
      → IsRightArg (λ x. exact (if c then turned_into (operators.with_items (record { rows = g.rows; columns = g.columns; items = map (abs_at x) g.items })) (for_each (λ (p : Value × Value). infix_value o p.0 p.1) (zip (map (abs_at x) g.items) (map (abs_at x) h.items))) else done (arg.One (Error kind.Value))))
      (one ∷ other ∷ []) (exact (if c then grid_made g (each_tried (λ (p : Abs × Abs). infix_abs o p.0 p.1) (zip g.items h.items)) else given (One (Known (Error kind.Value)))))
  areas_right g h i j v w true =
      lifted_right (λ (p : Abs × Abs). infix_abs o p.0 p.1) (λ x (p : Abs × Abs). exact (infix_value o (abs_at x p.0) (abs_at x p.1))) (one ∷ other ∷ []) g (zip g.items h.items) _
      (λ x.
      ap (λ ps. exact (turned_into (operators.with_items (record { rows = g.rows; columns = g.columns; items = [] })) (for_each (λ (p : Value × Value). infix_value o p.0 p.1) ps))) (zip_map x g.items h.items)
      ∙ grid_exact g (λ (p : Value × Value). infix_value o p.0 p.1) (λ (p : Abs × Abs). (abs_at x p.0, abs_at x p.1)) (zip g.items h.items))
      (λ n p e.
      let s = zip_get g.items h.items n p e in
      from_right p.0 p.1 one other (v n p.0 s.0) (w n p.1 s.1) (λ (p : Abs × Abs). infix_abs o p.0 p.1) (λ x (p : Abs × Abs). exact (infix_value o (abs_at x p.0) (abs_at x p.1))) p (exact (infix_abs o p.0 p.1))
      (infix_right power_is_right o p.0 p.1 (one_of_sound g.items n p.0 i s.0) (one_of_sound h.items n p.1 j s.1)))
  areas_right g h i j v w false = λ x. refl

  pairs_right : (s t : AbsArg) → AllByRecursion IsAbs (meaning.elements_of s) → AllByRecursion IsAbs (meaning.elements_of t) → Inside one s → Inside other t
      → IsRightArg (λ x. exact (operators.on_pairs (infix_value o) (arg_at x s) (arg_at x t))) (one ∷ other ∷ []) (exact (on_pairs (infix_abs o) s t))
  pairs_right (One a) (One b) i j v w =
      single_right (infix_abs o a) (λ x b. exact (infix_value o (abs_at x a) (abs_at x b))) (one ∷ other ∷ []) b _ (λ x. exact-turned_into arg.One (infix_value o (abs_at x a) (abs_at x b)))
      (from_right a b one other (v 0 a refl) (w 0 b refl) (infix_abs o a) (λ x b. exact (infix_value o (abs_at x a) (abs_at x b))) b (exact (infix_abs o a b)) (infix_right power_is_right o a b i.0 j.0))
  pairs_right (One a) (Area h) i j v w =
      lifted_right (infix_abs o a) (λ x b. exact (infix_value o (abs_at x a) (abs_at x b))) (one ∷ other ∷ []) h h.items _ (λ x. grid_exact h (infix_value o (abs_at x a)) (abs_at x) h.items)
      (λ n b e.
      from_right a b one other (v 0 a refl) (w n b e) (infix_abs o a) (λ x b. exact (infix_value o (abs_at x a) (abs_at x b))) b (exact (infix_abs o a b))
      (infix_right power_is_right o a b i.0 (one_of_sound h.items n b j e)))
  pairs_right (Area g) (One b) i j v w =
      lifted_right (λ a. infix_abs o a b) (λ x a. exact (infix_value o (abs_at x a) (abs_at x b))) (one ∷ other ∷ []) g g.items _ (λ x. grid_exact g (λ u. infix_value o u (abs_at x b)) (abs_at x) g.items)
      (λ n a e.
      from_right a b one other (v n a e) (w 0 b refl) (λ a. infix_abs o a b) (λ x a. exact (infix_value o (abs_at x a) (abs_at x b))) a (exact (infix_abs o a b))
      (infix_right power_is_right o a b (one_of_sound g.items n a i e) j.0))
  pairs_right (Area g) (Area h) i j v w = areas_right g h i j v w ((g.rows == h.rows) && (g.columns == h.columns))

pub lifted_infix_right : (o : Op) (a b : AbsArg) → AllByRecursion IsAbs (meaning.elements_of a) → AllByRecursion IsAbs (meaning.elements_of b)
    → IsRightArg (λ x. exact (infix_of o (arg_at x a) (arg_at x b))) (a ∷ b ∷ []) (exact (infix_form o a b))
lifted_infix_right o a b h k =
    subst (λ (value : Assignment → Arg). IsRightArg value (a ∷ b ∷ []) (exact (infix_form o a b))) (λ i x. exact (operators.on_pairs (infix_value o) (sym (single_at x a) i) (sym (single_at x b) i)))
    (pairs_right o a b (wanted.single a) (wanted.single b) (single_sound a h) (single_sound b k) (single_varies a) (single_varies b))
