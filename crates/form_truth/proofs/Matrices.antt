-- MMULT of open values.
use Rattle.std.specs.Prelude.{◌+◌, ◌*◌, ◌++◌, ◌&&◌, ◌<◌, flat_map, take}
use Rattle.std.specs.List.{AllByRecursion, list_all}
use Rattle.std.proofs.Common.{◌≡◌, refl, sym, ap, ap₂, ◌∙◌, subst, Bool, true, false, if◌then◌else◌, List, [], ◌∷◌, map, ◌⊎◌, inl, inr, ℕ, zero, suc, Option, Some, None, Result, Ok, Err, ◌==◌}
use Rattle.fractions.specs.Rational.{ℚ, one_ℚ, ◌*ℚ◌}
use Rattle.calculations.specs.Calculation.{Calculation, exact, for_each, turned_into}
use Rattle.cell_refs.specs.declared.error_kind.ErrorKind.{ErrorKind}
use Rattle.cell_refs.specs.declared.error_kind.ErrorKind.TheVariants as kind
use Rattle.sheet_model.specs.Grids.{Rectangle}
use Rattle.sheet_model.specs.declared.value.Value.TheVariants.{Number, Error}
use Rattle.sheet_model.specs.declared.grid.Arg.{Arg}
use Rattle.sheet_model.specs.declared.grid.Arg.TheVariants as arg
use Rattle.sheet_funcs.specs.Arguments as arguments
use Rattle.sheet_funcs.specs.Arguments.{below, answered, unless}
use Rattle.sheet_funcs.specs.Products as products
use Rattle.sheet_funcs.specs.Products.{mmult_of, places_of}
use Rattle.sheet_funcs.specs.Sums as sums
use Rattle.affine_forms.specs.Forms.{Assignment, AffineForm, IsForm, worth, constant_form}
use Rattle.affine_forms.proofs.Exact.{exact-followed_by, exact-turned_into}
use Rattle.form_values.specs.Grids.{Raster}
use Rattle.form_values.specs.Meaning.{abs_at, arg_at, elements_of}
use Rattle.form_values.proofs.Opening.{IsAbs}
use Rattle.form_values.specs.Refusals.{Bends, bends, jumps, middle}
use Rattle.form_values.specs.Trials.{Trial, Refusal, Breaks, Undecided, given, on_given, and_then, one, fault, each_tried}
use Rattle.form_values.specs.declared.abs.Abs.{Abs}
use Rattle.form_values.specs.declared.abs.AbsArg.{AbsArg}
use Rattle.form_values.specs.declared.abs.AbsArg.TheVariants.{One, Area}
use Rattle.form_table.specs.Wanted.{grid_of}
use Rattle.form_values.specs.Entries.{entry}
use Rattle.form_table.specs.Items.{is_number}
use Rattle.form_table.specs.Products.{factor, error_among, or_fault, at, product_at, of_forms, mmult_form}
use Rattle.form_truth.specs.Products.{PairBends}
use Rattle.form_truth.proofs.Right.{IsRightSum}
use Rattle.form_truth.proofs.Exact.{exact-and_then}
use Rattle.form_truth.proofs.Fitting.{entry_at, constant_worth}
use Rattle.form_truth.proofs.Middles.{worth_middle}
use Rattle.form_truth.proofs.SingleRows.{number_same}
use Rattle.form_truth.proofs.Transposing.{grid_at, grid_is, element_is}
use Rattle.form_truth.proofs.Dots.{Among, among_below, PlaceBends, IsDot, dot_right, factor_is, factor_form, item_sound, error_same, mapped_append}

-- ---- a form doesn't bend
form_unbent : (f : AffineForm) → Bends (λ x. Number (worth x f)) → ⊥
form_unbent f (bends x y p q e d n) =
    let a : worth x f ≡ p = cc in
    let b : worth y f ≡ q = cc in
    n (ap Number (worth_middle x y f ∙ ap₂ middle a b))
form_unbent f (jumps x y n m) = m (worth x f, refl) (worth y f, refl)

-- so of two factors it is the product that does
pair_bends : (f g : AffineForm) (u v : Assignment → ℚ) → ((x : Assignment) → u x ≡ worth x f) → (n : ℕ) → Bends (λ x. Number (exact (products.product_of (take n (u x ∷ v x ∷ []))))) → Bends (λ x. Number (u x *ℚ v x))
pair_bends f g u v e zero h = absurd (form_unbent (constant_form one_ℚ) (subst (λ (w : Assignment → ℚ). Bends (λ x. Number (w x))) (λ i x. sym (constant_worth x one_ℚ) i) h))
pair_bends f g u v e (suc zero) h = absurd (form_unbent f (subst (λ (w : Assignment → ℚ). Bends (λ x. Number (w x))) (λ i x. e x i) h))
pair_bends f g u v e (suc (suc n)) h = by_more n h
  where
    by_more : (n : ℕ) → Bends (λ x. Number (exact (products.product_of (take (suc (suc n)) (u x ∷ v x ∷ []))))) → Bends (λ x. Number (u x *ℚ v x))
    by_more zero h = h
    by_more (suc n) h = h

-- ---- the exact answers for each
each_exact : {A B : Type 0} (f : A → Calculation B) (xs : List A) → exact (for_each f xs) ≡ map (λ a. exact (f a)) xs
each_exact f [] = refl
each_exact f (a ∷ xs) =
    exact-followed_by (f a) (λ y. turned_into (λ ys. y ∷ ys) (for_each f xs)) ∙ exact-turned_into (λ ys. exact (f a) ∷ ys) (for_each f xs) ∙ ap (λ ys. exact (f a) ∷ ys) (each_exact f xs)

-- ---- one of a grid's places
among_either : {A : Type 0} (P : A → Type 0) (xs ys : List A) → Among P (xs ++ ys) → Among P xs ⊎ Among P ys
among_either P [] ys h = inr h
among_either P (a ∷ xs) ys (inl p) = inl (inl p)
among_either P (a ∷ xs) ys (inr h) = by_side (among_either P xs ys h)
  where
    by_side : Among P xs ⊎ Among P ys → Among P (a ∷ xs) ⊎ Among P ys
    by_side (inl k) = inl (inr k)
    by_side (inr k) = inr k

among_map : {A B : Type 0} (P : B → Type 0) (f : A → B) (xs : List A) → Among P (map f xs) → Among (λ a. P (f a)) xs
among_map P f [] h = h
among_map P f (a ∷ xs) (inl p) = inl p
among_map P f (a ∷ xs) (inr h) = inr (among_map P f xs h)

among_flat : {A B : Type 0} (P : B → Type 0) (f : A → List B) (xs : List A) → Among P (flat_map f xs) → Among (λ a. Among P (f a)) xs
among_flat P f [] h = h
among_flat P f (a ∷ xs) h = by_side (λ k. among_flat P f xs k) (among_either P (f a) (flat_map f xs) h)
  where
    by_side : (Among P (flat_map f xs) → Among (λ a. Among P (f a)) xs) → Among P (f a) ⊎ Among P (flat_map f xs) → Among (λ a. Among P (f a)) (a ∷ xs)
    by_side ih (inl k) = inl k
    by_side ih (inr k) = inr (ih k)

-- ---- two grids
module _ (g h : Raster) (left : AllByRecursion IsAbs g.items) (right : AllByRecursion IsAbs h.items) where
  -- the two factors behind each other for an element
  abbrev pair_forms : ℕ × ℕ → ℕ → List AffineForm
  pair_forms p k = factor (at g p.0 k) ∷ factor (at h k p.1) ∷ []

  abbrev pair_at : ℕ × ℕ → Assignment → ℕ → List ℚ
  pair_at p x k = products.factor (arguments.at (grid_at x g) p.0 k) ∷ products.factor (arguments.at (grid_at x h) k p.1) ∷ []

  pub pair_are_forms : (p : ℕ × ℕ) (k : ℕ) → AllByRecursion IsForm (pair_forms p k)
  pair_are_forms p k = (factor_form _ (item_sound g.items (p.0 * g.columns + k) left), (factor_form _ (item_sound h.items (k * h.columns + p.1) right), tt))

  first_is : (p : ℕ × ℕ) (x : Assignment) (k : ℕ) → products.factor (arguments.at (grid_at x g) p.0 k) ≡ worth x (factor (at g p.0 k))
  first_is p x k = ap products.factor (element_is x g p.0 k) ∙ factor_is x (at g p.0 k)

  second_is : (p : ℕ × ℕ) (x : Assignment) (k : ℕ) → products.factor (arguments.at (grid_at x h) k p.1) ≡ worth x (factor (at h k p.1))
  second_is p x k = ap products.factor (element_is x h k p.1) ∙ factor_is x (at h k p.1)

  pub pair_same : (p : ℕ × ℕ) (x : Assignment) (k : ℕ) → pair_at p x k ≡ map (worth x) (pair_forms p k)
  pair_same p x k =
      let a = first_is p x k in
      let b = second_is p x k in
      λ i. (a i) ∷ (b i) ∷ []

  abbrev pub ElementBends : ℕ × ℕ → Type 0
  ElementBends p = Among (PlaceBends (pair_forms p) (pair_are_forms p) (pair_at p) (pair_same p)) (below g.columns)

  -- one element
  abbrev pub IsElement : ℕ × ℕ → Result AffineForm Refusal → Type 0
  IsElement p (Ok f) = IsForm f × ((x : Assignment) → exact (products.product_at (grid_at x g) (grid_at x h) p) ≡ worth x f)
  IsElement p (Err Breaks) = ElementBends p
  IsElement p (Err (Undecided i)) = ⊥

  of_dot : (p : ℕ × ℕ) (r : Result AffineForm Refusal) → IsDot (pair_forms p) (pair_are_forms p) (pair_at p) (pair_same p) (below g.columns) r → IsElement p r
  of_dot p (Ok f) k = k
  of_dot p (Err Breaks) k = k
  of_dot p (Err (Undecided i)) k = k

  element_right : (p : ℕ × ℕ) → IsElement p (exact (product_at g h p))
  element_right p = of_dot p _ (dot_right (pair_forms p) (pair_are_forms p) (pair_at p) (pair_same p) (below g.columns))

  -- all of some
  abbrev pub AreElements : List (ℕ × ℕ) → Result (List AffineForm) Refusal → Type 0
  AreElements places (Ok fs) = AllByRecursion IsForm fs × ((x : Assignment) → map (λ p. exact (products.product_at (grid_at x g) (grid_at x h) p)) places ≡ map (worth x) fs)
  AreElements places (Err Breaks) = Among ElementBends places
  AreElements places (Err (Undecided i)) = ⊥

  others_right : (p : ℕ × ℕ) (places : List (ℕ × ℕ)) (f : AffineForm) → IsElement p (Ok f) → (r : Result (List AffineForm) Refusal) → AreElements places r → AreElements (p ∷ places) (exact (on_given r (λ fs. given (f ∷ fs))))
  others_right p places f e (Ok fs) k = ((e.0, k.0), λ x. ap₂ (λ v vs. v ∷ vs) (e.1 x) (k.1 x))
  others_right p places f e (Err Breaks) k = inr k
  others_right p places f e (Err (Undecided i)) k = k

  first_right : (p : ℕ × ℕ) (places : List (ℕ × ℕ)) (r : Result AffineForm Refusal) → IsElement p r → (rest : Trial (List AffineForm)) → AreElements places (exact rest)
      → AreElements (p ∷ places) (exact (on_given r (λ f. and_then rest (λ fs. given (f ∷ fs)))))
  first_right p places (Ok f) e rest k = subst (AreElements (p ∷ places)) (sym (exact-and_then rest (λ fs. given (f ∷ fs)))) (others_right p places f e (exact rest) k)
  first_right p places (Err Breaks) e rest k = inl e
  first_right p places (Err (Undecided i)) e rest k = e

  pub all_right : (places : List (ℕ × ℕ)) → AreElements places (exact (each_tried (product_at g h) places))
  all_right [] = (tt, λ x. refl)
  all_right (p ∷ places) =
      subst (AreElements (p ∷ places)) (sym (exact-and_then (product_at g h p) (λ f. and_then (each_tried (product_at g h) places) (λ fs. given (f ∷ fs)))))
      (first_right p places (exact (product_at g h p)) (element_right p) (each_tried (product_at g h) places) (all_right places))

  entries_at : (x : Assignment) (fs : List AffineForm) → AllByRecursion IsForm fs → map Number (map (worth x) fs) ≡ map (abs_at x) (map entry fs)
  entries_at x [] h = refl
  entries_at x (f ∷ fs) h = let e = sym (entry_at x f h.0) in let r = entries_at x fs h.1 in λ i. (e i) ∷ (r i)

  -- ---- the whole, of arguments with these grids
  module _ (a b : AbsArg) (first : grid_of a ≡ g) (second : grid_of b ≡ h) where
    abbrev places : List (ℕ × ℕ)
    places = places_of g.rows h.columns

    abbrev made_at : Assignment → Arg
    made_at x = products.of_numbers g.rows h.columns (map (λ p. exact (products.product_at (grid_at x g) (grid_at x h) p)) places)

    left_at : (x : Assignment) → grid_at x g ≡ arguments.grid_of (arg_at x a)
    left_at x = ap (grid_at x) (sym first) ∙ sym (grid_is x a)

    right_at : (x : Assignment) → grid_at x h ≡ arguments.grid_of (arg_at x b)
    right_at x = ap (grid_at x) (sym second) ∙ sym (grid_is x b)

    bent_pair : Among ElementBends places → PairBends a b
    bent_pair n =
        let r = among_below _ g.rows (among_flat ElementBends (λ row. map (λ column. (row, column)) (below h.columns)) (below g.rows) n) in
        let c = among_below _ h.columns (among_map ElementBends (λ column. (r.0, column)) (below h.columns) r.2) in
        let k = among_below _ g.columns c.2 in
        record {
          row = r.0;
          column = c.0;
          inner = k.0;
          is_row = subst (λ (z : Raster). r.0 < z.rows) (sym first) r.1;
          is_column = subst (λ (z : Raster). c.0 < z.columns) (sym second) c.1;
          is_inner = subst (λ (z : Raster). k.0 < z.columns) (sym first) k.1;
          bent =
              subst (λ (v : Assignment → Rectangle × Rectangle). Bends (λ x. Number (products.factor (arguments.at (v x).0 r.0 k.0) *ℚ products.factor (arguments.at (v x).1 k.0 c.0)))) (λ i x. (left_at x i, right_at x i))
              (pair_bends (factor (at g r.0 k.0)) (factor (at h k.0 c.0)) (λ x. products.factor (arguments.at (grid_at x g) r.0 k.0)) (λ x. products.factor (arguments.at (grid_at x h) k.0 c.0)) (λ x. first_is (r.0, c.0) x k.0) k.2.0 k.2.1);
        }

    made_result : (r : Result (List AffineForm) Refusal) → AreElements places r → IsRightSum made_at (a ∷ b ∷ []) (PairBends a b) (exact (on_given r (λ fs. given (of_forms g.rows h.columns fs))))
    made_result (Ok fs) k = λ x. ap (λ vs. arg.Area (record { rows = g.rows; columns = h.columns; items = vs })) (ap (map Number) (k.1 x) ∙ entries_at x fs k.0)
    made_result (Err Breaks) k = bent_pair k
    made_result (Err (Undecided i)) k = absurd k

    same_sum : (v w : Assignment → Arg) (r : Result AbsArg Refusal) → ((x : Assignment) → w x ≡ v x) → IsRightSum w (a ∷ b ∷ []) (PairBends a b) r → IsRightSum v (a ∷ b ∷ []) (PairBends a b) r
    same_sum v w r e k = subst (λ (v : Assignment → Arg). IsRightSum v (a ∷ b ∷ []) (PairBends a b) r) (λ i x. e x i) k

    -- the product where no error stands in the way, and where the elements and sizes are looked at
    abbrev tested : Assignment → Bool → Calculation Arg
    tested x t = if t then turned_into (products.of_numbers g.rows h.columns) (for_each (products.product_at (grid_at x g) (grid_at x h)) places) else answered (Error kind.Value)

    abbrev sized : Assignment → Calculation Arg
    sized x = tested x (list_all sums.is_number (map (abs_at x) g.items ++ map (abs_at x) h.items) && (g.columns == h.rows))

    numbers_are : (x : Assignment) (items : List Abs) → list_all sums.is_number (map (abs_at x) items) ≡ list_all is_number items
    numbers_are x [] = refl
    numbers_are x (c ∷ items) = ap₂ (λ u v. u && v) (number_same x c) (numbers_are x items)

    test_is : (x : Assignment) → (list_all sums.is_number (map (abs_at x) g.items ++ map (abs_at x) h.items) && (g.columns == h.rows)) ≡ (list_all is_number (g.items ++ h.items) && (g.columns == h.rows))
    test_is x = ap (λ t. t && (g.columns == h.rows)) (ap (list_all sums.is_number) (mapped_append x g.items h.items) ∙ numbers_are x (g.items ++ h.items))

    by_test : (t : Bool) → (list_all is_number (g.items ++ h.items) && (g.columns == h.rows)) ≡ t
        → IsRightSum (λ x. exact (sized x)) (a ∷ b ∷ []) (PairBends a b) (exact (if t then and_then (each_tried (product_at g h) places) (λ fs. given (of_forms g.rows h.columns fs)) else one (fault kind.Value)))
    by_test false e = λ x. ap (λ t. exact (tested x t)) (test_is x ∙ e)
    by_test true e =
        same_sum (λ x. exact (sized x)) made_at _
        (λ x. sym (ap (λ t. exact (tested x t)) (test_is x ∙ e) ∙ exact-turned_into (products.of_numbers g.rows h.columns) (for_each (products.product_at (grid_at x g) (grid_at x h)) places)
        ∙ ap (products.of_numbers g.rows h.columns) (each_exact (products.product_at (grid_at x g) (grid_at x h)) places)))
        (subst (IsRightSum made_at (a ∷ b ∷ []) (PairBends a b)) (sym (exact-and_then (each_tried (product_at g h) places) (λ fs. given (of_forms g.rows h.columns fs)))) (made_result _ (all_right places)))

    error_is : (x : Assignment) → arguments.first_error (map (abs_at x) g.items ++ map (abs_at x) h.items) ≡ error_among (g.items ++ h.items)
    error_is x = ap arguments.first_error (mapped_append x g.items h.items) ∙ error_same x (g.items ++ h.items)

    by_error : (k : Option ErrorKind) → error_among (g.items ++ h.items) ≡ k
        → IsRightSum (λ x. exact (unless (arguments.first_error (map (abs_at x) g.items ++ map (abs_at x) h.items)) (sized x))) (a ∷ b ∷ []) (PairBends a b)
        (exact (or_fault k (if list_all is_number (g.items ++ h.items) && (g.columns == h.rows) then and_then (each_tried (product_at g h) places) (λ fs. given (of_forms g.rows h.columns fs)) else one (fault kind.Value))))
    by_error (Some k) e = λ x. ap (λ o. exact (unless o (sized x))) (error_is x ∙ e)
    by_error None e =
        same_sum _ (λ x. exact (sized x)) _ (λ x. sym (ap (λ o. exact (unless o (sized x))) (error_is x ∙ e))) (by_test (list_all is_number (g.items ++ h.items) && (g.columns == h.rows)) refl)

    pub grids_right : IsRightSum (λ x. exact (unless (arguments.first_error (map (abs_at x) g.items ++ map (abs_at x) h.items)) (sized x))) (a ∷ b ∷ []) (PairBends a b)
        (exact (or_fault (error_among (g.items ++ h.items)) (if list_all is_number (g.items ++ h.items) && (g.columns == h.rows) then and_then (each_tried (product_at g h) places) (λ fs. given (of_forms g.rows h.columns fs)) else one (fault kind.Value))))
    grids_right = by_error (error_among (g.items ++ h.items)) refl

pub grid_sound : (a : AbsArg) → AllByRecursion IsAbs (elements_of a) → AllByRecursion IsAbs (grid_of a).items
grid_sound (One a) h = h
grid_sound (Area g) h = h

-- the product of two grids of values
of_grids : Rectangle → Rectangle → Calculation Arg
of_grids g h =
    unless (arguments.first_error (g.items ++ h.items))
    (if list_all sums.is_number (g.items ++ h.items) && (g.columns == h.rows)
    then turned_into (products.of_numbers g.rows h.columns) (for_each (products.product_at g h) (places_of g.rows h.columns))
    else answered (Error kind.Value))

pub mmult_right : (a b : AbsArg) → AllByRecursion IsAbs (elements_of a) → AllByRecursion IsAbs (elements_of b) → IsRightSum (λ x. exact (mmult_of (arg_at x a) (arg_at x b))) (a ∷ b ∷ []) (PairBends a b) (exact (mmult_form a b))
unfolding of_grids
mmult_right a b l r =
    subst (λ (v : Assignment → Rectangle × Rectangle). IsRightSum (λ x. exact (of_grids (v x).0 (v x).1)) (a ∷ b ∷ []) (PairBends a b) (exact (mmult_form a b))) (λ i x. (sym (grid_is x a) i, sym (grid_is x b) i))
    (grids_right (grid_of a) (grid_of b) (grid_sound a l) (grid_sound b r) a b refl refl)
