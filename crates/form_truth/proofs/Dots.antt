-- SUMPRODUCT and MMULT of open values.
use Rattle.std.specs.Prelude.{slice_index_or, ◌+◌, ◌++◌, ◌&&◌, ◌<◌, ◌≤◌, flat_map, length, take}
use Rattle.std.specs.List.{AllByRecursion, list_all, range_with_len}
use Rattle.std.proofs.Common.{◌≡◌, refl, sym, ap, ◌∙◌, subst, Bool, true, false, if◌then◌else◌, List, [], ◌∷◌, map, ◌⊎◌, inl, inr, ℕ, zero, suc, Option, Some, None, Result, Ok, Err, arith}
use Rattle.fractions.specs.Rational.{ℚ, zero_ℚ, one_ℚ, ◌+ℚ◌, ◌*ℚ◌}
use Rattle.fractions.proofs.Laws.{mul_comm}
use Rattle.calculations.specs.Calculation.{Calculation, exact, after, sum, product, done, through, followed_by}
use Rattle.cell_refs.specs.declared.error_kind.ErrorKind.{ErrorKind}
use Rattle.cell_refs.specs.declared.error_kind.ErrorKind.TheVariants as kind
use Rattle.sheet_model.specs.Grids.{Rectangle}
use Rattle.sheet_model.specs.declared.value.Value.TheVariants.{Number, Text, Logical, Empty, Error}
use Rattle.sheet_model.specs.declared.grid.Arg.{Arg}
use Rattle.sheet_model.specs.declared.grid.Arg.TheVariants as arg
use Rattle.sheet_funcs.specs.Arguments as arguments
use Rattle.sheet_funcs.specs.Arguments.{below, counted, answered, unless}
use Rattle.sheet_funcs.specs.Products as products
use Rattle.sheet_funcs.specs.Products.{sumproduct_of, mmult_of, places_of}
use Rattle.affine_forms.specs.Forms.{Assignment, AffineForm, IsForm, worth, constant_form}
use Rattle.affine_forms.specs.Steps.{added, scaled}
use Rattle.affine_forms.proofs.Exact.{exact-followed_by, exact-turned_into}
use Rattle.affine_forms.proofs.Worths.{added_worth, added_is_form, scaled_worth, scaled_is_form}
use Rattle.form_values.specs.Grids.{Raster}
use Rattle.form_values.specs.Meaning.{abs_at, arg_at}
use Rattle.form_values.proofs.Opening.{IsAbs}
use Rattle.form_values.specs.Refusals.{Bends}
use Rattle.form_values.specs.Trials.{Trial, Refusal, Breaks, Undecided, given, on_given, and_then, made, one, through_tried, each_tried}
use Rattle.form_values.specs.declared.abs.Abs.{Abs}
use Rattle.form_values.specs.declared.abs.Abs.TheVariants.{Known, Affine, Test}
use Rattle.form_values.specs.declared.abs.AbsArg.{AbsArg}
use Rattle.form_values.specs.declared.abs.AbsArg.TheVariants.{One, Area}
use Rattle.form_table.specs.Wanted.{grid_of, constant_of}
use Rattle.form_values.specs.Entries.{entry}
use Rattle.form_table.specs.Operators.{times, by_constants}
use Rattle.form_table.specs.Products.{factor, product_of, dot, error_among, or_fault, is_of_size, factors_at, dot_of_grids, sumproduct_form}
use Rattle.form_truth.specs.Products.{FactorsBend}
use Rattle.form_truth.proofs.Right.{IsRightSum}
use Rattle.form_truth.proofs.Exact.{exact-made, exact-and_then}
use Rattle.form_truth.proofs.Arithmetic.{open_product_bends}
use Rattle.form_truth.proofs.Collecting.{AreSound}
use Rattle.form_truth.proofs.Fitting.{entry_at, constant_worth, constant_is, open_is}
use Rattle.form_truth.proofs.Transposing.{grid_at, grid_is, item_is}

-- ---- products
-- of two forms
abbrev pub IsProduct : AffineForm → AffineForm → Result AffineForm Refusal → Type 0
IsProduct f g (Ok h) = IsForm h × ((x : Assignment) → worth x f *ℚ worth x g ≡ worth x h)
IsProduct f g (Err Breaks) = Bends (λ x. Number (worth x f *ℚ worth x g))
IsProduct f g (Err (Undecided i)) = ⊥

by_constants_right : (f g : AffineForm) → IsForm f → IsForm g → (k l : Option ℚ) → constant_of f ≡ k → constant_of g ≡ l → IsProduct f g (exact (by_constants f g k l))
by_constants_right f g i j (Some k) l d e =
    subst (IsProduct f g) (sym (exact-made (λ h. h) (scaled k g)))
    (scaled_is_form k g j, λ x. mul_comm (worth x f) (worth x g) ∙ ap (λ t. worth x g *ℚ t) (constant_is f k d x) ∙ sym (scaled_worth x k g))
by_constants_right f g i j None (Some l) d e =
    subst (IsProduct f g) (sym (exact-made (λ h. h) (scaled l f)))
    (scaled_is_form l f i, λ x. ap (λ t. worth x f *ℚ t) (constant_is g l e x) ∙ sym (scaled_worth x l f))
by_constants_right f g i j None None d e = open_product_bends f g (i, open_is f d) (j, open_is g e)

times_right : (f g : AffineForm) → IsForm f → IsForm g → IsProduct f g (exact (times f g))
times_right f g i j = by_constants_right f g i j (constant_of f) (constant_of g) refl refl

-- of a number so far and some forms, from the left
pub multiplied : ℚ → List ℚ → ℚ
multiplied s ys = exact (through (λ so_far y. after (product so_far y) done) s ys)

abbrev pub IsProductFrom : (Assignment → ℚ) → List AffineForm → Result AffineForm Refusal → Type 0
IsProductFrom s fs (Ok h) = IsForm h × ((x : Assignment) → multiplied (s x) (map (worth x) fs) ≡ worth x h)
IsProductFrom s fs (Err Breaks) = (n : ℕ) × Bends (λ x. Number (multiplied (s x) (take n (map (worth x) fs))))
IsProductFrom s fs (Err (Undecided i)) = ⊥

mutual_rest : (s : Assignment → ℚ) (f : AffineForm) (fs : List AffineForm) (r : Result AffineForm Refusal) → IsProductFrom (λ x. s x *ℚ worth x f) fs r → IsProductFrom s (f ∷ fs) r
unfolding multiplied
mutual_rest s f fs (Ok h) k = k
mutual_rest s f fs (Err Breaks) k = (suc k.0, k.1)
mutual_rest s f fs (Err (Undecided i)) k = k

product_from : (fs : List AffineForm) (g : AffineForm) (s : Assignment → ℚ) → ((x : Assignment) → s x ≡ worth x g) → IsForm g → AllByRecursion IsForm fs → IsProductFrom s fs (exact (through_tried times g fs))
unfolding multiplied
product_from [] g s e i h = (i, e)
product_from (f ∷ fs) g s e i h =
    subst (IsProductFrom s (f ∷ fs)) (sym (exact-and_then (times g f) (λ next. through_tried times next fs)))
    (by_first (λ next k. product_from fs next (λ x. s x *ℚ worth x f) (λ x. ap (λ t. t *ℚ worth x f) (e x) ∙ k.1 x) k.0 h.1) (exact (times g f)) (times_right g f i h.0))
  where
    by_first : ((next : AffineForm) → IsProduct g f (Ok next) → IsProductFrom (λ x. s x *ℚ worth x f) fs (exact (through_tried times next fs)))
        → (r : Result AffineForm Refusal) → IsProduct g f r → IsProductFrom s (f ∷ fs) (exact (on_given r (λ next. through_tried times next fs)))
    by_first ih (Ok next) k = mutual_rest s f fs _ (ih next k)
    by_first ih (Err Breaks) k = (1, subst (λ (v : Assignment → ℚ). Bends (λ x. Number (v x))) (λ j x. (sym (e x) j) *ℚ worth x f) k)
    by_first ih (Err (Undecided j)) k = k

-- of some forms
abbrev pub IsProductOf : List AffineForm → Result AffineForm Refusal → Type 0
IsProductOf fs (Ok h) = IsForm h × ((x : Assignment) → exact (products.product_of (map (worth x) fs)) ≡ worth x h)
IsProductOf fs (Err Breaks) = (n : ℕ) × Bends (λ x. Number (exact (products.product_of (take n (map (worth x) fs)))))
IsProductOf fs (Err (Undecided i)) = ⊥

from_first : (f : AffineForm) (fs : List AffineForm) (r : Result AffineForm Refusal) → IsProductFrom (λ x. worth x f) fs r → IsProductOf (f ∷ fs) r
unfolding multiplied
from_first f fs (Ok h) k = k
from_first f fs (Err Breaks) k = (suc k.0, k.1)
from_first f fs (Err (Undecided i)) k = k

product_right : (fs : List AffineForm) → AllByRecursion IsForm fs → IsProductOf fs (exact (product_of fs))
product_right [] h = (record { rise = tt }, λ x. sym (constant_worth x one_ℚ))
product_right (f ∷ fs) h = from_first f fs _ (product_from fs f (λ x. worth x f) (λ x. refl) h.0 h.1)

-- ---- sums of products
-- one of some, with what it is told to be
abbrev pub Among : {A : Type 0} → (A → Type 0) → List A → Type 0
Among P [] = ⊥
Among P (a ∷ others) = P a ⊎ Among P others

pub dotted : ℚ → List (List ℚ) → ℚ
dotted s lists = exact (through (λ so_far factors. followed_by (products.product_of factors) (λ p. after (sum so_far p) done)) s lists)

dotted_next : (s : ℚ) (ys : List ℚ) (lists : List (List ℚ)) → dotted s (ys ∷ lists) ≡ dotted (s +ℚ exact (products.product_of ys)) lists
unfolding dotted
dotted_next s ys lists =
    exact-followed_by (followed_by (products.product_of ys) (λ p. after (sum s p) done)) (λ next. through (λ so_far factors. followed_by (products.product_of factors) (λ p. after (sum so_far p) done)) next lists)
    ∙ ap (λ t. exact (through (λ so_far factors. followed_by (products.product_of factors) (λ p. after (sum so_far p) done)) t lists)) (exact-followed_by (products.product_of ys) (λ p. after (sum s p) done))

module _ {A : Type 0} (forms : A → List AffineForm) (are_forms : (a : A) → AllByRecursion IsForm (forms a)) (numbers : Assignment → A → List ℚ) (same : (x : Assignment) (a : A) → numbers x a ≡ map (worth x) (forms a)) where
  -- a product of some of the first bends
  abbrev pub PlaceBends : A → Type 0
  PlaceBends a = (n : ℕ) × Bends (λ x. Number (exact (products.product_of (take n (numbers x a)))))

  abbrev pub IsDotFrom : (Assignment → ℚ) → List A → Result AffineForm Refusal → Type 0
  IsDotFrom s places (Ok h) = IsForm h × ((x : Assignment) → dotted (s x) (map (numbers x) places) ≡ worth x h)
  IsDotFrom s places (Err Breaks) = Among PlaceBends places
  IsDotFrom s places (Err (Undecided i)) = ⊥

  abbrev step : AffineForm → List AffineForm → Trial AffineForm
  step so_far fs = and_then (product_of fs) (λ p. made (λ f. f) (added so_far p))

  rest_of : (s : Assignment → ℚ) (a : A) (places : List A) (p : AffineForm) → ((x : Assignment) → exact (products.product_of (map (worth x) (forms a))) ≡ worth x p) → (r : Result AffineForm Refusal)
      → IsDotFrom (λ x. s x +ℚ worth x p) places r → IsDotFrom s (a ∷ places) r
  rest_of s a places p e (Ok h) k = (
    k.0,
    λ x.
        dotted_next (s x) (numbers x a) (map (numbers x) places)
        ∙ ap (λ t. dotted (s x +ℚ t) (map (numbers x) places)) (ap (λ ys. exact (products.product_of ys)) (same x a) ∙ e x)
        ∙ k.1 x,
  )
  rest_of s a places p e (Err Breaks) k = inr k
  rest_of s a places p e (Err (Undecided i)) k = k

  -- one step, and those behind it
  after_step : (s : Assignment → ℚ) (g : AffineForm) → ((x : Assignment) → s x ≡ worth x g) → IsForm g → (a : A) (places : List A)
      → ((next : AffineForm) (t : Assignment → ℚ) → ((x : Assignment) → t x ≡ worth x next) → IsForm next → IsDotFrom t places (exact (through_tried step next (map forms places))))
      → (r : Result AffineForm Refusal) → IsProductOf (forms a) r
      → IsDotFrom s (a ∷ places) (exact (on_given (exact (on_given r (λ p. made (λ f. f) (added g p)))) (λ next. through_tried step next (map forms places))))
  after_step s g e i a places ih (Ok p) k =
      subst (IsDotFrom s (a ∷ places)) (sym (ap (λ r. exact (on_given r (λ next. through_tried step next (map forms places)))) (exact-made (λ f. f) (added g p))))
      (rest_of s a places p k.1 _
      (ih (exact (added g p)) (λ x. s x +ℚ worth x p) (λ x. ap (λ t. t +ℚ worth x p) (e x) ∙ sym (added_worth x g p)) (added_is_form g p i k.0)))
  after_step s g e i a places ih (Err Breaks) k =
      inl (k.0, subst (λ (v : Assignment → List ℚ). Bends (λ x. Number (exact (products.product_of (take k.0 (v x)))))) (λ j x. sym (same x a) j) k.1)
  after_step s g e i a places ih (Err (Undecided j)) k = k

  dot_from : (places : List A) (g : AffineForm) (s : Assignment → ℚ) → ((x : Assignment) → s x ≡ worth x g) → IsForm g → IsDotFrom s places (exact (through_tried step g (map forms places)))
  unfolding dotted
  dot_from [] g s e i = (i, e)
  dot_from (a ∷ places) g s e i =
      subst (IsDotFrom s (a ∷ places))
      (sym (exact-and_then (step g (forms a)) (λ next. through_tried step next (map forms places)) ∙ ap (λ r. exact (on_given r (λ next. through_tried step next (map forms places)))) (exact-and_then (product_of (forms a)) (λ p. made (λ f. f) (added g p)))))
      (after_step s g e i a places (λ next t d j. dot_from places next t d j) (exact (product_of (forms a))) (product_right (forms a) (are_forms a)))

  -- the whole
  abbrev pub IsDot : List A → Result AffineForm Refusal → Type 0
  IsDot places (Ok h) = IsForm h × ((x : Assignment) → exact (products.dot (map (numbers x) places)) ≡ worth x h)
  IsDot places (Err Breaks) = Among PlaceBends places
  IsDot places (Err (Undecided i)) = ⊥

  whole : (places : List A) (r : Result AffineForm Refusal) → IsDotFrom (λ x. zero_ℚ) places r → IsDot places r
  unfolding dotted
  whole places (Ok h) k = k
  whole places (Err Breaks) k = k
  whole places (Err (Undecided i)) k = k

  pub dot_right : (places : List A) → IsDot places (exact (dot (map forms places)))
  dot_right places = whole places _ (dot_from places (constant_form zero_ℚ) (λ x. zero_ℚ) (λ x. sym (constant_worth x zero_ℚ)) (record { rise = tt }))

-- ---- elements
pub factor_is : (x : Assignment) (a : Abs) → products.factor (abs_at x a) ≡ worth x (factor a)
factor_is x (Known (Number y)) = sym (constant_worth x y)
factor_is x (Known (Text t)) = sym (constant_worth x zero_ℚ)
factor_is x (Known (Logical b)) = sym (constant_worth x zero_ℚ)
factor_is x (Known Empty) = sym (constant_worth x zero_ℚ)
factor_is x (Known (Error k)) = sym (constant_worth x zero_ℚ)
factor_is x (Affine f) = refl
factor_is x (Test f r) = sym (constant_worth x zero_ℚ)

pub factor_form : (a : Abs) → IsAbs a → IsForm (factor a)
factor_form (Known (Number y)) h = record { rise = tt }
factor_form (Known (Text t)) h = record { rise = tt }
factor_form (Known (Logical b)) h = record { rise = tt }
factor_form (Known Empty) h = record { rise = tt }
factor_form (Known (Error k)) h = record { rise = tt }
factor_form (Affine o) h = h.0
factor_form (Test f r) h = record { rise = tt }

pub item_sound : (items : List Abs) (n : ℕ) → AllByRecursion IsAbs items → IsAbs (slice_index_or items n (Known Empty))
item_sound [] n h = tt
item_sound (a ∷ items) zero h = h.0
item_sound (a ∷ items) (suc n) h = item_sound items n h.1

pub error_same : (x : Assignment) (items : List Abs) → arguments.first_error (map (abs_at x) items) ≡ error_among items
error_same x [] = refl
error_same x (Known (Number y) ∷ items) = error_same x items
error_same x (Known (Text t) ∷ items) = error_same x items
error_same x (Known (Logical b) ∷ items) = error_same x items
error_same x (Known Empty ∷ items) = error_same x items
error_same x (Known (Error k) ∷ items) = refl
error_same x (Affine f ∷ items) = error_same x items
error_same x (Test f r ∷ items) = error_same x items

pub mapped_append : (x : Assignment) (items others : List Abs) → map (abs_at x) items ++ map (abs_at x) others ≡ map (abs_at x) (items ++ others)
mapped_append x [] others = refl
mapped_append x (a ∷ items) others = let e = mapped_append x items others in λ i. abs_at x a ∷ (e i)

mapped_length : (x : Assignment) (items : List Abs) → length (map (abs_at x) items) ≡ length items
mapped_length x [] = refl
mapped_length x (a ∷ items) = ap suc (mapped_length x items)

-- ---- SUMPRODUCT
all_items_are : (x : Assignment) (grids : List Raster) → products.all_elements (map (grid_at x) grids) ≡ map (abs_at x) (flat_map (λ (g : Raster). g.items) grids)
all_items_are x [] = refl
all_items_are x (g ∷ grids) = ap (λ vs. map (abs_at x) g.items ++ vs) (all_items_are x grids) ∙ mapped_append x g.items (flat_map (λ (g : Raster). g.items) grids)

sizes_are : (x : Assignment) (g : Raster) (grids : List Raster) → list_all (products.is_of_size (grid_at x g)) (map (grid_at x) grids) ≡ list_all (is_of_size g) grids
sizes_are x g [] = refl
sizes_are x g (h ∷ grids) = ap (λ b. is_of_size g h && b) (sizes_are x g grids)

pub factors_are : (x : Assignment) (grids : List Raster) (place : ℕ) → products.factors_at (map (grid_at x) grids) place ≡ map (worth x) (factors_at grids place)
factors_are x [] place = refl
factors_are x (g ∷ grids) place =
    let e = ap products.factor (item_is x g.items place) ∙ factor_is x (slice_index_or g.items place (Known Empty)) in
    let r = factors_are x grids place in
    λ i. (e i) ∷ (r i)

pub factors_forms : (grids : List Raster) (place : ℕ) → AllByRecursion (λ (g : Raster). AllByRecursion IsAbs g.items) grids → AllByRecursion IsForm (factors_at grids place)
factors_forms [] place h = tt
factors_forms (g ∷ grids) place h = (factor_form _ (item_sound g.items place h.0), factors_forms grids place h.1)

grids_are : (x : Assignment) (args : List AbsArg) → map arguments.grid_of (map (arg_at x) args) ≡ map (grid_at x) (map grid_of args)
grids_are x [] = refl
grids_are x (a ∷ args) = let e = grid_is x a in let r = grids_are x args in λ i. (e i) ∷ (r i)

pub grids_sound : (args : List AbsArg) → AreSound args → AllByRecursion (λ (g : Raster). AllByRecursion IsAbs g.items) (map grid_of args)
grids_sound [] h = tt
grids_sound (One a ∷ args) h = (h.0, grids_sound args h.1)
grids_sound (Area g ∷ args) h = (h.0, grids_sound args h.1)

-- one of the numbers from m on
among_range : (P : ℕ → Type 0) (m n : ℕ) → Among P (range_with_len m n) → (k : ℕ) × (m ≤ k) × (k < m + n) × P k
among_range P m zero h = absurd h
among_range P m (suc n) (inl p) = (m, omega arith, omega arith, p)
among_range P m (suc n) (inr h) =
    let r = among_range P (m + 1) n h in
    let a : m + 1 ≤ r.0 = r.1 in
    let b : r.0 < (m + 1) + n = r.2 in
    (r.0, omega arith, omega arith, r.3)

pub among_below : (P : ℕ → Type 0) (n : ℕ) → Among P (below n) → (k : ℕ) × (k < n) × P k
among_below P n h =
    let r = among_range P 0 n h in
    let b : r.0 < 0 + n = r.2 in
    (r.0, omega arith, r.3)

module _ (args : List AbsArg) (g : Raster) (gs : List Raster) (is : map grid_of args ≡ g ∷ gs) (sound : AllByRecursion (λ (g : Raster). AllByRecursion IsAbs g.items) (g ∷ gs)) where
  abbrev value_at : Assignment → Arg
  value_at x = exact (products.dot_of_grids (map (grid_at x) (g ∷ gs)))

  abbrev numbers_at : Assignment → ℕ → List ℚ
  numbers_at x place = products.factors_at (map (grid_at x) (g ∷ gs)) place

  -- the sum where no error stands in the way, and where the sizes are looked at
  abbrev sum_calculated : Assignment → Bool → Calculation Arg
  sum_calculated x b = if b then counted (products.dot (map (products.factors_at (map (grid_at x) (g ∷ gs))) (below (length (map (abs_at x) g.items))))) else answered (Error kind.Value)

  abbrev sized : Assignment → Calculation Arg
  sized x = sum_calculated x (list_all (products.is_of_size (grid_at x g)) (map (grid_at x) gs))

  grids_at : (x : Assignment) → map (grid_at x) (g ∷ gs) ≡ map arguments.grid_of (map (arg_at x) args)
  grids_at x = ap (map (grid_at x)) (sym is) ∙ sym (grids_are x args)

  -- without an error and of one size
  counted_at : (x : Assignment) → exact (counted (products.dot (map (products.factors_at (map (grid_at x) (g ∷ gs))) (below (length (map (abs_at x) g.items))))))
      ≡ arg.One (Number (exact (products.dot (map (numbers_at x) (below (length g.items))))))
  counted_at x =
      exact-turned_into (λ y. arg.One (Number y)) (products.dot (map (products.factors_at (map (grid_at x) (g ∷ gs))) (below (length (map (abs_at x) g.items)))))
      ∙ ap (λ n. arg.One (Number (exact (products.dot (map (products.factors_at (map (grid_at x) (g ∷ gs))) (below n)))))) (mapped_length x g.items)

  bent_factors : Among (PlaceBends (factors_at (g ∷ gs)) (λ place. factors_forms (g ∷ gs) place sound) numbers_at (λ x place. factors_are x (g ∷ gs) place)) (below (length g.items)) → FactorsBend args
  bent_factors h =
      let r = among_below _ (length g.items) h in
      record {
        place = r.0;
        count = r.2.0;
        bent = subst (λ (v : Assignment → List Rectangle). Bends (λ x. Number (exact (products.product_of (take r.2.0 (products.factors_at (v x) r.0)))))) (λ i x. grids_at x i) r.2.1;
      }

  dot_result : (r : Result AffineForm Refusal) → IsDot (factors_at (g ∷ gs)) (λ place. factors_forms (g ∷ gs) place sound) numbers_at (λ x place. factors_are x (g ∷ gs) place) (below (length g.items)) r
      → IsRightSum (λ x. arg.One (Number (exact (products.dot (map (numbers_at x) (below (length g.items))))))) args (FactorsBend args)
      (exact (on_given (exact (on_given r (λ f. given (entry f)))) (λ a. given (One a))))
  dot_result (Ok h) k = λ x. ap (λ y. arg.One (Number y)) (k.1 x) ∙ ap arg.One (sym (entry_at x h k.0))
  dot_result (Err Breaks) k = bent_factors k
  dot_result (Err (Undecided i)) k = absurd k

  same_sum : (f h : Assignment → Arg) (r : Result AbsArg Refusal) → ((x : Assignment) → h x ≡ f x) → IsRightSum h args (FactorsBend args) r → IsRightSum f args (FactorsBend args) r
  same_sum f h r e k = subst (λ (v : Assignment → Arg). IsRightSum v args (FactorsBend args) r) (λ i x. e x i) k

  by_size : (b : Bool) → list_all (is_of_size g) gs ≡ b
      → IsRightSum (λ x. exact (sized x))
      args (FactorsBend args)
      (exact (if b then one (and_then (dot (map (factors_at (g ∷ gs)) (below (length g.items)))) (λ f. given (entry f))) else one (Rattle.form_values.specs.Trials.fault kind.Value)))
  by_size false e = λ x. ap (λ b. exact (sum_calculated x b)) (sizes_are x g gs ∙ e)
  by_size true e =
      same_sum _ (λ x. arg.One (Number (exact (products.dot (map (numbers_at x) (below (length g.items))))))) _
      (λ x. sym (ap (λ b. exact (sum_calculated x b)) (sizes_are x g gs ∙ e) ∙ counted_at x))
      (subst (IsRightSum (λ x. arg.One (Number (exact (products.dot (map (numbers_at x) (below (length g.items))))))) args (FactorsBend args))
      (sym (exact-and_then (and_then (dot (map (factors_at (g ∷ gs)) (below (length g.items)))) (λ f. given (entry f))) (λ a. given (One a))
      ∙ ap (λ r. exact (on_given r (λ a. given (One a)))) (exact-and_then (dot (map (factors_at (g ∷ gs)) (below (length g.items)))) (λ f. given (entry f)))))
      (dot_result _ (dot_right (factors_at (g ∷ gs)) (λ place. factors_forms (g ∷ gs) place sound) numbers_at (λ x place. factors_are x (g ∷ gs) place) (below (length g.items)))))

  by_error : (k : Option ErrorKind) → error_among (flat_map (λ (h : Raster). h.items) (g ∷ gs)) ≡ k
      → IsRightSum value_at args (FactorsBend args)
      (exact (or_fault k (if list_all (is_of_size g) gs then one (and_then (dot (map (factors_at (g ∷ gs)) (below (length g.items)))) (λ f. given (entry f))) else one (Rattle.form_values.specs.Trials.fault kind.Value))))
  by_error (Some k) e = λ x. ap (λ o. exact (unless o (sized x))) (ap arguments.first_error (all_items_are x (g ∷ gs)) ∙ error_same x (flat_map (λ (h : Raster). h.items) (g ∷ gs)) ∙ e)
  by_error None e =
      same_sum value_at (λ x. exact (sized x)) _ (λ x. sym (ap (λ o. exact (unless o (sized x))) (ap arguments.first_error (all_items_are x (g ∷ gs)) ∙ error_same x (flat_map (λ (h : Raster). h.items) (g ∷ gs)) ∙ e)))
      (by_size (list_all (is_of_size g) gs) refl)

by_grids : (args : List AbsArg) (grids : List Raster) → map grid_of args ≡ grids → AllByRecursion (λ (g : Raster). AllByRecursion IsAbs g.items) grids
    → IsRightSum (λ x. exact (products.dot_of_grids (map (grid_at x) grids))) args (FactorsBend args) (exact (dot_of_grids grids))
by_grids args [] e h = λ x. refl
by_grids args (g ∷ gs) e h = by_error args g gs e h (error_among (flat_map (λ (h : Raster). h.items) (g ∷ gs))) refl

pub sumproduct_right : (args : List AbsArg) → AreSound args → IsRightSum (λ x. exact (sumproduct_of (map (arg_at x) args))) args (FactorsBend args) (exact (sumproduct_form args))
sumproduct_right args h =
    subst (λ (v : Assignment → List Rectangle). IsRightSum (λ x. exact (products.dot_of_grids (v x))) args (FactorsBend args) (exact (sumproduct_form args))) (λ i x. sym (grids_are x args) i)
    (by_grids args (map grid_of args) refl (grids_sound args h))
