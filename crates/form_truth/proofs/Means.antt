-- AVERAGE and COUNT of open arguments.
use Rattle.std.specs.List.{AllByRecursion}
use Rattle.std.specs.Prelude.{flat_map, ◌++◌, filter, length, pos}
use Rattle.std.proofs.Common.{◌≡◌, refl, sym, ap, ap₂, ◌∙◌, subst, List, [], ◌∷◌, map, suc}
use Rattle.fractions.specs.Rational.{ℚ, ◌/ℚ◌, inv_ℚ}
use Rattle.calculations.specs.Calculation.{exact, after, done, followed_by, quotient}
use Rattle.cell_refs.specs.declared.error_kind.ErrorKind.TheVariants as kind
use Rattle.sheet_model.specs.declared.value.Value.{Value}
use Rattle.sheet_model.specs.declared.value.Value.TheVariants.{Number, Text, Logical, Empty, Error}
use Rattle.sheet_model.specs.declared.grid.Arg.TheVariants as arg
use Rattle.sheet_funcs.specs.Arguments as values
use Rattle.sheet_funcs.specs.Sums as sums
use Rattle.sheet_funcs.specs.Sums.{average_of, count_of, how_many}
use Rattle.affine_forms.specs.Forms.{Assignment, AffineForm, worth, IsForm}
use Rattle.affine_forms.specs.Steps.{total, scaled}
use Rattle.affine_forms.proofs.Exact.{exact-followed_by, exact-turned_into}
use Rattle.affine_forms.proofs.Worths.{scaled_worth}
use Rattle.form_values.specs.Meaning.{abs_at, arg_at, elements_of}
use Rattle.form_values.specs.declared.abs.Abs.{Abs}
use Rattle.form_values.specs.declared.abs.Abs.TheVariants.{Known, Affine, Test}
use Rattle.form_values.specs.declared.abs.AbsArg.{AbsArg}
use Rattle.form_values.specs.declared.abs.AbsArg.TheVariants.{One, Area}
use Rattle.form_values.specs.Entries.{entry}
use Rattle.form_table.specs.Items.{mean, average_form, count_form, is_number, forms_of}
use Rattle.form_truth.proofs.Right.{IsRight, IsRightArg}
use Rattle.form_truth.proofs.Exact.{exact-made}
use Rattle.form_truth.proofs.Formed.{mean_is_form}
use Rattle.form_truth.proofs.Fitting.{entry_at}
use Rattle.form_truth.proofs.Collecting.{AreSound, all_forms}
use Rattle.form_truth.proofs.Sums.{of_items_right, total_worth}

-- ---- AVERAGE
-- the mean as a value
abbrev mean_value : List ℚ → Value
mean_value [] = Error kind.Div0
mean_value (x ∷ xs) = Number (exact (sums.total (x ∷ xs)) /ℚ how_many (x ∷ xs))

mean_is : (xs : List ℚ) → exact (sums.mean xs) ≡ arg.One (mean_value xs)
mean_is [] = refl
mean_is (x ∷ xs) =
    exact-turned_into (λ y. arg.One (Number y)) (followed_by (sums.total (x ∷ xs)) (λ s. after (quotient s (how_many (x ∷ xs))) done))
    ∙ ap (λ y. arg.One (Number y)) (exact-followed_by (sums.total (x ∷ xs)) (λ s. after (quotient s (how_many (x ∷ xs))) done))

as_many : (x : Assignment) (fs : List AffineForm) → length (map (worth x) fs) ≡ length fs
as_many x [] = refl
as_many x (f ∷ fs) = ap suc (as_many x fs)

mean_worth : (x : Assignment) (f : AffineForm) (fs : List AffineForm)
    → exact (sums.total (map (worth x) (f ∷ fs))) /ℚ how_many (map (worth x) (f ∷ fs)) ≡ worth x (exact (followed_by (total (f ∷ fs)) (scaled (inv_ℚ (how_many (f ∷ fs))))))
mean_worth x f fs =
    ap₂ (λ s n. s /ℚ Rattle.fractions.specs.Whole.whole_ℚ (pos n)) (total_worth x (f ∷ fs)) (as_many x (f ∷ fs)) ∙ sym (scaled_worth x (inv_ℚ (how_many (f ∷ fs))) (exact (total (f ∷ fs))))
    ∙ ap (worth x) (sym (exact-followed_by (total (f ∷ fs)) (scaled (inv_ℚ (how_many (f ∷ fs))))))

mean_row : (fs : List AffineForm) → AllByRecursion IsForm fs → IsRight (λ x. mean_value (map (worth x) fs)) [] (exact (mean fs))
mean_row [] h = λ x. refl
mean_row (f ∷ fs) h =
    subst (IsRight (λ x. mean_value (map (worth x) (f ∷ fs))) []) (sym (exact-made entry (followed_by (total (f ∷ fs)) (scaled (inv_ℚ (how_many (f ∷ fs)))))))
    (λ x. ap Number (mean_worth x f fs) ∙ sym (entry_at x (exact (followed_by (total (f ∷ fs)) (scaled (inv_ℚ (how_many (f ∷ fs)))))) (mean_is_form f fs h)))

pub average_right : (args : List AbsArg) → AreSound args → IsRightArg (λ x. exact (average_of (map (arg_at x) args))) args (exact (average_form args))
average_right args sound = of_items_right args sound mean_value mean (mean_row (forms_of args) (all_forms args sound)) sums.mean mean_is

-- ---- COUNT
counts : (x : Assignment) (items : List Abs) → length (filter sums.is_number (map (abs_at x) items)) ≡ length (filter is_number items)
counts x [] = refl
counts x (Known (Number y) ∷ items) = ap suc (counts x items)
counts x (Known (Error k) ∷ items) = counts x items
counts x (Known (Text y) ∷ items) = counts x items
counts x (Known (Logical y) ∷ items) = counts x items
counts x (Known Empty ∷ items) = counts x items
counts x (Affine f ∷ items) = ap suc (counts x items)
counts x (Test f r ∷ items) = counts x items

elements_at : (x : Assignment) (a : AbsArg) → values.elements_of (arg_at x a) ≡ map (abs_at x) (elements_of a)
elements_at x (One a) = refl
elements_at x (Area g) = refl

map_append : (x : Assignment) (us bs : List Abs) → map (abs_at x) us ++ map (abs_at x) bs ≡ map (abs_at x) (us ++ bs)
map_append x [] bs = refl
map_append x (a ∷ us) bs = ap (λ vs. abs_at x a ∷ vs) (map_append x us bs)

all_elements : (x : Assignment) (args : List AbsArg) → flat_map values.elements_of (map (arg_at x) args) ≡ map (abs_at x) (flat_map elements_of args)
all_elements x [] = refl
all_elements x (a ∷ args) = ap₂ ◌++◌ (elements_at x a) (all_elements x args) ∙ map_append x (elements_of a) (flat_map elements_of args)

pub count_right : (args : List AbsArg) → IsRightArg (λ x. exact (count_of (map (arg_at x) args))) args (exact (count_form args))
count_right args =
    λ x.
    ap (λ n. arg.One (Number (Rattle.fractions.specs.Whole.whole_ℚ (pos n))))
    (ap (λ vs. length (filter sums.is_number vs)) (all_elements x args) ∙ counts x (flat_map elements_of args))
