-- The numbers of a list of arguments (OpenDocument 1.2 part 2, sections 6.3.7 and 6.3.8), and SUM, AVERAGE, COUNT, MIN and MAX
-- (sections 6.16.61, 6.18.3, 6.13.6, 6.18.48 and 6.18.45) on open values. An open logical in an area is skipped as a logical is.
use Rattle.std.specs.Prelude.{ℕ, ◌+◌, Bool, true, false, if◌then◌else◌, List, [], ◌∷◌, filter, flat_map, Option, Some, None}
use Rattle.std.specs.List.{filter_map}
use Rattle.fractions.specs.Rational.{ℚ, zero_ℚ, inv_ℚ, le_ℚ}
use Rattle.affine_forms.specs.FromCalculations.{followed_by}
use Rattle.cell_refs.specs.declared.error_kind.ErrorKind.{ErrorKind}
use Rattle.cell_refs.specs.declared.error_kind.ErrorKind.TheVariants as kind
use Rattle.sheet_funcs.specs.Sums.{how_many}
use Rattle.form_values.specs.FromSheetModel.{Number, Error}
use Rattle.affine_forms.specs.Forms.{AffineForm, constant_form, same_terms}
use Rattle.affine_forms.specs.Steps.{total, scaled}
use Rattle.form_values.specs.Trials.{Trial, given, breaks, undecided, made, fault, one}
use Rattle.form_values.specs.declared.abs.Abs.{Abs}
use Rattle.form_values.specs.declared.abs.Abs.TheVariants.{Known, Affine}
use Rattle.form_values.specs.declared.abs.AbsArg.{AbsArg}
use Rattle.form_values.specs.declared.abs.AbsArg.TheVariants.{One, Area}
use Rattle.form_table.specs.Wanted.{Wanted, form, open_test, none, wanted}
use Rattle.form_values.specs.Entries.{entry}
use Rattle.form_values.specs.Meaning.{elements_of}

-- ---- items
-- what an element of an area is among the items; others are skipped
abbrev pub item_at : Abs → Option Wanted
item_at (Known (Number x)) = Some (form (constant_form x))
item_at (Known (Error k)) = Some (none k)
item_at (Affine o) = Some (form o.form)
item_at _ = None

abbrev pub items_in : AbsArg → List Wanted
items_in (One a) = wanted a ∷ []
items_in (Area g) = filter_map item_at g.items

-- the first error among some items
abbrev pub first_error : List Wanted → Option ErrorKind
first_error [] = None
first_error (none k ∷ items) = Some k
first_error (_ ∷ items) = first_error items

-- whether an item is an open logical
abbrev pub has_open : List Wanted → Bool
has_open [] = false
has_open (open_test ∷ items) = true
has_open (_ ∷ items) = has_open items

-- the first argument, counted from i, with an open logical where a number is wanted
abbrev pub first_open : ℕ → List AbsArg → Option ℕ
first_open i [] = None
first_open i (a ∷ args) = if has_open (items_in a) then Some i else first_open (i + 1) args

-- the forms among some items
abbrev pub form_in : Wanted → Option AffineForm
form_in (form f) = Some f
form_in _ = None

abbrev pub forms_of : List AbsArg → List AffineForm
forms_of args = filter_map form_in (flat_map items_in args)

-- an error is the result; then an open logical decides; and then what is made of the forms
abbrev pub on_items : Option ErrorKind → Option ℕ → Trial Abs → Trial AbsArg
on_items (Some k) at c = one (fault k)
on_items None (Some i) c = undecided i
on_items None None c = one c

abbrev pub of_items : List AbsArg → (List AffineForm → Trial Abs) → Trial AbsArg
of_items args f = on_items (first_error (flat_map items_in args)) (first_open 0 args) (f (forms_of args))

-- ---- sums
abbrev pub sum_form : List AbsArg → Trial AbsArg
sum_form args = of_items args (λ fs. made entry (total fs))

abbrev pub mean : List AffineForm → Trial Abs
mean [] = fault kind.Div0
mean fs = made entry (followed_by (total fs) (scaled (inv_ℚ (how_many fs))))

abbrev pub average_form : List AbsArg → Trial AbsArg
average_form args = of_items args mean

-- a number, also an open one
abbrev pub is_number : Abs → Bool
is_number (Known (Number x)) = true
is_number (Affine o) = true
is_number _ = false

-- no error and nothing open stands in the way here
abbrev pub count_form : List AbsArg → Trial AbsArg
count_form args = given (One (Known (Number (how_many (filter is_number (flat_map elements_of args))))))

-- ---- the least and the greatest: of forms that differ by constants alone
abbrev pub extreme : (ℚ → ℚ → Bool) → AffineForm → List AffineForm → Trial Abs
extreme better best [] = given (entry best)
extreme better best (f ∷ fs) =
    if same_terms f.terms best.terms then extreme better (if better f.constant best.constant then f else best) fs else breaks

abbrev pub extreme_of : (ℚ → ℚ → Bool) → List AffineForm → Trial Abs
extreme_of better [] = given (Known (Number zero_ℚ))
extreme_of better (f ∷ fs) = extreme better f fs

abbrev pub min_form : List AbsArg → Trial AbsArg
min_form args = of_items args (extreme_of le_ℚ)

abbrev pub max_form : List AbsArg → Trial AbsArg
max_form args = of_items args (extreme_of (λ x y. le_ℚ y x))
