-- What an operator or a function takes of an open value (OpenDocument 1.2 part 2, section 6.3).
use Rattle.std.specs.Prelude.{if◌then◌else◌, List, [], ◌∷◌, Option, Some, None, Result, Ok, Err}
use Rattle.fractions.specs.Rational.{ℚ}
use Rattle.cell_refs.specs.declared.error_kind.ErrorKind.{ErrorKind}
use Rattle.cell_refs.specs.declared.error_kind.ErrorKind.TheVariants as kind
use Rattle.form_values.specs.FromSheetModel.{number_in}
use Rattle.form_values.specs.FromSheetModel.{Error}
use Rattle.affine_forms.specs.Forms.{AffineForm, constant_form, has_terms}
use Rattle.form_values.specs.Grids.{Raster}
use Rattle.form_values.specs.Trials.{Trial, undecided, fault}
use Rattle.form_values.specs.declared.abs.Abs.{Abs}
use Rattle.form_values.specs.declared.abs.Abs.TheVariants.{Known, Affine, Test}
use Rattle.form_values.specs.declared.abs.AbsArg.{AbsArg}
use Rattle.form_values.specs.declared.abs.AbsArg.TheVariants.{One, Area}

-- ---- one value
abbrev pub only_of : List Abs → Abs
only_of (a ∷ []) = a
only_of _ = Known (Error kind.Value)

-- where one value is wanted: the single value, or the one element of a grid
abbrev pub value_of : AbsArg → Abs
value_of (One a) = a
value_of (Area g) = only_of g.items

-- a grid of one element is that element
abbrev pub one_of : Raster → List Abs → AbsArg
one_of g (a ∷ []) = One a
one_of g items = Area g

abbrev pub single : AbsArg → AbsArg
single (One a) = One a
single (Area g) = one_of g g.items

-- where a grid is wanted, a single value is a grid of one element
abbrev pub grid_of : AbsArg → Raster
grid_of (One a) = record { rows = 1; columns = 1; items = a ∷ [] }
grid_of (Area g) = g

-- ---- a number where one is wanted
-- a form, which may be constant; an open logical; or the error in its place
pub data Wanted : Type 0 where
  form : (f : AffineForm) → Wanted
  open_test : Wanted
  none : (why : ErrorKind) → Wanted

abbrev pub of_number : Result ℚ ErrorKind → Wanted
of_number (Ok x) = form (constant_form x)
of_number (Err k) = none k

abbrev pub wanted : Abs → Wanted
wanted (Known v) = of_number (number_in v)
wanted (Affine o) = form o.form
wanted (Test o r) = open_test

abbrev pub number_of : AbsArg → Wanted
number_of a = wanted (value_of a)

-- the number that is known there
abbrev pub constant_of : AffineForm → Option ℚ
constant_of f = if has_terms f then None else Some f.constant

abbrev pub known_number : Wanted → Option ℚ
known_number (form f) = constant_of f
known_number _ = None

-- ---- the steps of a row on one and on two numbers: an error in the place of one; then an error that known numbers alone
-- make certain; then an open logical; and then what is made of the forms
abbrev pub unless : Option ErrorKind → Trial Abs → Trial Abs
unless (Some k) c = fault k
unless None c = c

abbrev pub on_form : (AffineForm → Trial Abs) → Wanted → Trial Abs
on_form row (none k) = fault k
on_form row open_test = undecided 0
on_form row (form f) = row f

-- both are forms
abbrev pub on_both : (AffineForm → AffineForm → Trial Abs) → Wanted → Wanted → Trial Abs
on_both row (form f) (form g) = row f g
on_both row (form f) _ = undecided 1
on_both row _ y = undecided 0

-- what is certain is said of the second number where that is known
abbrev pub certain_by : (ℚ → Option ErrorKind) → Option ℚ → Option ErrorKind
certain_by certain (Some y) = certain y
certain_by certain None = None

abbrev pub on_forms : (ℚ → Option ErrorKind) → (AffineForm → AffineForm → Trial Abs) → Wanted → Wanted → Trial Abs
on_forms certain row (none k) y = fault k
on_forms certain row x (none k) = fault k
on_forms certain row x y = unless (certain_by certain (known_number y)) (on_both row x y)

-- nothing is certain
abbrev pub no_error : ℚ → Option ErrorKind
no_error y = None
