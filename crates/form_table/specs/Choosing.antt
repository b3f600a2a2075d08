-- IF whose test is open, IFERROR and CHOOSE (OpenDocument 1.2 part 2, sections 6.15.4, 6.15.5 and 6.14.3). Of an open test: where the two branches agree wherever the test
-- changes its mind, the result is one of them.
use Rattle.std.specs.Prelude.{ℕ, suc, ℤ, pos, Bool, true, false, ◌&&◌, ◌==◌, if◌then◌else◌, List, [], ◌∷◌, slice_get, Option, Some, None, Result, Ok, Err}
use Rattle.fractions.specs.Rational.{ℚ, eq_ℚ}
use Rattle.fractions.specs.Floor.{floor_ℚ}
use Rattle.affine_forms.specs.FromCalculations.{Calculation, followed_by}
use Rattle.cell_refs.specs.declared.error_kind.ErrorKind.{ErrorKind}
use Rattle.cell_refs.specs.declared.error_kind.ErrorKind.TheVariants as kind
use Rattle.form_values.specs.FromSheetModel.{Value}
use Rattle.form_values.specs.FromSheetModel.{Number, Text, Logical, Empty, Error}
use Rattle.affine_forms.specs.Forms.{AffineForm, constant_form, same_form}
use Rattle.affine_forms.specs.Steps.{subtracted, multiple_of}
use Rattle.form_values.specs.Trials.{Trial, given, breaks, undecided, made, and_then}
use Rattle.affine_forms.specs.declared.rel.Rel.{Rel}
use Rattle.affine_forms.specs.declared.rel.Rel.TheVariants as rel
use Rattle.form_values.specs.declared.abs.Abs.{Abs}
use Rattle.form_values.specs.declared.abs.Abs.TheVariants.{Known, Affine, Test}
use Rattle.form_values.specs.declared.abs.AbsArg.{AbsArg}
use Rattle.form_values.specs.declared.abs.AbsArg.TheVariants.{One, Area}
use Rattle.form_table.specs.Wanted.{Wanted, none, single, number_of, known_number}

-- ---- equal values
abbrev pub same_text : List ℕ → List ℕ → Bool
same_text [] [] = true
same_text (b ∷ s) (c ∷ t) = (b == c) && same_text s t
same_text _ _ = false

abbrev pub same_logical : Bool → Bool → Bool
same_logical true b = b
same_logical false b = if b then false else true

-- errors by their place in the list of them
abbrev pub place_of : ErrorKind → ℕ
place_of kind.Div0 = 0
place_of kind.Value = 1
place_of kind.Ref = 2
place_of kind.Num = 3
place_of kind.NotAvailable = 4
place_of kind.Circular = 5
place_of kind.Malformed = 6

abbrev pub same_value : Value → Value → Bool
same_value (Number x) (Number y) = eq_ℚ x y
same_value (Text s) (Text t) = same_text s t
same_value (Logical b) (Logical c) = same_logical b c
same_value Empty Empty = true
same_value (Error k) (Error l) = place_of k == place_of l
same_value _ _ = false

abbrev pub order_of : Rel → ℕ
order_of rel.Lt = 0
order_of rel.Le = 1
order_of rel.Eq = 2
order_of rel.Ne = 3
order_of rel.Ge = 4
order_of rel.Gt = 5

-- of one kind, with one form, relation and value
abbrev pub same_abs : Abs → Abs → Bool
same_abs (Known v) (Known w) = same_value v w
same_abs (Affine o) (Affine p) = same_form o.form p.form
same_abs (Test o r) (Test p s) = same_form o.form p.form && (order_of r == order_of s)
same_abs _ _ = false

abbrev pub same_items : List Abs → List Abs → Bool
same_items [] [] = true
same_items (a ∷ items) (b ∷ others) = same_abs a b && same_items items others
same_items _ _ = false

-- and of one size
abbrev pub same_arg : AbsArg → AbsArg → Bool
same_arg (One a) (One b) = same_abs a b
same_arg (Area g) (Area h) = (g.rows == h.rows) && ((g.columns == h.columns) && same_items g.items h.items)
same_arg _ _ = false

-- ---- branches that are numbers
abbrev pub number_branch : AbsArg → Option AffineForm
number_branch (One (Known (Number x))) = Some (constant_form x)
number_branch (One (Affine o)) = Some o.form
number_branch _ = None

-- the branch, where they do
abbrev pub if_multiple : AbsArg → Bool → Trial AbsArg
if_multiple branch true = given branch
if_multiple branch false = breaks

-- whether the branches differ by a multiple of the form that is tested
abbrev pub differ_by_multiple : AffineForm → AffineForm → AffineForm → Calculation Bool
differ_by_multiple t f g = followed_by (subtracted f g) (λ d. multiple_of d t)

-- one branch, where the two differ by a multiple of t
abbrev pub branch_where : AffineForm → AbsArg → AffineForm → AffineForm → Trial AbsArg
branch_where t branch f g = and_then (made (λ b. b) (differ_by_multiple t f g)) (if_multiple branch)

-- then of a test for 0 the second branch has the value of the first where the tested form is 0, and of a test against 0 the first
-- has that of the second
abbrev pub chosen_by : AffineForm → Rel → AbsArg → AbsArg → AffineForm → AffineForm → Trial AbsArg
chosen_by t rel.Eq one other f g = branch_where t other f g
chosen_by t rel.Ne one other f g = branch_where t one f g
chosen_by t r one other f g = breaks

abbrev pub of_branches : AffineForm → Rel → AbsArg → AbsArg → Option AffineForm → Option AffineForm → Trial AbsArg
of_branches t r one other (Some f) (Some g) = chosen_by t r one other f g
of_branches t r one other _ _ = undecided 0

-- equal branches are the result; numbers are as above; and else the test decides
abbrev pub if_open : AffineForm → Rel → AbsArg → AbsArg → Trial AbsArg
if_open t r one other = if same_arg one other then given one else of_branches t r one other (number_branch one) (number_branch other)

abbrev pub if_test : AffineForm → Rel → AbsArg → AbsArg → Trial AbsArg
if_test t r one other = if_open t r (single one) (single other)

-- ---- IFERROR (section 6.15.5): the second where the first is an error; an open value is none
abbrev pub or_else : AbsArg → AbsArg → AbsArg
or_else other (One (Known (Error k))) = single other
or_else other a = a

abbrev pub iferror_form : AbsArg → AbsArg → AbsArg
iferror_form a other = or_else other (single a)

-- ---- CHOOSE (section 6.14.3): the choice at a place counted from 1; there has to be one, and the place has to be known
abbrev pub found_choice : {A : Type 0} → Option A → Result A ErrorKind
found_choice (Some a) = Ok a
found_choice None = Err kind.Value

abbrev pub choice_at : {A : Type 0} → List A → ℤ → Result A ErrorKind
choice_at choices (pos (suc n)) = found_choice (slice_get choices n)
choice_at choices _ = Err kind.Value

abbrev pub choose_by : {A : Type 0} → List A → Option ℚ → Trial (Result A ErrorKind)
choose_by choices (Some x) = given (choice_at choices (floor_ℚ x))
choose_by choices None = undecided 0

abbrev pub choose_of : {A : Type 0} → List A → Wanted → Trial (Result A ErrorKind)
choose_of choices (none k) = given (Err k)
choose_of choices w = choose_by choices (known_number w)

abbrev pub choose_form : {A : Type 0} → AbsArg → List A → Trial (Result A ErrorKind)
choose_form place choices = choose_of choices (number_of place)
