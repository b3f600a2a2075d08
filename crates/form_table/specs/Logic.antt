-- AND, OR, NOT, N, ISNUMBER and ISBLANK (OpenDocument 1.2 part 2, sections 6.15.2, 6.15.8, 6.15.7, 6.13.26, 6.13.22 and 6.13.11) on
-- open values. An affine form is TRUE where it isn't 0.
use Rattle.std.specs.Prelude.{ℕ, ◌+◌, Bool, true, false, not, List, [], ◌∷◌, ◌++◌, Option, Some, None, option_map, Result, Ok, Err}
use Rattle.std.specs.List.{filter_map, list_any}
use Rattle.cell_refs.specs.declared.error_kind.ErrorKind.{ErrorKind}
use Rattle.cell_refs.specs.declared.error_kind.ErrorKind.TheVariants as kind
use Rattle.form_values.specs.FromSheetModel.{logical_in}
use Rattle.form_values.specs.FromSheetModel.{Logical, Empty, Error}
use Rattle.sheet_funcs.specs.Items.{logical_at}
use Rattle.sheet_funcs.specs.Information.{number_or_zero}
use Rattle.affine_forms.specs.Relations.{reversed}
use Rattle.form_values.specs.Trials.{Trial, given, undecided, fault, one}
use Rattle.affine_forms.specs.declared.rel.Rel.TheVariants as rel
use Rattle.form_values.specs.declared.abs.Abs.{Abs}
use Rattle.form_values.specs.declared.abs.Abs.TheVariants.{Known, Affine, Test}
use Rattle.form_values.specs.declared.abs.AbsArg.{AbsArg}
use Rattle.form_values.specs.declared.abs.AbsArg.TheVariants.{One, Area}
use Rattle.form_table.specs.Wanted.{value_of}
use Rattle.form_table.specs.Items.{is_number}

-- ---- AND and OR
-- what a value is among the logicals: a known one, an error, or an open one with the argument that it stands in
pub data Truth : Type 0 where
  known : (holds : Bool) → Truth
  none : (why : ErrorKind) → Truth
  opened : (argument : ℕ) (test : Abs) → Truth

abbrev pub of_logical : Result Bool ErrorKind → Truth
of_logical (Ok b) = known b
of_logical (Err k) = none k

abbrev pub truth_of : ℕ → Abs → Truth
truth_of i (Known v) = of_logical (logical_in v)
truth_of i (Affine o) = opened i (Test o rel.Ne)
truth_of i (Test o r) = opened i (Test o r)

-- an element of an area that is no number and no logical is skipped
abbrev pub element_truth : ℕ → Abs → Option Truth
element_truth i (Known v) = option_map of_logical (logical_at v)
element_truth i a = Some (truth_of i a)

abbrev pub truths_in : ℕ → AbsArg → List Truth
truths_in i (One a) = truth_of i a ∷ []
truths_in i (Area g) = filter_map (element_truth i) g.items

abbrev pub truths_of : ℕ → List AbsArg → List Truth
truths_of i [] = []
truths_of i (a ∷ args) = truths_in i a ++ truths_of (i + 1) args

abbrev pub first_error : List Truth → Option ErrorKind
first_error [] = None
first_error (none k ∷ ts) = Some k
first_error (_ ∷ ts) = first_error ts

-- the known logicals, and the open ones
abbrev pub known_in : Truth → Option Bool
known_in (known b) = Some b
known_in _ = None

abbrev pub open_in : Truth → Option (ℕ × Abs)
open_in (opened i a) = Some (i, a)
open_in _ = None

-- without a deciding known value one open logical is the result, of several the first decides, and of none all are the other value
abbrev pub of_open : Bool → List (ℕ × Abs) → Trial Abs
of_open deciding [] = given (Known (Logical (not deciding)))
of_open deciding (t ∷ []) = given t.1
of_open deciding (t ∷ ts) = undecided t.0

abbrev pub is_same : Bool → Bool → Bool
is_same true b = b
is_same false b = not b

abbrev pub decided_by : Bool → Bool → Trial Abs → Trial Abs
decided_by deciding true c = given (Known (Logical deciding))
decided_by deciding false c = c

abbrev pub of_truths : Bool → List Truth → Option ErrorKind → Trial Abs
of_truths deciding ts (Some k) = fault k
of_truths deciding [] None = fault kind.Value
of_truths deciding (t ∷ ts) None =
    decided_by deciding (list_any (is_same deciding) (filter_map known_in (t ∷ ts))) (of_open deciding (filter_map open_in (t ∷ ts)))

-- a known FALSE decides AND, and a known TRUE decides OR
abbrev pub junction : Bool → List AbsArg → Trial AbsArg
junction deciding args = let ts = truths_of 0 args in one (of_truths deciding ts (first_error ts))

-- ---- one value
abbrev pub not_logical : Result Bool ErrorKind → Abs
not_logical (Ok b) = Known (Logical (not b))
not_logical (Err k) = Known (Error k)

abbrev pub not_abs : Abs → Abs
not_abs (Known v) = not_logical (logical_in v)
not_abs (Affine o) = Test o rel.Eq
not_abs (Test o r) = Test o (reversed r)

abbrev pub not_form : AbsArg → Trial AbsArg
not_form a = given (One (not_abs (value_of a)))

-- an open logical is 1 or 0
abbrev pub n_abs : Abs → Trial Abs
n_abs (Known v) = given (Known (number_or_zero v))
n_abs (Affine o) = given (Affine o)
n_abs (Test o r) = undecided 0

abbrev pub n_form : AbsArg → Trial AbsArg
n_form a = one (n_abs (value_of a))

abbrev pub isnumber_form : AbsArg → Trial AbsArg
isnumber_form a = given (One (Known (Logical (is_number (value_of a)))))

abbrev pub is_blank : Abs → Bool
is_blank (Known Empty) = true
is_blank _ = false

abbrev pub isblank_form : AbsArg → Trial AbsArg
isblank_form a = given (One (Known (Logical (is_blank (value_of a)))))
