-- Rows of the form table by example, over two decisions x and y and a test t, which is x>=0. What is expected was worked out by hand.
use Rattle.std.specs.Prelude.{◌≡◌, ℕ, pos, negsuc, Bool, true, false, List, [], ◌∷◌, Option, Some, None, Result, Ok, Err, length}
use Rattle.std.specs.List.{AllByRecursion}
use Rattle.fractions.specs.Rational.{ℚ, frac, zero_ℚ, one_ℚ, neg_ℚ}
use Rattle.fractions.specs.Whole.{whole_ℚ}
use Rattle.affine_forms.specs.FromCalculations.{narrow}
use Rattle.cell_refs.specs.declared.error_kind.ErrorKind.{ErrorKind}
use Rattle.cell_refs.specs.declared.error_kind.ErrorKind.TheVariants as kind
use Rattle.cell_refs.specs.declared.op.Op.TheVariants as op
use Rattle.formula_ast.specs.declared.func.Func.TheVariants as func
use Rattle.form_values.specs.FromSheetModel.{Number, Text, Logical, Empty, Error}
use Rattle.affine_forms.specs.Forms.{AffineForm, decision_form}
use Rattle.affine_forms.specs.declared.rel.Rel.TheVariants as rel
use Rattle.sheet_funcs.specs.declared.pick.Pick.{Pick}
use Rattle.sheet_funcs.specs.declared.pick.Pick.TheVariants.{Part, Fault}
use Rattle.form_values.specs.Entries.{entry, test}
use Rattle.form_values.specs.Trials.{Trial, given, Refusal, Breaks, Undecided}
use Rattle.form_values.specs.declared.abs.Abs.{Abs}
use Rattle.form_values.specs.declared.abs.Abs.TheVariants.{Known}
use Rattle.form_values.specs.declared.abs.AbsArg.{AbsArg}
use Rattle.form_values.specs.declared.abs.AbsArg.TheVariants.{One, Area}
use Rattle.form_table.specs.Operators.{infix_form, minus_form, percent_form}
use Rattle.form_table.specs.Wanted.{number_of}
use Rattle.form_table.specs.Choosing.{if_test, iferror_form, choose_form}
use Rattle.form_table.specs.Lookups.{record_form, kinds_in}
use Rattle.form_table.specs.Criteria.{summed_error}
use Rattle.form_table.specs.Picks.{pick_form}
use Rattle.form_table.specs.Table.{form_called}

-- ---- values
abbrev pub affine : ℚ → List (ℕ × ℚ) → AffineForm
affine c ts = record { constant = c; terms = ts }

abbrev pub x_is : Abs
x_is = entry (decision_form 0)

abbrev pub y_is : Abs
y_is = entry (decision_form 1)

abbrev pub t_is : Abs
t_is = test rel.Ge (decision_form 0)

abbrev pub one_is : Abs
one_is = Known (Number one_ℚ)

abbrev pub letter_is : Abs
letter_is = Known (Text (97 ∷ []))

abbrev pub two_is : Abs
two_is = Known (Number (whole_ℚ (pos 2)))

abbrev pub x : AbsArg
x = One x_is

abbrev pub y : AbsArg
y = One y_is

abbrev pub t : AbsArg
t = One t_is

abbrev pub letter : AbsArg
letter = One letter_is

abbrev pub number : ℚ → AbsArg
number c = One (Known (Number c))

abbrev pub logical : Bool → AbsArg
logical b = One (Known (Logical b))

abbrev pub fails : ErrorKind → AbsArg
fails k = One (Known (Error k))

-- a grid of one column, and of one row
abbrev pub column : List Abs → AbsArg
column items = Area (record { rows = length items; columns = 1; items = items })

abbrev pub line : List Abs → AbsArg
line items = Area (record { rows = 1; columns = length items; items = items })

abbrev pub square : AbsArg
square = Area (record { rows = 2; columns = 2; items = one_is ∷ one_is ∷ one_is ∷ one_is ∷ [] })

-- ---- outcomes on narrow numbers
abbrev pub Outcome : Type 0
Outcome = Option (Result AbsArg Refusal)

abbrev pub is : AbsArg → Outcome
is a = Some (Ok a)

abbrev pub not_affine : Outcome
not_affine = Some (Err Breaks)

abbrev pub open_at : ℕ → Outcome
open_at i = Some (Err (Undecided i))

abbrev pub too_wide : Outcome
too_wide = None

-- a row's trial, and the outcome that it has
abbrev pub Example : Type 0 → Type 0
Example A = Trial A × Option (Result A Refusal)

abbrev pub Hold : {A : Type 0} → List (Example A) → Type 0
Hold {A} examples = AllByRecursion (λ (e : Example A). narrow e.0 ≡ e.1) examples

-- ---- operators
abbrev pub operators : List (Example AbsArg)
operators =
    -- x+y
    (infix_form op.Add x y, is (One (entry (affine (zero_ℚ) ((0, one_ℚ) ∷ (1, one_ℚ) ∷ []))))) ∷
    -- x+3
    (infix_form op.Add x (number (whole_ℚ (pos 3))), is (One (entry (affine (whole_ℚ (pos 3)) ((0, one_ℚ) ∷ []))))) ∷
    -- x-x
    (infix_form op.Sub x x, is (number (zero_ℚ))) ∷
    -- TRUE+x
    (infix_form op.Add (logical true) x, is (One (entry (affine (one_ℚ) ((0, one_ℚ) ∷ []))))) ∷
    -- "a"+x
    (infix_form op.Add letter x, is (fails kind.Value)) ∷
    -- t+1
    (infix_form op.Add t (number (whole_ℚ (pos 1))), open_at 0) ∷
    -- 1+t
    (infix_form op.Add (number (whole_ℚ (pos 1))) t, open_at 1) ∷
    -- t+#N/A
    (infix_form op.Add t (fails kind.NotAvailable), is (fails kind.NotAvailable)) ∷
    -- x*2
    (infix_form op.Mul x (number (whole_ℚ (pos 2))), is (One (entry (affine (zero_ℚ) ((0, (whole_ℚ (pos 2))) ∷ []))))) ∷
    -- 0*x
    (infix_form op.Mul (number (whole_ℚ (pos 0))) x, is (number (zero_ℚ))) ∷
    -- x*y
    (infix_form op.Mul x y, not_affine) ∷
    -- x/2
    (infix_form op.Div x (number (whole_ℚ (pos 2))), is (One (entry (affine (zero_ℚ) ((0, (frac (pos 1) 2)) ∷ []))))) ∷
    -- x/0
    (infix_form op.Div x (number (whole_ℚ (pos 0))), is (fails kind.Div0)) ∷
    -- t/0
    (infix_form op.Div t (number (whole_ℚ (pos 0))), is (fails kind.Div0)) ∷
    -- 2/x
    (infix_form op.Div (number (whole_ℚ (pos 2))) x, not_affine) ∷
    -- x^2
    (infix_form op.Pow x (number (whole_ℚ (pos 2))), not_affine) ∷
    -- x^1
    (infix_form op.Pow x (number (whole_ℚ (pos 1))), is x) ∷
    -- x^0
    (infix_form op.Pow x (number (whole_ℚ (pos 0))), is (number (one_ℚ))) ∷
    -- x^(1/2)
    (infix_form op.Pow x (number (frac (pos 1) 2)), is (fails kind.Num)) ∷
    -- t^(1/2)
    (infix_form op.Pow t (number (frac (pos 1) 2)), is (fails kind.Num)) ∷
    -- 2^x
    (infix_form op.Pow (number (whole_ℚ (pos 2))) x, not_affine) ∷
    -- x&"a"
    (infix_form op.Cat x letter, open_at 0) ∷
    -- "a"&x
    (infix_form op.Cat letter x, open_at 1) ∷
    -- x&#N/A
    (infix_form op.Cat x (fails kind.NotAvailable), is (fails kind.NotAvailable)) ∷
    -- x=x
    (infix_form op.Eq x x, is (logical true)) ∷
    -- x<y
    (infix_form op.Lt x y, is (One (test rel.Lt (affine (zero_ℚ) ((0, one_ℚ) ∷ (1, (neg_ℚ one_ℚ)) ∷ []))))) ∷
    -- 3>=x
    (infix_form op.Ge (number (whole_ℚ (pos 3))) x, is (One (test rel.Ge (affine (whole_ℚ (pos 3)) ((0, (neg_ℚ one_ℚ)) ∷ []))))) ∷
    -- x<>
    (infix_form op.Ne x (One (Known Empty)), is (One (test rel.Ne (affine (zero_ℚ) ((0, one_ℚ) ∷ []))))) ∷
    -- x<"a"
    (infix_form op.Lt x letter, is (logical true)) ∷
    -- x>TRUE
    (infix_form op.Gt x (logical true), is (logical false)) ∷
    -- t>5
    (infix_form op.Gt t (number (whole_ℚ (pos 5))), is (logical true)) ∷
    -- x<t
    (infix_form op.Lt x t, is (logical true)) ∷
    -- t=TRUE
    (infix_form op.Eq t (logical true), open_at 0) ∷
    -- TRUE=t
    (infix_form op.Eq (logical true) t, open_at 1) ∷
    -- t=t
    (infix_form op.Eq t t, open_at 0) ∷
    -- -x
    (minus_form x, is (One (entry (affine (zero_ℚ) ((0, (neg_ℚ one_ℚ)) ∷ []))))) ∷
    -- -t
    (minus_form t, open_at 0) ∷
    -- x%
    (percent_form x, is (One (entry (affine (zero_ℚ) ((0, (frac (pos 1) 100)) ∷ []))))) ∷
    -- {x;1}+{1;y}
    (infix_form op.Add (column (x_is ∷ one_is ∷ [])) (column (one_is ∷ y_is ∷ [])), is (column (entry (affine (one_ℚ) ((0, one_ℚ) ∷ [])) ∷ entry (affine (one_ℚ) ((1, one_ℚ) ∷ [])) ∷ []))) ∷
    -- {x;1}*{y;1}
    (infix_form op.Mul (column (x_is ∷ one_is ∷ [])) (column (y_is ∷ one_is ∷ [])), not_affine) ∷
    -- {x;1}+{1;2;3}
    (infix_form op.Add (column (x_is ∷ one_is ∷ [])) (column (one_is ∷ one_is ∷ one_is ∷ [])), is (fails kind.Value)) ∷
    -- {x}+1 of a grid of one element
    (infix_form op.Add (column (x_is ∷ [])) (number (whole_ℚ (pos 1))), is (One (entry (affine (one_ℚ) ((0, one_ℚ) ∷ []))))) ∷
    -- x*10^38 with 10^38 as the coefficient of x
    (infix_form op.Mul (One (entry (affine (zero_ℚ) ((0, (whole_ℚ (pos 100000000000000000000000000000000000000))) ∷ [])))) (number (whole_ℚ (pos 100000000000000000000000000000000000000))), too_wide) ∷
    -- 0*t
    (infix_form op.Mul (number (whole_ℚ (pos 0))) t, open_at 1) ∷
    -- x/t
    (infix_form op.Div x t, open_at 1) ∷
    -- 0/x
    (infix_form op.Div (number (whole_ℚ (pos 0))) x, not_affine) ∷
    -- x^TRUE
    (infix_form op.Pow x (logical true), is x) ∷
    -- x^"a"
    (infix_form op.Pow x letter, is (fails kind.Value)) ∷
    -- x^1001
    (infix_form op.Pow x (number (whole_ℚ (pos 1001))), is (fails kind.Num)) ∷
    -- x^-1
    (infix_form op.Pow x (number (whole_ℚ (negsuc 0))), not_affine) ∷
    -- ""<t
    (infix_form op.Lt (One (Known (Text []))) t, is (logical true)) ∷
    -- t>
    (infix_form op.Gt t (One (Known Empty)), is (logical true)) ∷
    -- x=""
    (infix_form op.Eq x (One (Known (Text []))), is (logical false)) ∷
    -- {t;1}+{1;2;3}
    (infix_form op.Add (column (t_is ∷ one_is ∷ [])) (column (one_is ∷ one_is ∷ one_is ∷ [])), is (fails kind.Value)) ∷
    []

-- ---- IF and IFERROR
abbrev pub choices : List (Example AbsArg)
choices =
    -- IF(x=0;y;x+y)
    (if_test (decision_form 0) rel.Eq y (One (entry (affine (zero_ℚ) ((0, one_ℚ) ∷ (1, one_ℚ) ∷ [])))), is (One (entry (affine (zero_ℚ) ((0, one_ℚ) ∷ (1, one_ℚ) ∷ []))))) ∷
    -- IF(x<>0;x+y;y)
    (if_test (decision_form 0) rel.Ne (One (entry (affine (zero_ℚ) ((0, one_ℚ) ∷ (1, one_ℚ) ∷ [])))) y, is (One (entry (affine (zero_ℚ) ((0, one_ℚ) ∷ (1, one_ℚ) ∷ []))))) ∷
    -- IF(x<>0;y;x+y)
    (if_test (decision_form 0) rel.Ne y (One (entry (affine (zero_ℚ) ((0, one_ℚ) ∷ (1, one_ℚ) ∷ [])))), is y) ∷
    -- IF(x=0;1;y)
    (if_test (decision_form 0) rel.Eq (number (whole_ℚ (pos 1))) y, not_affine) ∷
    -- IF(x>=0;x;0)
    (if_test (decision_form 0) rel.Ge x (number (whole_ℚ (pos 0))), not_affine) ∷
    -- IF(x>=0;y;y)
    (if_test (decision_form 0) rel.Ge y y, is y) ∷
    -- IF(x>=0;"a";1)
    (if_test (decision_form 0) rel.Ge letter (number (whole_ℚ (pos 1))), open_at 0) ∷
    -- IF(x=0;{1;1};1)
    (if_test (decision_form 0) rel.Eq (column (one_is ∷ one_is ∷ [])) (number (whole_ℚ (pos 1))), open_at 0) ∷
    -- IF(t;;0)
    (if_test (decision_form 0) rel.Ge (One (Known Empty)) (number (whole_ℚ (pos 0))), open_at 0) ∷
    -- IF(t;{1};1)
    (if_test (decision_form 0) rel.Ge (column (one_is ∷ [])) (number one_ℚ), is (number one_ℚ)) ∷
    -- IF(t;#N/A;#N/A)
    (if_test (decision_form 0) rel.Ge (fails kind.NotAvailable) (fails kind.NotAvailable), is (fails kind.NotAvailable)) ∷
    -- IF(x<>0;y;1)
    (if_test (decision_form 0) rel.Ne y (number (whole_ℚ (pos 1))), not_affine) ∷
    -- IFERROR(x;1)
    (given (iferror_form x (number one_ℚ)), is x) ∷
    -- IFERROR(#N/A;x)
    (given (iferror_form (fails kind.NotAvailable) x), is x) ∷
    []

-- ---- functions
abbrev pub functions : List (Example AbsArg)
functions =
    -- SUM(x;{y;t;"a"};TRUE)
    (form_called func.Sum (x ∷ column (y_is ∷ t_is ∷ letter_is ∷ []) ∷ logical true ∷ []), is (One (entry (affine (one_ℚ) ((0, one_ℚ) ∷ (1, one_ℚ) ∷ []))))) ∷
    -- SUM(x;t)
    (form_called func.Sum (x ∷ t ∷ []), open_at 1) ∷
    -- SUM(t;#N/A)
    (form_called func.Sum (t ∷ fails kind.NotAvailable ∷ []), is (fails kind.NotAvailable)) ∷
    -- AVERAGE(x;y)
    (form_called func.Average (x ∷ y ∷ []), is (One (entry (affine (zero_ℚ) ((0, (frac (pos 1) 2)) ∷ (1, (frac (pos 1) 2)) ∷ []))))) ∷
    -- AVERAGE({t;"a"})
    (form_called func.Average (column (t_is ∷ letter_is ∷ []) ∷ []), is (fails kind.Div0)) ∷
    -- COUNT(x;t;#N/A;1)
    (form_called func.Count (x ∷ t ∷ fails kind.NotAvailable ∷ (number (whole_ℚ (pos 1))) ∷ []), is (number (whole_ℚ (pos 2)))) ∷
    -- MIN(x+1;x+3)
    (form_called func.Min (One (entry (affine (one_ℚ) ((0, one_ℚ) ∷ []))) ∷ One (entry (affine (whole_ℚ (pos 3)) ((0, one_ℚ) ∷ []))) ∷ []), is (One (entry (affine (one_ℚ) ((0, one_ℚ) ∷ []))))) ∷
    -- MAX(x+1;x+3)
    (form_called func.Max (One (entry (affine (one_ℚ) ((0, one_ℚ) ∷ []))) ∷ One (entry (affine (whole_ℚ (pos 3)) ((0, one_ℚ) ∷ []))) ∷ []), is (One (entry (affine (whole_ℚ (pos 3)) ((0, one_ℚ) ∷ []))))) ∷
    -- MIN(x;y)
    (form_called func.Min (x ∷ y ∷ []), not_affine) ∷
    -- MAX(x;1)
    (form_called func.Max (x ∷ (number (whole_ℚ (pos 1))) ∷ []), not_affine) ∷
    -- ABS(x)
    (form_called func.Abs (x ∷ []), not_affine) ∷
    -- ABS(t)
    (form_called func.Abs (t ∷ []), open_at 0) ∷
    -- ABS({x;1})
    (form_called func.Abs (column (x_is ∷ one_is ∷ []) ∷ []), is (fails kind.Value)) ∷
    -- INT(x)
    (form_called func.Int (x ∷ []), not_affine) ∷
    -- MOD(x;2)
    (form_called func.Mod (x ∷ (number (whole_ℚ (pos 2))) ∷ []), not_affine) ∷
    -- MOD(t;0)
    (form_called func.Mod (t ∷ (number (whole_ℚ (pos 0))) ∷ []), is (fails kind.Div0)) ∷
    -- MOD(t;2)
    (form_called func.Mod (t ∷ (number (whole_ℚ (pos 2))) ∷ []), open_at 0) ∷
    -- MOD(x;t)
    (form_called func.Mod (x ∷ t ∷ []), open_at 1) ∷
    -- ROUND(x)
    (form_called func.Round (x ∷ []), not_affine) ∷
    -- ROUND(x;y)
    (form_called func.Round (x ∷ y ∷ []), not_affine) ∷
    -- ROUND(2;x)
    (form_called func.Round ((number (whole_ℚ (pos 2))) ∷ x ∷ []), open_at 1) ∷
    -- ROUND(t;2000)
    (form_called func.Round (t ∷ (number (whole_ℚ (pos 2000))) ∷ []), is (fails kind.Num)) ∷
    -- POWER(x;1)
    (form_called func.Power (x ∷ (number (whole_ℚ (pos 1))) ∷ []), is x) ∷
    -- POWER(2;3)
    (form_called func.Power ((number (whole_ℚ (pos 2))) ∷ (number (whole_ℚ (pos 3))) ∷ []), is (number (whole_ℚ (pos 8)))) ∷
    -- AND(TRUE;x)
    (form_called func.And (logical true ∷ x ∷ []), is (One (test rel.Ne (affine (zero_ℚ) ((0, one_ℚ) ∷ []))))) ∷
    -- AND(t;FALSE)
    (form_called func.And (t ∷ logical false ∷ []), is (logical false)) ∷
    -- AND(TRUE;t;x)
    (form_called func.And (logical true ∷ t ∷ x ∷ []), open_at 1) ∷
    -- OR(t;TRUE)
    (form_called func.Or (t ∷ logical true ∷ []), is (logical true)) ∷
    -- OR({"a"};t)
    (form_called func.Or (column (letter_is ∷ []) ∷ t ∷ []), is t) ∷
    -- NOT(t)
    (form_called func.Not (t ∷ []), is (One (test rel.Lt (affine (zero_ℚ) ((0, one_ℚ) ∷ []))))) ∷
    -- NOT(x)
    (form_called func.Not (x ∷ []), is (One (test rel.Eq (affine (zero_ℚ) ((0, one_ℚ) ∷ []))))) ∷
    -- N(x)
    (form_called func.N (x ∷ []), is x) ∷
    -- N(t)
    (form_called func.N (t ∷ []), open_at 0) ∷
    -- ISNUMBER(x)
    (form_called func.IsNumber (x ∷ []), is (logical true)) ∷
    -- ISNUMBER(t)
    (form_called func.IsNumber (t ∷ []), is (logical false)) ∷
    -- ISBLANK(t)
    (form_called func.IsBlank (t ∷ []), is (logical false)) ∷
    -- TRANSPOSE({x;1})
    (form_called func.Transpose (column (x_is ∷ one_is ∷ []) ∷ []), is (line (x_is ∷ one_is ∷ []))) ∷
    -- SUMPRODUCT({x;1};{1;y})
    (form_called func.SumProduct (column (x_is ∷ one_is ∷ []) ∷ column (one_is ∷ y_is ∷ []) ∷ []), is (One (entry (affine (zero_ℚ) ((0, one_ℚ) ∷ (1, one_ℚ) ∷ []))))) ∷
    -- SUMPRODUCT({x;1};{y;1})
    (form_called func.SumProduct (column (x_is ∷ one_is ∷ []) ∷ column (y_is ∷ one_is ∷ []) ∷ []), not_affine) ∷
    -- SUMPRODUCT({t;1};{x;1})
    (form_called func.SumProduct (column (t_is ∷ one_is ∷ []) ∷ column (x_is ∷ one_is ∷ []) ∷ []), is (number (one_ℚ))) ∷
    -- MMULT(a line {1 1}; {x;y})
    (form_called func.MMult (line (one_is ∷ one_is ∷ []) ∷ column (x_is ∷ y_is ∷ []) ∷ []), is (line (entry (affine (zero_ℚ) ((0, one_ℚ) ∷ (1, one_ℚ) ∷ [])) ∷ []))) ∷
    -- MATCH(x;{1;1};0)
    (form_called func.Match (x ∷ column (one_is ∷ one_is ∷ []) ∷ (number (whole_ℚ (pos 0))) ∷ []), open_at 0) ∷
    -- MATCH(1;{x;1};0)
    (form_called func.Match ((number (whole_ℚ (pos 1))) ∷ column (x_is ∷ one_is ∷ []) ∷ (number (whole_ℚ (pos 0))) ∷ []), open_at 1) ∷
    -- MATCH(1;{1;1};x)
    (form_called func.Match ((number (whole_ℚ (pos 1))) ∷ column (one_is ∷ one_is ∷ []) ∷ x ∷ []), open_at 2) ∷
    -- COUNTIF({x;1};1)
    (form_called func.CountIf (column (x_is ∷ one_is ∷ []) ∷ (number (whole_ℚ (pos 1))) ∷ []), open_at 0) ∷
    -- COUNTIF({1;1};x)
    (form_called func.CountIf (column (one_is ∷ one_is ∷ []) ∷ x ∷ []), open_at 1) ∷
    -- COUNTIF({x;1};#N/A)
    (form_called func.CountIf (column (x_is ∷ one_is ∷ []) ∷ fails kind.NotAvailable ∷ []), is (fails kind.NotAvailable)) ∷
    -- ROUND(x;t)
    (form_called func.Round (x ∷ t ∷ []), open_at 1) ∷
    -- ROUND(t;x)
    (form_called func.Round (t ∷ x ∷ []), open_at 0) ∷
    -- MOD(2;x)
    (form_called func.Mod ((number (whole_ℚ (pos 2))) ∷ x ∷ []), not_affine) ∷
    -- AND("a";t)
    (form_called func.And (letter ∷ t ∷ []), is (fails kind.Value)) ∷
    -- AND(FALSE;#N/A;t)
    (form_called func.And (logical false ∷ fails kind.NotAvailable ∷ t ∷ []), is (fails kind.NotAvailable)) ∷
    -- AND({x;t})
    (form_called func.And (column (x_is ∷ t_is ∷ []) ∷ []), open_at 0) ∷
    -- MIN({t;1})
    (form_called func.Min (column (t_is ∷ one_is ∷ []) ∷ []), is (number (one_ℚ))) ∷
    -- MAX({t})
    (form_called func.Max (column (t_is ∷ []) ∷ []), is (number (zero_ℚ))) ∷
    -- MIN(x;t)
    (form_called func.Min (x ∷ t ∷ []), open_at 1) ∷
    -- N({x;1})
    (form_called func.N (column (x_is ∷ one_is ∷ []) ∷ []), is (fails kind.Value)) ∷
    -- ISNUMBER({x;1})
    (form_called func.IsNumber (column (x_is ∷ one_is ∷ []) ∷ []), is (logical false)) ∷
    -- SUMPRODUCT({x;1};{1;1;1})
    (form_called func.SumProduct (column (x_is ∷ one_is ∷ []) ∷ column (one_is ∷ one_is ∷ one_is ∷ []) ∷ []), is (fails kind.Value)) ∷
    -- SUMPRODUCT(x;0;y)
    (form_called func.SumProduct (x ∷ (number (whole_ℚ (pos 0))) ∷ y ∷ []), is (number (zero_ℚ))) ∷
    -- SUMPRODUCT(x;y;0)
    (form_called func.SumProduct (x ∷ y ∷ (number (whole_ℚ (pos 0))) ∷ []), not_affine) ∷
    -- SUMPRODUCT(t)
    (form_called func.SumProduct (t ∷ []), is (number (zero_ℚ))) ∷
    -- MMULT({t};{1})
    (form_called func.MMult (column (t_is ∷ []) ∷ column (one_is ∷ []) ∷ []), is (fails kind.Value)) ∷
    -- MATCH(x;{;#N/A})
    (form_called func.Match (x ∷ column (Known Empty ∷ Known (Error kind.NotAvailable) ∷ []) ∷ []), is (fails kind.NotAvailable)) ∷
    -- MATCH(x; a grid of two rows and two columns)
    (form_called func.Match (x ∷ square ∷ []), is (fails kind.NotAvailable)) ∷
    -- MATCH(x;{1;1};t)
    (form_called func.Match (x ∷ column (one_is ∷ one_is ∷ []) ∷ t ∷ []), open_at 2) ∷
    -- MATCH(x;{1;1};#N/A)
    (form_called func.Match (x ∷ column (one_is ∷ one_is ∷ []) ∷ fails kind.NotAvailable ∷ []), is (fails kind.NotAvailable)) ∷
    -- MATCH(0;{1;x};1)
    (form_called func.Match (number zero_ℚ ∷ column (one_is ∷ x_is ∷ []) ∷ (number (whole_ℚ (pos 1))) ∷ []), is (fails kind.NotAvailable)) ∷
    -- MATCH(0;{x;1};1)
    (form_called func.Match (number zero_ℚ ∷ column (x_is ∷ one_is ∷ []) ∷ (number (whole_ℚ (pos 1))) ∷ []), open_at 1) ∷
    -- MATCH(1;{1;2;x};1)
    (form_called func.Match (number one_ℚ ∷ column (one_is ∷ two_is ∷ x_is ∷ []) ∷ (number (whole_ℚ (pos 1))) ∷ []), open_at 1) ∷
    -- MATCH(2;{;1;x};-1)
    (form_called func.Match (number (whole_ℚ (pos 2)) ∷ column (Known Empty ∷ one_is ∷ x_is ∷ []) ∷ (number (whole_ℚ (negsuc 0))) ∷ []), is (fails kind.NotAvailable)) ∷
    -- MATCH(0;{1;x};-1)
    (form_called func.Match (number zero_ℚ ∷ column (one_is ∷ x_is ∷ []) ∷ (number (whole_ℚ (negsuc 0))) ∷ []), open_at 1) ∷
    -- MATCH(0;{1;x};0)
    (form_called func.Match (number zero_ℚ ∷ column (one_is ∷ x_is ∷ []) ∷ (number (whole_ℚ (pos 0))) ∷ []), open_at 1) ∷
    -- MATCH(0;{1;x};y)
    (form_called func.Match (number zero_ℚ ∷ column (one_is ∷ x_is ∷ []) ∷ y ∷ []), open_at 1) ∷
    -- MATCH(0;{1;2};t)
    (form_called func.Match (number zero_ℚ ∷ column (one_is ∷ two_is ∷ []) ∷ t ∷ []), open_at 2) ∷
    -- MATCH(5;{1;2};t)
    (form_called func.Match (number (whole_ℚ (pos 5)) ∷ column (one_is ∷ two_is ∷ []) ∷ t ∷ []), open_at 2) ∷
    -- MATCH(0;{1;x};t)
    (form_called func.Match (number zero_ℚ ∷ column (one_is ∷ x_is ∷ []) ∷ t ∷ []), open_at 2) ∷
    -- MATCH(y;{1;2};t)
    (form_called func.Match (y ∷ column (one_is ∷ two_is ∷ []) ∷ t ∷ []), open_at 2) ∷
    -- ROWS({x;1})
    (form_called func.Rows (column (x_is ∷ one_is ∷ []) ∷ []), is (number (whole_ℚ (pos 2)))) ∷
    -- COLUMNS({x;1})
    (form_called func.Columns (column (x_is ∷ one_is ∷ []) ∷ []), is (number (one_ℚ))) ∷
    []

-- ---- INDEX: which part of a grid is picked, by the number of its rows and columns
abbrev pub picks : List (Example Pick)
picks =
    -- INDEX({1;2};x;5)
    (pick_form 2 1 (x ∷ (number (whole_ℚ (pos 5))) ∷ []), Some (Ok (Fault kind.Ref))) ∷
    -- INDEX({1;2};t;x)
    (pick_form 2 1 (t ∷ x ∷ []), Some (Err (Undecided 1))) ∷
    -- INDEX({1;2};x;t)
    (pick_form 2 1 (x ∷ t ∷ []), Some (Err (Undecided 2))) ∷
    -- INDEX({1;2};5;x)
    (pick_form 2 1 ((number (whole_ℚ (pos 5))) ∷ x ∷ []), Some (Ok (Fault kind.Ref))) ∷
    -- INDEX({1;2};x)
    (pick_form 2 1 (x ∷ []), Some (Err (Undecided 1))) ∷
    -- INDEX({1;2};2)
    (pick_form 2 1 ((number (whole_ℚ (pos 2))) ∷ []), Some (Ok (Part 1 0 1 0))) ∷
    -- INDEX({1;2};0;1)
    (pick_form 2 1 ((number (whole_ℚ (pos 0))) ∷ (number (whole_ℚ (pos 1))) ∷ []), Some (Ok (Part 0 0 1 0))) ∷
    -- INDEX({1;2};x;#N/A)
    (pick_form 2 1 (x ∷ fails kind.NotAvailable ∷ []), Some (Ok (Fault kind.NotAvailable))) ∷
    []

-- ---- VLOOKUP: which record and field is found, by the number of fields and the keys
abbrev pub records : List (Example (Result (ℕ × ℕ) ErrorKind))
records =
    -- VLOOKUP(x;{1;2};0)
    (record_form 1 (one_is ∷ two_is ∷ []) (x_is) (number_of ((number (whole_ℚ (pos 0))))) (kinds_in ([])), Some (Ok (Err kind.Value))) ∷
    -- VLOOKUP(x;{1;2};9)
    (record_form 1 (one_is ∷ two_is ∷ []) (x_is) (number_of ((number (whole_ℚ (pos 9))))) (kinds_in ([])), Some (Ok (Err kind.Ref))) ∷
    -- VLOOKUP(x;{;#N/A};1)
    (record_form 1 (Known Empty ∷ Known (Error kind.NotAvailable) ∷ []) (x_is) (number_of ((number (whole_ℚ (pos 1))))) (kinds_in ([])), Some (Ok (Err kind.NotAvailable))) ∷
    -- VLOOKUP(0;{1;2};1;x)
    (record_form 1 (one_is ∷ two_is ∷ []) (Known (Number zero_ℚ)) (number_of ((number (whole_ℚ (pos 1))))) (kinds_in (x ∷ [])), Some (Ok (Err kind.NotAvailable))) ∷
    -- VLOOKUP(5;{1;2};1;x)
    (record_form 1 (one_is ∷ two_is ∷ []) (Known (Number (whole_ℚ (pos 5)))) (number_of ((number (whole_ℚ (pos 1))))) (kinds_in (x ∷ [])), Some (Err (Undecided 3))) ∷
    -- VLOOKUP(5;{1;2};1)
    (record_form 1 (one_is ∷ two_is ∷ []) (Known (Number (whole_ℚ (pos 5)))) (number_of ((number (whole_ℚ (pos 1))))) (kinds_in ([])), Some (Ok (Ok (1, 0)))) ∷
    -- VLOOKUP(5;{1;2};1;FALSE)
    (record_form 1 (one_is ∷ two_is ∷ []) (Known (Number (whole_ℚ (pos 5)))) (number_of ((number (whole_ℚ (pos 1))))) (kinds_in (logical false ∷ [])), Some (Ok (Err kind.NotAvailable))) ∷
    -- VLOOKUP(x;{1;2};1)
    (record_form 1 (one_is ∷ two_is ∷ []) (x_is) (number_of ((number (whole_ℚ (pos 1))))) (kinds_in ([])), Some (Err (Undecided 0))) ∷
    -- VLOOKUP(1;{x;2};1)
    (record_form 1 (x_is ∷ two_is ∷ []) (one_is) (number_of ((number (whole_ℚ (pos 1))))) (kinds_in ([])), Some (Err (Undecided 1))) ∷
    -- VLOOKUP(1;{1;2};x)
    (record_form 1 (one_is ∷ two_is ∷ []) (one_is) (number_of (x)) (kinds_in ([])), Some (Err (Undecided 2))) ∷
    -- VLOOKUP(x;{1;2};t)
    (record_form 1 (one_is ∷ two_is ∷ []) (x_is) (number_of (t)) (kinds_in ([])), Some (Err (Undecided 2))) ∷
    -- VLOOKUP(x;{1;2};y)
    (record_form 1 (one_is ∷ two_is ∷ []) (x_is) (number_of (y)) (kinds_in ([])), Some (Err (Undecided 0))) ∷
    -- VLOOKUP(0;{1;x};1)
    (record_form 1 (one_is ∷ x_is ∷ []) (Known (Number zero_ℚ)) (number_of ((number (whole_ℚ (pos 1))))) (kinds_in ([])), Some (Ok (Err kind.NotAvailable))) ∷
    -- VLOOKUP(1;{1;2;x};1)
    (record_form 1 (one_is ∷ two_is ∷ x_is ∷ []) (one_is) (number_of ((number (whole_ℚ (pos 1))))) (kinds_in ([])), Some (Err (Undecided 1))) ∷
    -- VLOOKUP(0;{1;x};1;FALSE)
    (record_form 1 (one_is ∷ x_is ∷ []) (Known (Number zero_ℚ)) (number_of ((number (whole_ℚ (pos 1))))) (kinds_in (logical false ∷ [])), Some (Err (Undecided 1))) ∷
    -- VLOOKUP(0;{1;x};1;y)
    (record_form 1 (one_is ∷ x_is ∷ []) (Known (Number zero_ℚ)) (number_of ((number (whole_ℚ (pos 1))))) (kinds_in (y ∷ [])), Some (Err (Undecided 1))) ∷
    -- VLOOKUP(#N/A;{1;2};0)
    (record_form 1 (one_is ∷ two_is ∷ []) (Known (Error kind.NotAvailable)) (number_of ((number (whole_ℚ (pos 0))))) (kinds_in ([])), Some (Ok (Err kind.NotAvailable))) ∷
    []

-- ---- CHOOSE: which of two choices
abbrev pub choose : List (Example (Result AbsArg ErrorKind))
choose =
    -- CHOOSE(2;x;y)
    (choose_form ((number (whole_ℚ (pos 2)))) (x ∷ y ∷ []), Some (Ok (Ok y))) ∷
    -- CHOOSE(3;x;y)
    (choose_form ((number (whole_ℚ (pos 3)))) (x ∷ y ∷ []), Some (Ok (Err kind.Value))) ∷
    -- CHOOSE(0;x;y)
    (choose_form ((number (whole_ℚ (pos 0)))) (x ∷ y ∷ []), Some (Ok (Err kind.Value))) ∷
    -- CHOOSE(x;x;y)
    (choose_form (x) (x ∷ y ∷ []), Some (Err (Undecided 0))) ∷
    -- CHOOSE(t;x;y)
    (choose_form (t) (x ∷ y ∷ []), Some (Err (Undecided 0))) ∷
    -- CHOOSE(#N/A;x;y)
    (choose_form (fails kind.NotAvailable) (x ∷ y ∷ []), Some (Ok (Err kind.NotAvailable))) ∷
    []

-- ---- SUMIF: which error is the first among the summed elements whatever the open elements of the tested grid hold
abbrev pub missing_is : Abs
missing_is = Known (Error kind.NotAvailable)

abbrev pub fault_is : Abs
fault_is = Known (Error kind.Value)

abbrev pub certain : List (Example (Option ErrorKind))
certain =
    -- SUMIF({1;x};1;{#N/A;y})
    (given (summed_error (Number one_ℚ) (missing_is ∷ y_is ∷ []) (one_is ∷ x_is ∷ [])), Some (Ok (Some kind.NotAvailable))) ∷
    -- SUMIF({2;x};1;{#N/A;y})
    (given (summed_error (Number one_ℚ) (missing_is ∷ y_is ∷ []) (two_is ∷ x_is ∷ [])), Some (Ok None)) ∷
    -- SUMIF({x;1};1;{#N/A;#VALUE!})
    (given (summed_error (Number one_ℚ) (missing_is ∷ fault_is ∷ []) (x_is ∷ one_is ∷ [])), Some (Ok None)) ∷
    -- SUMIF({x;1};1;{#N/A;#N/A})
    (given (summed_error (Number one_ℚ) (missing_is ∷ missing_is ∷ []) (x_is ∷ one_is ∷ [])), Some (Ok (Some kind.NotAvailable))) ∷
    -- SUMIF({t;1};1;{y;#N/A})
    (given (summed_error (Number one_ℚ) (y_is ∷ missing_is ∷ []) (t_is ∷ one_is ∷ [])), Some (Ok (Some kind.NotAvailable))) ∷
    -- SUMIF({x;1};1;{#N/A;y})
    (given (summed_error (Number one_ℚ) (missing_is ∷ y_is ∷ []) (x_is ∷ one_is ∷ [])), Some (Ok None)) ∷
    -- SUMIF({t;2;1};1;{#N/A;#VALUE!;#N/A})
    (given (summed_error (Number one_ℚ) (missing_is ∷ fault_is ∷ missing_is ∷ []) (t_is ∷ two_is ∷ one_is ∷ [])), Some (Ok (Some kind.NotAvailable))) ∷
    -- SUMIF({t;1};1;{#N/A;#VALUE!})
    (given (summed_error (Number one_ℚ) (missing_is ∷ fault_is ∷ []) (t_is ∷ one_is ∷ [])), Some (Ok None)) ∷
    -- of {1} and {y;#N/A}, where the tested elements are fewer
    (given (summed_error (Number one_ℚ) (y_is ∷ missing_is ∷ []) (one_is ∷ [])), Some (Ok None)) ∷
    []
