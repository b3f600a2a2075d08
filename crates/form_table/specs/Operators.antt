-- The operators (OpenDocument 1.2 part 2, section 6.4) on open values, singly and element by element on grids.
use Rattle.std.specs.Prelude.{pos, Bool, true, false, ◌&&◌, ◌==◌, if◌then◌else◌, List, zip, Option, Some, None}
use Rattle.std.specs.declared.cmp.Ordering.TheVariants.{Less, Greater}
use Rattle.fractions.specs.Rational.{ℚ, zero_ℚ, one_ℚ, inv_ℚ, eq_ℚ}
use Rattle.fractions.specs.Whole.{whole_ℚ}
use Rattle.cell_refs.specs.declared.op.Op.{Op}
use Rattle.cell_refs.specs.declared.op.Op.TheVariants as op
use Rattle.cell_refs.specs.declared.error_kind.ErrorKind.{ErrorKind}
use Rattle.cell_refs.specs.declared.error_kind.ErrorKind.TheVariants as kind
use Rattle.form_values.specs.FromSheetModel.{is_zero, is_exponent}
use Rattle.form_values.specs.FromSheetModel.{asks_for, infix_value, minus_value, percent_value}
use Rattle.form_values.specs.FromSheetModel.{Number, Logical, Empty, Error}
use Rattle.affine_forms.specs.Forms.{AffineForm, constant_form, negated}
use Rattle.affine_forms.specs.Steps.{added, subtracted, scaled}
use Rattle.form_values.specs.Grids.{Raster}
use Rattle.form_values.specs.Trials.{Trial, given, breaks, undecided, made, fault, and_then, each_tried, one}
use Rattle.affine_forms.specs.declared.rel.Rel.{Rel}
use Rattle.affine_forms.specs.declared.rel.Rel.TheVariants as rel
use Rattle.form_values.specs.declared.abs.Abs.{Abs}
use Rattle.form_values.specs.declared.abs.Abs.TheVariants.{Known, Affine, Test}
use Rattle.form_values.specs.declared.abs.AbsArg.{AbsArg}
use Rattle.form_values.specs.declared.abs.AbsArg.TheVariants.{One, Area}
use Rattle.form_table.specs.Wanted.{single, wanted, constant_of, on_form, on_forms, no_error}
use Rattle.form_values.specs.Entries.{entry, test}

-- ---- arithmetic
-- a form times a number
abbrev pub multiplied : ℚ → AffineForm → Trial Abs
multiplied k f = made entry (scaled k f)

-- x * y: a known number scales the other factor
abbrev pub by_constants : AffineForm → AffineForm → Option ℚ → Option ℚ → Trial AffineForm
by_constants f g (Some k) l = made (λ h. h) (scaled k g)
by_constants f g None (Some l) = made (λ h. h) (scaled l f)
by_constants f g None None = breaks

abbrev pub times : AffineForm → AffineForm → Trial AffineForm
times f g = by_constants f g (constant_of f) (constant_of g)

abbrev pub product_row : AffineForm → AffineForm → Trial Abs
product_row f g = and_then (times f g) (λ h. given (entry h))

-- x / y: a known number divides
abbrev pub divided_by : AffineForm → Option ℚ → Trial Abs
divided_by f (Some y) = multiplied (inv_ℚ y) f
divided_by f None = breaks

abbrev pub quotient_row : AffineForm → AffineForm → Trial Abs
quotient_row f g = divided_by f (constant_of g)

abbrev pub zero_divisor : ℚ → Option ErrorKind
zero_divisor y = if is_zero y then Some kind.Div0 else None

-- x ^ y: with the known exponents 0 and 1
abbrev pub raised_to : AffineForm → Option ℚ → Trial Abs
raised_to f (Some y) = if is_zero y then given (Known (Number one_ℚ)) else if eq_ℚ y one_ℚ then given (entry f) else breaks
raised_to f None = breaks

abbrev pub power_row : AffineForm → AffineForm → Trial Abs
power_row f g = raised_to f (constant_of g)

abbrev pub no_exponent : ℚ → Option ErrorKind
no_exponent y = if is_exponent y then None else Some kind.Num

-- ---- texts
-- a text is joined of known values alone
abbrev pub joined : Abs → Abs → Trial Abs
joined (Known (Error k)) b = fault k
joined a (Known (Error k)) = fault k
joined (Known v) b = undecided 1
joined a b = undecided 0

-- ---- comparisons
abbrev pub relation_of : Op → Rel
relation_of op.Lt = rel.Lt
relation_of op.Le = rel.Le
relation_of op.Ne = rel.Ne
relation_of op.Ge = rel.Ge
relation_of op.Gt = rel.Gt
relation_of _ = rel.Eq

-- a value that compares as a number
abbrev pub comparable : Abs → Option AffineForm
comparable (Known (Number x)) = Some (constant_form x)
comparable (Known Empty) = Some (constant_form zero_ℚ)
comparable (Affine o) = Some o.form
comparable _ = None

-- a side that is no number is greater than one that is
abbrev pub compared_sides : Op → Option AffineForm → Option AffineForm → Trial Abs
compared_sides o (Some f) (Some g) = made (test (relation_of o)) (subtracted f g)
compared_sides o (Some f) None = given (Known (Logical (asks_for o Less)))
compared_sides o None y = given (Known (Logical (asks_for o Greater)))

abbrev pub is_logical : Abs → Bool
is_logical (Known (Logical b)) = true
is_logical (Test o r) = true
is_logical _ = false

-- an open logical is greater than what is no logical
abbrev pub compared_row : Op → Abs → Abs → Trial Abs
compared_row o (Test t r) b = if is_logical b then undecided 0 else given (Known (Logical (asks_for o Greater)))
compared_row o a (Test t r) = if is_logical a then undecided 1 else given (Known (Logical (asks_for o Less)))
compared_row o a b = compared_sides o (comparable a) (comparable b)

abbrev pub compared : Op → Abs → Abs → Trial Abs
compared o (Known (Error k)) b = fault k
compared o a (Known (Error k)) = fault k
compared o a b = compared_row o a b

-- ---- operators on single values
abbrev pub infix_row : Op → Abs → Abs → Trial Abs
infix_row op.Add a b = on_forms no_error (λ f g. made entry (added f g)) (wanted a) (wanted b)
infix_row op.Sub a b = on_forms no_error (λ f g. made entry (subtracted f g)) (wanted a) (wanted b)
infix_row op.Mul a b = on_forms no_error product_row (wanted a) (wanted b)
infix_row op.Div a b = on_forms zero_divisor quotient_row (wanted a) (wanted b)
infix_row op.Pow a b = on_forms no_exponent power_row (wanted a) (wanted b)
infix_row op.Cat a b = joined a b
infix_row o a b = compared o a b

-- where both values are known it is the operator on them
abbrev pub infix_abs : Op → Abs → Abs → Trial Abs
infix_abs o (Known v) (Known w) = made Known (infix_value o v w)
infix_abs o a b = infix_row o a b

abbrev pub minus_abs : Abs → Trial Abs
minus_abs (Known v) = made Known (minus_value v)
minus_abs a = on_form (λ f. given (entry (negated f))) (wanted a)

abbrev pub percent_abs : Abs → Trial Abs
percent_abs (Known v) = made Known (percent_value v)
percent_abs a = on_form (multiplied (inv_ℚ (whole_ℚ (pos 100)))) (wanted a)

-- ---- element by element
abbrev pub with_items : Raster → List Abs → AbsArg
with_items g items = Area (record { rows = g.rows; columns = g.columns; items = items })

abbrev pub grid_made : Raster → Trial (List Abs) → Trial AbsArg
grid_made g c = and_then c (λ items. given (with_items g items))

abbrev pub on_each : (Abs → Trial Abs) → AbsArg → Trial AbsArg
on_each f (One a) = one (f a)
on_each f (Area g) = grid_made g (each_tried f g.items)

abbrev pub on_pairs : (Abs → Abs → Trial Abs) → AbsArg → AbsArg → Trial AbsArg
on_pairs f (One a) (One b) = one (f a b)
on_pairs f (One a) (Area h) = grid_made h (each_tried (f a) h.items)
on_pairs f (Area g) (One b) = grid_made g (each_tried (λ a. f a b) g.items)
on_pairs f (Area g) (Area h) =
    if (g.rows == h.rows) && (g.columns == h.columns)
    then grid_made g (each_tried (λ (p : Abs × Abs). f p.0 p.1) (zip g.items h.items))
    else given (One (Known (Error kind.Value)))

-- an infix operator, minus and %
abbrev pub infix_form : Op → AbsArg → AbsArg → Trial AbsArg
infix_form o a b = on_pairs (infix_abs o) (single a) (single b)

abbrev pub minus_form : AbsArg → Trial AbsArg
minus_form a = on_each minus_abs (single a)

abbrev pub percent_form : AbsArg → Trial AbsArg
percent_form a = on_each percent_abs (single a)
