-- The functions of formulas on open values, each with its row. IF, IFERROR and CHOOSE are none of them, since a formula looks at one
-- of their arguments alone; neither are INDEX, VLOOKUP, HLOOKUP and SUMIF, since it doesn't look at all of a reference.
use Rattle.std.specs.Prelude.{ℕ, pos, true, false, if◌then◌else◌, List, [], ◌∷◌, map}
use Rattle.std.specs.List.{list_all}
use Rattle.cell_refs.specs.declared.error_kind.ErrorKind.TheVariants as kind
use Rattle.formula_ast.specs.declared.func.Func.{Func}
use Rattle.formula_ast.specs.declared.func.Func.TheVariants as func
use Rattle.fractions.specs.Whole.{whole_ℚ}
use Rattle.sheet_funcs.specs.Table.{called}
use Rattle.form_values.specs.FromSheetModel.{Number, Logical}
use Rattle.form_values.specs.Grids.{Raster}
use Rattle.form_values.specs.Trials.{Trial, given, made, fault, one}
use Rattle.form_values.specs.declared.abs.Abs.TheVariants.{Known}
use Rattle.form_values.specs.declared.abs.AbsArg.{AbsArg}
use Rattle.form_values.specs.declared.abs.AbsArg.TheVariants.{One}
use Rattle.form_table.specs.Wanted.{grid_of}
use Rattle.form_values.specs.Known.{all_known, values_in, known_arg}
use Rattle.form_table.specs.Items.{sum_form, average_form, count_form, min_form, max_form}
use Rattle.form_table.specs.Products.{sumproduct_form, mmult_form, transpose_form}
use Rattle.form_table.specs.Rounding.{bent_form, mod_form, round_form, power_form}
use Rattle.form_table.specs.Logic.{junction, not_form, n_form, isnumber_form, isblank_form}
use Rattle.form_table.specs.Lookups.{match_form}
use Rattle.form_table.specs.Criteria.{countif_form}

-- ---- so many arguments; with others there is no such formula
abbrev pub of_one : (AbsArg → Trial AbsArg) → List AbsArg → Trial AbsArg
of_one f (a ∷ []) = f a
of_one f _ = one (fault kind.Value)

abbrev pub of_two : (AbsArg → AbsArg → Trial AbsArg) → List AbsArg → Trial AbsArg
of_two f (a ∷ b ∷ []) = f a b
of_two f _ = one (fault kind.Value)

-- ROWS and COLUMNS: how many there are, whatever the elements
abbrev pub size_form : (Raster → ℕ) → AbsArg → Trial AbsArg
size_form count a = given (One (Known (Number (whole_ℚ (pos (count (grid_of a)))))))

-- what a function makes of arguments some of which are open; IF, IFERROR, CHOOSE, INDEX, VLOOKUP, HLOOKUP and SUMIF have no row here,
-- and an error stands in its place
abbrev pub row_of : Func → List AbsArg → Trial AbsArg
row_of func.Sum args = sum_form args
row_of func.Average args = average_form args
row_of func.Count args = count_form args
row_of func.SumProduct args = sumproduct_form args
row_of func.MMult args = of_two mmult_form args
row_of func.Transpose args = of_one transpose_form args
row_of func.Match args = match_form args
row_of func.CountIf args = of_two countif_form args
row_of func.And args = junction false args
row_of func.Or args = junction true args
row_of func.Not args = of_one not_form args
row_of func.True args = given (One (Known (Logical true)))
row_of func.False args = given (One (Known (Logical false)))
row_of func.Abs args = of_one bent_form args
row_of func.Int args = of_one bent_form args
row_of func.Min args = min_form args
row_of func.Max args = max_form args
row_of func.Mod args = of_two mod_form args
row_of func.Round args = round_form args
row_of func.Power args = of_two power_form args
row_of func.N args = of_one n_form args
row_of func.IsNumber args = of_one isnumber_form args
row_of func.IsBlank args = of_one isblank_form args
row_of func.Rows args = of_one (size_form (λ g. g.rows)) args
row_of func.Columns args = of_one (size_form (λ g. g.columns)) args
row_of f args = one (fault kind.Value)

-- of known arguments it is the function
abbrev pub form_called : Func → List AbsArg → Trial AbsArg
form_called f args = if list_all all_known args then made known_arg (called f (map values_in args)) else row_of f args
