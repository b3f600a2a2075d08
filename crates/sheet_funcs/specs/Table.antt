-- The functions of formulas, each with what it makes of its arguments. IF, IFERROR and CHOOSE are none of them, since a formula
-- looks at one of their arguments alone.
use Rattle.std.specs.Prelude.{Bool, true, false, List}
use Rattle.calculations.specs.Calculation.{Calculation}
use Rattle.cell_refs.specs.declared.error_kind.ErrorKind.TheVariants as kind
use Rattle.formula_ast.specs.declared.func.Func.{Func}
use Rattle.formula_ast.specs.declared.func.Func.TheVariants as func
use Rattle.sheet_model.specs.declared.value.Value.TheVariants.{Error}
use Rattle.sheet_model.specs.declared.grid.Arg.{Arg}
use Rattle.sheet_funcs.specs.Arguments.{of_one, of_two, answered}
use Rattle.sheet_funcs.specs.Sums.{sum_of, average_of, count_of, min_of, max_of}
use Rattle.sheet_funcs.specs.Products.{sumproduct_of, mmult_of, transpose_of}
use Rattle.sheet_funcs.specs.Rounding.{abs_of, int_of, mod_of, round_of, power_of}
use Rattle.sheet_funcs.specs.Picks.{index_of}
use Rattle.sheet_funcs.specs.Lookups.{match_of, vlookup_of, hlookup_of}
use Rattle.sheet_funcs.specs.Criteria.{sumif_of, countif_of}
use Rattle.sheet_funcs.specs.Logic.{and_of, or_of, not_of, true_of, false_of}
use Rattle.sheet_funcs.specs.Information.{n_of, isnumber_of, isblank_of, rows_of, columns_of}

-- whether a formula looks at one of the function's arguments after the other
abbrev pub is_choosing : Func → Bool
is_choosing func.If = true
is_choosing func.IfError = true
is_choosing func.Choose = true
is_choosing _ = false

-- what a function makes of its arguments
abbrev pub called : Func → List Arg → Calculation Arg
called func.Sum args = sum_of args
called func.Average args = average_of args
called func.Count args = count_of args
called func.SumProduct args = sumproduct_of args
called func.MMult args = of_two mmult_of args
called func.Transpose args = of_one transpose_of args
called func.Index args = index_of args
called func.Match args = match_of args
called func.VLookup args = vlookup_of args
called func.HLookup args = hlookup_of args
called func.SumIf args = sumif_of args
called func.CountIf args = of_two countif_of args
called func.And args = and_of args
called func.Or args = or_of args
called func.Not args = of_one not_of args
called func.True args = true_of
called func.False args = false_of
called func.Abs args = of_one abs_of args
called func.Min args = min_of args
called func.Max args = max_of args
called func.Int args = of_one int_of args
called func.Mod args = of_two mod_of args
called func.Round args = round_of args
called func.Power args = of_two power_of args
called func.N args = of_one n_of args
called func.IsNumber args = of_one isnumber_of args
called func.IsBlank args = of_one isblank_of args
called func.Rows args = of_one rows_of args
called func.Columns args = of_one columns_of args
called func.Choose args = answered (Error kind.Value)
called func.If args = answered (Error kind.Value)
called func.IfError args = answered (Error kind.Value)
