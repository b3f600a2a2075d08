-- The value of a formula over those of the cells (OpenDocument 1.2 part 2, sections 3.2 and 6.14.3, 6.15.4, 6.15.5), as a
-- calculation: operands from left to right, then the operator; of IF, IFERROR and CHOOSE the chosen argument alone.
use Rattle.std.specs.Prelude.{ℕ, suc, Bool, true, false, List, [], ◌∷◌, map, flat_map, length, slice_get, slice_index_or, ℤ, pos, Option, Some, None, Result, Ok, Err}
use Rattle.fractions.specs.Rational.{zero_ℚ}
use Rattle.calculations.specs.Calculation.{Calculation, done, followed_by, turned_into, for_each}
use Rattle.cell_refs.specs.declared.cell.Cell.{Cell}
use Rattle.cell_refs.specs.declared.error_kind.ErrorKind.{ErrorKind}
use Rattle.cell_refs.specs.declared.error_kind.ErrorKind.TheVariants as kind
use Rattle.cell_refs.specs.Areas.{Area, area_height, area_width, cells_of}
use Rattle.formula_ast.specs.Tree.{Tree, Trees, none, more}
use Rattle.formula_ast.specs.Tree as tree
use Rattle.formula_ast.specs.Measures.{listed}
use Rattle.formula_ast.specs.declared.func.Func.{Func}
use Rattle.formula_ast.specs.declared.func.Func.TheVariants as func
use Rattle.sheet_model.specs.Grids.{Rectangle}
use Rattle.sheet_model.specs.Conversions.{logical_in}
use Rattle.sheet_model.specs.Operators.{infix_of, minus_of, percent_of, single}
use Rattle.sheet_model.specs.declared.value.Value.{Value}
use Rattle.sheet_model.specs.declared.value.Value.TheVariants.{Number, Text, Logical, Empty, Error}
use Rattle.sheet_model.specs.declared.grid.Arg.{Arg}
use Rattle.sheet_model.specs.declared.grid.Arg.TheVariants.{One, Area as Elements}
use Rattle.sheet_funcs.specs.Arguments.{value_of, answered}
use Rattle.sheet_funcs.specs.Rounding.{place_of}
use Rattle.sheet_funcs.specs.Criteria.{is_error}
use Rattle.sheet_funcs.specs.Table.{called}

-- ---- references
-- the cells of a reference, in rows and columns, row by row
pub record CellGrid : Type 0 where
  pub rows : ℕ
  pub columns : ℕ
  pub cells : List Cell

-- an area has its rows and columns; the cells of several areas are one column, one area behind the other
abbrev pub grid_of_areas : List Area → CellGrid
grid_of_areas (a ∷ []) = record { rows = area_height a; columns = area_width a; cells = cells_of a }
grid_of_areas areas = let cells = flat_map cells_of areas in record { rows = length cells; columns = 1; cells = cells }

-- their values
abbrev pub values_in : (Cell → Value) → CellGrid → Rectangle
values_in at g = record { rows = g.rows; columns = g.columns; items = map at g.cells }

-- ---- arrays
abbrev pub literal : Tree → Value
literal (tree.Number s x) = Number x
literal (tree.Text s t) = Text t
literal (tree.Logical s b) = Logical b
literal _ = Empty

abbrev pub literals : Trees → List Value
literals none = []
literals (more t ts) = literal t ∷ literals ts

-- ---- functions that choose one of the arguments behind the first
-- IF chooses the second argument where the first is TRUE, and else the third, which is FALSE where it is left out
abbrev pub if_place : Result Bool ErrorKind → Option ℕ
if_place (Ok true) = Some 0
if_place (Ok false) = Some 1
if_place (Err k) = None

abbrev pub if_without : Result Bool ErrorKind → Value
if_without (Ok b) = Logical false
if_without (Err k) = Error k

-- IFERROR chooses the second argument where the first is an error, and else keeps the first
abbrev pub iferror_place : Bool → Option ℕ
iferror_place true = Some 0
iferror_place false = None

abbrev pub is_one_error : Arg → Bool
is_one_error (One v) = is_error v
is_one_error (Elements g) = false

-- CHOOSE chooses the argument at the place that the first says, counted from 1
abbrev pub choose_place : Result ℤ ErrorKind → Option ℕ
choose_place (Ok (pos (suc n))) = Some n
choose_place _ = None

abbrev pub choose_without : Result ℤ ErrorKind → Value
choose_without (Ok n) = Error kind.Value
choose_without (Err k) = Error k

-- which of the arguments behind the first one is chosen, counted from 0, or none
abbrev pub chosen_place : Func → Arg → Option ℕ
chosen_place func.If a = if_place (logical_in (value_of a))
chosen_place func.IfError a = iferror_place (is_one_error (single a))
chosen_place _ a = choose_place (place_of a)

-- what the result is where none is there
abbrev pub without_choice : Func → Arg → Arg
without_choice func.If a = One (if_without (logical_in (value_of a)))
without_choice func.IfError a = single a
without_choice _ a = One (choose_without (place_of a))

-- the argument at such a place
abbrev pub at_chosen : {A : Type 0} → List A → Option ℕ → Option A
at_chosen others (Some n) = slice_get others n
at_chosen others None = None

-- what is chosen counts as a single value where it has one element
abbrev pub chosen_or : Arg → Option (Calculation Arg) → Calculation Arg
chosen_or a (Some c) = turned_into single c
chosen_or a None = done a

abbrev pub choosing : Func → List (Calculation Arg) → Calculation Arg
choosing f [] = answered (Error kind.Value)
choosing f (c ∷ others) = followed_by c (λ a. chosen_or (without_choice f a) (at_chosen others (chosen_place f a)))

-- a function of its arguments
abbrev pub call_of : Func → List (Calculation Arg) → Calculation Arg
call_of func.If cs = choosing func.If cs
call_of func.IfError cs = choosing func.IfError cs
call_of func.Choose cs = choosing func.Choose cs
call_of f cs = followed_by (for_each (λ c. c) cs) (called f)

-- ---- formulas
abbrev mutual
  -- the value of a part of a formula, given those of the cells
  pub evaluated : (Cell → Value) → Tree → Calculation Arg
  evaluated at (tree.Number s x) = answered (Number x)
  evaluated at (tree.Text s t) = answered (Text t)
  evaluated at (tree.Logical s b) = answered (Logical b)
  evaluated at (tree.Fault s k) = answered (Error k)
  evaluated at (tree.Missing s) = answered Empty
  evaluated at (tree.Array s rows columns items) = done (Elements (record { rows = rows; columns = columns; items = literals items }))
  evaluated at (tree.Reference s areas) = done (Elements (values_in at (grid_of_areas (listed areas))))
  evaluated at (tree.Call s f args) = call_of f (all_evaluated at args)
  evaluated at (tree.Plus s x) = evaluated at x
  evaluated at (tree.Minus s x) = followed_by (evaluated at x) minus_of
  evaluated at (tree.Percent s x) = followed_by (evaluated at x) percent_of
  evaluated at (tree.Infix s o x y) = followed_by (evaluated at x) (λ a. followed_by (evaluated at y) (infix_of o a))
  evaluated at (tree.WideNumber s x) = answered (Error kind.Malformed)
  evaluated at (tree.Name s name) = answered (Error kind.Malformed)
  evaluated at (tree.Unknown s name args) = answered (Error kind.Malformed)

  pub all_evaluated : (Cell → Value) → Trees → List (Calculation Arg)
  all_evaluated at none = []
  all_evaluated at (more t ts) = evaluated at t ∷ all_evaluated at ts

-- what a formula leaves in its cell: the value, or the top left element of a grid
abbrev pub left_by : Arg → Value
left_by (One v) = v
left_by (Elements g) = slice_index_or g.items 0 Empty

-- 0 where that is empty
abbrev pub filled : Value → Value
filled Empty = Number zero_ℚ
filled v = v

abbrev pub cell_value : Arg → Value
cell_value a = filled (left_by a)
