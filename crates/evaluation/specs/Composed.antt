-- A part of a formula, composed of its own parts.
use Rattle.std.specs.Prelude.{ℕ, pos, if◌then◌else◌, List, [], ◌∷◌, ◌++◌, Option, Some, None, option_map}
use Rattle.std.specs.Option.{option_and_then}
use Rattle.fractions.specs.Whole.{whole_ℚ}
use Rattle.calculations.specs.Calculation.{Calculation, narrow}
use Rattle.cell_refs.specs.declared.cell.Cell.{Cell}
use Rattle.cell_refs.specs.declared.op.Op.{Op}
use Rattle.cell_refs.specs.declared.error_kind.ErrorKind.TheVariants as kind
use Rattle.formula_ast.specs.declared.func.Func.{Func}
use Rattle.formula_ast.specs.declared.func.Func.TheVariants as func
use Rattle.sheet_model.specs.Operators.{infix_of, single}
use Rattle.sheet_model.specs.declared.value.Value.{Value}
use Rattle.sheet_model.specs.declared.value.Value.TheVariants.{Error, Number}
use Rattle.sheet_model.specs.declared.grid.Arg.{Arg}
use Rattle.sheet_model.specs.declared.grid.Arg.TheVariants.{One, Area as Elements}
use Rattle.sheet_funcs.specs.Lookups.{record_pick}
use Rattle.sheet_funcs.specs.Picks.{pick_of, taken_from}
use Rattle.sheet_funcs.specs.Table.{called}
use Rattle.sheet_funcs.specs.declared.pick.Pick.{Pick}
use Rattle.recalculation.specs.Evaluation.{CellGrid, values_in, at_chosen, chosen_place, without_choice}
use Rattle.recalculation.specs.Looks.{Argument, both, outcomes, elements, picked_cells, column_cells, exchanged, call_looks}
use Rattle.recalculation.specs.Looking.{by_value, known_or_empty, are_known}

-- ---- parts without calls
-- a part that looks at nothing
abbrev pub plain : Arg → Argument Arg
plain v = record { looks = []; outcome = Some v; reference = None }

-- a reference
abbrev pub referred : (Cell → Option Value) → CellGrid → Argument Arg
referred known g =
    record { looks = g.cells; outcome = if are_known known g.cells then Some (Elements (values_in (known_or_empty known) g)) else None; reference = Some g }

-- an operator in front or behind
abbrev pub turned : (Arg → Calculation Arg) → Argument Arg → Argument Arg
turned f a = record { looks = a.looks; outcome = option_and_then (λ v. narrow (f v)) a.outcome; reference = None }

-- an operator between two parts
abbrev pub joined : Op → Argument Arg → Argument Arg → Argument Arg
joined op a b =
    record {
      looks = a.looks ++ b.looks;
      outcome = option_and_then (λ x. option_and_then (λ y. narrow (infix_of op x y)) b.outcome) a.outcome;
      reference = None;
    }

-- ---- functions that choose
-- the value of the argument that is chosen, or what stands where none is
abbrev pub chosen_outcome : Arg → Option (Argument Arg) → Option Arg
chosen_outcome without (Some a) = option_map single a.outcome
chosen_outcome without None = Some without

abbrev pub choosing_outcome : Func → List (Argument Arg) → Option Arg
choosing_outcome f [] = Some (One (Error kind.Value))
choosing_outcome f (a ∷ others) = option_and_then (λ v. chosen_outcome (without_choice f v) (at_chosen others (chosen_place f v))) a.outcome

-- ---- functions of all their arguments
abbrev pub narrow_called : Func → Option (List Arg) → Option Arg
narrow_called f args = option_and_then (λ vs. narrow (called f vs)) args

-- ---- functions that pick from a reference
-- what is picked, where the values of all picked cells are known
abbrev pub picked_outcome : (Cell → Option Value) → CellGrid → Pick → Option Arg
picked_outcome known g p = if are_known known (picked_cells g p) then Some (taken_from (values_in (known_or_empty known) g) p) else None

-- INDEX
abbrev pub index_of_outcome : (Cell → Option Value) → Argument Arg → List (Argument Arg) → Option CellGrid → Option Arg
index_of_outcome known a places None = narrow_called func.Index (outcomes (a ∷ places))
index_of_outcome known a places (Some g) = option_and_then (λ vs. picked_outcome known g (pick_of g.rows g.columns vs)) (outcomes places)

abbrev pub index_outcome : (Cell → Option Value) → List (Argument Arg) → Option Arg
index_outcome known [] = narrow_called func.Index (Some [])
index_outcome known (a ∷ places) = index_of_outcome known a places a.reference

-- VLOOKUP and HLOOKUP
abbrev pub record_outcome : (Cell → Option Value) → CellGrid → List (Argument Arg) → Option Arg
record_outcome known g args =
    option_and_then (λ keys. option_and_then (λ vs. picked_outcome known g (record_pick g.columns keys vs)) (outcomes args)) (elements known (column_cells g 0))

abbrev pub table_outcome : (Cell → Option Value) → Func → (CellGrid → CellGrid) → Argument Arg → Argument Arg → List (Argument Arg) → Option CellGrid → Option Arg
table_outcome known f turned key table rest None = narrow_called f (outcomes (key ∷ table ∷ rest))
table_outcome known f turned key table rest (Some g) = record_outcome known (turned g) (key ∷ rest)

abbrev pub lookup_outcome : (Cell → Option Value) → Func → (CellGrid → CellGrid) → List (Argument Arg) → Option Arg
lookup_outcome known f turned (key ∷ table ∷ rest) = table_outcome known f turned key table rest table.reference
lookup_outcome known f turned args = narrow_called f (outcomes args)

-- ROWS and COLUMNS: the size of a reference, whatever its elements are
abbrev pub size_of_outcome : Func → (CellGrid → ℕ) → Argument Arg → Option CellGrid → Option Arg
size_of_outcome f size a None = narrow_called f (outcomes (a ∷ []))
size_of_outcome f size a (Some g) = Some (One (Number (whole_ℚ (pos (size g)))))

abbrev pub size_outcome : Func → (CellGrid → ℕ) → List (Argument Arg) → Option Arg
size_outcome f size (a ∷ []) = size_of_outcome f size a a.reference
size_outcome f size args = narrow_called f (outcomes args)

-- SUMIF: cells without a known value count as empty, and what is looked at has to be known
abbrev pub filled_or : (Cell → Option Value) → Option CellGrid → Option Arg → Option Arg
filled_or known (Some g) outcome = Some (Elements (values_in (known_or_empty known) g))
filled_or known None outcome = outcome

abbrev pub all_filled : (Cell → Option Value) → List (Argument Arg) → Option (List Arg)
all_filled known [] = Some []
all_filled known (a ∷ args) = both (filled_or known a.reference a.outcome) (all_filled known args)

abbrev pub filled_outcome : (Cell → Option Value) → Func → List (Argument Arg) → Option Arg
filled_outcome known f args = if are_known known (call_looks by_value known f args) then narrow_called f (all_filled known args) else None

-- ---- calls
abbrev pub call_outcome : (Cell → Option Value) → Func → List (Argument Arg) → Option Arg
call_outcome known func.If args = choosing_outcome func.If args
call_outcome known func.IfError args = choosing_outcome func.IfError args
call_outcome known func.Choose args = choosing_outcome func.Choose args
call_outcome known func.Index args = index_outcome known args
call_outcome known func.VLookup args = lookup_outcome known func.VLookup (λ g. g) args
call_outcome known func.HLookup args = lookup_outcome known func.HLookup exchanged args
call_outcome known func.SumIf args = filled_outcome known func.SumIf args
call_outcome known func.Rows args = size_outcome func.Rows (λ g. g.rows) args
call_outcome known func.Columns args = size_outcome func.Columns (λ g. g.columns) args
call_outcome known f args = narrow_called f (outcomes args)

abbrev pub call_part : (Cell → Option Value) → Func → List (Argument Arg) → Argument Arg
call_part known f args = record { looks = call_looks by_value known f args; outcome = call_outcome known f args; reference = None }
