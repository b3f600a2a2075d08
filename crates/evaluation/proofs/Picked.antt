-- The values of picked cells are the picked values.
use Rattle.std.proofs.Common.{◌≡◌, ◌∙◌, ◌<◌, ◌≤◌, ◌+◌, ◌-◌, ◌*◌, length, ℕ, Bool, true, false, if◌then◌else◌, List, [], ◌∷◌, ◌++◌, map, refl, sym, ap, Option, Some, None, arith}
use Rattle.std.specs.Prelude.{flat_map, option_map}
use Rattle.std.specs.List.{AllByRecursion}
use Rattle.std.proofs.lemmas.List.{length-map}
use Rattle.cell_refs.specs.declared.cell.Cell.{Cell}
use Rattle.sheet_model.specs.Operators.{single}
use Rattle.sheet_model.specs.declared.value.Value.{Value}
use Rattle.sheet_model.specs.declared.value.Value.TheVariants.{Empty}
use Rattle.sheet_model.specs.declared.grid.Arg.{Arg}
use Rattle.sheet_model.specs.declared.grid.Arg.TheVariants.{Area as Elements}
use Rattle.sheet_funcs.specs.Arguments.{at}
use Rattle.sheet_funcs.specs.Picks.{from_to, elements_in, taken_from}
use Rattle.sheet_funcs.specs.Within.{IsWithin}
use Rattle.sheet_funcs.specs.declared.pick.Pick.TheVariants.{Part as Picks}
use Rattle.sheet_funcs.proofs.Parts.{part_size}
use Rattle.recalculation.specs.Evaluation.{CellGrid, values_in}
use Rattle.recalculation.specs.Looks.{elements, cell_in, picked_cells}
use Rattle.recalculation.specs.Looking.{known_or_empty, are_known}
use Rattle.recalculation.proofs.GridCells.{IsWhole, cell_value_in, gathered, map_append, range_below}
use Rattle.recalculation.proofs.Lists.{each_weaker}
use Rattle.evaluation.specs.Composed.{picked_outcome}
use Rattle.cell_grids.specs.Full.{IsFullGrid}
use Rattle.evaluation.proofs.Elements.{elements_are}
use Rattle.cell_grids.proofs.LookRows.{full_whole}

module _ (f : Cell → Value) (g : CellGrid) (whole : IsWhole g) (left right : ℕ) (order : left ≤ right) (last : right < g.columns) where
  -- those of a row
  row_values : (row : ℕ) → row < g.rows → map f (flat_map (λ column. cell_in g row column) (from_to left right)) ≡ map (λ column. at (values_in f g) row column) (from_to left right)
  row_values row r =
      gathered f (λ column. cell_in g row column) (λ column. at (values_in f g) row column) (from_to left right)
      (each_weaker (λ column. column < g.columns) (λ column. map f (cell_in g row column) ≡ at (values_in f g) row column ∷ []) (λ column c. cell_value_in f g whole row column r c) (from_to left right)
      (range_below g.columns left (right + 1 - left) (omega (arith, order, last))))

  -- and of some rows
  rows_values : (rows : List ℕ) → AllByRecursion (λ row. row < g.rows) rows
      → map f (flat_map (λ row. flat_map (λ column. cell_in g row column) (from_to left right)) rows) ≡ flat_map (λ row. map (λ column. at (values_in f g) row column) (from_to left right)) rows
  rows_values [] h = refl
  rows_values (row ∷ rows) h =
      map_append f (flat_map (λ column. cell_in g row column) (from_to left right)) _
      ∙ (λ i. (row_values row h.0 i) ++ (rows_values rows h.1 i))

-- the values of the cells of a part of a grid are the elements of that part
part_values : (f : Cell → Value) (g : CellGrid) → IsWhole g → (top left bottom right : ℕ) → IsWithin g.rows g.columns (Picks top left bottom right)
    → map f (picked_cells g (Picks top left bottom right)) ≡ elements_in (values_in f g) top left bottom right
part_values f g whole top left bottom right within =
    let rows = within.rows_in_order in
    let last = within.last_row in
    rows_values f g whole left right within.columns_in_order within.last_column (from_to top bottom) (range_below g.rows top (bottom + 1 - top) (omega (arith, rows, last)))

-- so where all are known they are what is picked
pub picked_is : (known : Cell → Option Value) (now : CellGrid) → IsFullGrid now → (top left bottom right : ℕ) → IsWithin now.rows now.columns (Picks top left bottom right) → (o : Option (List Value))
    → o ≡ elements known (picked_cells now (Picks top left bottom right))
    → option_map (λ items. single (Elements (record { rows = bottom + 1 - top; columns = right + 1 - left; items = items }))) o ≡ picked_outcome known now (Picks top left bottom right)
picked_is known now full top left bottom right within o is =
    ap (option_map one) (is ∙ elements_are known cells) ∙ by (are_known known cells)
  where
    one : List Value → Arg
    one items = single (Elements (record { rows = bottom + 1 - top; columns = right + 1 - left; items = items }))

    cells : List Cell
    cells = picked_cells now (Picks top left bottom right)

    by : (b : Bool) → option_map one (if b then Some (map (known_or_empty known) cells) else None)
        ≡ (if b then Some (taken_from (values_in (known_or_empty known) now) (Picks top left bottom right)) else None)
    by true = ap (λ items. Some (one items)) (part_values (known_or_empty known) now (full_whole now full) top left bottom right within)
    by false = refl

-- how many cells are picked
pub picked_count : (now : CellGrid) → IsFullGrid now → (top left bottom right : ℕ) → IsWithin now.rows now.columns (Picks top left bottom right)
    → length (picked_cells now (Picks top left bottom right)) ≡ (bottom + 1 - top) * (right + 1 - left)
picked_count now full top left bottom right within =
    let value = λ (b : Cell). Empty in
    sym (length-map (picked_cells now (Picks top left bottom right)) value)
    ∙ ap length (part_values value now (full_whole now full) top left bottom right within) ∙ part_size (values_in value now) top left bottom right
