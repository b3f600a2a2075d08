-- The values of a workbook with its tables of forms, told apart.
use Rattle.std.specs.Prelude.{ℕ, List, refl}
use Rattle.std.specs.Coded.{Coded, code_by, coded×, coded_list, coded_ℕ}
use Rattle.std.specs.FinMap.{FinMap}
use Rattle.std.specs.Ordering.{nat_cmp}
use Rattle.cell_refs.specs.Cells.{cell_cmp, coded_cell}
use Rattle.cell_refs.specs.declared.cell.Cell.{Cell}
use Rattle.formula_ast.specs.Code.{Mark, back, from_marks, to_marks}
use Rattle.formula_ast.specs.Tree.{Tree}
use Rattle.sheet_solving.specs.FromFormExtraction.{CellForm}
use Rattle.workbook.specs.Codes.{state_code}
use Rattle.workbook.specs.State.{State}
use Rattle.sheet_solving.specs.FromKeptForms.{SheetKept}
use Rattle.kept_book.specs.Kept.{KeptState}

-- by codes of the marks of trees, and of the forms of cells and of sides
abbrev pub tables_code : Coded (List Mark) → Coded (FinMap cell_cmp CellForm) → Coded (FinMap nat_cmp CellForm) → Coded (List SheetKept)
tables_code marks cells sides = coded_list
    (code_by (ℕ × (List Cell × (List (ℕ × Tree) × (FinMap cell_cmp CellForm × FinMap nat_cmp CellForm))))
    (coded× coded_ℕ (coded× (coded_list coded_cell) (coded× (coded_list (coded× coded_ℕ (code_by (List Mark) marks to_marks from_marks back))) (coded× cells sides))))
    (λ t. (t.sheet, (t.kept.decisions, (t.kept.sides, (t.kept.table.cells, t.kept.table.sides)))))
    (λ p. record { sheet = p.0; kept = record { decisions = p.1.0; sides = p.1.1.0; table = record { cells = p.1.1.1.0; sides = p.1.1.1.1 } } })
    (λ _. refl))

abbrev pub kept_code : Coded (List SheetKept) → Coded KeptState
kept_code tables_code = code_by (State × List SheetKept) (coded× state_code tables_code) (λ k. (k.book, k.tables)) (λ p. record { book = p.0; tables = p.1 }) (λ _. refl)
