-- Several cells that get their texts.
use Rattle.std.specs.Prelude.{◌≡◌, ℕ, List, length}
use Rattle.cell_refs.specs.declared.cell.Cell.{Cell}
use Rattle.workbook.specs.declared.held.Held.{Held}
use Rattle.workbook.specs.Held.{IsKept, contents_of, held_at}
use Rattle.workbook.specs.Several.{with_texts}
use Rattle.workbook.specs.State.{Name, formula_count}

-- each cell has its text, and what is held says what the texts say
pub record IsFilled (sheets : List (List ℕ)) (names : List Name) (es : List (Cell × Held)) (texts : List (Cell × List ℕ)) (fs : List (Cell × Held)) : Type 0 where
  pub kept : IsKept sheets names fs (formula_count (contents_of fs))
  pub put : contents_of fs ≡ with_texts (contents_of es) texts

-- of each cell the same is held
pub record AreHeldAlike (es fs : List (Cell × Held)) : Type 0 where
  pub each : (cell : Cell) → held_at fs cell ≡ held_at es cell
  pub len : length fs ≡ length es
