-- Cells with a text lie on sheets.
use Rattle.std.proofs.Common.{◌≡◌, ◌∙◌, ℕ, true, List, Option, Some, None, refl, sym, ap}
use Rattle.std.specs.Prelude.{IsSome, is_some}
use Rattle.std.specs.FinMap.{get}
use Rattle.cell_refs.specs.declared.cell.Cell.{Cell}
use Rattle.workbook.specs.declared.held.Held.{Held}
use Rattle.workbook.specs.Held.{IsHeld, IsKept, contents_of, held_at}
use Rattle.cell_refs.specs.Listed.{IsListed}
use Rattle.workbook.specs.Listed.{TextsAreListed}
use Rattle.workbook.specs.State.{Name}
use Rattle.workbook.proofs.Keeping.{HeldCells, get_text, text_held, the_state}

some_listed : (sheets : List (List ℕ)) (names : List Name) (k : Cell) (o : Option Held) → ((h : Held) → o ≡ Some h → IsHeld sheets names k h) → is_some (text_held o) ≡ true → IsListed sheets k
some_listed sheets names k None each some = absurd cc
some_listed sheets names k (Some h) each some = (each h refl).listed

-- a cell with a text lies on a sheet
has_listed : (sheets : List (List ℕ)) (names : List Name) (es : HeldCells) (formulas : ℕ) → IsKept sheets names es formulas → (k : Cell) → IsSome (get (contents_of es) k) → IsListed sheets k
has_listed sheets names es formulas kept k some = some_listed sheets names k (held_at es k) (kept.held k) (sym (ap is_some (get_text es k)) ∙ some)

pub all_listed : (sheets : List (List ℕ)) (names : List Name) (es : HeldCells) (formulas : ℕ) → IsKept sheets names es formulas → TextsAreListed (the_state sheets (contents_of es) names)
all_listed sheets names es formulas kept k text at = has_listed sheets names es formulas kept k (ap is_some at)
