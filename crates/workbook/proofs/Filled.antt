-- No cell has an empty text.
use Rattle.std.proofs.Common.{◌≡◌, ◌≢◌, ℕ, List, [], Option, Some, None, ◌∙◌, refl, sym}
use Rattle.std.proofs.lemmas.Option.{same_Some}
use Rattle.cell_refs.specs.declared.cell.Cell.{Cell}
use Rattle.workbook.specs.declared.held.Held.{Held}
use Rattle.workbook.specs.Filled.{TextsAreSome}
use Rattle.workbook.specs.Held.{IsHeld, IsKept, contents_of, held_at}
use Rattle.workbook.specs.State.{Name}
use Rattle.workbook.proofs.Keeping.{HeldCells, get_text, text_held, the_state}

never_empty : (sheets : List (List ℕ)) (names : List Name) (k : Cell) (o : Option Held) → ((h : Held) → o ≡ Some h → IsHeld sheets names k h) → text_held o ≢ Some []
never_empty sheets names k None each e = cc
never_empty sheets names k (Some h) each e = (each h refl).some (same_Some h.text [] e)

pub all_some : (sheets : List (List ℕ)) (names : List Name) (es : HeldCells) (formulas : ℕ) → IsKept sheets names es formulas → TextsAreSome (the_state sheets (contents_of es) names)
all_some sheets names es formulas kept k e = never_empty sheets names k (held_at es k) (kept.held k) (sym (get_text es k) ∙ e)
