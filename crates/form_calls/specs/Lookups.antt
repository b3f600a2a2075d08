-- A lookup in the rows of a grid.
use Rattle.std.specs.Prelude.{ℕ, List, ◌∷◌, map, Option}
use Rattle.cell_refs.specs.declared.cell.Cell.{Cell}
use Rattle.cell_refs.specs.declared.span.Span.{Span}
use Rattle.recalculation.specs.Looks.{outcomes, then_cells}
use Rattle.form_values.specs.declared.abs.Abs.{Abs}
use Rattle.form_extraction.specs.Calls.{lookup_by}
use Rattle.form_extraction.specs.Deciding.{record_by}
use Rattle.form_extraction.specs.Parts.{Part, argument, on_part, on_parts, value_in}
use Rattle.form_extraction.specs.declared.forms.Outcome.{Outcome}
use Rattle.form_extraction.specs.Sources as grids
use Rattle.form_extraction.specs.Sources.{elements_at, key_places, taken}
use Rattle.form_calls.specs.declared.source.Source.{Source}
use Rattle.form_calls.specs.Sources.{cells_picked, columns_of, source_of}

-- what is found of a key by some further arguments
abbrev pub found_outcome : Span → List Part → grids.Source → Part → List Part → Outcome
found_outcome whole parts s key rest =
    on_part key (λ k. taken s (key_places s) (λ keys. on_parts rest (λ args. lookup_by whole parts s keys (k ∷ args))))

-- the cell at which it looks then
abbrev pub found_cells : (Cell → Option Abs) → Source → List ℕ → Part → List Part → List Cell
found_cells forms s places key rest =
    then_cells (value_in key.outcome) (λ k. then_cells (elements_at (source_of forms s) places) (λ keys.
    then_cells (outcomes (map argument rest)) (λ args. then_cells (record_by (columns_of s) keys (k ∷ args)) (cells_picked s))))
