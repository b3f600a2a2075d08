-- The grids from which a function picks: the cells of a reference, at which it looks where they are picked, or the elements of
-- another argument.
use Rattle.std.specs.Prelude.{ℕ, ◌+◌, ◌*◌, Bool, true, false, if◌then◌else◌, List, [], ◌∷◌, map, flat_map, slice_get, Option, Some, None}
use Rattle.cell_refs.specs.declared.cell.Cell.{Cell}
use Rattle.sheet_funcs.specs.Arguments.{below}
use Rattle.sheet_funcs.specs.Picks.{from_to}
use Rattle.sheet_funcs.specs.Products.{places_of}
use Rattle.recalculation.specs.Evaluation.{CellGrid}
use Rattle.recalculation.specs.Looks.{both}
use Rattle.form_values.specs.Grids.{Raster}
use Rattle.form_values.specs.declared.abs.Abs.{Abs}
use Rattle.form_values.specs.declared.abs.Abs.TheVariants.{Known}
use Rattle.sheet_model.specs.declared.value.Value.TheVariants.{Empty}
use Rattle.form_table.specs.Wanted.{grid_of}
use Rattle.form_extraction.specs.Parts.{Part, on_part}
use Rattle.form_extraction.specs.declared.forms.Outcome.{Outcome}
use Rattle.form_extraction.specs.declared.forms.Outcome.TheVariants.{Without}

-- rows and columns of elements, none where a cell has no form; and whether they are looked at before it is known which are picked
pub record Source : Type 0 where
  pub rows : ℕ
  pub columns : ℕ
  pub items : List (Option Abs)
  pub is_seen : Bool

abbrev pub of_cells : (Cell → Option Abs) → CellGrid → Source
of_cells forms g = record { rows = g.rows; columns = g.columns; items = map forms g.cells; is_seen = false }

abbrev pub of_raster : Raster → Source
of_raster g = record { rows = g.rows; columns = g.columns; items = map Some g.items; is_seen = true }

-- the elements that are seen then
abbrev pub items_seen : Source → List (Option Abs)
items_seen s = if s.is_seen then s.items else []

abbrev pub in_source : Option CellGrid → (Cell → Option Abs) → Part → (Source → Outcome) → Outcome
in_source (Some g) forms p f = f (of_cells forms g)
in_source None forms p f = on_part p (λ a. f (of_raster (grid_of a)))

abbrev pub on_source : (Cell → Option Abs) → Part → (Source → Outcome) → Outcome
on_source forms p f = in_source p.reference forms p f

-- those of a part with rows and columns turned
abbrev pub in_turned : Option CellGrid → (Cell → Option Abs) → (CellGrid → CellGrid) → (Source → Source) → Part → (Source → Outcome) → Outcome
in_turned (Some g) forms cells turned p f = f (of_cells forms (cells g))
in_turned None forms cells turned p f = on_part p (λ a. f (turned (of_raster (grid_of a))))

abbrev pub on_turned : (Cell → Option Abs) → (CellGrid → CellGrid) → (Source → Source) → Part → (Source → Outcome) → Outcome
on_turned forms cells turned p f = in_turned p.reference forms cells turned p f

-- the elements in some places, if all have forms; outside of the grid there is what is empty
abbrev pub element : Option (Option Abs) → Option Abs
element (Some a) = a
element None = Some (Known Empty)

abbrev pub elements_at : Source → List ℕ → Option (List Abs)
elements_at s [] = Some []
elements_at s (i ∷ places) = both (element (slice_get s.items i)) (elements_at s places)

abbrev pub on_elements : Option (List Abs) → (List Abs → Outcome) → Outcome
on_elements (Some items) f = f items
on_elements None f = Without

abbrev pub taken : Source → List ℕ → (List Abs → Outcome) → Outcome
taken s places f = on_elements (elements_at s places) f

-- ---- places in row order
abbrev pub part_places : Source → ℕ → ℕ → ℕ → ℕ → List ℕ
part_places s top left bottom right = flat_map (λ row. map (λ column. row * s.columns + column) (from_to left right)) (from_to top bottom)

-- those of the first column
abbrev pub key_places : Source → List ℕ
key_places s = map (λ row. row * s.columns) (below s.rows)

-- rows and columns exchanged
abbrev pub exchanged : Source → Source
exchanged s =
    record { rows = s.columns; columns = s.rows; items = map (λ (p : ℕ × ℕ). element (slice_get s.items (p.1 * s.columns + p.0))) (places_of s.columns s.rows); is_seen = s.is_seen }
