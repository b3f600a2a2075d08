-- Elements of grids from which functions pick.
use Rattle.std.proofs.Common.{◌≡◌, ◌<◌, ◌+◌, ◌*◌, ◌++◌, refl, sym, ap, ap₂, ◌∙◌, arith, ℕ, zero, suc, List, [], ◌∷◌, length, get_or, map, Option, Some, None, true}
use Rattle.std.specs.Prelude.{flat_map, option_to_list, slice_get, slice_index_or}
use Rattle.std.specs.List.{AllByRecursion}
use Rattle.std.proofs.lemmas.List.Concat.{flat_map-append}
use Rattle.std.proofs.lemmas.Option.{slice_get-get_or}
use Rattle.cell_refs.specs.declared.cell.Cell.{Cell}
use Rattle.sheet_model.specs.declared.value.Value.TheVariants.{Empty}
use Rattle.sheet_funcs.specs.Arguments.{below}
use Rattle.sheet_funcs.specs.Picks.{from_to}
use Rattle.sheet_funcs.specs.Products.{places_of}
use Rattle.sheet_funcs.specs.declared.pick.Pick.TheVariants.{Part as Picked}
use Rattle.recalculation.specs.Evaluation.{CellGrid}
use Rattle.recalculation.specs.Looks.{both, cell_in, column_cells, elements}
use Rattle.recalculation.proofs.GridCells.{each_below, each_map}
use Rattle.recalculation.proofs.Lists.{each_weaker}
use Rattle.cell_grids.specs.Full.{IsFullGrid}
use Rattle.cell_grids.proofs.LookRows.{full_whole}
use Rattle.form_values.specs.Grids.{Raster}
use Rattle.form_values.specs.declared.abs.Abs.{Abs}
use Rattle.form_values.specs.declared.abs.Abs.TheVariants.{Known}
use Rattle.form_table.specs.Products.{at, transposed}
use Rattle.form_extraction.specs.Deciding.{cells_at}
use Rattle.form_extraction.specs.Sources.{element, elements_at, exchanged, key_places, of_cells, of_raster}
use Rattle.form_calls.specs.Sources.{cells_in, cells_picked, columns_of}
use Rattle.form_calls.specs.declared.source.Source.{Source}
use Rattle.form_calls.specs.declared.source.Source.TheVariants.{Cells, Values}

-- the element in a place, where there is one and where there isn't
pub item_there : {A : Type 0} (f : A → Option Abs) (items : List A) (i : ℕ) (a : A) → slice_get items i ≡ Some a → element (slice_get (map f items) i) ≡ f a
item_there f [] i a e = cc
item_there f (b ∷ items) zero a e = let s : b ≡ a = cc in ap f s
item_there f (b ∷ items) (suc i) a e = item_there f items i a e

pub nothing_there : {A : Type 0} (f : A → Option Abs) (items : List A) (i : ℕ) → slice_get items i ≡ None → element (slice_get (map f items) i) ≡ Some (Known Empty)
nothing_there f [] i e = refl
nothing_there f (b ∷ items) zero e = cc
nothing_there f (b ∷ items) (suc i) e = nothing_there f items i e

-- a cell that stands where there is none
corner : Cell
corner = record { sheet = record { 0 = 0 }; row = 0; col = 0 }

-- ---- the cells in places
module _ (g : CellGrid) where
  -- those in a part
  row_cells : (row : ℕ) (columns : List ℕ) → flat_map (λ column. cell_in g row column) columns ≡ cells_at g (map (λ column. row * g.columns + column) columns)
  row_cells row [] = refl
  row_cells row (column ∷ columns) = ap (λ cs. cell_in g row column ++ cs) (row_cells row columns)

  pub rows_cells : (columns rows : List ℕ) → flat_map (λ row. flat_map (λ column. cell_in g row column) columns) rows ≡ cells_at g (flat_map (λ row. map (λ column. row * g.columns + column) columns) rows)
  rows_cells columns [] = refl
  rows_cells columns (row ∷ rows) =
      ap₂ (λ a b. a ++ b) (row_cells row columns) (rows_cells columns rows)
      ∙ sym (flat_map-append (λ place. option_to_list (slice_get g.cells place)) (map (λ column. row * g.columns + column) columns) (flat_map (λ row. map (λ column. row * g.columns + column) columns) rows))

  -- those in the first column
  keys_cells : (rows : List ℕ) → flat_map (λ row. cell_in g row 0) rows ≡ cells_at g (map (λ row. row * g.columns) rows)
  keys_cells [] = refl
  keys_cells (row ∷ rows) =
      ap₂ (λ n cs. option_to_list (slice_get g.cells n) ++ cs) (plain (row * g.columns)) (keys_cells rows)
    where
      plain : (n : ℕ) → n + 0 ≡ n
      plain n = omega arith

  pub column_places : (forms : Cell → Option Abs) → column_cells g 0 ≡ cells_at g (key_places (of_cells forms g))
  column_places forms = keys_cells (below g.rows)

  -- ---- forms of cells in places where there are some
  cell_first : (forms : Cell → Option Abs) (i : ℕ) (places : List ℕ) (o : Option Cell) → slice_get g.cells i ≡ o → i < length g.cells → elements forms (cells_at g places) ≡ elements_at (of_cells forms g) places
      → elements forms (option_to_list (slice_get g.cells i) ++ cells_at g places) ≡ both (element (slice_get (map forms g.cells) i)) (elements_at (of_cells forms g) places)
  cell_first forms i places (Some c) e h others =
      ap (λ o. elements forms (option_to_list o ++ cells_at g places)) e ∙ ap (both (forms c)) others
      ∙ ap (λ a. both a (elements_at (of_cells forms g) places)) (sym (item_there forms g.cells i c e))
  cell_first forms i places None e h others = let s : None ≡ Some (get_or g.cells i corner) = sym e ∙ slice_get-get_or g.cells i corner h in cc

  elements_there : (forms : Cell → Option Abs) (places : List ℕ) → AllByRecursion (λ i. i < length g.cells) places → elements forms (cells_at g places) ≡ elements_at (of_cells forms g) places
  elements_there forms [] h = refl
  elements_there forms (i ∷ places) h = cell_first forms i places (slice_get g.cells i) refl h.0 (elements_there forms places h.1)

  pub keys_there : (forms : Cell → Option Abs) → IsFullGrid g → elements forms (column_cells g 0) ≡ elements_at (of_cells forms g) (key_places (of_cells forms g))
  keys_there forms full =
      ap (elements forms) (column_places forms)
      ∙ elements_there forms (key_places (of_cells forms g))
      (each_map (λ i. i < length g.cells) (λ row. row * g.columns) (below g.rows)
      (each_weaker (λ row. row < g.rows) (λ row. row * g.columns < length g.cells) (λ row r. let n = full_whole g full row 0 r full.some_columns in omega (arith, n)) (below g.rows) (each_below g.rows)))

-- ---- rows and columns exchanged
given : (items : List Abs) (i : ℕ) → element (slice_get (map Some items) i) ≡ Some (slice_index_or items i (Known Empty))
given [] i = refl
given (a ∷ items) zero = refl
given (a ∷ items) (suc i) = given items i

pub exchanged_values : (g : Raster) → exchanged (of_raster g) ≡ of_raster (transposed g)
exchanged_values g = ap (λ items. record { rows = g.columns; columns = g.rows; items = items; is_seen = true }) (by (places_of g.columns g.rows))
  where
    by : (ps : List (ℕ × ℕ)) → map (λ (p : ℕ × ℕ). element (slice_get (map Some g.items) (p.1 * g.columns + p.0))) ps ≡ map Some (map (λ (p : ℕ × ℕ). at g p.1 p.0) ps)
    by [] = refl
    by (p ∷ ps) = ap₂ (λ a rest. a ∷ rest) (given g.items (p.1 * g.columns + p.0)) (by ps)

-- ---- the cells of a source
pub part_cells : (s : Source) (top left bottom right : ℕ)
    → cells_picked s (Picked top left bottom right) ≡ cells_in s (flat_map (λ row. map (λ column. row * columns_of s + column) (from_to left right)) (from_to top bottom))
part_cells (Cells g) top left bottom right = rows_cells g.now (from_to left right) (from_to top bottom)
part_cells (Values a) top left bottom right = refl
