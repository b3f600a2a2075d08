-- A part of a formula looks at the cells of its references alone.
use Rattle.std.specs.Prelude.{◌&&◌, ◌==◌, slice_get, option_to_list, option_map}
use Rattle.std.proofs.Common.{Bool, true, false, if◌then◌else◌, List, [], ◌∷◌, map, Option, Some, None, ℕ, zero, suc}
use Rattle.std.specs.List.{AllByRecursion}
use Rattle.cell_refs.specs.declared.cell.Cell.{Cell}
use Rattle.cell_refs.specs.declared.error_kind.ErrorKind.{ErrorKind}
use Rattle.formula_ast.specs.Tree.{Tree, Trees, none, more}
use Rattle.formula_ast.specs.Tree as tree
use Rattle.formula_ast.specs.Measures.{listed, references_of, all_references_of}
use Rattle.recalculation.specs.Evaluation.{CellGrid}
use Rattle.recalculation.specs.Looks.{then_cells}
use Rattle.recalculation.proofs.Lists.{each_append, each_left, each_right}
use Rattle.recalculation.proofs.Reading.{EachOf, OfArgument, call_among, grid_cells}
use Rattle.form_values.specs.declared.abs.Abs.{Abs}
use Rattle.form_values.specs.declared.abs.AbsArg.{AbsArg}
use Rattle.form_table.specs.Criteria.{met_places}
use Rattle.form_table.specs.Lookups.{error_of}
use Rattle.form_table.specs.Wanted.{value_of, grid_of}
use Rattle.form_extraction.specs.Parts.{Part, argument}
use Rattle.form_extraction.specs.Deciding.{given_by, cells_at, summed_by, by_form}
use Rattle.form_extraction.specs.Formulas.{part_of, parts_of}

module _ (P : Cell → Type 0) where
  -- what holds of each cell at which a part looks, and of each cell of its reference
  abbrev pub OfPart : Part → Type 0
  OfPart p = OfArgument P (argument p)

  -- ---- the cells that SUMIF sums
  at_among : (cells : List Cell) (n : ℕ) → AllByRecursion P cells → AllByRecursion P (option_to_list (slice_get cells n))
  at_among [] n h = tt
  at_among (b ∷ cells) zero h = (h.0, tt)
  at_among (b ∷ cells) (suc n) h = at_among cells n h.1

  places_among : (g : CellGrid) → AllByRecursion P g.cells → (places : List ℕ) → AllByRecursion P (cells_at g places)
  places_among g h [] = tt
  places_among g h (place ∷ places) = each_append P (option_to_list (slice_get g.cells place)) (cells_at g places) (at_among g.cells place h) (places_among g h places)

  summed_among : (g : CellGrid) (tested : AbsArg) (criterion : Abs) (k : Option ErrorKind) → AllByRecursion P g.cells → AllByRecursion P (then_cells (summed_by g tested criterion k) (λ cells. cells))
  summed_among g tested criterion (Some k) h = tt
  summed_among g tested criterion None h = by_size (((grid_of tested).rows == g.rows) && ((grid_of tested).columns == g.columns))
    where
      given : (o : Option (List ℕ)) → AllByRecursion P (then_cells (option_map (cells_at g) o) (λ cells. cells))
      given None = tt
      given (Some places) = places_among g h places

      by_size : (b : Bool) → AllByRecursion P (then_cells (if b then option_map (cells_at g) (given_by (met_places (grid_of tested).items criterion)) else Some []) (λ cells. cells))
      by_size true = given (given_by (met_places (grid_of tested).items criterion))
      by_size false = tt

  -- ---- formulas
  pub arguments_among : (ps : List Part) → AllByRecursion OfPart ps → AllByRecursion (OfArgument P) (map argument ps)
  arguments_among [] h = tt
  arguments_among (p ∷ ps) h = (h.0, arguments_among ps h.1)

  mutual
    pub part_among : (forms : Cell → Option Abs) (t : Tree) → EachOf P (references_of t) → OfPart (part_of forms t)
    part_among forms (tree.Number s y) h = (tt, tt)
    part_among forms (tree.Text s y) h = (tt, tt)
    part_among forms (tree.Logical s y) h = (tt, tt)
    part_among forms (tree.Fault s y) h = (tt, tt)
    part_among forms (tree.Missing s) h = (tt, tt)
    part_among forms (tree.Array s rows columns items) h = (tt, tt)
    part_among forms (tree.Reference s areas) h = let all = grid_cells P (listed areas) h in (all, all)
    part_among forms (tree.Call s f args) h = (
      call_among P by_form (λ g tested criterion all. summed_among g tested (value_of criterion) (error_of (value_of criterion)) all) forms f (map argument (parts_of forms args))
          (arguments_among (parts_of forms args) (parts_among forms args h)),
      tt,
    )
    part_among forms (tree.Plus s t) h = part_among forms t h
    part_among forms (tree.Minus s t) h = ((part_among forms t h).0, tt)
    part_among forms (tree.Percent s t) h = ((part_among forms t h).0, tt)
    part_among forms (tree.Infix s o t u) h =
        let left = part_among forms t (each_left _ (references_of t) (references_of u) h) in
        let right = part_among forms u (each_right _ (references_of t) (references_of u) h) in
        (each_append P (part_of forms t).looks (part_of forms u).looks left.0 right.0, tt)
    part_among forms (tree.WideNumber s y) h = (tt, tt)
    part_among forms (tree.Name s n) h = (tt, tt)
    part_among forms (tree.Unknown s n args) h = (tt, tt)

    pub parts_among : (forms : Cell → Option Abs) (ts : Trees) → EachOf P (all_references_of ts) → AllByRecursion OfPart (parts_of forms ts)
    parts_among forms none h = tt
    parts_among forms (more t ts) h =
        (part_among forms t (each_left _ (references_of t) (all_references_of ts) h), parts_among forms ts (each_right _ (references_of t) (all_references_of ts) h))
