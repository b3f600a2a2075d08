-- Lookups and INDEX by the table: a reference, or another argument.
use Rattle.std.specs.Prelude.{◌&&◌, ◌==◌}
use Rattle.std.proofs.Common.{◌≡◌, refl, sym, ap, ◌∙◌, append-nil, Bool, true, false, if◌then◌else◌, ℕ, List, [], ◌∷◌, ◌++◌, map, Option, Some, None, Result}
use Rattle.cell_refs.specs.declared.error_kind.ErrorKind.{ErrorKind}
use Rattle.cell_refs.specs.declared.error_kind.ErrorKind.TheVariants as kind
use Rattle.cell_refs.specs.declared.cell.Cell.{Cell}
use Rattle.cell_refs.specs.declared.span.Span.{Span}
use Rattle.sheet_funcs.specs.declared.lookups.MatchKind.{MatchKind}
use Rattle.sheet_funcs.specs.declared.pick.Pick.{Pick}
use Rattle.sheet_funcs.specs.declared.pick.Pick.TheVariants.{Part as Picked, Fault}
use Rattle.recalculation.specs.Evaluation.{CellGrid}
use Rattle.recalculation.specs.Looks.{all_looks, index_looks, index_of_looks, lookup_looks, outcomes, picked_cells, record_looks, table_looks, then_cells}
use Rattle.form_values.specs.declared.abs.Abs.{Abs}
use Rattle.form_values.specs.declared.abs.AbsArg.{AbsArg}
use Rattle.form_table.specs.Certain.{pick_in_range, picks_ref_error, index_error}
use Rattle.form_table.specs.CertainRecords.{record_error}
use Rattle.form_table.specs.Picks.{pick_form}
use Rattle.form_table.specs.Wanted.{Wanted, grid_of}
use Rattle.form_extraction.specs.Calls.{seen_before, picked_at, index_outcome, lookup_by, lookup_outcome}
use Rattle.form_extraction.specs.Deciding.{by_form, given_by, record_by}
use Rattle.form_extraction.specs.Parts.{Part, argument, on_outcome, on_part, on_parts, tried_on, value_in}
use Rattle.form_extraction.specs.Sources as grids
use Rattle.form_extraction.specs.Sources.{elements_at, items_seen, in_source, in_turned, key_places, of_cells, of_raster, taken}
use Rattle.form_extraction.specs.declared.forms.Outcome.{Outcome}
use Rattle.form_extraction.specs.declared.forms.Outcome.TheVariants.{Gives, Refused, Without}
use Rattle.form_calls.specs.Lookups.{found_cells, found_outcome}
use Rattle.form_calls.specs.Sources.{cells_picked, columns_of, read_before, rows_of, source_of}
use Rattle.form_calls.specs.declared.source.Source.{Source}
use Rattle.form_calls.specs.declared.source.Source.TheVariants.{Cells, Values}
use Rattle.form_calls.proofs.Outcomes.{goes_on, seen_values}

-- what goes on alike
alike : (o : Outcome) (f g : AbsArg → Outcome) → ((a : AbsArg) → f a ≡ g a) → on_outcome o f ≡ on_outcome o g
alike (Gives a) f g h = h a
alike (Refused at cause) f g h = refl
alike Without f g h = refl

-- nothing is picked
none_picked : (o : Option Pick) (s : Source) → ((p : Pick) → cells_picked s p ≡ []) → then_cells o (cells_picked s) ≡ []
none_picked None s h = refl
none_picked (Some p) s h = h p

pub nothing_found : (forms : Cell → Option Abs) (s : Source) (places : List ℕ) (key : Part) (rest : List Part) → ((p : Pick) → cells_picked s p ≡ []) → found_cells forms s places key rest ≡ []
nothing_found forms s places key rest h = by (value_in key.outcome) (elements_at (source_of forms s) places) (outcomes (map argument rest))
  where
    by : (o : Option AbsArg) (keys : Option (List Abs)) (others : Option (List AbsArg))
        → then_cells o (λ k. then_cells keys (λ ks. then_cells others (λ args. then_cells (record_by (columns_of s) ks (k ∷ args)) (cells_picked s)))) ≡ []
    by None keys others = refl
    by (Some k) None others = refl
    by (Some k) (Some ks) None = refl
    by (Some k) (Some ks) (Some args) = none_picked (record_by (columns_of s) ks (k ∷ args)) s h

module _ (forms : Cell → Option Abs) (cells : CellGrid → CellGrid) (turned : grids.Source → grids.Source) (whole : Span) (key table : Part) (rest : List Part) where
  abbrev found_by : AbsArg → grids.Source → Outcome
  found_by k s = taken s (key_places s) (λ keys. on_parts rest (λ args. lookup_by whole (key ∷ table ∷ rest) s keys (k ∷ args)))

  pub lookup_cells : (g : CellGrid) → table.reference ≡ Some g
      → record_looks by_form forms (cells g) (argument key ∷ map argument rest) ≡ lookup_looks by_form forms cells (argument key ∷ argument table ∷ map argument rest)
  lookup_cells g e = sym (ap (table_looks by_form forms cells (argument key ∷ map argument rest) (argument table)) e)

  pub lookup_in_cells : (g : CellGrid) → table.reference ≡ Some g → found_outcome whole (key ∷ table ∷ rest) (of_cells forms (cells g)) key rest ≡ lookup_outcome forms cells turned whole (key ∷ table ∷ rest)
  lookup_in_cells g e = sym (ap (λ r. on_part key (λ k. in_turned r forms cells turned table (found_by k))) e)

  pub lookup_all : table.reference ≡ None → all_looks (argument table ∷ argument key ∷ map argument rest) ≡ lookup_looks by_form forms cells (argument key ∷ argument table ∷ map argument rest)
  lookup_all e = sym (ap (table_looks by_form forms cells (argument key ∷ map argument rest) (argument table)) e)

  pub lookup_in_values : (v : AbsArg) → table.reference ≡ None → value_in table.outcome ≡ Some v
      → found_outcome whole (key ∷ table ∷ rest) (turned (of_raster (grid_of v))) key rest ≡ lookup_outcome forms cells turned whole (key ∷ table ∷ rest)
  lookup_in_values v e d =
      sym (ap (λ r. on_part key (λ k. in_turned r forms cells turned table (found_by k))) e
      ∙ alike key.outcome (λ k. on_part table (λ a. found_by k (turned (of_raster (grid_of a))))) (λ k. found_by k (turned (of_raster (grid_of v))))
      (λ k. goes_on table.outcome (λ a. found_by k (turned (of_raster (grid_of a)))) v d))

-- ---- INDEX
module _ (forms : Cell → Option Abs) (whole : Span) (table : Part) (places : List Part) where
  abbrev picked_by : List Abs → grids.Source → Outcome
  picked_by seen s = on_parts places (picked_at whole (table ∷ places) s seen)

  pub index_cells : (g : CellGrid) → table.reference ≡ Some g
      → all_looks (map argument places) ++ then_cells (outcomes (map argument places)) (λ vs. then_cells (given_by (pick_form g.rows g.columns vs)) (picked_cells g))
      ≡ index_looks by_form (argument table ∷ map argument places)
  index_cells g e = sym (ap (index_of_looks by_form (argument table) (map argument places)) e)

  pub index_in_cells : (g : CellGrid) → table.reference ≡ Some g → picked_by [] (of_cells forms g) ≡ index_outcome forms whole (table ∷ places)
  index_in_cells g e = sym (ap (λ r. in_source r forms table (picked_by (seen_before r table.outcome))) e)

  pub index_all : (s : Source) (rows columns : ℕ) → ((p : Pick) → cells_picked s p ≡ []) → table.reference ≡ None
      → all_looks (argument table ∷ map argument places) ++ then_cells (outcomes (map argument places)) (λ vs. then_cells (given_by (pick_form rows columns vs)) (cells_picked s))
      ≡ index_looks by_form (argument table ∷ map argument places)
  index_all s rows columns h e =
      ap (λ cells. all_looks (argument table ∷ map argument places) ++ cells) (by (outcomes (map argument places))) ∙ append-nil (all_looks (argument table ∷ map argument places))
      ∙ sym (ap (index_of_looks by_form (argument table) (map argument places)) e)
    where
      by : (o : Option (List AbsArg)) → then_cells o (λ vs. then_cells (given_by (pick_form rows columns vs)) (cells_picked s)) ≡ []
      by None = refl
      by (Some vs) = none_picked (given_by (pick_form rows columns vs)) s h

  pub index_in_values : (v : AbsArg) → table.reference ≡ None → value_in table.outcome ≡ Some v → picked_by (grid_of v).items (of_raster (grid_of v)) ≡ index_outcome forms whole (table ∷ places)
  index_in_values v e d =
      sym (ap (λ r. in_source r forms table (picked_by (seen_before r table.outcome))) e
      ∙ goes_on table.outcome (λ a. picked_by (seen_before None table.outcome) (of_raster (grid_of a))) v d
      ∙ ap (λ seen. picked_by seen (of_raster (grid_of v))) (seen_values table.outcome v d))

-- ---- an error that is certainly picked
and_never : (a b : Bool) → (a && (b && false)) ≡ false
and_never true true = refl
and_never true false = refl
and_never false b = refl

nothing_picked : (columns : ℕ) (pick : Option Pick) → picks_ref_error columns [] pick ≡ false
nothing_picked columns (Some (Picked top left bottom right)) = and_never (bottom == top) (right == left)
nothing_picked columns (Some (Fault k)) = refl
nothing_picked columns None = refl

-- of a reference there is none, and of another argument there are no cells
pub record_error_cells : (s : Source) (keys : List Abs) (key : Abs) (w : Wanted) (kinds : Result (List MatchKind) ErrorKind) (k : ErrorKind) → record_error (columns_of s) (map Some (read_before s)) keys key w kinds ≡ Some k
    → (o : Option Pick) → then_cells o (cells_picked s) ≡ []
record_error_cells (Values a) keys key w kinds k e o = none_picked o (Values a) (λ p. refl)
record_error_cells (Cells g) keys key w kinds k e o = cc

pub seen_is : (forms : Cell → Option Abs) (s : Source) → map Some (read_before s) ≡ items_seen (source_of forms s)
seen_is forms (Cells g) = refl
seen_is forms (Values a) = refl

pub error_cells : (s : Source) (at : List AbsArg) (k : ErrorKind) → index_error (rows_of s) (columns_of s) (read_before s) at ≡ Some k → (o : Option Pick) → then_cells o (cells_picked s) ≡ []
error_cells (Values a) at k e o = none_picked o (Values a) (λ p. refl)
error_cells (Cells g) at k e o =
    let n : index_error g.now.rows g.now.columns [] at ≡ None = ap (λ b. if b then Some kind.Ref else None) (nothing_picked g.now.columns (pick_in_range g.now.rows g.now.columns at)) in
    cc
