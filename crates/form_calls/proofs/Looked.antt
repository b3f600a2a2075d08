-- What lookups and SUMIF look at.
use Rattle.std.proofs.Common.{◌≡◌, ◌&&◌, ◌==◌, refl, sym, ap, ap₂, ◌∙◌, append-nil, Bool, true, false, if◌then◌else◌, ℕ, List, [], ◌∷◌, ◌++◌, map, Option, Some, None}
use Rattle.std.specs.Prelude.{is_some, option_map}
use Rattle.cell_refs.specs.declared.cell.Cell.{Cell}
use Rattle.cell_refs.specs.declared.error_kind.ErrorKind.{ErrorKind}
use Rattle.recalculation.specs.Evaluation.{CellGrid}
use Rattle.recalculation.specs.Looks.{all_looks, both, outcomes, picked_cells, record_looks, sum_looks, summed_looks, then_cells}
use Rattle.cell_grids.specs.Full.{IsFullGrid}
use Rattle.form_values.specs.declared.abs.Abs.{Abs}
use Rattle.form_values.specs.declared.abs.AbsArg.{AbsArg}
use Rattle.form_table.specs.Criteria.{met_places}
use Rattle.form_table.specs.Lookups.{error_of}
use Rattle.form_table.specs.Wanted.{grid_of, value_of}
use Rattle.form_extraction.specs.Deciding.{by_form, cells_at, given_by, record_by, summed_by}
use Rattle.form_extraction.specs.Parts.{Part, argument, value_in}
use Rattle.form_extraction.specs.Sources.{elements_at, key_places, of_cells}
use Rattle.form_calls.specs.Criteria.{met_unless, sum_cells}
use Rattle.form_calls.proofs.Sourced.{column_places, keys_there}

-- ---- lookups: the key's value may be asked for first
in_turn : (o : Option AbsArg) (keys : Option (List Abs)) (others : Option (List AbsArg)) (f : List Abs → List AbsArg → List Cell)
    → then_cells keys (λ ks. then_cells (both o others) (f ks)) ≡ then_cells o (λ k. then_cells keys (λ ks. then_cells others (λ args. f ks (k ∷ args))))
in_turn None None others f = refl
in_turn (Some k) None others f = refl
in_turn None (Some ks) None f = refl
in_turn None (Some ks) (Some args) f = refl
in_turn (Some k) (Some ks) None f = refl
in_turn (Some k) (Some ks) (Some args) f = refl

pub record_looked : (forms : Cell → Option Abs) (g : CellGrid) (key : Part) (rest : List Part) → IsFullGrid g
    → record_looks by_form forms g (argument key ∷ map argument rest)
    ≡ ((key.looks ++ all_looks (map argument rest)) ++ cells_at g (key_places (of_cells forms g)))
    ++ then_cells (value_in key.outcome) (λ k. then_cells (elements_at (of_cells forms g) (key_places (of_cells forms g))) (λ keys.
    then_cells (outcomes (map argument rest)) (λ args. then_cells (record_by g.columns keys (k ∷ args)) (picked_cells g))))
record_looked forms g key rest full =
    let before = key.looks ++ all_looks (map argument rest) in
    let after : List Abs → List AbsArg → List Cell = λ keys vs. then_cells (record_by g.columns keys vs) (picked_cells g) in
    ap₂ (λ cells keys. (before ++ cells) ++ then_cells keys (λ ks. then_cells (both (value_in key.outcome) (outcomes (map argument rest))) (after ks))) (column_places g forms) (keys_there g forms full)
    ∙ ap (λ cells. (before ++ cells_at g (key_places (of_cells forms g))) ++ cells)
    (in_turn (value_in key.outcome) (elements_at (of_cells forms g) (key_places (of_cells forms g))) (outcomes (map argument rest)) after)

-- ---- SUMIF
module _ (g : CellGrid) where
  by_size : (b : Bool) (o : Option (List ℕ)) → then_cells (if b then option_map (cells_at g) o else Some []) (λ cells. cells) ≡ then_cells (if b then o else None) (cells_at g)
  by_size true None = refl
  by_size true (Some places) = refl
  by_size false o = refl

  by_error : (e : Option ErrorKind) (tested : AbsArg) (criterion : Abs) → then_cells (summed_by g tested criterion e) (λ cells. cells) ≡ then_cells (met_unless e g.rows g.columns tested criterion) (cells_at g)
  by_error (Some k) tested criterion = refl
  by_error None tested criterion = by_size (((grid_of tested).rows == g.rows) && ((grid_of tested).columns == g.columns)) (given_by (met_places (grid_of tested).items criterion))

  by_values : (o q : Option AbsArg) → then_cells (both o (both q (Some []))) (summed_looks by_form g)
      ≡ then_cells o (λ a. then_cells q (λ c. then_cells (met_unless (error_of (value_of c)) g.rows g.columns a (value_of c)) (cells_at g)))
  by_values None None = refl
  by_values None (Some c) = refl
  by_values (Some a) None = refl
  by_values (Some a) (Some c) = by_error (error_of (value_of c)) a (value_of c)

pub sum_looked : (tested criterion summed : Part) (r : Option CellGrid)
    → sum_looks by_form (argument tested ∷ argument criterion ∷ []) (argument summed) r
    ≡ (all_looks (argument tested ∷ argument criterion ∷ []) ++ (if is_some r then [] else summed.looks)) ++ sum_cells true r tested criterion
sum_looked tested criterion summed None = sym (append-nil (all_looks (argument tested ∷ argument criterion ∷ []) ++ summed.looks))
sum_looked tested criterion summed (Some g) =
    let before = all_looks (argument tested ∷ argument criterion ∷ []) in
    ap₂ (λ cells more. cells ++ more) (sym (append-nil before)) (by_values g (value_in tested.outcome) (value_in criterion.outcome))
