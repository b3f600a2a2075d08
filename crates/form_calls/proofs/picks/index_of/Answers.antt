use Rattle.std.proofs.Common.{◌≡◌, ◌++◌, ◌∙◌, ap, ap₂, sym, refl, subst, map, IfOk, None, List, []}
use Rattle.recalculation.specs.Looks.{all_looks, outcomes, then_cells}
use Rattle.form_table.specs.Picks.{pick_form}
use Rattle.form_table.specs.Wanted.{grid_of}
use Rattle.form_extraction.specs.Calls.{picked_at}
use Rattle.form_extraction.specs.Deciding.{given_by}
use Rattle.form_extraction.specs.Parts.{Part, argument, on_parts}
use Rattle.form_extraction.specs.Sources.{of_cells, of_raster}
use Rattle.form_calls.specs.Sources.{cells_picked}
use Rattle.form_calls.specs.declared.source.Source.TheVariants.{Cells, Values}
use Rattle.form_calls.proofs.Recorded.{index_all, index_cells, index_in_cells, index_in_values}
use Rattle.form_calls.proofs.picks.index_of.Goals as goal

pub returns-in-Some : goal.returns-in-Some
returns-in-Some g c =
    let forms = g.C.FormsOfCells.forms c.args.forms.now in
    let table = c.args.table.now in
    let places = c.args.places.now in
    let grid = c.in-Some.grid in
    let r = sym c.in-Some.ensures in
    let more = then_cells (outcomes (map argument places)) (λ at. then_cells (given_by (pick_form grid.now.rows grid.now.columns at)) (cells_picked (Cells grid))) in
    subst (λ v. IfOk c.indexed_part.result (λ part. part ≡ v))
    (ap₂ (λ cells o. record { span = c.args.whole; looks = cells; outcome = o; reference = None })
    (ap (λ cells. cells ++ more) c.in_ok-looks.ensures ∙ index_cells forms c.args.whole table places grid.now r)
    (ap (λ (ps : List Part). on_parts places (picked_at c.args.whole ps (of_cells forms grid.now) [])) c.requires
    ∙ index_in_cells forms c.args.whole table places grid.now r))
    c.indexed_part.ensures

pub returns : goal.returns
returns g c =
    let forms = g.C.FormsOfCells.forms c.args.forms.now in
    let table = c.args.table.now in
    let places = c.args.places.now in
    let value = c.in-Some-value.value in
    let rows = (grid_of value.now).rows in
    let columns = (grid_of value.now).columns in
    let r : table.reference ≡ None = sym c.in_default.ensures in
    let v = sym c.in-Some-value.ensures in
    let more = then_cells (outcomes (map argument places)) (λ at. then_cells (given_by (pick_form rows columns at)) (cells_picked (Values value))) in
    subst (λ v. IfOk c.indexed_part-2.result (λ part. part ≡ v))
    (ap₂ (λ cells o. record { span = c.args.whole; looks = cells; outcome = o; reference = None })
    (ap (λ cells. cells ++ more) (c.in_ok-looks-2.ensures ∙ ap (λ (ps : List Part). all_looks (map argument ps)) c.requires)
    ∙ index_all forms c.args.whole table places (Values value) rows columns (λ p. refl) r)
    (ap (λ (ps : List Part). on_parts places (picked_at c.args.whole ps (of_raster (grid_of value.now)) (grid_of value.now).items)) c.requires
    ∙ index_in_values forms c.args.whole table places value.now r v))
    c.indexed_part-2.ensures
