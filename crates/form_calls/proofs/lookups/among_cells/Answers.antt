use Rattle.std.proofs.Common.{◌≡◌, ◌*◌, ◌++◌, ◌∙◌, ap, ap₂, sym, subst, map, IfOk, None}
use Rattle.std.specs.Prelude.{flat_map, option_to_list, slice_get}
use Rattle.sheet_funcs.specs.Arguments.{below}
use Rattle.recalculation.specs.Looks.{all_looks}
use Rattle.form_extraction.specs.Parts.{argument}
use Rattle.form_extraction.specs.Sources.{key_places, of_cells}
use Rattle.form_calls.specs.Lookups.{found_cells, found_outcome}
use Rattle.form_calls.specs.declared.source.Source.TheVariants.{Cells}
use Rattle.form_calls.proofs.Looked.{record_looked}
use Rattle.form_calls.proofs.lookups.among_cells.Goals as goal

pub returns : goal.returns
returns g c =
    let forms = g.C.FormsOfCells.forms c.args.forms.now in
    let grid = c.args.grid.now in
    let key = c.args.key.now in
    let rest = c.args.rest.now in
    let o = found_outcome c.args.whole c.args.args.now (of_cells forms grid) key rest in
    let some : c.in_ok-places.places.items ≡ key_places (of_cells forms grid) =
    c.in_ok-places.ensures.places ∙ ap₂ (λ rows columns. map (λ row. row * columns) (below rows)) c.rows.ensures.count c.cols.ensures.count in
    let places = c.deref.ensures.value ∙ some in
    let places-2 = c.deref-2.ensures.value ∙ some in
    let before = c.in_ok-push_looks.ensures ∙ ap (λ cells. cells ++ all_looks (map argument rest)) (c.in_ok-looks.ensures.items ∙ c.looks.ensures) in
    let all = c.in_ok-push_cells_at.ensures ∙ (λ i. (before i) ++ flat_map (λ place. option_to_list (slice_get (c.cells.ensures.cells i) place)) (places i)) in
    subst (λ cells. IfOk c.found_part.result (λ part. part ≡ record { span = c.args.whole; looks = cells; outcome = o; reference = None }))
    ((λ i. (all i) ++ found_cells forms (Cells c.args.grid) (places-2 i) key rest) ∙ sym (record_looked forms grid key rest c.cells.ensures.full))
    c.found_part.ensures
