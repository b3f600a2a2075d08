use Rattle.std.proofs.Common.{◌≡◌, ◌∙◌, ap, ap₂, sym, subst, map, IfOk, None, List, ◌∷◌}
use Rattle.recalculation.specs.Evaluation.{CellGrid}
use Rattle.recalculation.specs.Looks.{exchanged as exchanged_cells, record_looks}
use Rattle.form_values.specs.declared.abs.AbsArg.{AbsArg}
use Rattle.form_table.specs.Wanted.{grid_of}
use Rattle.form_extraction.specs.Deciding.{by_form}
use Rattle.form_extraction.specs.Parts.{Part, argument}
use Rattle.form_extraction.specs.Sources as grids
use Rattle.form_extraction.specs.Sources.{exchanged, of_cells, of_raster}
use Rattle.form_calls.specs.Lookups.{found_outcome}
use Rattle.form_calls.proofs.Recorded.{lookup_all, lookup_cells, lookup_in_cells, lookup_in_values}
use Rattle.form_calls.proofs.Sourced.{exchanged_values}
use Rattle.form_calls.proofs.lookups.across.Goals as goal

pub returns-in-Some : goal.returns-in-Some
returns-in-Some g c =
    let forms = g.C.FormsOfCells.forms c.args.forms.now in
    let key = c.args.key.now in
    let table = c.args.table.now in
    let rest = c.args.rest.now in
    let grid = c.in-Some.grid.now in
    let r = sym c.in-Some.ensures in
    let t = c.in_ok-turned.ensures in
    subst (λ v. IfOk c.among_cells.result (λ part. part ≡ v))
    (ap₂ (λ cells o. record { span = c.args.whole; looks = cells; outcome = o; reference = None })
    (ap (λ (h : CellGrid). record_looks by_form forms h (argument key ∷ map argument rest)) t ∙ lookup_cells forms exchanged_cells exchanged c.args.whole key table rest grid r)
    (ap (λ (h : CellGrid). found_outcome c.args.whole c.args.args.now (of_cells forms h) key rest) t
    ∙ ap (λ (ps : List Part). found_outcome c.args.whole ps (of_cells forms (exchanged_cells grid)) key rest) c.requires ∙ lookup_in_cells forms exchanged_cells exchanged c.args.whole key table rest grid r))
    c.among_cells.ensures

pub returns : goal.returns
returns g c =
    let forms = g.C.FormsOfCells.forms c.args.forms.now in
    let key = c.args.key.now in
    let table = c.args.table.now in
    let rest = c.args.rest.now in
    let r : table.reference ≡ None = sym c.in_default.ensures in
    let value = c.in-Some-value.value.now in
    let v = sym c.in-Some-value.ensures in
    let t = ap (λ (a : AbsArg). of_raster (grid_of a)) c.in_ok-turned-2.ensures ∙ sym (exchanged_values (grid_of value)) in
    subst (λ v. IfOk c.among_values.result (λ part. part ≡ v))
    (ap₂ (λ cells o. record { span = c.args.whole; looks = cells; outcome = o; reference = None })
    (c.in_ok-looks.ensures ∙ lookup_all forms exchanged_cells exchanged c.args.whole key table rest r)
    (ap (λ (s : grids.Source). found_outcome c.args.whole c.args.args.now s key rest) t
    ∙ ap (λ (ps : List Part). found_outcome c.args.whole ps (exchanged (of_raster (grid_of value))) key rest) c.requires
    ∙ lookup_in_values forms exchanged_cells exchanged c.args.whole key table rest value r v))
    c.among_values.ensures
