use Rattle.std.proofs.Common.{◌≡◌, ◌∙◌, ap, ap₂, sym, subst, IfOk, None, List}
use Rattle.form_table.specs.Wanted.{grid_of}
use Rattle.form_extraction.specs.Parts.{Part}
use Rattle.form_extraction.specs.Sources.{of_cells, of_raster}
use Rattle.form_calls.specs.Lookups.{found_outcome}
use Rattle.form_calls.proofs.Recorded.{lookup_all, lookup_cells, lookup_in_cells, lookup_in_values}
use Rattle.form_calls.proofs.lookups.down.Goals as goal

pub returns-in-Some : goal.returns-in-Some
returns-in-Some g c =
    let forms = g.C.FormsOfCells.forms c.args.forms.now in
    let key = c.args.key.now in
    let table = c.args.table.now in
    let rest = c.args.rest.now in
    let grid = c.in-Some.grid.now in
    let r = sym c.in-Some.ensures in
    subst (λ v. IfOk c.among_cells.result (λ part. part ≡ v))
    (ap₂ (λ cells o. record { span = c.args.whole; looks = cells; outcome = o; reference = None })
    (lookup_cells forms (λ h. h) (λ s. s) c.args.whole key table rest grid r)
    (ap (λ (ps : List Part). found_outcome c.args.whole ps (of_cells forms grid) key rest) c.requires ∙ lookup_in_cells forms (λ h. h) (λ s. s) c.args.whole key table rest grid r))
    c.among_cells.ensures

pub returns : goal.returns
returns g c =
    let forms = g.C.FormsOfCells.forms c.args.forms.now in
    let key = c.args.key.now in
    let table = c.args.table.now in
    let rest = c.args.rest.now in
    let r : table.reference ≡ None = sym c.in_default.ensures in
    let value = c.in-Some-value.value.now in
    let v = sym c.in-Some-value.ensures in
    subst (λ v. IfOk c.among_values.result (λ part. part ≡ v))
    (ap₂ (λ cells o. record { span = c.args.whole; looks = cells; outcome = o; reference = None })
    (c.in_ok-looks.ensures ∙ lookup_all forms (λ h. h) (λ s. s) c.args.whole key table rest r)
    (ap (λ (ps : List Part). found_outcome c.args.whole ps (of_raster (grid_of value)) key rest) c.requires ∙ lookup_in_values forms (λ h. h) (λ s. s) c.args.whole key table rest value r v))
    c.among_values.ensures
