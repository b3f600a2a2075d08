use Rattle.std.proofs.Common.{◌≡◌, ◌++◌, ◌∙◌, ap, append-nil, refl, subst, IfOk, None}
use Rattle.form_table.specs.Wanted.{grid_of}
use Rattle.form_extraction.specs.Sources.{of_raster}
use Rattle.form_calls.specs.Lookups.{found_outcome}
use Rattle.form_calls.specs.declared.source.Source.TheVariants.{Values}
use Rattle.form_calls.proofs.Recorded.{nothing_found}
use Rattle.form_calls.proofs.lookups.among_values.Goals as goal

pub returns : goal.returns
returns g c =
    let forms = g.C.FormsOfCells.forms c.args.forms.now in
    let o = found_outcome c.args.whole c.args.args.now (of_raster (grid_of c.args.table.now)) c.args.key.now c.args.rest.now in
    subst (λ cells. IfOk c.found_part.result (λ part. part ≡ record { span = c.args.whole; looks = cells; outcome = o; reference = None }))
    (ap (λ cells. c.args.looks.items ++ cells) (nothing_found forms (Values c.args.table) _ c.args.key.now c.args.rest.now (λ p. refl)) ∙ append-nil c.args.looks.items)
    c.found_part.ensures
