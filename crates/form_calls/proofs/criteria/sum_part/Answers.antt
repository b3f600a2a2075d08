use Rattle.std.proofs.Common.{◌≡◌, ◌++◌, ap₂, refl, sym, subst, IfOk, None}
use Rattle.form_table.specs.Lookups.{error_of}
use Rattle.form_table.specs.Wanted.{grid_of, value_of}
use Rattle.form_calls.specs.Criteria.{met_unless}
use Rattle.form_calls.specs.declared.source.Source.TheVariants.{Cells, Values}
use Rattle.form_calls.proofs.Summed.{seen_cells, sum_over_cells, sum_over_values, unseen_cells}
use Rattle.form_calls.proofs.criteria.sum_part.Goals as goal

pub returns-in-Some-reference : goal.returns-in-Some-reference
returns-in-Some-reference g c =
    let forms = g.C.FormsOfCells.forms c.args.forms.now in
    let t = c.args.tested.now in
    let q = c.args.criterion.now in
    let s = c.args.summed.now in
    let grid = c.in-Some-reference.grid in
    let e = sym c.in-Some.ensures in
    let d = sym c.in-Some-value.ensures in
    let r = sym c.in-Some-reference.ensures in
    subst (λ v. IfOk c.sum_in.result (λ part. part ≡ v))
    (ap₂ (λ cells o. record { span = c.args.whole; looks = c.args.looks.items ++ cells; outcome = o; reference = None })
    (seen_cells c.args.seen s.reference grid.now t q c.in-Some.elements.now c.in-Some-value.asked.now (Cells grid) (λ places. refl) e d r)
    (sum_over_cells forms c.args.whole c.args.args.now t q s c.in-Some.elements.now c.in-Some-value.asked.now e d grid.now r))
    c.sum_in.ensures

pub returns : goal.returns
returns g c =
    let forms = g.C.FormsOfCells.forms c.args.forms.now in
    let t = c.args.tested.now in
    let q = c.args.criterion.now in
    let s = c.args.summed.now in
    let asked = c.in-Some-value.asked.now in
    let value = c.in-Some-value-2.value in
    let e = sym c.in-Some.ensures in
    let d = sym c.in-Some-value.ensures in
    let r : s.reference ≡ None = sym c.in_default-reference.ensures in
    let k = sym c.in-Some-value-2.ensures in
    subst (λ v. IfOk c.sum_in-2.result (λ part. part ≡ v))
    (ap₂ (λ cells o. record { span = c.args.whole; looks = c.args.looks.items ++ cells; outcome = o; reference = None })
    (unseen_cells c.args.seen s.reference t q (Values value) (met_unless (error_of (value_of asked)) (grid_of value.now).rows (grid_of value.now).columns c.in-Some.elements.now (value_of asked)) (λ places. refl) r)
    (sum_over_values forms c.args.whole c.args.args.now t q s c.in-Some.elements.now asked e d value.now r k))
    c.sum_in-2.ensures
