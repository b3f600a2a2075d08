use Rattle.std.proofs.Common.{◌≡◌, ◌++◌, ◌∙◌, ap, sym, subst, true, IfOk, None}
use Rattle.form_extraction.specs.Calls.{sum_over}
use Rattle.form_calls.specs.Criteria.{sum_cells}
use Rattle.form_calls.proofs.Looked.{sum_looked}
use Rattle.form_calls.proofs.criteria.elsewhere.Goals as goal

pub returns : goal.returns
returns g c =
    let t = c.args.tested.now in
    let q = c.args.criterion.now in
    let s = c.args.summed.now in
    let o = sum_over (g.C.FormsOfCells.forms c.args.forms.now) c.args.whole c.args.args.now t q s in
    subst (λ cells. IfOk c.sum_part.result (λ part. part ≡ record { span = c.args.whole; looks = cells; outcome = o; reference = None }))
    (ap (λ cells. cells ++ sum_cells true s.reference t q) c.in_ok-looks.ensures ∙ sym (sum_looked t q s s.reference))
    c.sum_part.ensures
