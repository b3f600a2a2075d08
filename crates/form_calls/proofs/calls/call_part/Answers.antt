use Rattle.std.proofs.Common.{◌≡◌, rules, subst, true, IfOk}
use Rattle.form_parts.specs.FromFormFunctions.{is_whole}
use Rattle.form_calls.proofs.Whole.{whole_call}
use Rattle.form_calls.proofs.calls.call_part.Goals as goal

pub returns-in_default : goal.returns-in_default
returns-in_default g c =
    let w : is_whole c.args.function ≡ true = search rules in
    subst (λ v. IfOk c.called_part.result (λ part. part ≡ v)) (whole_call (g.C.FormsOfCells.forms c.args.forms.now) c.args.whole c.args.function c.args.args.items w) c.called_part.ensures
