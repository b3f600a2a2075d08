use Rattle.std.proofs.Common.{ap, ◌∙◌, Some, Ok}
use Rattle.form_values.specs.Trials.{made}
use Rattle.form_table.specs.Choosing.{differ_by_multiple, branch_where, if_multiple}
use Rattle.form_ops.specs.Sides.{side_value}
use Rattle.form_ops.proofs.Answering.{branch_given, branch_breaks}
use Rattle.form_ops.proofs.Trying.{refused, follows_then}
use Rattle.form_ops.proofs.choosing.branch_where.Goals as goal

pub returns-in_err-differ_by_multiple : goal.returns-in_err-differ_by_multiple
returns-in_err-differ_by_multiple c =
    let compared = made (λ b. b) (differ_by_multiple c.args.form.now c.args.first.now c.args.second.now) in
    refused compared (branch_where c.args.form.now (side_value c.args.branch.now) c.args.first.now c.args.second.now) _ _ c.from_residual.ensures.1 c.in_err-differ_by_multiple.ensures
    (follows_then compared (if_multiple (side_value c.args.branch.now)))

pub returns-then-branch : goal.returns-then-branch
returns-then-branch c =
    branch_given c.args.form.now c.args.first.now c.args.second.now (side_value c.args.branch.now) c.in_ok-copy_of.field-0
    (c.in_ok-differ_by_multiple.ensures ∙ ap (λ b. Some (Ok b)) c.if-branch.true) c.in_ok-copy_of.ensures

pub returns : goal.returns
returns c =
    branch_breaks c.args.form.now c.args.first.now c.args.second.now (side_value c.args.branch.now) (c.in_ok-differ_by_multiple.ensures ∙ ap (λ b. Some (Ok b)) c.if-branch.false)
