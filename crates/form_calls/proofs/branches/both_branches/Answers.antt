use Rattle.std.proofs.Common.{◌≡◌, ◌∙◌, ap, sym, subst, false, IfOk, List}
use Rattle.std.specs.Prelude.{slice_get}
use Rattle.sheet_model.specs.declared.value.Value.TheVariants.{Logical}
use Rattle.form_values.specs.declared.abs.Abs.TheVariants.{Known}
use Rattle.form_values.specs.declared.abs.AbsArg.TheVariants.{One}
use Rattle.form_table.specs.Choosing.{if_test}
use Rattle.form_extraction.specs.Parts.{Part, outcome_by}
use Rattle.form_extraction.specs.declared.forms.Outcome.TheVariants.{Gives}
use Rattle.form_calls.specs.Steps.{branch_outcome}
use Rattle.form_calls.proofs.Chosen.{branches_go_on}
use Rattle.form_calls.proofs.branches.both_branches.Goals as goal

pub returns : goal.returns
returns c p others e =
    let t = c.args.form.now in
    let one = c.in_Gives-holding.holding in
    let other = c.in_Gives-failing.failing in
    let first : branch_outcome (slice_get others 0) (Gives (One (Known (Logical false)))) ≡ Gives one =
    ap (λ (ps : List Part). branch_outcome (slice_get ps 1) (Gives (One (Known (Logical false))))) (sym e) ∙ sym c.branch-first.ensures ∙ c.in_Gives-holding.is in
    let second : branch_outcome (slice_get others 1) (Gives (One (Known (Logical false)))) ≡ Gives other =
    ap (λ (ps : List Part). branch_outcome (slice_get ps 2) (Gives (One (Known (Logical false))))) (sym e) ∙ sym c.branch-second.ensures ∙ c.in_Gives-failing.is in
    subst (λ v. IfOk c.outcome_by.result (λ outcome. outcome ≡ v))
    (ap (λ ps. outcome_by c.args.whole ps (if_test t c.args.relation one other)) e ∙ sym (branches_go_on c.args.whole p others t c.args.relation one other first second))
    (c.outcome_by.ensures (if_test t c.args.relation one other) c.if_test.ensures.answer)
