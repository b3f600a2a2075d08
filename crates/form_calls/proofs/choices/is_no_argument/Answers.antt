use Rattle.std.specs.Prelude.{◌==◌}
use Rattle.std.proofs.Common.{◌≡◌, List, length, true, false, ap, sym, ◌∙◌}
use Rattle.cell_refs.specs.declared.cell.Cell.{Cell}
use Rattle.form_extraction.specs.Calls.{is_no_choice_in}
use Rattle.form_calls.proofs.Chosen.{looked, unlooked}
use Rattle.form_calls.proofs.choices.is_no_argument.Goals as goal

pub returns-then-is_empty : goal.returns-then-is_empty
returns-then-is_empty c =
    let p = c.args.argument.now in
    c.is_no_choice_in.ensures ∙ ap is_no_choice_in c.value.ensures
    ∙ unlooked p.looks p.outcome (sym (ap (λ (l : List Cell). length l == 0) c.looks.ensures) ∙ sym c.is_empty.ensures ∙ c.if-is_empty.true)

pub returns : goal.returns
returns c =
    let p = c.args.argument.now in
    sym (looked p.looks p.outcome (sym (ap (λ (l : List Cell). length l == 0) c.looks.ensures) ∙ sym c.is_empty.ensures ∙ c.if-is_empty.false))
