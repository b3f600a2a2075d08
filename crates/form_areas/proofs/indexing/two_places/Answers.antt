use Rattle.std.proofs.Common.{sym, ap, ◌∙◌, ◌∷◌, [], subst}
use Rattle.sheet_funcs.specs.Picks.{pick_of}
use Rattle.sheet_model.specs.declared.grid.Arg.TheVariants.{One}
use Rattle.sheet_model.specs.declared.value.Value.TheVariants.{Number}
use Rattle.form_values.specs.Trials.{Answers}
use Rattle.form_table.specs.Picks.{of_places, picked_by}
use Rattle.form_ops.specs.Operands.{wanted_in}
use Rattle.form_areas.specs.Places.{fault_or}
use Rattle.form_areas.proofs.Placing.{column_known, none_fault, row_known}
use Rattle.form_areas.proofs.indexing.two_places.Goals as goal

pub returns-in-Some-None-clause-answer : goal.returns-in-Some-None-clause-answer
returns-in-Some-None-clause-answer c =
    let w = wanted_in c.args.row.now in
    let d = wanted_in c.args.column.now in
    subst (λ r. Answers (of_places w d (picked_by c.args.rows w) (picked_by c.args.cols d)) r)
    (ap (λ y. fault_or (pick_of c.args.rows c.args.cols (One (Number c.in-Some-None.row) ∷ One (Number y) ∷ [])) 2) (sym c.zero.ensures) ∙ ap (λ p. fault_or p 2) (sym c.pick-in-Some-None.ensures.pick) ∙ sym c.fault_or.ensures)
    (row_known c.args.rows c.args.cols w d c.in-Some-None.row (sym c.known_number.ensures ∙ c.in-Some-None.is-0) (sym c.known_number-2.ensures ∙ c.in-Some-None.is-1)
    (λ k e. c.in_default-column.not-Fault k (none_fault c.args.column.now k e)))

pub returns-in-None-Some-clause-answer : goal.returns-in-None-Some-clause-answer
returns-in-None-Some-clause-answer c =
    let w = wanted_in c.args.row.now in
    let d = wanted_in c.args.column.now in
    subst (λ r. Answers (of_places w d (picked_by c.args.rows w) (picked_by c.args.cols d)) r)
    (ap (λ x. fault_or (pick_of c.args.rows c.args.cols (One (Number x) ∷ One (Number c.in-None-Some.column) ∷ [])) 1) (sym c.zero-in-None-Some.ensures) ∙ ap (λ p. fault_or p 1) (sym c.pick-in-None-Some.ensures.pick)
    ∙ sym c.fault_or-in-None-Some.ensures)
    (column_known c.args.rows c.args.cols w d c.in-None-Some.column (sym c.known_number-2.ensures ∙ c.in-None-Some.is-1) (sym c.known_number.ensures ∙ c.in-None-Some.is-0)
    (λ k e. c.in_default.not-Fault k (none_fault c.args.row.now k e)))
