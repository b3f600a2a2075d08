use Rattle.solver_names.specs.Answers.{statement_of}
use Rattle.open_forms.proofs.FromSheetLinearModel.{objective_has_number, rows_have_numbers}
use Rattle.sheet_quick.proofs.Causes.{have_numbers}
use Rattle.sheet_quick.proofs.forms.numbers.Goals as goal

pub objective-requires-clause-number : goal.objective-requires-clause-number
objective-requires-clause-number c = objective_has_number c.args.book.now (statement_of c.args.of.now) c.in_ok-check_forms.ensures.numbers

pub sides-requires-clause-numbers : goal.sides-requires-clause-numbers
sides-requires-clause-numbers c = rows_have_numbers c.args.book.now c.args.of.now c.in_ok-check_forms.ensures.numbers

pub returns-clause-forms : goal.returns-clause-forms
returns-clause-forms c =
    have_numbers c.args.book.now (statement_of c.args.of.now) c.in_ok-objective.objective c.in_ok-sides.sides.items c.in_ok-check_forms.ensures.numbers c.in_ok-objective.ensures.form
    c.in_ok-objective.ensures.none c.in_ok-sides.ensures
