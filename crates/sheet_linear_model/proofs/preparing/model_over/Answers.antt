use Rattle.solver_names.specs.Answers.{statement_of}
use Rattle.sheet_linear_model.proofs.Modelled.{have_fit, have_forms, model_is_the_sheet, stop_prepares, stop_said}
use Rattle.sheet_linear_model.proofs.Rooted.{objective_has_number, rows_have_numbers}
use Rattle.sheet_linear_model.proofs.preparing.model_over.Goals as goal

pub objective-requires-clause-number : goal.objective-requires-clause-number
objective-requires-clause-number c = objective_has_number c.args.book.now (statement_of c.args.statement) c.in_ok-check_forms.ensures.numbers

pub sides-requires-clause-numbers : goal.sides-requires-clause-numbers
sides-requires-clause-numbers c = rows_have_numbers c.args.book.now c.args.statement c.in_ok-check_forms.ensures.numbers

pub linear_model-requires-clause-fits : goal.linear_model-requires-clause-fits
linear_model-requires-clause-fits c = have_fit c.args.book.now c.args.statement.sheet.0 (statement_of c.args.statement) c.in_ok-objective.objective c.deref.result.now
    (have_forms c.args.book.now (statement_of c.args.statement) c.in_ok-objective.objective c.in_ok-sides.sides.items c.deref.result.now c.requires.statement c.in_ok-check_forms.ensures.numbers
    c.in_ok-objective.ensures.form c.in_ok-objective.ensures.none c.in_ok-sides.ensures c.deref.ensures.value)

pub returns-in-Err-clause-prepares : goal.returns-in-Err-clause-prepares
returns-in-Err-clause-prepares c = stop_prepares c.args.book.now c.args.statement.sheet.0 (statement_of c.args.statement) c.in_ok-objective.objective c.deref.result.now
    (have_forms c.args.book.now (statement_of c.args.statement) c.in_ok-objective.objective c.in_ok-sides.sides.items c.deref.result.now c.requires.statement c.in_ok-check_forms.ensures.numbers
    c.in_ok-objective.ensures.form c.in_ok-objective.ensures.none c.in_ok-sides.ensures c.deref.ensures.value) c.in-Err.stop c.in-Err.ensures

pub returns-in-Err-clause-said : goal.returns-in-Err-clause-said
returns-in-Err-clause-said c = stop_said c.args.book.now c.args.statement.sheet.0 (statement_of c.args.statement) c.in_ok-objective.objective c.deref.result.now
    (have_forms c.args.book.now (statement_of c.args.statement) c.in_ok-objective.objective c.in_ok-sides.sides.items c.deref.result.now c.requires.statement c.in_ok-check_forms.ensures.numbers
    c.in_ok-objective.ensures.form c.in_ok-objective.ensures.none c.in_ok-sides.ensures c.deref.ensures.value) c.in-Err.stop c.in-Err.ensures

pub returns-in-Ok-clause-model : goal.returns-in-Ok-clause-model
returns-in-Ok-clause-model c = model_is_the_sheet c.args.book.now c.args.statement.sheet.0 (statement_of c.args.statement) c.in_ok-objective.objective c.deref.result.now
    (have_forms c.args.book.now (statement_of c.args.statement) c.in_ok-objective.objective c.in_ok-sides.sides.items c.deref.result.now c.requires.statement c.in_ok-check_forms.ensures.numbers
    c.in_ok-objective.ensures.form c.in_ok-objective.ensures.none c.in_ok-sides.ensures c.deref.ensures.value) c.in-Ok.model c.in-Ok.ensures.0
