use Rattle.std.proofs.Common.{◌∙◌, subst, sym}
use Rattle.solver_names.specs.Answers.{statement_of}
use Rattle.solver_names.specs.Statement.{Statement}
use Rattle.sheet_quick.specs.Inner.{IsQuickOf}
use Rattle.sheet_quick.specs.Opened.{quick_of}
use Rattle.sheet_quick.proofs.Opens.{all_apart, all_few, all_open, all_opened, cause_listed, not_forms, not_parameters, opens_not, said_not}
use Rattle.sheet_quick.proofs.opening.open_quick.Goals as goal

pub returns-in_err-parameters-clause-opens : goal.returns-in_err-parameters-clause-opens
returns-in_err-parameters-clause-opens g c =
    opens_not c.args.linked.now.book.now c.args.sheet.0 c.args.text.now c.in_err-parameters.field-0.0 c.from_residual-in_err-parameters.result c.from_residual-in_err-parameters.ensures.1
    (not_parameters c.args.linked.now.book.now c.args.sheet.0 c.args.text.now c.in-Some.cells (statement_of c.in_ok-statement.statement) c.requires.listed (sym c.in_ok-cells.ensures ∙ c.in-Some.is) c.in_ok-statement.ensures.stated (λ i. (c.in_ok-statement.ensures.sheet i).0) c.in_err-parameters.field-0.0 c.in_err-parameters.ensures)

pub returns-in_err-parameters-clause-said : goal.returns-in_err-parameters-clause-said
returns-in_err-parameters-clause-said g c =
    said_not c.args.linked.now.book.now.sheets c.in_err-parameters.field-0.0 c.from_residual-in_err-parameters.result c.from_residual-in_err-parameters.ensures.1
    (cause_listed c.args.linked.now.book.now c.args.sheet.0 c.args.text.now c.in-Some.cells c.requires.listed (sym c.in_ok-cells.ensures ∙ c.in-Some.is) c.in_ok-statement.statement.adj c.in_err-parameters.field-0.0 c.in_err-parameters.ensures)

pub forms_with-requires-clause-apart : goal.forms_with-requires-clause-apart
forms_with-requires-clause-apart g c = all_apart c.args.linked.now.book.now c.args.sheet.0 c.args.text.now c.in-Some.cells (statement_of c.in_ok-statement.statement) c.requires.listed (sym c.in_ok-cells.ensures ∙ c.in-Some.is) c.in_ok-statement.ensures.stated (λ i. (c.in_ok-statement.ensures.sheet i).0) c.in_ok-parameters.parameters c.in_ok-parameters.ensures

pub returns-in_err-objective-clause-opens : goal.returns-in_err-objective-clause-opens
returns-in_err-objective-clause-opens g c =
    opens_not c.args.linked.now.book.now c.args.sheet.0 c.args.text.now c.in_err-objective.field-0.0 c.from_residual-in_err-objective.result c.from_residual-in_err-objective.ensures.1
    (not_forms c.args.linked.now.book.now c.args.sheet.0 c.args.text.now c.in-Some.cells (statement_of c.in_ok-statement.statement) c.requires.listed (sym c.in_ok-cells.ensures ∙ c.in-Some.is) c.in_ok-statement.ensures.stated (λ i. (c.in_ok-statement.ensures.sheet i).0) c.in_ok-parameters.parameters c.in_ok-parameters.ensures c.in_err-objective.field-0.0 c.in_err-objective.ensures.forms)

pub returns-in_err-objective-clause-few : goal.returns-in_err-objective-clause-few
returns-in_err-objective-clause-few g c = all_few c.args.linked.now.book.now c.args.sheet.0 c.args.text.now c.in-Some.cells (statement_of c.in_ok-statement.statement) c.requires.listed (sym c.in_ok-cells.ensures ∙ c.in-Some.is) c.in_ok-statement.ensures.stated (λ i. (c.in_ok-statement.ensures.sheet i).0) c.in_ok-parameters.parameters c.in_ok-parameters.ensures c.args.steps.now c.forms_with.new.steps c.forms_with.ensures.few

pub returns-in_err-quick_over-clause-few : goal.returns-in_err-quick_over-clause-few
returns-in_err-quick_over-clause-few g c = all_few c.args.linked.now.book.now c.args.sheet.0 c.args.text.now c.in-Some.cells (statement_of c.in_ok-statement.statement) c.requires.listed (sym c.in_ok-cells.ensures ∙ c.in-Some.is) c.in_ok-statement.ensures.stated (λ i. (c.in_ok-statement.ensures.sheet i).0) c.in_ok-parameters.parameters c.in_ok-parameters.ensures c.args.steps.now c.forms_with.new.steps c.forms_with.ensures.few

pub returns-clause-opens : goal.returns-clause-opens
returns-clause-opens g c =
    all_opened c.args.linked.now.book.now c.args.sheet.0 c.args.text.now c.in-Some.cells (statement_of c.in_ok-statement.statement) c.requires.listed (sym c.in_ok-cells.ensures ∙ c.in-Some.is) c.in_ok-statement.ensures.stated (λ i. (c.in_ok-statement.ensures.sheet i).0) c.in_ok-parameters.parameters c.in_ok-parameters.ensures c.in_ok-objective.objective c.in_ok-objective.sides.items (quick_of c.in_ok-quick_over.field-0) c.in_ok-objective.ensures.forms
    (subst (λ (s : Statement). IsQuickOf c.args.linked.now.book.now s c.in_ok-parameters.parameters (quick_of c.in_ok-quick_over.field-0)) c.in_ok-objective.ensures.same c.in_ok-quick_over.ensures)

pub returns-clause-open : goal.returns-clause-open
returns-clause-open g c =
    all_open c.args.linked.now.book.now c.args.sheet.0 c.args.text.now c.in-Some.cells (statement_of c.in_ok-statement.statement) c.requires.listed (sym c.in_ok-cells.ensures ∙ c.in-Some.is) c.in_ok-statement.ensures.stated (λ i. (c.in_ok-statement.ensures.sheet i).0) c.in_ok-parameters.parameters c.in_ok-parameters.ensures c.in_ok-objective.objective c.in_ok-objective.sides.items (quick_of c.in_ok-quick_over.field-0) c.in_ok-objective.ensures.forms
    (subst (λ (s : Statement). IsQuickOf c.args.linked.now.book.now s c.in_ok-parameters.parameters (quick_of c.in_ok-quick_over.field-0)) c.in_ok-objective.ensures.same c.in_ok-quick_over.ensures)

pub returns-clause-few : goal.returns-clause-few
returns-clause-few g c = all_few c.args.linked.now.book.now c.args.sheet.0 c.args.text.now c.in-Some.cells (statement_of c.in_ok-statement.statement) c.requires.listed (sym c.in_ok-cells.ensures ∙ c.in-Some.is) c.in_ok-statement.ensures.stated (λ i. (c.in_ok-statement.ensures.sheet i).0) c.in_ok-parameters.parameters c.in_ok-parameters.ensures c.args.steps.now c.forms_with.new.steps c.forms_with.ensures.few
