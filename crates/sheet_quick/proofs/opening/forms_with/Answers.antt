use Rattle.std.proofs.Common.{◌∙◌, subst, sym}
use Rattle.solver_names.specs.Answers.{statement_of}
use Rattle.open_forms.specs.FromExtractIncr.{HaveOwnNumbers}
use Rattle.open_forms.proofs.FromSheetLinearModel.{roots_are_listed, roots_are_roots}
use Rattle.sheet_quick.proofs.Opens.{formed}
use Rattle.sheet_quick.proofs.opening.forms_with.Goals as goal

pub forms_over-found-requires-clause-there : goal.forms_over-found-requires-clause-there
forms_over-found-requires-clause-there g c = roots_are_roots c.args.linked.now.book.now (statement_of c.args.of.now) c.requires.stated.whole

pub forms_over-found-requires-clause-listed : goal.forms_over-found-requires-clause-listed
forms_over-found-requires-clause-listed g c = roots_are_listed c.args.linked.now.book.now (statement_of c.args.of.now) c.requires.stated.whole

pub forms_over-found-requires-clause-numbers : goal.forms_over-found-requires-clause-numbers
forms_over-found-requires-clause-numbers g c = subst HaveOwnNumbers (sym c.in_ok-sides.ensures) c.requires.stated.whole.numbers

pub returns-clause-forms : goal.returns-clause-forms
returns-clause-forms g c =
    formed c.args.linked.now.book.now (statement_of c.args.of.now) c.args.parameters.now c.replace-decisions.new.dest _ (c.replace-decisions.ensures.after ∙ c.in_ok-all.ensures) c.forms_over-found.ensures.forms
