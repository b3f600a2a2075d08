use Rattle.std.proofs.Common.{Option, subst}
use Rattle.form_needs.specs.FirstRefusal.{IsRefusal}
use Rattle.form_needs.specs.Needed.{asked_of}
use Rattle.form_needs.specs.declared.refusal.FormRefusal.{FormRefusal}
use Rattle.solver_names.specs.Answers.{statement_of}
use Rattle.sheet_quick.proofs.Causes.{refused, refused_listed}
use Rattle.sheet_quick.proofs.forms.check_forms.Goals as goal

pub returns-in-Some-clause-refused : goal.returns-in-Some-clause-refused
returns-in-Some-clause-refused c =
    refused c.args.book.now (statement_of c.args.of.now) c.in-Some.refusal
    (subst (λ (r : Option FormRefusal). IsRefusal (asked_of c.args.book.now (statement_of c.args.of.now)) r) c.in-Some.is c.in_ok-refusal.ensures)

pub returns-in-Some-clause-said : goal.returns-in-Some-clause-said
returns-in-Some-clause-said c =
    refused_listed c.args.book.now (statement_of c.args.of.now) c.in-Some.refusal c.requires.listed c.texts_are_listed.ensures
    (subst (λ (r : Option FormRefusal). IsRefusal (asked_of c.args.book.now (statement_of c.args.of.now)) r) c.in-Some.is c.in_ok-refusal.ensures)
