use Rattle.std.proofs.Common.{Option, subst}
use Rattle.form_needs.specs.FirstRefusal.{IsRefusal}
use Rattle.form_needs.specs.Needed.{asked_of}
use Rattle.form_needs.specs.declared.refusal.FormRefusal.{FormRefusal}
use Rattle.solver_names.specs.Answers.{statement_of}
use Rattle.sheet_linear_model.proofs.Refusals.{refusal_prepares, refusal_said}
use Rattle.sheet_linear_model.proofs.stated.check_forms.Goals as goal

pub returns-in-Some-clause-refused : goal.returns-in-Some-clause-refused
returns-in-Some-clause-refused c =
    refusal_prepares c.args.book.now (statement_of c.args.of.now) c.requires.statement c.in-Some.refusal
    (subst (λ (r : Option FormRefusal). IsRefusal (asked_of c.args.book.now (statement_of c.args.of.now)) r) c.in-Some.is c.in_ok-refusal.ensures)

pub returns-in-Some-clause-said : goal.returns-in-Some-clause-said
returns-in-Some-clause-said c =
    refusal_said c.args.book.now (statement_of c.args.of.now) c.requires.statement c.in-Some.refusal
    (subst (λ (r : Option FormRefusal). IsRefusal (asked_of c.args.book.now (statement_of c.args.of.now)) r) c.in-Some.is c.in_ok-refusal.ensures) c.texts_are_listed.ensures
