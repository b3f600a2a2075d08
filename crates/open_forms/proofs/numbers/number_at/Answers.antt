use Rattle.std.proofs.Common.{◌≡◌, Option, subst, sym, ◌∙◌}
use Rattle.std.specs.Prelude.{IfOk}
use Rattle.affine_forms.specs.Forms.{AffineForm}
use Rattle.solver_names.specs.Answers.{statement_of}
use Rattle.sheet_linear_model.proofs.FormNumbers.{number_kept, number_not_kept}
use Rattle.open_forms.proofs.numbers.number_at.Goals as goal

pub returns-in-Some : goal.returns-in-Some
returns-in-Some c =
    subst (λ (v : Option AffineForm). IfOk c.number_in_form.result (λ number. number ≡ v))
    (number_kept c.args.book.now (statement_of c.args.of.now) c.args.forms.now c.requires c.args.place c.in-Some.form.now (sym c.in-Some.ensures)) c.number_in_form.ensures

pub returns-in-None : goal.returns-in-None
returns-in-None c = c.number_unkept.ensures ∙ number_not_kept c.args.book.now (statement_of c.args.of.now) c.args.forms.now c.requires c.args.place (sym c.in-None.ensures)
