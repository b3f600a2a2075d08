use Rattle.std.proofs.Common.{ap, sym, ◌∙◌}
use Rattle.workbook.specs.Kinds.{book_of}
use Rattle.form_values.specs.declared.abs.Abs.TheVariants.{Affine}
use Rattle.form_extraction.specs.declared.forms.CellForm.TheVariants.{Form}
use Rattle.form_extraction.specs.Places.{numbered_in}
use Rattle.extract.proofs.Placing.{decided_is}
use Rattle.extract.proofs.place.place_form.Goals as goal

pub returns-in-Some : goal.returns-in-Some
returns-in-Some c =
    ap (λ f. Form (Affine f)) c.decision.ensures
    ∙ decided_is (book_of c.args.book.now) (numbered_in c.args.adj.now) c.args.place c.args.tree.now c.in-Some.number (sym c.in-Some.ensures)
