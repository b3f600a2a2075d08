use Rattle.std.proofs.Common.{◌≡◌, IfOk, ap, subst, ◌∙◌}
use Rattle.form_extraction.specs.Parts.{Part}
use Rattle.form_extraction.specs.Places.{by_looks, least_without}
use Rattle.workbook.specs.Kinds.{book_of}
use Rattle.extract.specs.Knowing.{known_form}
use Rattle.extract.proofs.Placing.{formed_is}
use Rattle.extract.proofs.place.formula_form.Goals as goal

pub returns : goal.returns
returns c =
    let forms = known_form (book_of c.args.book.now) c.args.adj.now c.args.got.now in
    subst (λ form. IfOk c.form_of_part.result (λ f. f ≡ form))
    (ap (λ (p : Part). by_looks (least_without forms p.looks) p.outcome) c.in_ok-part.ensures
    ∙ formed_is (book_of c.args.book.now) c.args.adj.now c.args.got.now c.args.tree.now c.requires.forms c.args.place c.requires.tree c.requires.undecided c.requires.free)
    c.form_of_part.ensures
