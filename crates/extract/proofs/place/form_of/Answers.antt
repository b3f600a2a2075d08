use Rattle.std.proofs.Common.{sym, subst}
use Rattle.workbook.specs.Kinds.{book_of}
use Rattle.extract.specs.Places.{IsRightly, IsTheValue}
use Rattle.extract.proofs.Placing.{refused_rightly, value_of_place}
use Rattle.extract.proofs.place.form_of.Goals as goal
use Rattle.form_extraction.specs.Places.{numbered_in}

pub returns-clause-value : goal.returns-clause-value
returns-clause-value g c =
    subst (IsTheValue (book_of c.args.book.now) (numbered_in c.args.adj.now) c.args.place c.args.tree.now) (sym c.in_ok-form.ensures)
    (value_of_place (book_of c.args.book.now) (numbered_in c.args.adj.now) c.args.place c.args.tree.now)

pub returns-clause-refusal : goal.returns-clause-refusal
returns-clause-refusal g c =
    subst (IsRightly (book_of c.args.book.now) (numbered_in c.args.adj.now) c.args.tree.now) (sym c.in_ok-form.ensures)
    (refused_rightly (book_of c.args.book.now) (numbered_in c.args.adj.now) c.args.place c.args.tree.now c.requires.tree)
