use Rattle.std.proofs.Common.{◌∙◌, sym}
use Rattle.workbook.specs.Kinds.{book_of}
use Rattle.needed_forms.proofs.Telling.{decided_refusal, open_refusal}
use Rattle.needed_forms.proofs.told.Told.cell_refusal.Goals as goal

pub returns-in-Some : goal.returns-in-Some
returns-in-Some c = decided_refusal (book_of c.args.self.now.book.now) c.args.self.now.adj.now c.args.self.now.forms.now c.args.cell _ (sym c.in-Some.ensures)

pub returns-in-None : goal.returns-in-None
returns-in-None c =
    c.said_refusal.ensures ∙ open_refusal c.args.self.now.book.now c.args.self.now.adj.now c.args.self.now.forms.now c.args.cell (sym c.in-None.ensures)
