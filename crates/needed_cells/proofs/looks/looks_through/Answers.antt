use Rattle.std.proofs.Common.{sym, ◌∙◌}
use Rattle.workbook.specs.Kinds.{book_of}
use Rattle.needed_cells.proofs.Circles.{all_plain}
use Rattle.needed_cells.proofs.looks.looks_through.Goals as goal

pub returns-then-is_plain : goal.returns-then-is_plain
returns-then-is_plain c =
    all_plain (book_of c.args.sheet.now.book.now) c.args.sheet.now.sides.now c.args.sheet.now.adj.now c.args.sheet.now.forms.now c.requires.settled c.args.sheet.now.roots.now c.args.tree.now
    c.args.place c.requires.tree (sym c.is_plain.ensures ∙ c.if-is_plain.true) c.referred_by.result c.referred_by.ensures
