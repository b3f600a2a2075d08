use Rattle.std.proofs.Common.{sym, subst}
use Rattle.extract_incr.specs.Keeping.{AreKept}
use Rattle.workbook.specs.Kinds.{book_of}
use Rattle.kept_forms.specs.Tables.{SheetKept}
use Rattle.kept_forms.proofs.sheet_table.SheetTable.settle.Goals as goal

pub settle-requires-clause-kept : goal.settle-requires-clause-kept
settle-requires-clause-kept g c = subst (λ (t : SheetKept). AreKept (book_of c.args.linked.now.book.now) t.kept) (sym c.self.view_is) c.requires.kept
