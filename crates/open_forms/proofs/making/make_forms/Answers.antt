use Rattle.std.proofs.Common.{ap}
use Rattle.workbook.specs.Kinds.{book_of}
use Rattle.extract_incr.specs.Keeping.{Kept}
use Rattle.open_forms.proofs.NoForms.{none_kept}
use Rattle.open_forms.proofs.making.make_forms.Goals as goal

pub settle-requires-clause-kept : goal.settle-requires-clause-kept
settle-requires-clause-kept g c = none_kept (book_of c.args.linked.now.book.now) c.in_ok-forms.forms (ap (λ (k : Kept). k.table) c.in_ok-forms.ensures)
