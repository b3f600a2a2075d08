use Rattle.std.proofs.Common.{ap}
use Rattle.workbook.specs.Kinds.{book_of}
use Rattle.extract_incr.specs.Keeping.{Kept}
use Rattle.kept_forms.proofs.Settled.{none_kept}
use Rattle.kept_forms.proofs.form_tables.made.Goals as goal

pub settle-requires-clause-kept : goal.settle-requires-clause-kept
settle-requires-clause-kept g c = none_kept (book_of c.args.linked.now.book.now) c.in_ok-forms.forms (ap (λ (k : Kept). k.table) c.in_ok-forms.ensures)
