use Rattle.recalculation.specs.Entries.{no_overriding}
use Rattle.recalculation.specs.Narrow.{known_over}
use Rattle.workbook.specs.Kinds.{book_of}
use Rattle.recalc.proofs.Rounding.{kept_value}
use Rattle.recalc.proofs.rounds.put_value.Goals as goal

pub returns-clause-kept : goal.returns-clause-kept
returns-clause-kept g c =
    kept_value c.args.rows.now.entries c.put.new.rows.entries c.args.cell _ (known_over (book_of c.args.book.now) no_overriding (g.C.Cells.known c.args.before.now))
    c.in_ok-put.ensures c.in_ok-value.ensures
