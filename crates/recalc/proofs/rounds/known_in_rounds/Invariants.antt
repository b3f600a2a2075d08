use Rattle.std.proofs.Common.{◌≡◌, suc}
use Rattle.cell_refs.specs.declared.cell.Cell.{Cell}
use Rattle.recalculation.specs.Entries.{no_overriding}
use Rattle.recalculation.specs.Narrow.{bounded_known}
use Rattle.recalc.specs.Rows.{seen_in}
use Rattle.workbook.specs.Kinds.{book_of}
use Rattle.recalc.proofs.rounds.known_in_rounds.Given as goal

abbrev pub invariant-loop : goal.invariant-loop
invariant-loop l = (a : Cell) → seen_in (book_of l.book) l.rows.entries a ≡ bounded_known (book_of l.book) no_overriding (suc l.counter) a
