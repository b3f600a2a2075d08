use Rattle.std.proofs.Common.{◌≡◌, map, true}
use Rattle.std.specs.List.{range_with_len}
use Rattle.cell_refs.specs.Areas.{cell_at}
use Rattle.recalculation.specs.Looking.{are_known, known_or_empty}
use Rattle.workbook.specs.Kinds.{book_of}
use Rattle.recalc.specs.Rows.{seen_in}
use Rattle.recalc.proofs.seen.SeenCells.values.Given as goal

-- the values so far
abbrev pub invariant-loop-place : goal.invariant-loop-place
invariant-loop-place l = record {
  known : are_known (seen_in (book_of l.self.book.now) l.self.rows.now.entries) (map (cell_at l.area) (range_with_len 0 l.place)) ≡ true;
  values : l.values.items ≡ map (known_or_empty (seen_in (book_of l.self.book.now) l.self.rows.now.entries)) (map (cell_at l.area) (range_with_len 0 l.place));
}
