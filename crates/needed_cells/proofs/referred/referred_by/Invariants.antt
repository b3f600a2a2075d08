use Rattle.std.proofs.Common.{take}
use Rattle.workbook.specs.Kinds.{book_of}
use Rattle.needed_cells.proofs.Texts.{AreWithin}
use Rattle.needed_cells.proofs.referred.referred_by.Given as goal

abbrev pub invariant-loop-area : goal.invariant-loop-area
invariant-loop-area l = AreWithin (book_of l.book) l.adj (take l.area-index l.area-items) l.found.items
