use Rattle.std.proofs.Common.{◌≡◌, length}
use Rattle.workbook.specs.Held.{put_all}
use Rattle.workbook.specs.Opened.{TextsFit}
use Rattle.workbook.proofs.open.with_texts.Given as goal

-- with what is left all texts are put
abbrev pub invariant-loop-cell : goal.invariant-loop-cell
invariant-loop-cell l = record {
  all : put_all l.texts.items l.workbook.contents ≡ put_all l.initial.texts.items l.initial.workbook.contents;
  sheets : l.workbook.sheets ≡ l.initial.workbook.sheets;
  names : l.workbook.names ≡ l.initial.workbook.names;
  fits : TextsFit l.workbook l.texts.items;
}

abbrev pub decreases-loop-cell : goal.decreases-loop-cell
decreases-loop-cell l = length l.texts.items
