use Rattle.std.proofs.Common.{◌≡◌, ◌≤◌, ◌++◌, drop, length}
use Rattle.cell_refs.specs.declared.limits.TheConstants.{TEXTS}
use Rattle.workbook.specs.Files.{texts_in_records}
use Rattle.workbook.proofs.gather.with_sheet.Given as goal

-- with what is left of the sheet the texts are all that are to be there
abbrev pub invariant-loop-row : goal.invariant-loop-row
invariant-loop-row l = record {
  all : l.texts.items ++ texts_in_records l.sheet.0 l.row (drop l.row l.rows) ≡ l.initial.texts.items ++ texts_in_records l.sheet.0 0 l.rows;
  few : length l.texts.items ≤ TEXTS;
}
