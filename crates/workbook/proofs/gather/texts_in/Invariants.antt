use Rattle.std.proofs.Common.{◌≡◌, ◌≤◌, ◌++◌, drop, length}
use Rattle.cell_refs.specs.declared.limits.TheConstants.{TEXTS}
use Rattle.workbook.specs.Gathered.{texts_in_sheets}
use Rattle.workbook.proofs.gather.texts_in.Given as goal

-- with what is left of the sheets the texts are all
abbrev pub invariant-loop-sheet : goal.invariant-loop-sheet
invariant-loop-sheet l = record {
  all : l.texts.items ++ texts_in_sheets l.sheet (drop l.sheet l.sheets) ≡ texts_in_sheets 0 l.sheets;
  few : length l.texts.items ≤ TEXTS;
}
