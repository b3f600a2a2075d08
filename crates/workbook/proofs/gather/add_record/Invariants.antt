use Rattle.std.proofs.Common.{◌≡◌, ◌++◌, drop}
use Rattle.workbook.specs.Files.{texts_in_record}
use Rattle.workbook.proofs.gather.add_record.Given as goal

-- with what is left of the record the texts are all that are to be there
abbrev pub invariant-loop-column : goal.invariant-loop-column
invariant-loop-column l =
    l.texts.items ++ texts_in_record l.sheet.0 l.row l.column (drop l.column l.fields) ≡ l.initial.texts.items ++ texts_in_record l.sheet.0 l.row 0 l.fields
