use Rattle.std.proofs.Common.{◌≡◌, All, map, string_bytes, take}
use Rattle.frac128.specs.Narrow.{IsNarrow}
use Rattle.workbook.specs.Several.{IsField}
use Rattle.write_back.specs.Writing.{number_text}
use Rattle.write_back.proofs.texts.all_texts.Given as goal

abbrev pub invariant-loop-number : goal.invariant-loop-number
invariant-loop-number l = record {
  texts : map string_bytes l.texts.items ≡ map number_text (take l.number-index l.numbers);
  fields : All (λ text. IsField (string_bytes text)) l.texts.items;
  narrow : All IsNarrow (take l.number-index l.numbers);
}
