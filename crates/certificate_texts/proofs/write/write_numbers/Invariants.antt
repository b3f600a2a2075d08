use Rattle.std.proofs.Common.{◌≡◌, ◌++◌, All, drop, map, take}
use Rattle.std.specs.Prelude.{string_bytes}
use Rattle.frac128.specs.Narrow.{IsNarrow}
use Rattle.frac128.specs.Printed.{printed}
use Rattle.certificate_lines.specs.Line.{spaced}
use Rattle.certificate_texts.proofs.write.write_numbers.Given as goal

-- what is written, and the numbers that are left
abbrev pub invariant-loop-number : goal.invariant-loop-number
invariant-loop-number l = record {
  written : string_bytes l.to ++ spaced (map printed (drop l.number-index l.numbers)) ≡ string_bytes l.fn.to ++ spaced (map printed l.numbers);
  narrow : All IsNarrow (take l.number-index l.numbers);
}
