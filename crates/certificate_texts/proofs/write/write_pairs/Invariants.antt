use Rattle.std.proofs.Common.{◌≡◌, ◌++◌, All, drop, suc, take}
use Rattle.std.specs.Prelude.{string_bytes}
use Rattle.frac128.specs.Narrow.{IsNarrow}
use Rattle.certificate_lines.specs.Line.{spaced, pair_words}
use Rattle.certificate_texts.proofs.write.write_pairs.Given as goal

-- what is written, and the pairs that are left
abbrev pub invariant-loop-place : goal.invariant-loop-place
invariant-loop-place l = record {
  written : string_bytes l.to ++ spaced (pair_words (suc l.place) (drop l.place l.numbers)) ≡ string_bytes l.fn.to ++ spaced (pair_words 1 l.numbers);
  narrow : All IsNarrow (take l.place l.numbers);
}
