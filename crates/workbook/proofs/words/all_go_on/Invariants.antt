use Rattle.std.proofs.Common.{◌≡◌, true, take}
use Rattle.std.specs.List.{list_all}
use Rattle.workbook.specs.Files.{goes_on_name}
use Rattle.workbook.proofs.words.all_go_on.Given as goal

-- the bytes so far go on with a name
abbrev pub invariant-loop-byte : goal.invariant-loop-byte
invariant-loop-byte l = list_all goes_on_name (take l.byte-index l.bytes) ≡ true
