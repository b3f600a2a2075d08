use Rattle.std.proofs.Common.{All, take}
use Rattle.frac128.specs.Narrow.{IsNarrow}
use Rattle.sheet_quick.proofs.giving.are_narrow.Given as goal

-- those so far are
abbrev pub invariant-loop-number : goal.invariant-loop-number
invariant-loop-number l = All IsNarrow (take l.number-index l.numbers)
