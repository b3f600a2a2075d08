use Rattle.std.proofs.Common.{length}
use Rattle.workbook.proofs.several.+put_each.Given as goal

-- fewer cells are left
abbrev pub decreases-put_each : goal.decreases-put_each
decreases-put_each l = length l.at.now
