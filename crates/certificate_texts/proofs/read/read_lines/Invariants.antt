use Rattle.std.proofs.Common.{length}
use Rattle.certificate_texts.specs.Drafts.{IsReadTo}
use Rattle.certificate_texts.proofs.read.read_lines.Given as goal

abbrev pub invariant-loop-alloc : goal.invariant-loop-alloc
invariant-loop-alloc l = IsReadTo l.text l.draft l.rest l.count

abbrev pub decreases-loop-alloc : goal.decreases-loop-alloc
decreases-loop-alloc l = length l.rest
