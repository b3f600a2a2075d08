use Rattle.std.proofs.Common.{length}
use Rattle.certificate_texts.proofs.PairLists.{FarPairs}
use Rattle.certificate_texts.proofs.lists.read_pairs.Given as goal

abbrev pub invariant-loop-rest : goal.invariant-loop-rest
invariant-loop-rest l = FarPairs l.most l.text l.numbers.items l.rest

abbrev pub decreases-loop-rest : goal.decreases-loop-rest
decreases-loop-rest l = length l.rest
