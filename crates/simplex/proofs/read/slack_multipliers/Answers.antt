use Rattle.std.proofs.Common.{◌+◌, arith}
use Rattle.fractions.specs.Rational.{neg_ℚ}
use Rattle.dictionaries.specs.Reading.{entry_of}
use Rattle.simplex.proofs.Lookups.{grown}
use Rattle.simplex.proofs.read.slack_multipliers.Goals as goal

pub loop-i-preserved : goal.loop-i-preserved
loop-i-preserved c = grown (λ v. neg_ℚ (entry_of c.args.dict.now.nonbasic c.args.row.now v)) (c.args.columns + 1) c.loop-i.i (c.args.columns + 1 + c.loop-i.i) _ _ _ c.in_ok-push.ensures.items c.loop-i.invariant c.multiplier.ensures (omega arith)
