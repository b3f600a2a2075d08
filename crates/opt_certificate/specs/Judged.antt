-- Answers of a test whose sums may be too wide. No public clause cites this module.
use Rattle.std.specs.Prelude.{Bool, true, false, Result, Ok, Err}
use Rattle.opt_certificate.specs.declared.node.LeafStop.{LeafStop}
use Rattle.opt_certificate.specs.declared.node.LeafStop.TheVariants as stops

-- yes: the property holds, and all sums are narrow; no: it doesn't hold; wide: some sum isn't narrow
abbrev pub Judged : {E : Type 0} → Type 0 → Type 0 → Result Bool E → Type 0
Judged P N (Ok true) = P × N
Judged P N (Ok false) = ¬ P
Judged P N (Err wide) = ¬ N

-- the same, where memory may run out
abbrev pub LeafJudged : Type 0 → Type 0 → Result Bool LeafStop → Type 0
LeafJudged P N (Ok true) = P × N
LeafJudged P N (Ok false) = ¬ P
LeafJudged P N (Err stops.Wide) = ¬ N
LeafJudged P N (Err stops.Memory) = Unit {0}
