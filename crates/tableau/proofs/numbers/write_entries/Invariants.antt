use Rattle.std.proofs.Common.{◌≡◌, ℕ, suc, ◌<◌, length}
use Rattle.fractions.specs.Vectors.{at}
use Rattle.dictionaries.specs.Narrow.{IsNarrowAt}
use Rattle.tableau.specs.Entries.{pair_at}
use Rattle.tableau.proofs.Walking.{IsMerged}
use Rattle.tableau.proofs.numbers.write_entries.Given as goal

abbrev pub invariant-loop-i : goal.invariant-loop-i
invariant-loop-i l = record {
  size : length l.into ≡ length l.row;
  rest : at l.into 0 ≡ at l.fn.into 0;
  merged : IsMerged l.row l.by l.own l.other l.col l.place l.i l.into;
  narrow : (q : ℕ) → q < l.i → IsNarrowAt l.row (suc l.col) l.by (suc (pair_at l.other q).0);
}
