use Rattle.std.proofs.Common.{◌≡◌, suc, length}
use Rattle.std.specs.Prelude.{All}
use Rattle.tableau.specs.Changed.{AreChanged}
use Rattle.tableau.proofs.rows.change_before.Given as goal

abbrev pub invariant-loop-i : goal.invariant-loop-i
invariant-loop-i l = record {
  widths : All (λ r. length r ≡ length l.by) l.rows;
  room : length l.spare ≡ length l.by;
  changed : AreChanged l.fn.rows l.i l.leaving (suc l.col) l.by l.rows;
}
