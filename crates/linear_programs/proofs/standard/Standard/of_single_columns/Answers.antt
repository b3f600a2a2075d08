use Rattle.std.proofs.Common.{sym, subst, arith}
use Rattle.std.specs.Prelude.{All}
use Rattle.linear_programs.specs.Program.{Program, IsCell}
use Rattle.linear_programs.proofs.Ranges.{single_cells}
use Rattle.linear_programs.proofs.standard.Standard.of_single_columns.Goals as goal

pub new-requires-clause-cells : goal.new-requires-clause-cells
new-requires-clause-cells c =
    let p : Program = record { columns = c.in_ok-columns.columns.items; objective = c.args.objective.items; constant = c.args.constant; rows = c.args.rows.items } in
    subst (All (IsCell p)) (sym c.in_ok-columns.ensures) (single_cells p c.len.result (omega (arith, c.len.ensures)))
