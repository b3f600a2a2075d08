use Rattle.std.proofs.Common.{◌≤◌, ap, arith, length}
use Rattle.solver_names.specs.Faults.{decisions_of}
use Rattle.solver_names.specs.Read.{read_of}
use Rattle.solver_names.proofs.NoFaults.{all_fit, few_decisions, few_rows}
use Rattle.solver_names.proofs.stated.statement_by.Goals as goal

pub into_adj-requires : goal.into_adj-requires
into_adj-requires c = omega (arith, ap length c.decisions_of.ensures, few_decisions (read_of c.args.names) c.requires)

pub rows_of-requires-clause-fit : goal.rows_of-requires-clause-fit
rows_of-requires-clause-fit c = rw c.deref.ensures.value (all_fit (read_of c.args.names) c.requires)

pub rows_of-requires-clause-few : goal.rows_of-requires-clause-few
rows_of-requires-clause-few c = rw c.deref.ensures.value (few_rows (read_of c.args.names) c.requires)

pub returns-clause-few : goal.returns-clause-few
returns-clause-few c =
    let few : length (decisions_of (read_of c.args.names)) ≤ 512 = few_decisions (read_of c.args.names) c.requires in
    omega (arith, ap length c.in_ok-adj.ensures, ap length c.decisions_of.ensures, few)
