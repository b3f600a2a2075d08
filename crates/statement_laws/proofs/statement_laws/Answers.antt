use Rattle.statement_laws.proofs.ToldCells.{faults_are_listed}
use Rattle.statement_laws.proofs.Wholes.{groups_are_left_sides, statements_are_whole}
use Rattle.statement_laws.proofs.statement_laws.Goals as goal

pub returns : goal.returns
returns c = record { whole = statements_are_whole; groups = groups_are_left_sides; faults = faults_are_listed }
