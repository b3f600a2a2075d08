use Rattle.std.proofs.Common.{rules}
use Rattle.solver_names.specs.Read.{read_of}
use Rattle.solver_names.proofs.ReadFaults.{option_first}
use Rattle.solver_names.proofs.faults.fault_with.Goals as goal

pub returns-in-Some-option_fault : goal.returns-in-Some-option_fault
returns-in-Some-option_fault c =
    option_first (read_of c.args.names.now) c.args.decisions.now c.requires.said (search rules) (search rules) c.in-Some-option_fault.fault c.in-Some-option_fault.ensures
