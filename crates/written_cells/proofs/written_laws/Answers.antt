use Rattle.written_cells.proofs.Writing.{written_is_overridden}
use Rattle.written_cells.proofs.written_laws.Goals as goal

pub returns : goal.returns
returns c = record { written = written_is_overridden }
