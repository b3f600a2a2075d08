use Rattle.recalculation.proofs.Values.{val_enough, val_is, val_overridden, val_circular, val_equal}
use Rattle.recalculation.proofs.Reached.{depends_on_reached}
use Rattle.recalculation.proofs.value_laws.Goals as goal

pub returns : goal.returns
returns c = record { bound = val_enough; equation = val_is; overridden = val_overridden; circular = val_circular; equal = val_equal; reached = depends_on_reached }
