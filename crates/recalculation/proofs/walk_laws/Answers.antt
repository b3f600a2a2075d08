use Rattle.recalculation.proofs.Circles.{walks_get_shorter, free_refers_to_free, circular_is_endless}
use Rattle.recalculation.proofs.WithinAreas.{referred_are_cells}
use Rattle.recalculation.proofs.walk_laws.Goals as goal

pub returns : goal.returns
returns c = record { referred = referred_are_cells; shorter = walks_get_shorter; free = free_refers_to_free; endless = circular_is_endless }
