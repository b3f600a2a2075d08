use Rattle.dictionaries.proofs.FirstPoints.{first_keeps_points}
use Rattle.dictionaries.proofs.first_keeps_points.Goals as goal

pub returns : goal.returns
returns c = first_keeps_points
