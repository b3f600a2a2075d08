use Rattle.text_laws.proofs.Areas.{areas, none_read, one_area}
use Rattle.text_laws.proofs.areas_are_spelled.Goals as goal

pub returns : goal.returns
returns c = record { read = areas; one = one_area; none = none_read }
