use Rattle.text_laws.proofs.Longest.{none}
use Rattle.text_laws.proofs.none_is_cut_where_none_stands.Goals as goal

pub returns : goal.returns
returns c = none
