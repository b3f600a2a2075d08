use Rattle.plain_formulas.proofs.Looks.{plain_looks_at_all}
use Rattle.plain_formulas.proofs.plain_looks_at_all.Goals as goal

pub returns : goal.returns
returns c = plain_looks_at_all
