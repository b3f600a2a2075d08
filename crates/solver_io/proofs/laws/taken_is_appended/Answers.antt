use Rattle.std.proofs.Common.{Some, None, ap, ◌∙◌}
use Rattle.std.specs.List.{concat}
use Rattle.std.proofs.lemmas.List.Folds.{concat-append}
use Rattle.solver_io.specs.Bytes.{TakenIsAppended}
use Rattle.solver_io.proofs.laws.taken_is_appended.Goals as goal

appended : TakenIsAppended
appended None new pieces h = tt
appended (Some taken) None pieces h = absurd h
appended (Some taken) (Some now) pieces h = ap concat h ∙ concat-append taken pieces

pub returns : goal.returns
returns c = appended
