use Rattle.std.proofs.Common.{ap, ◌∙◌}
use Rattle.std.specs.FinMap.{get}
use Rattle.std.specs.FinSet as set
use Rattle.dep_table.proofs.AffectedLaws.{affected_in}
use Rattle.dep_table.proofs.deps.Deps.affected.Goals as goal

pub returns : goal.returns
returns c = λ book refs.
    affected_in c.self.inside.kept book (λ a. ap (λ r. get r a) c.self.view_is ∙ refs a) c.args.from (set.contains c.affected.new.marks) c.affected.ensures
