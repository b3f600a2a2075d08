use Rattle.std.proofs.Common.{sym, ◌∙◌, FitsSigned, rules}
use Rattle.std.specs.Int.{w128}
use Rattle.std.proofs.lemmas.Int.{to_z-of_z}
use Rattle.frac128.proofs.Values.{num_back}
use Rattle.frac128.proofs.number.Frac.num.Goals as goal

pub returns-clause-value : goal.returns-clause-value
returns-clause-value c =
    let f : FitsSigned w128 c.num.result = search rules in
    rw (← c.self.view_is) (to_z-of_z w128 c.num.result f ∙ c.num.ensures.value ∙ sym (num_back _ c.self.invariant.reduced))
