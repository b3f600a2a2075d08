use Rattle.std.proofs.Common.{◌∙◌, FitsSigned, rules}
use Rattle.std.specs.Int.{w128}
use Rattle.std.proofs.lemmas.Int.{to_z-of_z}
use Rattle.fractions.specs.Floor.{floor_ℚ}
use Rattle.frac128.proofs.Values.{num_back, den_back}
use Rattle.frac128.proofs.number.Frac.floor.Goals as goal

pub returns : goal.returns
unfolding floor_ℚ
returns c =
    let f : FitsSigned w128 c.floor.result = search rules in
    rw (← c.self.view_is, num_back _ c.self.invariant.reduced, den_back _ c.self.invariant.reduced)
    (to_z-of_z w128 c.floor.result f ∙ c.floor.ensures)
