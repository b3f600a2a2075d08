use Rattle.std.proofs.Common.{sym, ◌∙◌, ap, pos, FitsSigned, rules}
use Rattle.std.specs.Int.{w128}
use Rattle.std.proofs.lemmas.Int.{to_z-of_z}
use Rattle.frac128.proofs.Values.{den_back}
use Rattle.frac128.proofs.number.Frac.den.Goals as goal

pub returns-clause-value : goal.returns-clause-value
returns-clause-value c =
    let f : FitsSigned w128 c.den.result = search rules in
    rw (← c.self.view_is) (to_z-of_z w128 c.den.result f ∙ c.den.ensures.value ∙ ap pos (sym (den_back _ c.self.invariant.reduced)))
