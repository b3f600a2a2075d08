use Rattle.std.proofs.Common.{ap, ◌∙◌}
use Rattle.std.proofs.lemmas.Result.{IfOk-weaker}
use Rattle.fractions.specs.Vectors.{at}
use Rattle.affine_forms.specs.Forms.{coefficient}
use Rattle.lin_model.proofs.Dense.{spread_same}
use Rattle.lin_model.proofs.standard.columns_of.Goals as goal

pub returns : goal.returns
returns c =
    IfOk-weaker c.spread.result _ _
    (λ v h. h ∙ spread_same c.args.splits.now (at c.deref.result.now) (coefficient c.args.terms.now)
    (λ i l. ap (λ xs. at xs i) c.deref.ensures.value ∙ c.in_ok-numbers.ensures.1 i l))
    c.spread.ensures
