use Rattle.std.proofs.Common.{◌∙◌, ap}
use Rattle.fractions.specs.Vectors.{at}
use Rattle.dictionaries.proofs.Reaching.{reached_on_the_way}
use Rattle.simplex.proofs.Answering.{best_is}
use Rattle.simplex.proofs.answer.best.Goals as goal

pub returns : goal.returns
returns c =
    best_is c.args.of.now c.args.dict.now _ _ _ _ c.rows-regular.ensures.regular (reached_on_the_way c.args.of.now c.args.dict.now c.rows-regular.ensures.regular c.requires.reached) c.requires.end
    c.objective.ensures c.in_ok-at.ensures (c.rest.ensures ∙ ap (λ row. at row 0) c.objective-2.ensures) c.in_ok-bound.ensures
