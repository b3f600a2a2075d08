use Rattle.std.proofs.Common.{ap, ◌∙◌, ◌++◌, ◌∷◌, [], ◌+◌}
use Rattle.linear_programs.proofs.Ranges.{range_more}
use Rattle.tableau.proofs.first.numbers_from.Goals as goal

pub loop-i-preserved : goal.loop-i-preserved
loop-i-preserved c =
    c.in_ok-push.ensures.items ∙ ap (λ l. l ++ (c.args.from + c.loop-i.i) ∷ []) c.loop-i.invariant ∙ range_more c.args.from c.loop-i.i
