use Rattle.std.proofs.Common.{◌∙◌, ap, ◌++◌, ◌∷◌, []}
use Rattle.linear_programs.specs.Program.{single_column}
use Rattle.linear_programs.proofs.Ranges.{single_columns_more}
use Rattle.linear_programs.proofs.standard.own_columns.Goals as goal

pub loop-j-preserved : goal.loop-j-preserved
loop-j-preserved c = c.in_ok-push.ensures.items ∙ ap (λ l. l ++ single_column c.loop-j.j ∷ []) c.loop-j.invariant ∙ single_columns_more c.loop-j.j
