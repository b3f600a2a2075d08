use Rattle.std.proofs.Common.{◌-◌, ◌≤◌, length}
use Rattle.formula_lexer.proofs.Cuts.{Completes, Passes}
use Rattle.formula_lexer.proofs.lexer.cut.Given as goal

abbrev pub invariant-loop-at : goal.invariant-loop-at
invariant-loop-at l = (l.at ≤ length l.text) × Completes l.text l.tokens.items l.at × Passes l.text l.at

abbrev pub decreases-loop-at : goal.decreases-loop-at
decreases-loop-at l = length l.text - l.at
