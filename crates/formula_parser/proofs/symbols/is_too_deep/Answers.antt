use Rattle.std.proofs.Common.{refl}
use Rattle.formula_grammar.specs.Depth.{most_open}
use Rattle.formula_parser.proofs.Deep.{deep_here}
use Rattle.formula_parser.proofs.symbols.is_too_deep.Goals as goal

pub returns-then-count-gt-BRACKETS : goal.returns-then-count-gt-BRACKETS
returns-then-count-gt-BRACKETS c =
    ((λ _. deep_here c.args.symbols.now c.loop-symbol.symbol-index c.loop-symbol.count (most_open 0 c.args.symbols.now) _ c.loop-symbol-test.true (rw c.open_behind-count.ensures at c.if-count-gt-BRACKETS.true) c.loop-symbol.invariant.1), (λ _. refl))
