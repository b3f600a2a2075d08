use Rattle.std.proofs.Common.{◌≡◌, ◌≤◌, max, drop}
use Rattle.formula_grammar.specs.Depth.{most_open}
use Rattle.formula_parser.proofs.symbols.is_too_deep.Given as goal

abbrev pub invariant-loop-symbol : goal.invariant-loop-symbol
invariant-loop-symbol l = (l.count ≤ 64) × (max 64 (most_open l.count (drop l.symbol-index l.symbols)) ≡ max 64 (most_open 0 l.symbols))
