-- The items so far, and the symbols behind them.
use Rattle.std.proofs.Common.{length}
use Rattle.std.specs.Option.{option_map}
use Rattle.formula_parser.specs.Placed.{AreSymbols}
use Rattle.formula_parser.specs.Settings.{seen}
use Rattle.formula_parser.proofs.Turning.{RowSoFar}
use Rattle.formula_parser.proofs.array.row.Given as goal

abbrev pub invariant-loop-behind : goal.invariant-loop-behind
invariant-loop-behind l = record {
  far : RowSoFar (seen l.setting) l.symbols l.items.count (option_map (λ v. v.items) l.items.exprs) l.rest;
  symbols : AreSymbols l.setting.text.now l.rest;
}

abbrev pub decreases-loop-behind : goal.decreases-loop-behind
decreases-loop-behind l = length l.rest
