-- The rows so far, and the symbols behind them.
use Rattle.std.proofs.Common.{length}
use Rattle.std.specs.Option.{option_map}
use Rattle.formula_parser.specs.Placed.{AreSymbols}
use Rattle.formula_parser.specs.Settings.{seen}
use Rattle.formula_parser.proofs.Turning.{RowsSoFar}
use Rattle.formula_parser.proofs.array.all_rows.Given as goal

abbrev pub invariant-loop-behind : goal.invariant-loop-behind
invariant-loop-behind l = record {
  far : RowsSoFar (seen l.setting) l.symbols l.rows.count l.rows.columns (option_map (λ v. v.items) l.rows.exprs) l.rest;
  symbols : AreSymbols l.setting.text.now l.rest;
}

abbrev pub decreases-loop-behind : goal.decreases-loop-behind
decreases-loop-behind l = length l.rest
