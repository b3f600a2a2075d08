use Rattle.std.proofs.Common.{length}
use Rattle.std.specs.Prelude.{All}
use Rattle.cell_refs.specs.Areas.{IsOnSheet}
use Rattle.formula_parser.specs.Placed.{AreSymbols}
use Rattle.formula_parser.specs.Settings.{seen}
use Rattle.formula_parser.proofs.JoinedAreas.{IsJoined}
use Rattle.formula_parser.proofs.union.references.Given as goal

abbrev pub invariant-loop-behind : goal.invariant-loop-behind
invariant-loop-behind l = record {
  joined : IsJoined (seen l.setting) l.fn.symbols l.union.areas.items l.union.lost l.rest;
  on_sheet : All IsOnSheet l.union.areas.items;
  rest : AreSymbols l.setting.text.now l.rest;
}

abbrev pub decreases-loop-behind : goal.decreases-loop-behind
decreases-loop-behind l = length l.rest
