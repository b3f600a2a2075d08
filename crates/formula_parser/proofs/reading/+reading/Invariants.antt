-- The turns from here give what all turns give, and what is read so far stands in front of the rest.
use Rattle.std.proofs.Common.{◌≡◌, ◌+◌, ◌*◌, ◌≤◌, length, drop, Some}
use Rattle.formula_grammar.specs.Loops.{all_turns}
use Rattle.formula_grammar.specs.Reading.{level_at, signed_at, args_at, percent_turn, arg_turn}
use Rattle.formula_parser.specs.Built.{built}
use Rattle.formula_parser.specs.Given.{prefix_count, formulas, primaries, hundredths}
use Rattle.formula_parser.specs.Placed.{AreBefore, AreSymbols, IsInFront}
use Rattle.formula_parser.specs.Settings.{seen}
use Rattle.formula_parser.proofs.Steps.{climb}
use Rattle.formula_parser.proofs.reading.+reading.Given as goal

abbrev pub decreases-formula : goal.decreases-formula
decreases-formula l = 600 * l.depth

abbrev pub decreases-arg : goal.decreases-arg
decreases-arg l = 600 * l.depth + 1

abbrev pub decreases-parens : goal.decreases-parens
decreases-parens l = 600 * l.depth + 1

abbrev pub decreases-args : goal.decreases-args
decreases-args l = 600 * l.depth + 2

abbrev pub decreases-args_if_any : goal.decreases-args_if_any
decreases-args_if_any l = 600 * l.depth + 3

abbrev pub decreases-call : goal.decreases-call
decreases-call l = 600 * l.depth + 4

abbrev pub decreases-call_or_leaf : goal.decreases-call_or_leaf
decreases-call_or_leaf l = 600 * l.depth + 5

abbrev pub decreases-primary : goal.decreases-primary
decreases-primary l = 600 * l.depth + 6

abbrev pub decreases-signs_and_primary : goal.decreases-signs_and_primary
decreases-signs_and_primary l = 600 * l.depth + 7

abbrev pub decreases-percents : goal.decreases-percents
decreases-percents l = 600 * l.depth + 8

abbrev pub decreases-level : goal.decreases-level
decreases-level l = 600 * l.depth + 9 + l.at

abbrev pub invariant-args-loop-separator : goal.invariant-args-loop-separator
invariant-args-loop-separator l = record {
  so_far : all_turns (arg_turn (built (seen l.setting)) (formulas (seen l.setting) l.depth)) l.args.items l.rest
      ≡ args_at (built (seen l.setting)) (formulas (seen l.setting) l.depth) l.before l.symbols;
  front : AreBefore l.before l.args.items l.rest;
  symbols : AreSymbols l.setting.text.now l.rest;
}

abbrev pub decreases-args-loop-separator : goal.decreases-args-loop-separator
decreases-args-loop-separator l = length l.rest

abbrev pub invariant-percents-loop-sign : goal.invariant-percents-loop-sign
invariant-percents-loop-sign l = record {
  so_far : all_turns (percent_turn (built (seen l.setting))) l.part l.rest ≡ hundredths (seen l.setting) l.depth l.symbols;
  front : IsInFront l.symbols l.part l.rest;
  symbols : AreSymbols l.setting.text.now l.rest;
}

abbrev pub decreases-percents-loop-sign : goal.decreases-percents-loop-sign
decreases-percents-loop-sign l = length l.rest

abbrev pub invariant-level-loop-op : goal.invariant-level-loop-op
invariant-level-loop-op l = record {
  so_far : climb (built (seen l.setting)) (hundredths (seen l.setting) l.depth) l.at 1 l.left l.rest
      ≡ level_at (built (seen l.setting)) (hundredths (seen l.setting) l.depth) l.at l.symbols;
  front : IsInFront l.symbols l.left l.rest;
  symbols : AreSymbols l.setting.text.now l.rest;
}

abbrev pub decreases-level-loop-op : goal.decreases-level-loop-op
decreases-level-loop-op l = length l.rest

abbrev pub invariant-signs_and_primary-loop-left : goal.invariant-signs_and_primary-loop-left
invariant-signs_and_primary-loop-left l = record {
  signs : l.left ≤ prefix_count l.symbols;
  within : l.left ≤ length l.symbols;
  so_far : signed_at (built (seen l.setting)) (primaries (seen l.setting) l.depth) (drop l.left l.symbols) ≡ Some (l.part, l.rest);
  front : IsInFront (drop l.left l.symbols) l.part l.rest;
}

abbrev pub decreases-signs_and_primary-loop-left : goal.decreases-signs_and_primary-loop-left
decreases-signs_and_primary-loop-left l = l.left
