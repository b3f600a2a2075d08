-- A number, or what stands in place of one that is too wide.
use Rattle.std.proofs.Common.{None, Some, ap, sym, ◌∙◌}
use Rattle.std.specs.Option.{option_map}
use Rattle.frac128.specs.NumeralReading.{reading}
use Rattle.formula_grammar.specs.Symbols.{bytes_of}
use Rattle.formula_parser.specs.declared.branch.Branch.{Branch}
use Rattle.formula_parser.specs.declared.branch.Part.{Part}
use Rattle.formula_parser.specs.Leaves.{leaf_part, single_by}
use Rattle.formula_parser.specs.Settings.{seen}
use Rattle.formula_parser.proofs.LeafParts.{number_kept, wide_kept}
use Rattle.formula_parser.proofs.leaf.number_part.Goals as goal

pub part_of-requires-clause-height : goal.part_of-requires-clause-height
part_of-requires-clause-height c = (number_kept c.args.symbol.span (reading (bytes_of (seen c.args.setting.now) c.args.symbol)) c.in-Some.expr (c.in_ok-read.ensures ∙ ap Some c.in-Some.is)).1

pub part_of-requires-clause-faults : goal.part_of-requires-clause-faults
part_of-requires-clause-faults c = (number_kept c.args.symbol.span (reading (bytes_of (seen c.args.setting.now) c.args.symbol)) c.in-Some.expr (c.in_ok-read.ensures ∙ ap Some c.in-Some.is)).2

pub returns-in-Some : goal.returns-in-Some
returns-in-Some c =
    ap (option_map leaf_part)
    (ap (single_by (seen c.args.setting.now) c.args.symbol) c.requires.number
    ∙ (number_kept c.args.symbol.span (reading (bytes_of (seen c.args.setting.now) c.args.symbol)) c.in-Some.expr (c.in_ok-read.ensures ∙ ap Some c.in-Some.is)).0)
    ∙ ap Some (sym c.part_of.ensures)

pub returns-in-None : goal.returns-in-None
returns-in-None c =
    ap (option_map leaf_part) (ap (single_by (seen c.args.setting.now) c.args.symbol) c.requires.number)
    ∙ wide_kept c.args.symbol.span (reading (bytes_of (seen c.args.setting.now) c.args.symbol)) (c.in_ok-read.ensures ∙ ap Some c.in-None.is)
    ∙ ap (λ (b : Branch). let p : Part = record { branch = b; place = c.args.symbol.span } in Some p) (sym (c.wide.ensures None))
