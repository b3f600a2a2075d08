use Rattle.formula_parser.proofs.Rests.{rest_are}
use Rattle.formula_parser.proofs.formula.behind_mark.Goals as goal

pub behind_equals-requires : goal.behind_equals-requires
behind_equals-requires c = rest_are c.args.setting.now.text.now c.args.symbols.now 2 c.requires
