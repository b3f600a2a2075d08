use Rattle.formula_parser.proofs.Rests.{rest_are}
use Rattle.formula_parser.proofs.formula.behind_equals.Goals as goal

pub returns-in-Equal-clause-rest : goal.returns-in-Equal-clause-rest
returns-in-Equal-clause-rest c = rest_are c.args.setting.now.text.now c.args.symbols.now 2 c.requires

pub returns-in-Equal-2-clause-rest : goal.returns-in-Equal-2-clause-rest
returns-in-Equal-2-clause-rest c = rest_are c.args.setting.now.text.now c.args.symbols.now 1 c.requires
