use Rattle.formula_parser.proofs.Letters.{tested}
use Rattle.formula_parser.proofs.words.is_same.Goals as goal

pub returns : goal.returns
returns c = tested c.args.text.now c.args.name.now c.eq_ignore_ascii_case.result c.eq_ignore_ascii_case.ensures.test
