use Rattle.formula_parser.proofs.Quotes.{split_is}
use Rattle.formula_parser.proofs.words.at_last_point.Goals as goal

pub returns : goal.returns
returns c = split_is c.args.word.now c.rsplit_once.result c.rsplit_once.ensures.cases
