-- From the first symbol to the last.
use Rattle.formula_parser.proofs.LeafParts.{place_is}
use Rattle.formula_parser.proofs.leaf.place_of.Goals as goal

pub returns-in-len1-up : goal.returns-in-len1-up
returns-in-len1-up c = place_is c.args.symbols.now _ c.in-len1-up.len_at_least
