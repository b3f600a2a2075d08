use Rattle.std.proofs.Common.{◌∙◌, ap, sym, lit<}
use Rattle.formula_grammar.specs.Words.{inside}
use Rattle.formula_parser.proofs.Quotes.{no_quote}
use Rattle.formula_parser.proofs.words.quoted_text.Goals as goal

pub returns-in-None : goal.returns-in-None
returns-in-None c = c.new.ensures.bytes ∙ sym (ap (inside 34) (no_quote 34 c.args.symbol.now (lit< tt) c.in-None.ensures.cases))
