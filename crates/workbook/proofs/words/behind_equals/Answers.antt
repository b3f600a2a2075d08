use Rattle.std.proofs.Common.{lit<, None}
use Rattle.std.proofs.lemmas.Str.Pattern.{strip_prefix_char}
use Rattle.workbook.proofs.Texts.{no_equals}
use Rattle.workbook.proofs.words.behind_equals.Goals as goal

pub returns-in-None : goal.returns-in-None
returns-in-None c = no_equals c.args.text.now (strip_prefix_char 61 c.args.text.now None c.in-None.ensures.cases (lit< tt))
