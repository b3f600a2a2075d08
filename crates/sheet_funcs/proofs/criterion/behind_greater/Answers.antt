use Rattle.std.proofs.Common.{lit<, None}
use Rattle.std.proofs.lemmas.Str.Pattern.{strip_prefix_char}
use Rattle.sheet_funcs.proofs.Signs.{greater_alone}
use Rattle.sheet_funcs.proofs.criterion.behind_greater.Goals as goal

pub returns : goal.returns
returns c = greater_alone c.args.text.now (strip_prefix_char 61 c.args.text.now None c.in_default.ensures.cases (lit< tt))
