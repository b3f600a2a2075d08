use Rattle.std.proofs.Common.{lit<, None}
use Rattle.std.proofs.lemmas.Str.Pattern.{strip_prefix_char}
use Rattle.sheet_funcs.proofs.Signs.{no_relation}
use Rattle.sheet_funcs.proofs.criterion.relation_in.Goals as goal

pub returns-in_err-rest : goal.returns-in_err-rest
returns-in_err-rest c =
    rw c.from_residual.ensures
    (no_relation c.args.text.now
    (strip_prefix_char 60 c.args.text.now None c.in_default.ensures.cases (lit< tt))
    (strip_prefix_char 61 c.args.text.now None c.in_err-rest.ensures.cases (lit< tt))
    (strip_prefix_char 62 c.args.text.now None c.in_default-strip_prefix.ensures.cases (lit< tt)))
