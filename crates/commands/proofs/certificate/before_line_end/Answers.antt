use Rattle.std.proofs.Common.{◌∙◌, Some, None, arith, codes, sym}
use Rattle.std.proofs.lemmas.List.{append_cancel_right}
use Rattle.std.proofs.lemmas.Str.Pattern.{strip_suffix_char}
use Rattle.commands.proofs.certificate.before_line_end.Goals as goal

pub returns-in-Some : goal.returns-in-Some
returns-in-Some c = λ front is.
    append_cancel_right c.in-Some.front.now front (codes "\n") (sym (strip_suffix_char 10 c.args.text.now (Some c.in-Some.front) c.in-Some.ensures.cases (omega arith)) ∙ is)

pub returns-in-None : goal.returns-in-None
returns-in-None c = λ front is. absurd (strip_suffix_char 10 c.args.text.now None c.in-None.ensures.cases (omega arith) front is)
