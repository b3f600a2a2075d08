use Rattle.std.proofs.Common.{◌∙◌, ◌++◌, ap, sym, string_bytes}
use Rattle.commands.proofs.Quotes.{doubled_other}
use Rattle.commands.proofs.lines.say_char.Goals as goal

pub returns : goal.returns
returns c = c.in_ok-push.ensures.bytes ∙ ap (λ l. string_bytes c.args.to.now ++ l) (sym (doubled_other c.args.c c.if-c-eq34.false))
