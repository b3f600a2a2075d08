use Rattle.std.proofs.Common.{◌∙◌, ◌++◌, List, ℕ, ap, append_assoc, string_bytes}
use Rattle.std.specs.Prelude.{encode_utf8, encode_utf8_all}
use Rattle.commands.specs.Lines.{doubled}
use Rattle.commands.proofs.Quotes.{doubled_more}
use Rattle.commands.proofs.lines.say_doubled.Goals as goal

pub loop-c-preserved : goal.loop-c-preserved
loop-c-preserved c =
    rw (doubled_more c.loop-c.yielded c.in-Some.c)
    (c.in_ok-say_char.ensures ∙ ap (λ (l : List ℕ). l ++ doubled (encode_utf8 c.in-Some.c)) c.loop-c.invariant
    ∙ append_assoc (string_bytes c.args.to.now) (doubled (encode_utf8_all c.loop-c.yielded)) (doubled (encode_utf8 c.in-Some.c)))
