use Rattle.std.proofs.Common.{◌∙◌, ◌++◌, List, ℕ, ap, append_assoc, string_bytes}
use Rattle.std.specs.Prelude.{encode_utf8, encode_utf8_all}
use Rattle.cell_refs.specs.Names.{doubled}
use Rattle.cell_refs.proofs.NamesLemmas.{doubled_more}
use Rattle.cell_refs.proofs.print.print_doubled.Goals as goal

pub loop-c-preserved : goal.loop-c-preserved
loop-c-preserved c =
    rw (doubled_more c.loop-c.yielded c.in-Some.c)
    (c.in_ok-print_char.ensures ∙ ap (λ (l : List ℕ). l ++ doubled (encode_utf8 c.in-Some.c)) c.loop-c.invariant
    ∙ append_assoc (string_bytes c.args.to.now) (doubled (encode_utf8_all c.loop-c.yielded)) (doubled (encode_utf8 c.in-Some.c)))
