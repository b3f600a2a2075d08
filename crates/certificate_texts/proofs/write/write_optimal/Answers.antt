use Rattle.std.specs.Prelude.{string_bytes}
use Rattle.certificate_texts.proofs.Writing.{optimal_written}
use Rattle.certificate_texts.proofs.write.write_optimal.Goals as goal

pub returns-clause-text : goal.returns-clause-text
returns-clause-text c = optimal_written c.args.value c.args.point.now (string_bytes c.args.to.now) _ _ _ _ _
    c.in_ok-push_str.ensures.bytes c.in_ok-write_value.ensures.text c.in_ok-push_str-2.ensures.bytes c.in_ok-write_numbers.ensures.text c.in_ok-push_str-3.ensures.bytes
