use Rattle.std.proofs.Common.{◌∙◌, ◌∷◌, ◌++◌, ap, arith}
use Rattle.std.specs.Prelude.{string_bytes}
use Rattle.std.proofs.lemmas.Int.{ints}
use Rattle.frac128.specs.Printed.{printed}
use Rattle.certificate_texts.proofs.Writing.{clash_written}
use Rattle.certificate_texts.proofs.write.write_clash.Goals as goal

pub returns-clause-text : goal.returns-clause-text
returns-clause-text c =
    let g = c.in_ok-write_number.ensures.text ∙ ap (λ x. string_bytes c.push_str.new.self ++ (32 ∷ printed x)) c.whole.ensures in
    let h = c.in_ok-write_number-2.ensures.text ∙ ap (λ x. string_bytes c.write_number.new.to ++ (32 ∷ printed x)) c.whole-2.ensures in
    clash_written c.args.one c.args.other _ _ (string_bytes c.args.to.now) _ _ _ _ c.in_ok-push_str.ensures.bytes g h c.in_ok-push_str-2.ensures.bytes (omega (arith, ints)) (omega (arith, ints))
