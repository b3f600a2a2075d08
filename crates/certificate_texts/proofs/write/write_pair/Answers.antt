use Rattle.std.proofs.Common.{◌≡◌, ◌≢◌, ◌∙◌, ◌∷◌, ◌++◌, suc, sym, ap, append-nil, arith, true}
use Rattle.std.specs.Prelude.{string_bytes}
use Rattle.std.proofs.lemmas.Int.{ints}
use Rattle.fractions.specs.Rational.{zero_ℚ}
use Rattle.frac128.specs.Printed.{printed}
use Rattle.certificate_lines.specs.Line.{spaced}
use Rattle.certificate_texts.proofs.Writing.{pair_none, pair_written}
use Rattle.certificate_texts.proofs.write.write_pair.Goals as goal

pub returns-then-is_zero-clause-text : goal.returns-then-is_zero-clause-text
returns-then-is_zero-clause-text c =
    sym (ap (λ ws. string_bytes c.args.to.now ++ spaced ws) (pair_none (suc c.args.place) c.args.number (c.is_zero.ensures.0 c.if-is_zero.true)) ∙ append-nil (string_bytes c.args.to.now))

pub returns-clause-text : goal.returns-clause-text
returns-clause-text c =
    let nonzero : c.args.number ≢ zero_ℚ = λ e. let t : c.is_zero.result ≡ true = c.is_zero.ensures.1 e in absurd (cc (t, c.if-is_zero.false)) in
    let f = c.in_ok-write_number.ensures.text ∙ ap (λ x. string_bytes c.args.to.now ++ (32 ∷ printed x)) c.whole.ensures in
    pair_written c.args.place c.args.number _ (string_bytes c.args.to.now) _ _ _ nonzero f c.in_ok-push_str.ensures.bytes c.in_ok-write.ensures.ok (omega (arith, ints))
