use Rattle.std.proofs.Common.{◌≡◌, ◌∙◌, sym, ap, subst, true}
use Rattle.fractions.specs.Rational.{denominator}
use Rattle.fractions.specs.Whole.{whole_ℚ}
use Rattle.fractions.proofs.Whole.{whole_numbers}
use Rattle.frac128.specs.Narrow.{IsNarrow}
use Rattle.frac128.specs.Printed.{printed}
use Rattle.frac128.proofs.NarrowLaws.{narrow-whole}
use Rattle.certificate_lines.specs.Cutting.{ReadAs}
use Rattle.certificate_lines.proofs.Numbers.{printed_one}
use Rattle.certificate_texts.proofs.number.read_whole.Goals as goal

pub returns-in_default : goal.returns-in_default
returns-in_default c = λ a h e. (subst (λ o. ReadAs IsNarrow printed o c.args.text.now) c.in_default.is c.in_ok-number.ensures) (whole_ℚ a) ((narrow-whole a).0 h) e

pub returns-then-not-is_whole : goal.returns-then-not-is_whole
returns-then-not-is_whole c = λ a h e.
    let r = subst (λ o. ReadAs IsNarrow printed o c.args.text.now) c.in-Some.is c.in_ok-number.ensures in
    let same : c.in-Some.number ≡ whole_ℚ a = printed_one c.in-Some.number (whole_ℚ a) r.0 ((narrow-whole a).0 h) (sym r.1 ∙ e) in
    let one : denominator c.in-Some.number ≡ 1 = ap denominator same ∙ whole_numbers.beneath a in
    let t : c.is_whole.result ≡ true = c.is_whole.ensures.1 one in
    let f = c.if-not-is_whole.true in
    absurd (cc (t, f))
