use Rattle.std.proofs.Common.{sym, subst}
use Rattle.std.specs.Str.Parse.{AllDigits}
use Rattle.frac128.proofs.FrontDigits.{front-is-digits, fraction-is-digits, exponent-is-digits}
use Rattle.frac128.proofs.numeral.split.Goals as goal

pub returns-clause-digits : goal.returns-clause-digits
returns-clause-digits c = (
  subst (AllDigits 10) (sym c.split_digits.ensures.digits) (front-is-digits c.split_sign-negative.result.1.now),
  subst (AllDigits 10) (sym c.split_fraction.ensures.digits) (fraction-is-digits c.split_digits.result.1.now),
  subst (AllDigits 10) (sym c.split_exponent-exponent_negative.ensures.digits) (exponent-is-digits c.split_fraction.result.1.now),
)
