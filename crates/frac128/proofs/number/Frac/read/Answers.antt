use Rattle.std.proofs.Common.{sym, ap, ◌∙◌}
use Rattle.std.specs.Str.Parse.{digits_value}
use Rattle.frac128.specs.Numeral.{Numeral}
use Rattle.frac128.specs.NumeralReading.{reading}
use Rattle.frac128.specs.Signed.{signed}
use Rattle.frac128.proofs.Answers.{no-numeral, narrow-numeral, wide-numeral}
use Rattle.frac128.proofs.number.Frac.read.Goals as goal

pub returns-in-None : goal.returns-in-None
returns-in-None c =
    let a = no-numeral c.args.text.now (ap reading (sym c.as_bytes.ensures.value) ∙ c.in-None.ensures.parts) in
    record { ok = a.ok; read = a.read; not_numeral = a.not_numeral; too_wide = a.too_wide }

pub returns-in-Some-number_of : goal.returns-in-Some-number_of
returns-in-Some-number_of c =
    let s = c.in-Some.spelled in
    let n : Numeral = record { negative = s.negative; before = s.before.now; behind = s.behind.now; exponent = signed s.exponent_negative (digits_value 10 s.exponent.now); percent = s.percent } in
    let a = narrow-numeral c.args.text.now n c.in-Some-number_of.number (ap reading (sym c.as_bytes.ensures.value) ∙ c.in-Some.ensures.parts) c.in-Some-number_of.ensures.0 c.in-Some-number_of.ensures.1 in
    record { ok = a.ok; read = a.read; not_numeral = a.not_numeral; too_wide = a.too_wide }

pub returns-in-None-number_of : goal.returns-in-None-number_of
returns-in-None-number_of c =
    let s = c.in-Some.spelled in
    let n : Numeral = record { negative = s.negative; before = s.before.now; behind = s.behind.now; exponent = signed s.exponent_negative (digits_value 10 s.exponent.now); percent = s.percent } in
    let a = wide-numeral c.args.text.now n (ap reading (sym c.as_bytes.ensures.value) ∙ c.in-Some.ensures.parts) c.in-None-number_of.ensures in
    record { ok = a.ok; read = a.read; not_numeral = a.not_numeral; too_wide = a.too_wide }
