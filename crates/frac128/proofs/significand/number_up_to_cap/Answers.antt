use Rattle.std.proofs.Common.{◌≡◌, ◌+◌, ◌*◌, ◌-◌, ◌^◌, ◌∙◌, ap, sym, drop, min, get_or, arith}
use Rattle.std.proofs.lemmas.Str.Parse.{digit_at}
use Rattle.std.specs.Char.{digit_value}
use Rattle.std.specs.Str.Parse.{digits_value_after}
use Rattle.frac128.proofs.Digits.{digit_is, value-drop}
use Rattle.frac128.proofs.Caps.{min-after}
use Rattle.frac128.proofs.significand.number_up_to_cap.Goals as goal

pub overflow_sub-digit : goal.overflow_sub-digit
overflow_sub-digit c = (digit_at c.args.digits.now c.loop-digit.digit-index c.requires c.loop-digit-test.true).0

pub loop-digit-preserved : goal.loop-digit-preserved
loop-digit-preserved c =
    let ds = c.args.digits.now in
    let i = c.loop-digit.digit-index in
    let n = c.loop-digit.so_far in
    let d = get_or ds i 0 in
    let same : digit_value d ≡ d - 48 = digit_is d (digit_at ds i c.requires c.loop-digit-test.true) in
    let now : c.min-so_far.result ≡ min (n * 10 + digit_value d) (2 ^ 70) = c.min-so_far.ensures ∙ ap (λ v. min (n * 10 + v) (2 ^ 70)) (sym same) in
    record {
      rest = ap (λ m. min (digits_value_after 10 m (drop (i + 1) ds)) (2 ^ 70)) now
          ∙ min-after (2 ^ 70) (omega arith) (n * 10 + digit_value d) (drop (i + 1) ds)
          ∙ ap (λ m. min m (2 ^ 70)) (value-drop n ds i c.loop-digit-test.true)
          ∙ c.loop-digit.invariant.rest;
      small = omega (arith, c.min-so_far.ensures);
    }
