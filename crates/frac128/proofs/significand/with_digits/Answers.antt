use Rattle.std.proofs.Common.{◌≡◌, ◌+◌, ◌∙◌, ap, drop, get_or, arith}
use Rattle.std.proofs.lemmas.Str.Parse.{digit_at}
use Rattle.frac128.specs.Trimmed.{with_digit, with_digits}
use Rattle.frac128.proofs.Trims.{number_grows, with_digits-drop}
use Rattle.frac128.proofs.significand.with_digits.Goals as goal

pub with_digit-requires-clause-digit : goal.with_digit-requires-clause-digit
with_digit-requires-clause-digit c = digit_at c.args.digits.now c.loop-digit.digit-index c.requires.digits c.loop-digit-test.true

-- the number only grows with the digits that follow
pub returns-in_err-so_far-clause-value : goal.returns-in_err-so_far-clause-value
returns-in_err-so_far-clause-value c =
    let ds = c.args.digits.now in
    let i = c.loop-digit.digit-index in
    let next = with_digit c.loop-digit.so_far (get_or ds i 0) in
    let all : with_digits next (drop (i + 1) ds) ≡ with_digits c.args.start ds = with_digits-drop c.loop-digit.so_far ds i c.loop-digit-test.true ∙ c.loop-digit.invariant.rest in
    rw c.from_residual.ensures (omega (arith, c.in_err-so_far.ensures, number_grows next (drop (i + 1) ds), ap (λ t. t.number) all))
