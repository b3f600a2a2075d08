use Rattle.std.proofs.Common.{◌≡◌, ◌+◌, ◌*◌, ◌^◌, ◌<◌, ◌≤◌, ◌++◌, length, ℕ, List, Option, Some, None, MatchOption, IfSome, arith, length-append}
use Rattle.std.specs.Str.Parse.{AllDigits, digits_value}
use Rattle.frac128.specs.declared.significand.Trimmed.{Trimmed}
use Rattle.frac128.specs.Numeral.{significant}
use Rattle.frac128.specs.Trimmed.{nothing, with_digits}
use Rattle.frac128.proofs.Zeros.{significant_wide, trimmed_of, trimmed_wide}
use Rattle.frac128.proofs.significand.significand.Goals as goal

pub returns-in_err-with_digits : goal.returns-in_err-with_digits
returns-in_err-with_digits c =
    rw c.from_residual.ensures (significant_wide c.args.before.now c.args.behind.now c.requires.before c.requires.behind c.in_err-with_digits.ensures.value)

both : (xs ys : List ℕ) (t : Trimmed) (r : Option Trimmed) → AllDigits 10 xs → AllDigits 10 ys → t ≡ with_digits nothing xs → t.zeros ≤ length xs
    → MatchOption r (2 ^ 127 ≤ (with_digits t ys).number) (λ u. (u ≡ with_digits t ys) × (u.number < 2 ^ 127))
    → IfSome r (λ u. u.zeros ≤ t.zeros + length ys)
    → MatchOption r (2 ^ 127 ≤ digits_value 10 (significant (xs ++ ys))) (λ u. (u.number ≡ digits_value 10 (significant (xs ++ ys))) × (u.number < 2 ^ 127) × (digits_value 10 (xs ++ ys) ≡ u.number * 10 ^ u.zeros) × (u.zeros ≤ length (xs ++ ys)))
both xs ys t None h k e z w v = trimmed_wide xs ys t h k e w
both xs ys t (Some u) h k e z w v =
    let i = trimmed_of xs ys t u h k e w.0 in
    (i.number, w.1, i.value, omega (arith, length-append xs ys, v, z))

pub returns : goal.returns
returns c =
    both c.args.before.now c.args.behind.now c.in_ok-with_digits.field-0 c.with_digits-2.result c.requires.before c.requires.behind
    c.in_ok-with_digits.ensures.value.0 (omega (arith, c.in_ok-with_digits.ensures.zeros)) c.with_digits-2.ensures.value c.with_digits-2.ensures.zeros
