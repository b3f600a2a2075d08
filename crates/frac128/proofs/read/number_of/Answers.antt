use Rattle.std.proofs.Common.{◌≡◌, ℕ, ◌^◌, ◌<◌, ◌≤◌, ◌∙◌, ap, subst, arith, rules, length, Bool, true, false, if◌then◌else◌, min, pos, ◌+ℤ◌, ◌-ℤ◌}
use Rattle.std.specs.Prelude.{FitsSigned}
use Rattle.std.specs.Int.{w128}
use Rattle.std.specs.Str.Parse.{digits_value}
use Rattle.std.proofs.lemmas.Int.{to_z-of_z}
use Rattle.frac128.specs.Numeral.{Numeral}
use Rattle.frac128.specs.Signed.{signed}
use Rattle.frac128.specs.Scaled.{IsScaled}
use Rattle.frac128.proofs.Capped.{power_of, capped-answer, numeral-answer}
use Rattle.frac128.proofs.read.number_of.Goals as goal

percent_small : (t : Bool) → (if t then 2 else 0) ≤ 2
percent_small true = omega arith
percent_small false = omega arith

pub returns : goal.returns
returns c =
    let s = c.args.spelled in
    let t = c.in_ok-trimmed.trimmed in
    let v = digits_value 10 s.exponent.now in
    let b = length s.behind.now in
    let p : ℕ = if s.percent then 2 else 0 in
    let n : Numeral = record { negative = s.negative; before = s.before.now; behind = s.behind.now; exponent = signed s.exponent_negative v; percent = s.percent } in
    let fits : FitsSigned w128 c.exponent-marked.result = search rules in
    let fits-2 : FitsSigned w128 c.total_exponent-total.result = search rules in
    let sum = simp to_z-of_z at c.total_exponent-total.ensures in
    let total_is : c.total_exponent-total.result ≡ power_of t.zeros s.exponent_negative (min v (2 ^ 70)) b p =
    sum ∙ ap (λ x. pos t.zeros +ℤ ((x -ℤ pos b) -ℤ pos p)) c.exponent-marked.ensures.value in
    let zeros_fit : t.zeros < 2 ^ 64 = search rules in
    let behind_fits : b < 2 ^ 64 = search rules in
    let answer : IsScaled c.with_exponent.result s.negative t.number (power_of t.zeros s.exponent_negative (min v (2 ^ 70)) b p) =
    subst (IsScaled c.with_exponent.result s.negative t.number) total_is (simp to_z-of_z at c.with_exponent.ensures) in
    numeral-answer c.with_exponent.result n t.number t.zeros c.in_ok-trimmed.ensures.2 (omega (arith, c.in_ok-trimmed.ensures.0, c.in_ok-trimmed.ensures.1))
    (capped-answer c.with_exponent.result s.negative t.number t.zeros b p v s.exponent_negative c.in_ok-trimmed.ensures.1 zeros_fit behind_fits (percent_small s.percent) answer)
