-- Bytes that are digits or letters, and numbers that stop at a cap.
use Rattle.std.proofs.Common.{◌≡◌, ◌<◌, ◌+◌, ◌-◌, ◌*◌, ◌∷◌, ℕ, zero, suc, List, [], true, false, min, length, get_or, arith}
use Rattle.std.specs.Prelude.{◌==◌}
use Rattle.std.specs.Char.{digit_value, is_ascii_alphabetic, is_ascii_digit}
use Rattle.std.specs.Str.Parse.{AllDigits}
use Rattle.std.proofs.lemmas.Bool.Decides.{nat_tests}
use Rattle.cell_refs.specs.Address.{letter_number}

-- what a digit is worth
pub digit_worth : (b : ℕ) → is_ascii_digit b ≡ true → digit_value b ≡ b - 48
digit_worth b h = grind (arith, nat_tests, h)

pub digit_small : (b : ℕ) → is_ascii_digit b ≡ true → digit_value b < 10
digit_small b h = grind (arith, nat_tests, h)

-- nothing else is worth less than ten
pub digit_none : (b : ℕ) → is_ascii_digit b ≡ false → digit_value b < 10 → ⊥
digit_none b h less = grind (arith, nat_tests, h, less)

-- each of a list of digits is one
pub digit_at : (ds : List ℕ) (i : ℕ) → AllDigits 10 ds → i < length ds → digit_value (get_or ds i 0) < 10
digit_at [] i all lt = absurd (omega (arith, lt))
digit_at (d ∷ ds) zero all lt = all.0
digit_at (d ∷ ds) (suc i) all lt = digit_at ds i all.1 (omega (arith, lt))

-- a number that stops at a cap goes on as if it had not
pub capped : (n v cap : ℕ) → min (10 * min n cap + v) cap ≡ min (n * 10 + v) cap
capped n v cap = omega arith

-- a digit is no letter and no dollar sign
pub digit_no_letter : (b : ℕ) → digit_value b < 10 → is_ascii_alphabetic b ≡ false
digit_no_letter b h = grind (arith, nat_tests, h)

pub digit_no_dollar : (b : ℕ) → digit_value b < 10 → (b == 36) ≡ false
digit_no_dollar b h = grind (arith, nat_tests, h)

-- the capital letters
pub capital_letter : (c : ℕ) → c < 26 → is_ascii_alphabetic (65 + c) ≡ true
capital_letter c h = grind (arith, nat_tests, h)

pub capital_number : (c : ℕ) → c < 26 → letter_number (65 + c) ≡ c + 1
capital_number c h = grind (arith, nat_tests, h)

pub capital_no_dollar : (c : ℕ) → (65 + c == 36) ≡ false
capital_no_dollar c = grind (arith, nat_tests)
