-- Numbers that are read in digits.
use Rattle.std.proofs.Common.{◌≡◌, ◌≢◌, ◌<◌, ◌≤◌, ℕ, List, Bool, true, false, Some, None, length, get_or, refl, arith, inl, inr, ◌^◌}
use Rattle.std.specs.Prelude.{◌&&◌, Ok, Err, nat_le, nat_lt, if◌then◌else◌}
use Rattle.std.specs.Str.{all_ascii_digits}
use Rattle.std.specs.declared.num.ParseIntError.{ParseIntError}
use Rattle.std.specs.Str.Parse.{ParsesUnsigned, digits_value}
use Rattle.std.proofs.lemmas.Bool.{cases_Bool, le-leb, leb-false, leb-true, lt-leb, lt-ltb, ltb-true}
use Rattle.std.proofs.lemmas.Str.Parse.{IsNumeralModel, numerals_by_value, parse_plain, tells_all_ascii_digits}
use Rattle.cell_refs.specs.Units.{is_number, number_up_to, within}

both : (a b : Bool) → (a && b) ≡ true → (a ≡ true) × (b ≡ true)
both true b h = (refl, h)
both false b h = absurd (cc h)

-- digits, and the number that they tell
own : IsNumeralModel (λ ds. all_ascii_digits ds ≡ true) (digits_value 10)
own = numerals_by_value _ tells_all_ascii_digits

-- a number that is too great
too_great : (most n : ℕ) → most < n → None ≡ within most n
too_great most n h = go (nat_le 1 n) (nat_le n most) (lt-leb n most h)
  where
    go : (a b : Bool) → b ≡ false → None ≡ (if a && b then Some n else None)
    go true b h = rw h refl
    go false b h = refl

-- the number that was read is in range
pub number_read : (most : ℕ) (text : List ℕ) (n : ℕ) → ParsesUnsigned {E = ParseIntError} 64 10 text (Ok n) → get_or text 0 0 ≢ 43 → 1 ≤ n → n ≤ most → Some n ≡ number_up_to most text
number_read most text n h plain some few =
    let p = parse_plain own {E = ParseIntError} 64 text (Ok n) h plain in
    rw (p.0.0, ← p.1, lt-ltb 0 (length text) p.0.1, le-leb 1 n some, le-leb n most few) refl

-- no number, or one that is far too great
pub no_number : (most : ℕ) (text : List ℕ) (e : ParseIntError) → most < 2 ^ 64 → ParsesUnsigned {E = ParseIntError} 64 10 text (Err e) → get_or text 0 0 ≢ 43 → None ≡ number_up_to most text
no_number most text e wide h plain =
    let none = parse_plain own {E = ParseIntError} 64 text (Err e) h plain in
    elim (cases_Bool (is_number text)) [
      | inl digits ↦
          let t = both (nat_lt 0 (length text)) (all_ascii_digits text) digits in
          elim (cases_Bool (nat_le (digits_value 10 text) most)) [
            | inl few ↦ absurd (none (t.1, ltb-true 0 (length text) t.0, omega (arith, leb-true (digits_value 10 text) most few, wide)))
            | inr many ↦ rw digits (too_great most (digits_value 10 text) (leb-false (digits_value 10 text) most many))
          ]
      | inr other ↦ rw other refl
    ]
