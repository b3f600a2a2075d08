-- What an address is read as.
use Rattle.std.proofs.Common.{◌≡◌, ◌<◌, ◌+◌, ◌-◌, ℕ, List, Bool, true, Option, Some, None, sym, arith, if◌then◌else◌}
use Rattle.std.specs.Prelude.{IfSome, IfNone, ◌&&◌, nat_le}
use Rattle.std.specs.Str.{all_ascii_digits}
use Rattle.std.specs.Str.Parse.{digits_value}
use Rattle.std.proofs.lemmas.Str.Parse.{tells_all_ascii_digits, numerals_by_value}
use Rattle.std.proofs.lemmas.Bool.Decides.{nat_tests}
use Rattle.cell_refs.specs.Address.{IsAddress, address_in, behind_letters, column_number, letters_of}
use Rattle.cell_refs.specs.declared.limits.TheConstants.{COLUMNS, ROWS}

abbrev answer : Bool → ℕ → ℕ → Option (ℕ × ℕ)
answer b column row = if b && (nat_le 1 column && nat_le column COLUMNS) && (nat_le 1 row && nat_le row ROWS) then Some (row - 1, column - 1) else None

if_within : (b : Bool) (column row r c : ℕ) → b ≡ true → column ≡ c + 1 → row ≡ r + 1 → r < ROWS → c < COLUMNS → answer b column row ≡ Some (r, c)
if_within b column row r c is left up low near =
    let e : column - 1 ≡ c = omega arith in
    let f : row - 1 ≡ r = omega arith in
    grind (arith, nat_tests)

if_without : (b : Bool) (column row : ℕ) → (b ≡ true → column ≡ (column - 1) + 1 → row ≡ (row - 1) + 1 → row - 1 < ROWS → column - 1 < COLUMNS → ⊥) → answer b column row ≡ None
if_without b column row none = grind (arith, nat_tests)

-- an address is read as its row and its column
address_is : (text : List ℕ) (row column : ℕ) → IsAddress text row column → address_in text ≡ Some (row, column)
address_is text row column h =
    let model = numerals_by_value (λ ds. all_ascii_digits ds ≡ true) tells_all_ascii_digits in
    if_within (all_ascii_digits (behind_letters text)) (column_number (letters_of text)) (digits_value 10 (behind_letters text)) row column
    (model.from (behind_letters text) h.digits) h.letters h.number h.in_rows h.in_columns

-- a text that is no address is read as none
no_address : (text : List ℕ) → ((row column : ℕ) → IsAddress text row column → ⊥) → address_in text ≡ None
no_address text none =
    let model = numerals_by_value (λ ds. all_ascii_digits ds ≡ true) tells_all_ascii_digits in
    if_without (all_ascii_digits (behind_letters text)) (column_number (letters_of text)) (digits_value 10 (behind_letters text))
    (λ digits left up low near. none (digits_value 10 (behind_letters text) - 1) (column_number (letters_of text) - 1)
    (record { letters = left; digits = model.to (behind_letters text) digits; number = up; in_rows = low; in_columns = near }))

-- so an answer that tells what is an address is what the text is read as
pub told : (text : List ℕ) (r : Option (ℕ × ℕ)) → IfSome r (λ a. IsAddress text a.0 a.1) → IfNone r ((row column : ℕ) → IsAddress text row column → ⊥) → r ≡ address_in text
told text None some none = sym (no_address text none)
told text (Some a) some none = sym (address_is text a.0 a.1 some)
