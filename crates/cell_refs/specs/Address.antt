-- The address of a cell on its sheet (OpenDocument 1.2, part 2, section 5.8): letters name the column and digits
-- the row, each behind a dollar sign or not.
use Rattle.std.specs.Prelude.{◌≡◌, ◌<◌, ◌+◌, ◌-◌, ◌*◌, ◌/◌, ◌%◌, ◌==◌, ◌∷◌, ◌++◌, ◌&&◌, ℕ, zero, suc, List, [], drop, take, if◌then◌else◌, nat_le, nat_lt, fold, Option, Some, None}
use Rattle.std.specs.Char.{is_ascii_alphabetic, to_ascii_uppercase}
use Rattle.std.specs.List.{prefix_len}
use Rattle.std.specs.Fmt.{decimal}
use Rattle.std.specs.Str.{all_ascii_digits}
use Rattle.std.specs.Str.Parse.{AllDigits, digits_value}
use Rattle.cell_refs.specs.declared.limits.TheConstants.{COLUMNS, ROWS}

-- the text behind a dollar sign, if one leads it
abbrev pub without_dollar : List ℕ → List ℕ
without_dollar [] = []
without_dollar (b ∷ rest) = if b == 36 then rest else b ∷ rest

-- how many letters there are
abbrev pub letter_count_of : List ℕ → ℕ
letter_count_of text = prefix_len is_ascii_alphabetic (without_dollar text)

-- the letters
abbrev pub letters_of : List ℕ → List ℕ
letters_of text = take (letter_count_of text) (without_dollar text)

-- what stands behind the letters
abbrev pub behind_letters : List ℕ → List ℕ
behind_letters text = without_dollar (drop (letter_count_of text) (without_dollar text))

-- 1 for A or a, and so on
abbrev pub letter_number : ℕ → ℕ
letter_number b = to_ascii_uppercase b - 64

-- the number of a column by its letters: 1 for A, 26 for Z, 27 for AA
abbrev pub column_number : List ℕ → ℕ
column_number letters = fold (λ n b. 26 * n + letter_number b) 0 letters

-- the text is the address of this row and column, from 0
pub record IsAddress (text : List ℕ) (row column : ℕ) : Type 0 where
  pub letters : column_number (letters_of text) ≡ column + 1
  pub digits : AllDigits 10 (behind_letters text)
  pub number : digits_value 10 (behind_letters text) ≡ row + 1
  pub in_rows : row < ROWS
  pub in_columns : column < COLUMNS

-- the row and the column of an address, from 0; none where the text is no address
abbrev pub address_in : List ℕ → Option (ℕ × ℕ)
address_in text =
    let column = column_number (letters_of text) in
    let row = digits_value 10 (behind_letters text) in
    if all_ascii_digits (behind_letters text) && (nat_le 1 column && nat_le column COLUMNS) && (nat_le 1 row && nat_le row ROWS)
    then Some (row - 1, column - 1) else None

-- the last letters of a column, from 0, so many at most
abbrev pub letters_within : ℕ → ℕ → List ℕ
letters_within zero column = []
letters_within (suc most) column =
    if nat_lt column 26 then (65 + column) ∷ [] else letters_within most (column / 26 - 1) ++ (65 + column % 26) ∷ []

-- the letters of a column, from 0: A to Z, then AA to ZZ, and so on
abbrev pub column_text : ℕ → List ℕ
column_text column = letters_within (suc column) column

-- an address as it is printed
abbrev pub address_text : ℕ → ℕ → List ℕ
address_text row column = column_text column ++ decimal (row + 1)
