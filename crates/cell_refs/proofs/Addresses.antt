-- What is printed of a row and a column is their address.
use Rattle.std.proofs.Common.{◌≡◌, ◌<◌, ◌+◌, ◌++◌, ◌∷◌, ℕ, List, [], length, refl, arith}
use Rattle.std.specs.Char.{is_ascii_alphabetic}
use Rattle.std.specs.List.{prefix_len}
use Rattle.std.specs.Fmt.{decimal}
use Rattle.std.specs.Str.Parse.{IsNumeral, digits_value}
use Rattle.std.proofs.lemmas.Fmt.{decimal_is_IsNumeral}
use Rattle.std.proofs.Math.Seq.{take-append_seam, drop-append_seam}
use Rattle.cell_refs.specs.Address.{IsAddress, address_text, column_number, column_text, without_dollar}
use Rattle.cell_refs.specs.declared.limits.TheConstants.{COLUMNS, ROWS}
use Rattle.cell_refs.proofs.Digits.{digit_no_dollar, digit_no_letter}
use Rattle.cell_refs.proofs.Columns.{capitals, counted, numbered, undollared}

-- digits begin with no letter and no dollar sign
record IsBehind (ds : List ℕ) : Type 0 where
  pub letters : prefix_len is_ascii_alphabetic ds ≡ 0
  pub dollar : without_dollar ds ≡ ds

digits_behind : (ds : List ℕ) → IsNumeral 10 ds → IsBehind ds
digits_behind [] n = absurd (omega (arith, n.0))
digits_behind (d ∷ ds) n = record {
  letters = rw (digit_no_letter d n.1.0) refl;
  dollar = rw (digit_no_dollar d n.1.0) refl;
}

-- letters, and then digits
spelled : (letters ds : List ℕ) (row column : ℕ) → without_dollar (letters ++ ds) ≡ letters ++ ds → prefix_len is_ascii_alphabetic (letters ++ ds) ≡ length letters
    → column_number letters ≡ column + 1 → IsNumeral 10 ds → digits_value 10 ds ≡ row + 1 → row < ROWS → column < COLUMNS → IsAddress (letters ++ ds) row column
spelled letters ds row column plain count is n number low left =
    let behind = digits_behind ds n in
    let back = drop-append_seam letters ds in
    record {
      letters = rw (plain, count, take-append_seam letters ds) is;
      digits = rw (plain, count, back, behind.dollar) n.1;
      number = rw (plain, count, back, behind.dollar) number;
      in_rows = low;
      in_columns = left;
    }

pub reads_back : (row column : ℕ) → row < ROWS → column < COLUMNS → IsAddress (address_text row column) row column
reads_back row column low left =
    let n = decimal_is_IsNumeral (row + 1) (omega arith) in
    let behind = digits_behind (decimal (row + 1)) n.0 in
    let all = capitals column in
    spelled (column_text column) (decimal (row + 1)) row column (undollared (column_text column) (decimal (row + 1)) all behind.dollar)
    (counted (column_text column) (decimal (row + 1)) all behind.letters) (numbered column) n.0 n.1 low left
