-- How long the texts are.
use Rattle.std.proofs.Common.{◌≡◌, ◌<◌, ◌≤◌, ◌+◌, ◌-◌, ◌/◌, ◌%◌, ◌^◌, ℕ, List, ◌∷◌, [], ◌++◌, length, length-append, ap, arith, lit<, cond}
use Rattle.std.specs.Prelude.{codes, decimal}
use Rattle.std.proofs.lemmas.Bool.{lt-ltb}
use Rattle.std.proofs.lemmas.Fmt.{length-decimal-le}
use Rattle.cell_refs.specs.Address.{address_text, column_text, letters_within}
use Rattle.made_up_books.specs.MadeUp.{absolute_address_text}

-- numbers of 16 bits, and one more than they are
pub short_number : (n : ℕ) → n < 2 ^ 16 → length (decimal n) ≤ 5
short_number n h = length-decimal-le 5 n (lit< tt) (omega arith) (omega arith)

short_row : (row : ℕ) → row < 2 ^ 16 → length (decimal (row + 1)) ≤ 5
short_row row h = length-decimal-le 5 (row + 1) (lit< tt) (omega arith) (omega arith)

pub one_letter : (column : ℕ) → column < 26 → column_text column ≡ (65 + column) ∷ []
one_letter column h = ap (λ b. cond b ((65 + column) ∷ []) (letters_within column (column / 26 - 1) ++ (65 + column % 26) ∷ [])) (lt-ltb column 26 h)

pub short_address : (row column : ℕ) → row < 2 ^ 16 → column < 26 → length (address_text row column) ≤ 6
short_address row column h k =
    let a = short_row row h in
    let b = length-append (column_text column) (decimal (row + 1)) in
    let c = ap length (one_letter column k) in
    omega arith

pub short_absolute : (row column : ℕ) → row < 2 ^ 16 → column < 26 → length (absolute_address_text row column) ≤ 8
short_absolute row column h k =
    let a = short_row row h in
    let b = length-append (column_text column) (codes "$" ++ decimal (row + 1)) in
    let c = ap length (one_letter column k) in
    omega arith

-- a text that was put together
pub short_same : (most : ℕ) (text wanted : List ℕ) → text ≡ wanted → length wanted ≤ most → length text ≤ most
short_same most text wanted e h = let a = ap length e in omega arith

pub short_joined : (most : ℕ) (text before more : List ℕ) → text ≡ before ++ more → length before + length more ≤ most → length text ≤ most
short_joined most text before more e h =
    let a = ap length e in
    let b = length-append before more in
    omega arith
