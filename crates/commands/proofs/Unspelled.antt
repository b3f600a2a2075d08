-- What is spelled is read as an address.
use Rattle.std.proofs.Common.{◌≡◌, ◌∙◌, inl, inr, ℕ, suc, ◌+◌, ◌<◌, Bool, true, false, cond, List, [], ◌∷◌, ◌++◌, length, take, drop, Some, None, refl, sym, ap, ap₂, subst, append-nil, arith}
use Rattle.std.specs.Prelude.{◌==◌, ◌&&◌, nat_lt, option_map}
use Rattle.std.specs.Option.{option_and_then}
use Rattle.std.specs.Char.{is_ascii_alphabetic, is_ascii_digit}
use Rattle.std.specs.List.{list_all, prefix_len}
use Rattle.std.specs.Str.Parse.{digits_value}
use Rattle.std.proofs.lemmas.Bool.{lt-ltb}
use Rattle.std.proofs.lemmas.Bool.Decides.{nat_tests}
use Rattle.std.proofs.Math.Seq.{take-append_seam, drop-append_seam}
use Rattle.cell_refs.specs.Address.{behind_letters, column_number, letter_count_of, letters_of, without_dollar}
use Rattle.cell_refs.specs.Sheets.{sheet_in}
use Rattle.cell_refs.proofs.SheetReading.{sheets_are_spelled}
use Rattle.commands.specs.Addresses.{Address, marked_address, address_of, at_last_mark, is_mark, is_place, placed, with_byte}
use Rattle.cell_refs.specs.Units.{is_number}
use Rattle.commands.specs.Spelling.{IsDollar, SpellsMarked}
use Rattle.commands.proofs.Marks.{all_digits, last_at}
use Rattle.commands.proofs.Spelled.{both}

-- ---- bytes
letter_no_mark : (b : ℕ) → is_ascii_alphabetic b ≡ true → is_mark b ≡ false
letter_no_mark b h = grind (arith, nat_tests, h)

digit_no_mark : (b : ℕ) → is_ascii_digit b ≡ true → is_mark b ≡ false
digit_no_mark b h = grind (arith, nat_tests, h)

letter_no_dollar : (b : ℕ) → is_ascii_alphabetic b ≡ true → (b == 36) ≡ false
letter_no_dollar b h = grind (arith, nat_tests, h)

digit_no_dollar : (b : ℕ) → is_ascii_digit b ≡ true → (b == 36) ≡ false
digit_no_dollar b h = grind (arith, nat_tests, h)

digit_no_letter : (b : ℕ) → is_ascii_digit b ≡ true → is_ascii_alphabetic b ≡ false
digit_no_letter b h = grind (arith, nat_tests, h)

-- ---- marks
none_before : (p : ℕ → Bool) → ((b : ℕ) → p b ≡ true → is_mark b ≡ false) → (xs text : List ℕ) → list_all p xs ≡ true → at_last_mark text ≡ None → at_last_mark (xs ++ text) ≡ None
none_before p other [] text all none = none
none_before p other (x ∷ xs) text all none =
    let h = both (p x) (list_all p xs) all in
    ap (λ o. with_byte x o (xs ++ text)) (none_before p other xs text h.1 none) ∙ ap (λ t. cond t (Some ([], xs ++ text)) None) (other x h.0)

none_behind : (d text : List ℕ) → IsDollar d → at_last_mark text ≡ None → at_last_mark (d ++ text) ≡ None
none_behind d text (inl e) none = subst (λ l. at_last_mark (l ++ text) ≡ None) (sym e) none
none_behind d text (inr e) none = subst (λ l. at_last_mark (l ++ text) ≡ None) (sym e) (ap (λ o. with_byte 36 o text) none)

-- ---- dollar signs
skipped : (d text : List ℕ) → IsDollar d → without_dollar text ≡ text → without_dollar (d ++ text) ≡ text
skipped d text (inl e) h = ap (λ l. without_dollar (l ++ text)) e ∙ h
skipped d text (inr e) h = ap (λ l. without_dollar (l ++ text)) e

not_before : (p : ℕ → Bool) → ((b : ℕ) → p b ≡ true → (b == 36) ≡ false) → (xs text : List ℕ) → 0 < length xs → list_all p xs ≡ true → without_dollar (xs ++ text) ≡ xs ++ text
not_before p other [] text some all = absurd (omega (arith, some))
not_before p other (x ∷ xs) text some all = ap (λ t. cond t (xs ++ text) (x ∷ (xs ++ text))) (other x (both (p x) (list_all p xs) all).0)

-- ---- letters
counted : (letters text : List ℕ) → list_all is_ascii_alphabetic letters ≡ true → prefix_len is_ascii_alphabetic text ≡ 0 → prefix_len is_ascii_alphabetic (letters ++ text) ≡ length letters
counted [] text all none = none
counted (b ∷ letters) text all none =
    let h = both (is_ascii_alphabetic b) (list_all is_ascii_alphabetic letters) all in
    let more : 1 + length letters ≡ suc (length letters) = omega arith in
    ap (λ t. cond t (1 + prefix_len is_ascii_alphabetic (letters ++ text)) 0) h.0 ∙ ap (λ n. 1 + n) (counted letters text h.1 none) ∙ more

no_letters : (digits : List ℕ) → 0 < length digits → list_all is_ascii_digit digits ≡ true → prefix_len is_ascii_alphabetic digits ≡ 0
no_letters [] some all = refl
no_letters (d ∷ digits) some all = ap (λ t. cond t (1 + prefix_len is_ascii_alphabetic digits) 0) (digit_no_letter d (both (is_ascii_digit d) (list_all is_ascii_digit digits) all).0)

no_letters_behind : (d digits : List ℕ) → IsDollar d → prefix_len is_ascii_alphabetic digits ≡ 0 → prefix_len is_ascii_alphabetic (d ++ digits) ≡ 0
no_letters_behind d digits (inl e) h = ap (λ l. prefix_len is_ascii_alphabetic (l ++ digits)) e ∙ h
no_letters_behind d digits (inr e) h = ap (λ l. prefix_len is_ascii_alphabetic (l ++ digits)) e

-- ---- the whole
abbrev with_numbers : List ℕ → ℕ → ℕ → Address
with_numbers name column row = record { name = name; column = column; row = row }

pub read : (text : List ℕ) (a : Address) → SpellsMarked text a → marked_address text ≡ Some a
read text a s =
    let tail = s.between ++ s.digits in
    let place = s.before ++ (s.letters ++ tail) in
    let digits : list_all is_ascii_digit s.digits ≡ true = all_digits s.digits ∙ s.all_digits in
    let no_mark : at_last_mark s.digits ≡ None = subst (λ l. at_last_mark l ≡ None) (append-nil s.digits) (none_before is_ascii_digit digit_no_mark s.digits [] digits refl) in
    let none : at_last_mark place ≡ None =
    none_behind s.before (s.letters ++ tail) s.before_letters
    (none_before is_ascii_alphabetic letter_no_mark s.letters tail s.all_letters (none_behind s.between s.digits s.before_digits no_mark)) in
    let bare : without_dollar place ≡ s.letters ++ tail = skipped s.before (s.letters ++ tail) s.before_letters (not_before is_ascii_alphabetic letter_no_dollar s.letters tail s.some_letters s.all_letters) in
    let count : letter_count_of place ≡ length s.letters =
    ap (prefix_len is_ascii_alphabetic) bare
    ∙ counted s.letters tail s.all_letters (no_letters_behind s.between s.digits s.before_digits (no_letters s.digits s.some_digits digits)) in
    let letters : letters_of place ≡ s.letters = ap₂ (λ (n : ℕ) (l : List ℕ). take n l) count bare ∙ take-append_seam s.letters tail in
    let no_dollar : without_dollar s.digits ≡ s.digits =
    subst (λ l. without_dollar l ≡ l) (append-nil s.digits) (not_before is_ascii_digit digit_no_dollar s.digits [] s.some_digits digits) in
    let behind : behind_letters place ≡ s.digits =
    ap without_dollar (ap₂ (λ (n : ℕ) (l : List ℕ). drop n l) count bare ∙ drop-append_seam s.letters tail) ∙ skipped s.between s.digits s.before_digits no_dollar in
    let name_is : sheet_in s.sheet ≡ Some a.name = (sheets_are_spelled s.sheet a.name).1 s.names in
    let is_number_is : is_number (behind_letters place) ≡ true = ap is_number behind ∙ ap₂ (λ x y. x && y) (lt-ltb 0 (length s.digits) s.some_digits) s.all_digits in
    let some : nat_lt 0 (letter_count_of place) ≡ true = ap (nat_lt 0) count ∙ lt-ltb 0 (length s.letters) s.some_letters in
    let is_place_is : is_place place ≡ true = ap₂ (λ x y. x && y) some is_number_is in
    let numbers : placed place a.name ≡ a = ap₂ (with_numbers a.name) (ap column_number letters ∙ s.column) (ap (digits_value 10) behind ∙ s.row) in
    ap (λ l. option_and_then address_of (at_last_mark l)) s.whole
    ∙ ap (option_and_then address_of) (last_at s.sheet s.mark place s.is_one none)
    ∙ ap (λ t. cond t (option_map (placed place) (sheet_in s.sheet)) None) is_place_is
    ∙ ap (option_map (placed place)) name_is
    ∙ ap Some numbers
