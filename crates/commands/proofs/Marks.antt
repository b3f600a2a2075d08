-- The last mark of a text, and numbers of digits.
use Rattle.std.proofs.Common.{◌≡◌, ◌∙◌, ℕ, zero, suc, ◌+◌, ◌<◌, true, false, cond, List, [], ◌∷◌, ◌++◌, length, take, drop, get_or, Some, None, refl, ap, arith}
use Rattle.std.specs.Char.{is_ascii_digit}
use Rattle.std.specs.List.{list_all}
use Rattle.std.specs.Prelude.{◌&&◌}
use Rattle.std.specs.Str.{all_ascii_digits}
use Rattle.std.proofs.lemmas.Bool.Decides.{nat_tests}
use Rattle.commands.specs.Addresses.{at_last_mark, is_mark, with_byte}

pub last_at : (front : List ℕ) (b : ℕ) (back : List ℕ) → is_mark b ≡ true → at_last_mark back ≡ None → at_last_mark (front ++ b ∷ back) ≡ Some (front, back)
last_at [] b back mark h = ap (λ o. with_byte b o back) h ∙ ap (λ t. cond t (Some ([], back)) None) mark
last_at (a ∷ front) b back mark h = ap (λ o. with_byte a o (front ++ b ∷ back)) (last_at front b back mark h)

pub no_last : (text : List ℕ) → ((k : ℕ) → k < length text → is_mark (get_or text k 0) ≡ false) → at_last_mark text ≡ None
no_last [] h = refl
no_last (b ∷ text) h =
    ap (λ o. with_byte b o text) (no_last text (λ k lt. h (suc k) (omega arith))) ∙ ap (λ t. cond t (Some ([], text)) None) (h 0 (omega arith))

-- the place of the last mark parts a text
pub parted : (text : List ℕ) (i : ℕ) → i < length text → is_mark (get_or text i 0) ≡ true → ((k : ℕ) → i < k → k < length text → is_mark (get_or text k 0) ≡ false)
    → at_last_mark text ≡ Some (take i text, drop (i + 1) text)
parted [] i lt mark last = absurd (omega (arith, lt))
parted (b ∷ text) zero lt mark last = last_at [] b text mark (no_last text (λ k less. last (suc k) (omega arith) (omega arith)))
parted (b ∷ text) (suc i) lt mark last =
    let one_more : suc (i + 1) ≡ suc i + 1 = omega arith in
    ap (λ o. with_byte b o text) (parted text i (omega (arith, lt)) mark (λ k past less. last (suc k) (omega (arith, past)) (omega (arith, less))))
    ∙ ap (λ n. Some (b ∷ take i text, drop n (b ∷ text))) one_more

-- digits are digits each
pub all_digits : (ds : List ℕ) → list_all is_ascii_digit ds ≡ all_ascii_digits ds
all_digits [] = refl
all_digits (d ∷ ds) = ap (λ b. is_ascii_digit d && b) (all_digits ds)

-- a mark is one of ASCII
pub mark_small : (b : ℕ) → is_mark b ≡ true → b < 128
mark_small b h = grind (arith, nat_tests, h)
