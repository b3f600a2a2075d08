-- What the readers of numbers and words find.
use Rattle.std.proofs.Common.{◌≡◌, ◌≢◌, ◌∙◌, ℕ, zero, suc, ◌-◌, ◌<◌, ◌≤◌, List, [], ◌∷◌, ◌++◌, length, get_or, take, drop, Result, Ok, refl, sym, ap, subst, append-nil, arith, length-drop, inl, ℤ, pos}
use Rattle.std.specs.List.{AllByRecursion}
use Rattle.std.specs.Str.{IsAscii, IsUtf8}
use Rattle.std.proofs.lemmas.Str.{IsUtf8-from_ascii}
use Rattle.fractions.specs.Rational.{ℚ, numerator, denominator, ◌/ℚ◌, zero_ℚ}
use Rattle.fractions.specs.Whole.{whole_ℚ}
use Rattle.fractions.proofs.Parts.{frac_self, den_pos}
use Rattle.fractions.proofs.Whole.{whole_numbers, whole_injective, whole-zero}
use Rattle.frac128.specs.Narrow.{IsNarrow}
use Rattle.frac128.specs.Numeral.{Numeral, Spells, IsNarrowNumeral, value}
use Rattle.frac128.specs.Printed.{printed, IsPrintedAsNumeral}
use Rattle.frac128.specs.Values.{pair_of}
use Rattle.frac128.proofs.Quotients.{quotient_made}
use Rattle.frac128.proofs.Values.{reduced_pair}
use Rattle.std.specs.Fmt.{decimal}
use Rattle.frac128.proofs.NarrowLaws.{narrow-whole}
use Rattle.frac128.proofs.ReadBack.{printed_reads_back}
use Rattle.certificate_lines.specs.Cutting.{Lacks, Starts, at_once, behind}
use Rattle.certificate_lines.specs.Line.{spaced}
use Rattle.certificate_lines.proofs.Cuts.{Cut, cut_start, all_map, tails}
use Rattle.certificate_lines.proofs.Numbers.{NumberByte, PlainByte, number_bytes, Form, numeral, quotient, form, front-plain, printed_whole}

-- ---- cutting
pub take-long : (k : ℕ) (xs : List ℕ) → length xs ≤ k → take k xs ≡ xs
take-long zero [] h = refl
take-long (suc k) [] h = refl
take-long zero (x ∷ xs) h = absurd (omega arith)
take-long (suc k) (x ∷ xs) h = ap (λ r. x ∷ r) (take-long k xs (omega (arith, h)))

pub rest-is : (n : ℕ) (xs : List ℕ) → take (length xs - n) (drop n xs) ≡ drop n xs
rest-is n xs = take-long (length xs - n) (drop n xs) (omega (arith, length-drop n xs))

pub lacks_take : (m : ℕ) (xs : List ℕ) (n : ℕ) → n ≤ length xs → ((k : ℕ) → k < n → get_or xs k 0 ≢ m) → Lacks m (take n xs)
lacks_take m xs zero h f = tt
lacks_take m [] (suc n) h f = tt
lacks_take m (x ∷ xs) (suc n) h f = (f 0 (omega arith), lacks_take m xs n (omega (arith, h)) (λ k l. f (suc k) (omega (arith, l))))

pub starts_drop : (m : ℕ) (xs : List ℕ) (n : ℕ) → (n < length xs → get_or xs n 0 ≡ m) → Starts m (drop n xs)
starts_drop m [] zero f = at_once
starts_drop m (x ∷ xs) zero f = subst (λ y. Starts m (y ∷ xs)) (sym (f (omega arith))) (behind xs)
starts_drop m [] (suc n) f = at_once
starts_drop m (x ∷ xs) (suc n) f = starts_drop m xs n (λ l. f (omega (arith, l)))

-- ---- numerals
ascii : (xs : List ℕ) → AllByRecursion NumberByte xs → IsAscii xs
ascii [] h i = omega arith
ascii (x ∷ xs) h zero = omega (arith, h.0.1)
ascii (x ∷ xs) h (suc i) = ascii xs h.1 i

-- what is printed is text
pub printed_utf8 : (x : ℚ) → IsNarrow x → IsUtf8 (printed x)
printed_utf8 x h = IsUtf8-from_ascii (printed x) (ascii (printed x) (number_bytes x h))

pub numeral_found : {E : Type 0} (text : List ℕ) (r : Result ℚ E) (x : ℚ) → ((n : Numeral) → Spells text n → IsNarrowNumeral n → r ≡ Ok (value n))
    → IsNarrow x → IsPrintedAsNumeral x → text ≡ printed x → r ≡ Ok x
numeral_found text r x f h p e =
    let b = printed_reads_back x h p in
    f b.0 (subst (λ t. Spells t b.0) (sym e) b.1.0) b.1.1 ∙ ap Ok b.1.2

-- ---- quotients
pub whole_is : (x : ℚ) → IsNarrow x → whole_ℚ (numerator x) /ℚ whole_ℚ (pos (denominator x)) ≡ x
whole_is x h =
    let some : pos (denominator x) ≢ pos 0 = λ e. let d = den_pos x in let q : denominator x ≡ 0 = cc in omega (arith, d, q) in
    sym (quotient_made (numerator x) (pos (denominator x)) (pair_of x) some (record { num = h.num; den = h.den; reduced = reduced_pair x }) refl) ∙ frac_self x

-- what is cut at '/' of a printed number
pub data Halves (x : ℚ) (above rest : List ℕ) : Type 0 where
  one : IsPrintedAsNumeral x → above ≡ printed x → rest ≡ [] → Halves x above rest
  two : (below : List ℕ) → above ≡ printed (whole_ℚ (numerator x)) → below ≡ printed (whole_ℚ (pos (denominator x))) → rest ≡ 47 ∷ below → Halves x above rest

no_slash : (b : ℕ) → PlainByte b → b ≢ 47
no_slash b h = h.2

pub halves : (x : ℚ) (above rest : List ℕ) → IsNarrow x → Lacks 47 above → Starts 47 rest → above ++ rest ≡ printed x → Halves x above rest
halves x above rest h l s e = by_form (form x h)
  where
    by_form : Form x → Halves x above rest
    by_form (numeral p all) =
        let c = cut_start 47 above (printed x) rest [] l (all_map PlainByte (λ b. b ≢ 47) no_slash (printed x) all) s at_once (e ∙ sym (append-nil (printed x))) in
        one p c.front c.back
    by_form (quotient q) =
        let c = cut_start 47 above _ rest _ l (front-plain x h) s (behind _) (e ∙ q) in
        two (decimal (denominator x)) (c.front ∙ sym (printed_whole (numerator x))) (sym (printed_whole (pos (denominator x)))) c.back

-- ---- the parts of a quotient
pub numerator_narrow : (x : ℚ) → IsNarrow x → IsNarrow (whole_ℚ (numerator x))
numerator_narrow x h = (narrow-whole (numerator x)).0 h.num

pub denominator_narrow : (x : ℚ) → IsNarrow x → IsNarrow (whole_ℚ (pos (denominator x)))
denominator_narrow x h = (narrow-whole (pos (denominator x))).0 h.den

pub whole_numeral : (z : ℤ) → IsPrintedAsNumeral (whole_ℚ z)
whole_numeral z = inl (whole_numbers.beneath z)

pub denominator_some : (x : ℚ) → whole_ℚ (pos (denominator x)) ≢ zero_ℚ
denominator_some x e =
    let d = den_pos x in
    let q : pos (denominator x) ≡ pos 0 = whole_injective (pos (denominator x)) (pos 0) (e ∙ sym whole-zero) in
    let r : denominator x ≡ 0 = cc in
    omega (arith, d, r)

-- ---- words behind a space
pub with_first : (xs : List ℕ) (m : ℕ) → 1 ≤ length xs → get_or xs 0 0 ≡ m → xs ≡ m ∷ drop 1 xs
with_first [] m h e = absurd (omega arith)
with_first (x ∷ xs) m h e = ap (λ y. y ∷ xs) e

-- the word that is cut behind a space
pub behind_space : (text word rest : List ℕ) → 1 ≤ length text → get_or text 0 0 ≡ 32 → take (length text - 1) (drop 1 text) ≡ word ++ rest → text ≡ 32 ∷ (word ++ rest)
behind_space text word rest h f e = with_first text 32 h f ∙ ap (λ r. 32 ∷ r) (sym (rest-is 1 text) ∙ e)

pub spaced_starts : (ws : List (List ℕ)) → Starts 32 (spaced ws)
spaced_starts [] = at_once
spaced_starts (w ∷ ws) = behind (w ++ spaced ws)

-- a number's word is cut in front
pub number_cut : (text word rest : List ℕ) (x : ℚ) (ws : List (List ℕ)) → text ≡ 32 ∷ (word ++ rest) → Lacks 32 word → Starts 32 rest → IsNarrow x
    → text ≡ spaced (printed x ∷ ws) → Cut word (printed x) rest (spaced ws)
number_cut text word rest x ws e l s h f =
    cut_start 32 word (printed x) rest (spaced ws) l (all_map NumberByte (λ b. b ≢ 32) (λ b p. omega (arith, p.0)) (printed x) (number_bytes x h)) s (spaced_starts ws)
    (tails _ _ _ _ (sym e ∙ f))

-- ---- texts that begin with a mark, or are empty
pub starts_with : (m : ℕ) (text : List ℕ) → Starts m text → 1 ≤ length text → text ≡ m ∷ drop 1 text
starts_with m _ at_once l = absurd (omega arith)
starts_with m _ (behind xs) l = refl

pub behind_start : (m : ℕ) (text word rest : List ℕ) → Starts m text → 1 ≤ length text → take (length text - 1) (drop 1 text) ≡ word ++ rest → text ≡ m ∷ (word ++ rest)
behind_start m text word rest s l e = starts_with m text s l ∙ ap (λ r. m ∷ r) (sym (rest-is 1 text) ∙ e)

-- what is behind the mark
pub behind_is : (m : ℕ) (text back : List ℕ) → text ≡ m ∷ back → take (length text - 1) (drop 1 text) ≡ back
behind_is m text back e = rest-is 1 text ∙ ap (drop 1) e

-- the mark, and what is behind it
pub feed_is : (m : ℕ) (text : List ℕ) → Starts m text → 1 ≤ length text → text ≡ m ∷ take (length text - 1) (drop 1 text)
feed_is m text s l = starts_with m text s l ∙ ap (λ r. m ∷ r) (sym (rest-is 1 text))
