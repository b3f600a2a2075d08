-- What the reader of a row and its number finds.
use Rattle.std.proofs.Common.{◌≡◌, ◌≢◌, ◌∙◌, ℕ, ◌<◌, ◌≤◌, ◌^◌, ◌-◌, List, ◌∷◌, ◌++◌, length, take, drop, sym, ap, ap₂, arith, ℤ, pos, negsuc, ◌≤ℤ◌, nat_abs}
use Rattle.std.proofs.lemmas.Int.{ints}
use Rattle.fractions.specs.Rational.{ℚ, zero_ℚ}
use Rattle.frac128.specs.Narrow.{IsNarrow, IsNarrowWhole}
use Rattle.frac128.specs.Printed.{printed}
use Rattle.certificate_lines.specs.Cutting.{Lacks, Starts, behind}
use Rattle.certificate_lines.specs.Line.{whole_text, pair_text}
use Rattle.certificate_texts.specs.Lists.{IsPair}
use Rattle.certificate_lines.proofs.Cuts.{Cut, cut_start}
use Rattle.certificate_texts.proofs.Reading.{rest-is, starts_with}
use Rattle.certificate_lines.proofs.Words.{whole_lacks}

pub row_narrow : (most k : ℕ) (y : ℚ) → most < 2 ^ 64 → IsPair most k y → IsNarrowWhole (pos k)
row_narrow most k y m p = omega (arith, m, p.row)

pub pair_cut : (most k : ℕ) (y : ℚ) (word before rest : List ℕ) → most < 2 ^ 64 → IsPair most k y → word ≡ before ++ rest → Lacks 58 before → Starts 58 rest → word ≡ pair_text k y
    → Cut before (whole_text (pos k)) rest (58 ∷ printed y)
pair_cut most k y word before rest m p j l s e = cut_start 58 before (whole_text (pos k)) rest (58 ∷ printed y) l (whole_lacks (pos k) (row_narrow most k y m p)) s (behind (printed y)) (sym j ∙ e)

-- the number behind the mark
pub back_is : (rest : List ℕ) (y : ℚ) → rest ≡ 58 ∷ printed y → take (length rest - 1) (drop 1 rest) ≡ printed y
back_is rest y e = rest-is 1 rest ∙ ap (drop 1) e

pub pair_found : (most : ℕ) (z row : ℤ) (y : ℚ) (word before rest : List ℕ) → z ≡ row → pos 1 ≤ℤ row → row ≤ℤ pos most → IsNarrow y → y ≢ zero_ℚ → word ≡ before ++ rest → before ≡ whole_text row
    → Starts 58 rest → 1 ≤ length rest → take (length rest - 1) (drop 1 rest) ≡ printed y → IsPair most (nat_abs z) y × (word ≡ pair_text (nat_abs z) y)
pair_found most (pos k) row y word before rest e low high n o j b s l t = (
  record { counted = omega (arith, ints, e, low); row = omega (arith, ints, e, high); narrow = n; other = o },
  j ∙ ap₂ (λ x r. x ++ r) (b ∙ ap whole_text (sym e)) (starts_with 58 rest s l ∙ ap (λ r. 58 ∷ r) (sym (rest-is 1 rest) ∙ t)),
)
pair_found most (negsuc k) row y word before rest e low high n o j b s l t = absurd (omega (arith, ints, e, low))
