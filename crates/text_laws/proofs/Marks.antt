-- What a token begins with, by its first bytes.
use Rattle.std.proofs.Common.{◌≡◌, ◌⊎◌, ℕ, true, false, eqb, inl, inr, arith}
use Rattle.std.specs.Prelude.{◌&&◌, ◌||◌}
use Rattle.std.proofs.lemmas.Bool.{and_parts, or_cases, eqb-true}
use Rattle.std.proofs.lemmas.Bool.Decides.{nat_tests}
use Rattle.formula_lexer.specs.Front.{is_digit, is_mark, is_pair, starts_word}

-- a byte that begins a word begins nothing else
pub record BeginsWord (b : ℕ) : Type 0 where
  pub no_digit : is_digit b ≡ false
  pub no_point : eqb b 46 ≡ false
  pub no_text : eqb b 34 ≡ false
  pub no_quote : eqb b 39 ≡ false
  pub no_fault : eqb b 35 ≡ false

pub begins_word : (b : ℕ) → starts_word b ≡ true → BeginsWord b
begins_word b e = record { no_digit = grind (arith, nat_tests); no_point = grind (arith, nat_tests); no_text = grind (arith, nat_tests); no_quote = grind (arith, nat_tests); no_fault = grind (arith, nat_tests) }

-- nor does a byte that is a mark, but for a point before a digit
pub record IsMark (b : ℕ) : Type 0 where
  pub no_digit : is_digit b ≡ false
  pub no_text : eqb b 34 ≡ false
  pub no_quote : eqb b 39 ≡ false
  pub no_fault : eqb b 35 ≡ false
  pub no_dollar : eqb b 36 ≡ false
  pub no_word : starts_word b ≡ false

pub mark_is : (b : ℕ) → is_mark b ≡ true → IsMark b
mark_is b e = record { no_digit = grind (arith, nat_tests); no_text = grind (arith, nat_tests); no_quote = grind (arith, nat_tests); no_fault = grind (arith, nat_tests); no_dollar = grind (arith, nat_tests); no_word = grind (arith, nat_tests) }

pub pair_first : (b c : ℕ) → is_pair b c ≡ true → (b ≡ 60) ⊎ (b ≡ 62)
pair_first b c e = elim (or_cases (eqb c 61 && (eqb b 60 || eqb b 62)) (eqb b 60 && eqb c 62) e) [
  | inl h ↦ elim (or_cases (eqb b 60) (eqb b 62) (and_parts (eqb c 61) (eqb b 60 || eqb b 62) h).1) [
    | inl k ↦ inl (eqb-true b 60 k)
    | inr k ↦ inr (eqb-true b 62 k)
  ]
  | inr h ↦ inl (eqb-true b 60 (and_parts (eqb b 60) (eqb c 62) h).0)
]
