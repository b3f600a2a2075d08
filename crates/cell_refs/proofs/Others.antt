-- Characters but a quote, byte by byte.
use Rattle.std.proofs.Common.{◌≡◌, ◌≢◌, inl, inr, ℕ, ◌<◌, ◌≤◌, false, List, [], ◌∷◌, sym, subst, arith}
use Rattle.std.specs.Prelude.{encode_utf8, nat_eq, nat_lt}
use Rattle.std.proofs.lemmas.Bool.{cases_Bool, ne_eqb, le-ltb, ltb-true, ltb-false}
use Rattle.std.proofs.lemmas.Str.{encode_ascii}
use lib.Utf8.{encode}

-- bytes that are no quotes
abbrev pub NoQuotes : ℕ → List ℕ → Type 0
NoQuotes q [] = Unit {0}
NoQuotes q (b ∷ bs) = (nat_eq b q ≡ false) × NoQuotes q bs

past : (q b : ℕ) → q < 128 → 128 ≤ b → nat_eq b q ≡ false
past q b lt le = ne_eqb b q (λ e. omega (arith, e))

encode_past : (q c : ℕ) → q < 128 → 128 ≤ c → NoQuotes q (encode_utf8 c)
unfolding encode
encode_past q c lt h = rw (le-ltb c 128 h) (elim (cases_Bool (nat_lt c 2048)) [
  | inl two ↦ rw two (past q _ lt (omega arith), (past q _ lt (omega arith), tt))
  | inr more ↦ rw more (elim (cases_Bool (nat_lt c 65536)) [
    | inl three ↦ rw three (past q _ lt (omega arith), (past q _ lt (omega arith), (past q _ lt (omega arith), tt)))
    | inr four ↦ rw four (past q _ lt (omega arith), (past q _ lt (omega arith), (past q _ lt (omega arith), (past q _ lt (omega arith), tt))))
  ])
])

pub other_char : (q c : ℕ) → q < 128 → c ≢ q → NoQuotes q (encode_utf8 c)
other_char q c lt other = elim (cases_Bool (nat_lt c 128)) [
  | inl one ↦ subst (NoQuotes q) (sym (encode_ascii c (ltb-true c 128 one))) (ne_eqb c q other, tt)
  | inr more ↦ encode_past q c lt (ltb-false c 128 more)
]
