-- The letters of a column.
use Rattle.std.proofs.Common.{◌≡◌, ◌∙◌, ◌<◌, ◌≤◌, ◌+◌, ◌-◌, ◌*◌, ◌/◌, ◌%◌, ◌++◌, ◌∷◌, ℕ, zero, suc, List, [], length, refl, sym, ap, inl, inr, append_assoc, arith}
use Rattle.std.specs.Prelude.{nat_lt, fold, Result, Ok, Err, OnOk}
use Rattle.std.specs.Char.{is_ascii_alphabetic}
use Rattle.std.specs.List.{prefix_len}
use Rattle.std.proofs.lemmas.Bool.{cases_Bool, ltb-true, ltb-false, lt-ltb, le-ltb}
use Rattle.cell_refs.specs.Address.{column_number, column_text, letter_number, letters_within, without_dollar}
use Rattle.cell_refs.proofs.Digits.{capital_letter, capital_no_dollar, capital_number}

-- more letters at most make no difference
same_letters : (n m c : ℕ) → c < n → c < m → letters_within n c ≡ letters_within m c
same_letters zero m c below under = absurd (omega (arith, below))
same_letters (suc n) zero c below under = absurd (omega (arith, under))
same_letters (suc n) (suc m) c below under = elim (cases_Bool (nat_lt c 26)) [
  | inl few ↦ rw few refl
  | inr more ↦
      let many = ltb-false c 26 more in
      rw more (ap (λ l. l ++ (65 + c % 26) ∷ []) (same_letters n m (c / 26 - 1) (omega arith) (omega arith)))
]

-- the last letter, behind those of a column before
pub one_letter : (c : ℕ) → c < 26 → column_text c ≡ (65 + c) ∷ []
one_letter c few = rw (lt-ltb c 26 few) refl

pub last_letter : (c : ℕ) → 26 ≤ c → column_text c ≡ column_text (c / 26 - 1) ++ (65 + c % 26) ∷ []
last_letter c many = rw (le-ltb c 26 many) (ap (λ l. l ++ (65 + c % 26) ∷ []) (same_letters c (suc (c / 26 - 1)) (c / 26 - 1) (omega arith) (omega arith)))

-- capital letters
abbrev pub AreCapitals : List ℕ → Type 0
AreCapitals [] = Unit {0}
AreCapitals (b ∷ bs) = (k : ℕ) × (k < 26) × (b ≡ 65 + k) × AreCapitals bs

capitals_append : (a b : List ℕ) → AreCapitals a → AreCapitals b → AreCapitals (a ++ b)
capitals_append [] b first second = second
capitals_append (x ∷ a) b first second = (first.0, first.1, first.2, capitals_append a b first.3 second)

letters_capitals : (n c : ℕ) → AreCapitals (letters_within n c)
letters_capitals zero c = tt
letters_capitals (suc n) c = elim (cases_Bool (nat_lt c 26)) [
  | inl few ↦ rw few (c, ltb-true c 26 few, refl, tt)
  | inr more ↦ rw more (capitals_append (letters_within n (c / 26 - 1)) ((65 + c % 26) ∷ []) (letters_capitals n (c / 26 - 1)) (c % 26, omega arith, refl, tt))
]

pub capitals : (c : ℕ) → AreCapitals (column_text c)
capitals c = letters_capitals (suc c) c

number_append : (n : ℕ) (a : List ℕ) (b : ℕ) → fold (λ n b. 26 * n + letter_number b) n (a ++ b ∷ []) ≡ 26 * fold (λ n b. 26 * n + letter_number b) n a + letter_number b
number_append n [] b = refl
number_append n (x ∷ a) b = number_append (26 * n + letter_number x) a b

letters_number : (n c : ℕ) → c < n → column_number (letters_within n c) ≡ c + 1
letters_number zero c below = absurd (omega (arith, below))
letters_number (suc n) c below = elim (cases_Bool (nat_lt c 26)) [
  | inl few ↦ rw (few, capital_number c (ltb-true c 26 few)) (omega arith)
  | inr more ↦
      let many = ltb-false c 26 more in
      let before = letters_number n (c / 26 - 1) (omega arith) in
      let last : c % 26 < 26 = omega arith in
      rw (more, number_append 0 (letters_within n (c / 26 - 1)) (65 + c % 26), before, capital_number (c % 26) last) (omega arith)
]

pub numbered : (c : ℕ) → column_number (column_text c) ≡ c + 1
numbered c = letters_number (suc c) c (omega arith)

-- letters and then a text that begins with none
pub counted : (letters text : List ℕ) → AreCapitals letters → prefix_len is_ascii_alphabetic text ≡ 0 → prefix_len is_ascii_alphabetic (letters ++ text) ≡ length letters
counted [] text all none = none
counted (b ∷ letters) text all none = rw (all.2, capital_letter all.0 all.1, counted letters text all.3 none) (omega arith)

pub undollared : (letters text : List ℕ) → AreCapitals letters → without_dollar text ≡ text → without_dollar (letters ++ text) ≡ letters ++ text
undollared [] text all none = none
undollared (b ∷ letters) text all none = rw (all.2, capital_no_dollar all.0) refl

-- the last letter is appended to the others
pub appended : {T E : Type 0} (r : Result T E) (c : ℕ) (old mid new : List ℕ) → 26 ≤ c → mid ≡ old ++ column_text (c / 26 - 1) → OnOk r (new ≡ mid ++ (65 + c % 26) ∷ []) → OnOk r (new ≡ old ++ column_text c)
appended (Ok x) c old mid new many before last =
    last ∙ ap (λ l. l ++ (65 + c % 26) ∷ []) before ∙ append_assoc old (column_text (c / 26 - 1)) ((65 + c % 26) ∷ []) ∙ ap (λ l. old ++ l) (sym (last_letter c many))
appended (Err e) c old mid new many before last = tt
