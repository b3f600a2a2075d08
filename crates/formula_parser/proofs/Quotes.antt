-- Texts in quotes, and texts at a point or behind a dollar sign.
use Rattle.std.proofs.Common.{◌≡◌, ◌≢◌, inl, inr, ℕ, suc, ◌<◌, ◌≤◌, Bool, true, false, cond, List, [], ◌∷◌, ◌++◌, length, take, drop, get_or, Option, Some, None, refl, sym, ap, subst, ◌∙◌, append_assoc, append-nil, arith, lit<}
use Rattle.std.specs.Prelude.{encode_utf8, nat_eq, nat_lt, MatchOption, option_map}
use Rattle.std.specs.Str.Pattern.{FindsCharPrefix, RFindsChar, SplitsAroundMatch, StripsPrefix}
use Rattle.std.proofs.lemmas.Bool.{cases_Bool, ne_eqb, eq-eqb, le-ltb, ltb-true, ltb-false}
use Rattle.std.proofs.lemmas.List.{take-append-drop}
use Rattle.std.proofs.lemmas.Str.{encode_ascii}
use Rattle.std.proofs.lemmas.Str.Pattern.{NoCharPasses-char, drop_at_char}
use lib.Utf8.{encode}
use denote.Ref.{Bor}
use Rattle.formula_grammar.specs.Words.{behind_quote, inside}
use Rattle.formula_grammar.specs.WordReading.{at_last_point, with_byte}

-- what is inside, where a quote stands just before or none does
abbrev pub inside_from : Bool → ℕ → List ℕ → List ℕ
inside_from false q bs = inside q bs
inside_from true q [] = []
inside_from true q (b ∷ bs) = cond (nat_eq b q) (q ∷ inside q bs) []

-- ---- characters but the quote

-- bytes that are no quotes
abbrev pub NoQuotes : ℕ → List ℕ → Type 0
NoQuotes q [] = Unit {0}
NoQuotes q (b ∷ bs) = (nat_eq b q ≡ false) × NoQuotes q bs

one_more : (q b : ℕ) (bs : List ℕ) → nat_eq b q ≡ false → inside q (b ∷ bs) ≡ b ∷ inside q bs
one_more q b [] h = ap (λ t. cond t [] (b ∷ [])) h
one_more q b (c ∷ bs) h = ap (λ t. cond t (cond (nat_eq c q) (q ∷ inside q bs) []) (b ∷ inside q (c ∷ bs))) h

inside_others : (q : ℕ) (cs bs : List ℕ) → NoQuotes q cs → inside q (cs ++ bs) ≡ cs ++ inside q bs
inside_others q [] bs h = refl
inside_others q (c ∷ cs) bs h = one_more q c (cs ++ bs) h.0 ∙ ap (λ l. c ∷ l) (inside_others q cs bs h.1)

past : (q b : ℕ) → q < 128 → 128 ≤ b → nat_eq b q ≡ false
past q b lt le = ne_eqb b q (λ e. omega (arith, e))

encode_past : (q c : ℕ) → q < 128 → 128 ≤ c → NoQuotes q (encode_utf8 c)
unfolding encode
encode_past q c lt h = rw (le-ltb c 128 h) (elim (cases_Bool (nat_lt c 2048)) [
  | inl two ↦ rw two (past q _ lt (omega arith), (past q _ lt (omega arith), tt))
  | inr more ↦ rw more (elim (cases_Bool (nat_lt c 65536)) [
    | inl three ↦ rw three (past q _ lt (omega arith), (past q _ lt (omega arith), (past q _ lt (omega arith), tt)))
    | inr four ↦ rw four (past q _ lt (omega arith), (past q _ lt (omega arith), (past q _ lt (omega arith), (past q _ lt (omega arith), tt))))
  ])
])

other_char : (q c : ℕ) → q < 128 → c ≢ q → NoQuotes q (encode_utf8 c)
other_char q c lt other = elim (cases_Bool (nat_lt c 128)) [
  | inl one ↦ subst (NoQuotes q) (sym (encode_ascii c (ltb-true c 128 one))) (ne_eqb c q other, tt)
  | inr more ↦ encode_past q c lt (ltb-false c 128 more)
]

-- ---- the turns of the loop

-- a character that is no quote, behind none
pub stays_inside : (q c : ℕ) (old new rest after total : List ℕ) → q < 128 → c ≢ q → rest ≡ encode_utf8 c ++ after → new ≡ old ++ encode_utf8 c → old ++ inside q rest ≡ total → new ++ inside q after ≡ total
stays_inside q c old new rest after total lt other is more so_far =
    ap (λ l. l ++ inside q after) more ∙ append_assoc old (encode_utf8 c) (inside q after)
    ∙ ap (λ l. old ++ l) (sym (inside_others q (encode_utf8 c) after (other_char q c lt other))) ∙ ap (λ l. old ++ inside q l) (sym is) ∙ so_far

no_more : (q : ℕ) (cs after : List ℕ) → NoQuotes q cs → 0 < length cs → inside_from true q (cs ++ after) ≡ []
no_more q [] after h lt = absurd (omega arith)
no_more q (b ∷ bs) after h lt = ap (λ t. cond t (q ∷ inside q (bs ++ after)) []) h.0

encode_some : (c : ℕ) → 0 < length (encode_utf8 c)
unfolding encode
encode_some c = elim (cases_Bool (nat_lt c 128)) [
  | inl one ↦ rw one (omega arith)
  | inr more ↦ rw more (elim (cases_Bool (nat_lt c 2048)) [
    | inl two ↦ rw two (omega arith)
    | inr more ↦ rw more (elim (cases_Bool (nat_lt c 65536)) [
      | inl three ↦ rw three (omega arith)
      | inr four ↦ rw four (omega arith)
    ])
  ])
]

-- the quote before was the closing one
pub closes : (q c : ℕ) (old rest after total : List ℕ) → q < 128 → c ≢ q → rest ≡ encode_utf8 c ++ after → old ++ inside_from true q rest ≡ total → old ≡ total
closes q c old rest after total lt other is so_far =
    sym (ap (λ l. old ++ l) (ap (inside_from true q) is ∙ no_more q (encode_utf8 c) after (other_char q c lt other) (encode_some c)) ∙ append-nil old) ∙ so_far

quote_first : (q c : ℕ) (rest after : List ℕ) → q < 128 → c ≡ q → rest ≡ encode_utf8 c ++ after → rest ≡ q ∷ after
quote_first q c rest after lt same is = is ∙ ap (λ d. encode_utf8 d ++ after) same ∙ ap (λ l. l ++ after) (encode_ascii q lt)

-- the second of two quotes
pub doubled : (q c : ℕ) (old new rest after total : List ℕ) → q < 128 → c ≡ q → rest ≡ encode_utf8 c ++ after → new ≡ old ++ encode_utf8 c → old ++ inside_from true q rest ≡ total → new ++ inside q after ≡ total
doubled q c old new rest after total lt same is more so_far =
    ap (λ l. l ++ inside q after) (more ∙ ap (λ d. old ++ encode_utf8 d) same ∙ ap (λ l. old ++ l) (encode_ascii q lt)) ∙ append_assoc old (q ∷ []) (inside q after)
    ∙ ap (λ l. old ++ l) (sym (ap (λ t. cond t (q ∷ inside q after) []) (eq-eqb q q refl))) ∙ ap (λ l. old ++ inside_from true q l) (sym (quote_first q c rest after lt same is)) ∙ so_far

opens : (q : ℕ) (bs : List ℕ) → inside q (q ∷ bs) ≡ inside_from true q bs
opens q [] = ap (λ t. cond t [] (q ∷ [])) (eq-eqb q q refl)
opens q (b ∷ bs) = ap (λ t. cond t (cond (nat_eq b q) (q ∷ inside q bs) []) (q ∷ inside q (b ∷ bs))) (eq-eqb q q refl)

-- a quote behind none
pub first_quote : (q c : ℕ) (old rest after total : List ℕ) → q < 128 → c ≡ q → rest ≡ encode_utf8 c ++ after → old ++ inside q rest ≡ total → old ++ inside_from true q after ≡ total
first_quote q c old rest after total lt same is so_far =
    ap (λ l. old ++ l) (sym (opens q after)) ∙ ap (λ l. old ++ inside q l) (sym (quote_first q c rest after lt same is)) ∙ so_far

-- ---- behind a first character

pub no_quote : (q : ℕ) (bs : List ℕ) → q < 128 → ((rest : List ℕ) → bs ≢ encode_utf8 q ++ rest) → behind_quote q bs ≡ []
no_quote q [] lt h = refl
no_quote q (b ∷ bs) lt h = ap (λ t. cond t bs []) (ne_eqb b q (λ e. h bs (ap (λ d. d ∷ bs) e ∙ sym (ap (λ l. l ++ bs) (encode_ascii q lt)))))

pub behind_first : (q : ℕ) (bs x : List ℕ) → q < 128 → StripsPrefix (FindsCharPrefix q) bs x → behind_quote q bs ≡ x
behind_first q bs x lt h = ap (behind_quote q) (drop_at_char q bs 0 h.0 h.1 lt) ∙ ap (λ t. cond t (drop h.0 bs) []) (eq-eqb q q refl) ∙ sym h.2

-- ---- at the last point

last_at : (front back : List ℕ) → at_last_point back ≡ None → at_last_point (front ++ 46 ∷ back) ≡ Some (front, back)
last_at [] back h = ap (λ o. with_byte 46 o back) h
last_at (b ∷ front) back h = ap (λ o. with_byte b o (front ++ 46 ∷ back)) (last_at front back h)

no_last : (bs : List ℕ) → ((i : ℕ) → i < length bs → get_or bs i 0 ≢ 46) → at_last_point bs ≡ None
no_last [] h = refl
no_last (b ∷ bs) h = ap (λ o. with_byte b o bs) (no_last bs (λ i lt. h (suc i) (omega arith))) ∙ ap (λ t. cond t (Some ([], bs)) None) (ne_eqb b 46 (h 0 (omega arith)))

-- what std's way to split gives
pub split_is : (s : List ℕ) (r : Option (Bor (List ℕ) × Bor (List ℕ))) → MatchOption r (RFindsChar 46 s None) (λ x. SplitsAroundMatch (RFindsChar 46) s x.0.now x.1.now)
    → option_map (λ (p : Bor (List ℕ) × Bor (List ℕ)). (p.0.now, p.1.now)) r ≡ at_last_point s
split_is s None none = sym (no_last s (λ i lt. NoCharPasses-char 46 s i none (lit< tt) lt))
split_is s (Some p) h =
    let i = h.0 in
    let j = h.1 in
    let whole : take i s ++ 46 ∷ drop j s ≡ s = ap (λ l. take i s ++ l) (sym (drop_at_char 46 s i j h.2.1 (lit< tt))) ∙ take-append-drop i s in
    ap (λ l. Some (l, p.1.now)) h.3 ∙ ap (λ l. Some (take i s, l)) h.4 ∙ sym (last_at (take i s) (drop j s) (no_last (drop j s) (λ k lt. NoCharPasses-char 46 (drop j s) k h.2.0 (lit< tt) lt))) ∙ ap at_last_point whole
