-- Names of sheets.
use Rattle.std.proofs.Common.{◌≡◌, ◌∙◌, ◌<◌, ◌≤◌, ◌⊎◌, ◌++◌, ◌∷◌, ℕ, zero, suc, List, [], true, false, Some, None, length, get_or, drop, refl, sym, ap, inl, inr, arith, map, string_bytes, String, Global}
use Rattle.std.proofs.lemmas.List.{append-nil, length-map}
use Rattle.std.proofs.lemmas.Bool.{cases_Bool, ne_eqb, le-ltb, lt-ltb, ltb-true, ltb-false}
use lib.Utf8.{encode}
use Rattle.std.proofs.lemmas.Option.{slice_get-map, slice_get_within}
use Rattle.std.proofs.lemmas.Str.{encodes-append}
use Rattle.std.specs.Prelude.{encode_utf8, encode_utf8_all, is_some, option_map, Option, IfNone, nat_lt, slice_get, ◌&&◌, ◌==◌, if◌then◌else◌}
use Rattle.std.specs.List.{list_all}
use Rattle.cell_refs.specs.Names.{AreDistinct, IsNamed, IsSameName, begins_word, doubled, goes_on_word, is_plain}

-- an element of a list with one more
push_cases : (xs : List (List ℕ)) (y : List ℕ) (i : ℕ) (a : List ℕ) → slice_get (xs ++ y ∷ []) i ≡ Some a → (slice_get xs i ≡ Some a) ⊎ ((i ≡ length xs) × (y ≡ a))
push_cases [] y zero a there = inr (refl, cc there)
push_cases [] y (suc i) a there = cc there
push_cases (x ∷ xs) y zero a there = inl there
push_cases (x ∷ xs) y (suc i) a there = elim (push_cases xs y i a there) [
  | inl h ↦ inl h
  | inr h ↦ inr (ap suc h.0, h.1)
]

-- one more name that none has
pub distinct_push : (names : List (List ℕ)) (name : List ℕ) → AreDistinct names → ((id : ℕ) → IsNamed names name id → ⊥) → AreDistinct (names ++ name ∷ [])
distinct_push names name apart free = λ i j a b there there' same.
    elim (push_cases names name i a there) [
      | inl first ↦ elim (push_cases names name j b there') [
        | inl second ↦ apart i j a b first second same
        | inr last ↦ absurd (free i (record { own = a; there = first; same = rw last.1 same }))
      ]
      | inr last ↦ elim (push_cases names name j b there') [
        | inl second ↦ absurd (free j (record { own = b; there = second; same = rw last.1 (sym same) }))
        | inr again ↦ last.0 ∙ sym again.0
      ]
    ]

-- a name with a first byte
pub plain_first : (name : List ℕ) → 0 < length name → is_plain name ≡ (begins_word (get_or name 0 0) && list_all goes_on_word (drop 1 name))
plain_first [] some = absurd (omega (arith, some))
plain_first (b ∷ rest) some = refl

pub doubled-append : (a b : List ℕ) → doubled (a ++ b) ≡ doubled a ++ doubled b
doubled-append [] b = refl
doubled-append (x ∷ a) b = elim (x == 39) as (λ t. (if t then 39 ∷ 39 ∷ doubled (a ++ b) else x ∷ doubled (a ++ b)) ≡ (if t then 39 ∷ 39 ∷ doubled a else x ∷ doubled a) ++ doubled b) [
  | true ↦ ap (λ l. 39 ∷ 39 ∷ l) (doubled-append a b)
  | false ↦ ap (λ l. x ∷ l) (doubled-append a b)
]

-- bytes past ASCII are no quotes
abbrev AllPast : List ℕ → Type 0
AllPast [] = Unit {0}
AllPast (b ∷ bs) = (128 ≤ b) × AllPast bs

doubled_past : (bs : List ℕ) → AllPast bs → doubled bs ≡ bs
doubled_past [] h = refl
doubled_past (b ∷ bs) h = rw (ne_eqb b 39 (λ e. omega (arith, e, h.0)), doubled_past bs h.1) refl

encode_past : (c : ℕ) → 128 ≤ c → AllPast (encode_utf8 c)
unfolding encode
encode_past c h = rw (le-ltb c 128 h) (elim (cases_Bool (nat_lt c 2048)) [
  | inl two ↦ rw two (omega arith, (omega arith, tt))
  | inr more ↦ rw more (elim (cases_Bool (nat_lt c 65536)) [
    | inl three ↦ rw three (omega arith, (omega arith, (omega arith, tt)))
    | inr four ↦ rw four (omega arith, (omega arith, (omega arith, (omega arith, tt))))
  ])
])

encode_ascii : (c : ℕ) → c < 128 → encode_utf8 c ≡ c ∷ []
unfolding encode
encode_ascii c h = rw (lt-ltb c 128 h) refl

-- a character but the quote stays one
pub doubled_other : (c : ℕ) → (c == 39) ≡ false → doubled (encode_utf8 c) ≡ encode_utf8 c
doubled_other c other = elim (cases_Bool (nat_lt c 128)) [
  | inl one ↦ rw (encode_ascii c (ltb-true c 128 one), other) refl
  | inr past ↦ doubled_past (encode_utf8 c) (encode_past c (ltb-false c 128 past))
]

-- one character more
pub doubled_more : (done : List ℕ) (c : ℕ) → doubled (encode_utf8_all (done ++ c ∷ [])) ≡ doubled (encode_utf8_all done) ++ doubled (encode_utf8 c)
doubled_more done c = rw (encodes-append done (c ∷ []), append-nil (encode_utf8 c), doubled-append (encode_utf8_all done) (encode_utf8 c)) refl

-- a sheet that has the name is the item at its place
pub named_item : (names : List (String Global)) (name : List ℕ) (k : ℕ) (item : String Global) → slice_get names k ≡ Some item → IsNamed (map string_bytes names) name k → IsSameName (string_bytes item) name
named_item names name k item there named =
    let is : Some (string_bytes item) ≡ Some named.own = sym (slice_get-map string_bytes names k ∙ ap (option_map string_bytes) there) ∙ named.there in
    let own : string_bytes item ≡ named.own = cc is in
    rw own named.same

-- it stands below their number
pub named_below : (names : List (String Global)) (name : List ℕ) (k : ℕ) → IsNamed (map string_bytes names) name k → k < length names
named_below names name k named = rw (length-map names string_bytes) at (slice_get_within (map string_bytes names) k named.own named.there)

-- what an answer says where it has no value
pub none_of : {A : Type 0} (r : Option A) (P : Type 0) → is_some r ≡ false → IfNone r P → P
none_of None P e none = none
none_of (Some j) P e none = cc e
