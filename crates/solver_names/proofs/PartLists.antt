-- Texts in parts.
use Rattle.std.proofs.Common.{inl, inr, subst, ◌≡◌, ℕ, zero, suc, length, get_or, arith, ◌<◌, ◌≤◌, Bool, true, false, List, [], ◌∷◌, ◌++◌, map, refl, sym, ap, ◌∙◌, append_assoc, append-nil, lit<, string_bytes, String, Global}
use Rattle.std.specs.Prelude.{encode_utf8, if◌then◌else◌, ◌&&◌, ◌||◌, ◌==◌, not}
use Rattle.std.proofs.lemmas.Str.{encode_ascii}
use Rattle.std.proofs.lemmas.Bool.{cases_Bool, eqb-true, eqb-false}
use Rattle.std.proofs.lemmas.List.{map-append}
use Rattle.cell_refs.proofs.Others.{NoQuotes, other_char}
use Rattle.solver_names.specs.Texts.{is_mark, parts_from, put_before}

-- bytes before the first part
abbrev before : List ℕ → List (List ℕ) → List (List ℕ)
before bytes [] = bytes ∷ []
before bytes (part ∷ parts) = (bytes ++ part) ∷ parts

-- parts behind others, where the last of those goes on
abbrev pub glued : List (List ℕ) → List ℕ → List (List ℕ) → List (List ℕ)
glued done part parts = done ++ before part parts

-- there is a first part
abbrev HasFirst : List (List ℕ) → Type 0
HasFirst [] = ⊥
HasFirst (part ∷ parts) = Unit {0}

some_before : (b : ℕ) (parts : List (List ℕ)) → HasFirst (put_before b parts)
some_before b [] = tt
some_before b (part ∷ parts) = tt

some_parts : (q : Bool) (text : List ℕ) → HasFirst (parts_from q text)
some_parts q [] = tt
some_parts q (b ∷ rest) = by_case (not q && is_mark b)
  where
    by_case : (cut : Bool) → HasFirst (if cut then [] ∷ parts_from false rest else put_before b (parts_from (if b == 39 then not q else q) rest))
    by_case true = tt
    by_case false = some_before b (parts_from (if b == 39 then not q else q) rest)

before_one : (b : ℕ) (bytes : List ℕ) (parts : List (List ℕ)) → put_before b (before bytes parts) ≡ before (b ∷ bytes) parts
before_one b bytes [] = refl
before_one b bytes (part ∷ parts) = refl

put_one : (b : ℕ) (parts : List (List ℕ)) → put_before b parts ≡ before (b ∷ []) parts
put_one b [] = refl
put_one b (part ∷ parts) = refl

before_none : (parts : List (List ℕ)) → HasFirst parts → before [] parts ≡ parts
before_none [] some = absurd some
before_none (part ∷ parts) some = refl

before_twice : (a b : List ℕ) (parts : List (List ℕ)) → before a (before b parts) ≡ before (a ++ b) parts
before_twice a b [] = refl
before_twice a b (part ∷ parts) = ap (λ p. p ∷ parts) (sym (append_assoc a b part))

-- bytes that end no part and aren't quotes
abbrev AreInner : Bool → List ℕ → Type 0
AreInner q [] = Unit {0}
AreInner q (b ∷ bs) = ((not q && is_mark b) ≡ false) × ((b == 39) ≡ false) × AreInner q bs

inner_more : (q : Bool) (bytes rest : List ℕ) → AreInner q bytes → parts_from q (bytes ++ rest) ≡ before bytes (parts_from q rest)
inner_more q [] rest h = sym (before_none (parts_from q rest) (some_parts q rest))
inner_more q (b ∷ bs) rest h =
    ap (λ cut. if cut then [] ∷ parts_from false (bs ++ rest) else put_before b (parts_from (if b == 39 then not q else q) (bs ++ rest))) h.0
    ∙ ap (λ quote. put_before b (parts_from (if quote then not q else q) (bs ++ rest))) h.1
    ∙ ap (put_before b) (inner_more q bs rest h.2) ∙ before_one b bs (parts_from q rest)

in_quotes : (bytes : List ℕ) → NoQuotes 39 bytes → AreInner true bytes
in_quotes [] h = tt
in_quotes (b ∷ bs) h = (refl, h.0, in_quotes bs h.1)

no_mark : (b : ℕ) → (b == 44) ≡ false → (b == 59) ≡ false → (b == 126) ≡ false → is_mark b ≡ false
no_mark b e f g = ap (λ x. x || (b == 59) || (b == 126)) e ∙ ap (λ x. x || (b == 126)) f ∙ g

outside : (bytes : List ℕ) → NoQuotes 39 bytes → NoQuotes 44 bytes → NoQuotes 59 bytes → NoQuotes 126 bytes → AreInner false bytes
outside [] h comma semicolon tilde = tt
outside (b ∷ bs) h comma semicolon tilde = (no_mark b comma.0 semicolon.0 tilde.0, h.0, outside bs h.1 comma.1 semicolon.1 tilde.1)

-- ---- characters
quote_parts : (q : Bool) (after : List ℕ) → parts_from q (39 ∷ after) ≡ put_before 39 (parts_from (not q) after)
quote_parts true after = refl
quote_parts false after = refl

other_parts : (q : Bool) (c : ℕ) (after : List ℕ) → (c == 39) ≡ false → (not q && is_mark c) ≡ false → parts_from q (encode_utf8 c ++ after) ≡ before (encode_utf8 c) (parts_from q after)
other_parts true c after other inner = inner_more true (encode_utf8 c) after (in_quotes (encode_utf8 c) (other_char 39 c (lit< tt) (eqb-false c 39 other)))
other_parts false c after other inner =
    inner_more false (encode_utf8 c) after
    (outside (encode_utf8 c) (other_char 39 c (lit< tt) (eqb-false c 39 other)) (other_char 44 c (lit< tt) (λ e. let f = ap is_mark e in cc))
    (other_char 59 c (lit< tt) (λ e. let f = ap is_mark e in cc)) (other_char 126 c (lit< tt) (λ e. let f = ap is_mark e in cc)))

char_parts : (q : Bool) (c : ℕ) (after : List ℕ) → (not q && is_mark c) ≡ false
    → parts_from q (encode_utf8 c ++ after) ≡ before (encode_utf8 c) (parts_from (if c == 39 then not q else q) after)
char_parts q c after inner = elim (cases_Bool (c == 39)) [
  | inl quote ↦ subst (λ d. parts_from q (encode_utf8 d ++ after) ≡ before (encode_utf8 d) (parts_from (if d == 39 then not q else q) after)) (sym (eqb-true c 39 quote))
      (ap (λ l. parts_from q (l ++ after)) (encode_ascii 39 (lit< tt)) ∙ quote_parts q after ∙ put_one 39 (parts_from (not q) after)
      ∙ ap (λ l. before l (parts_from (not q) after)) (sym (encode_ascii 39 (lit< tt))))
  | inr other ↦ other_parts q c after other inner ∙ ap (λ b. before (encode_utf8 c) (parts_from (if b then not q else q) after)) (sym other)
]

-- a character more of a part
pub char_more : (q : Bool) (c : ℕ) (done : List (List ℕ)) (part more rest after : List ℕ) (total : List (List ℕ)) → rest ≡ encode_utf8 c ++ after → more ≡ part ++ encode_utf8 c
    → (not q && is_mark c) ≡ false → glued done part (parts_from q rest) ≡ total → glued done more (parts_from (if c == 39 then not q else q) after) ≡ total
char_more q c done part more rest after total is put inner so_far =
    let left = parts_from (if c == 39 then not q else q) after in
    ap (λ m. done ++ before m left) put ∙ ap (λ ps. done ++ ps) (sym (before_twice part (encode_utf8 c) left))
    ∙ ap (λ ps. done ++ before part ps) (sym (ap (parts_from q) is ∙ char_parts q c after inner)) ∙ so_far

mark_small : (c : ℕ) → is_mark c ≡ true → c < 128
mark_small c e = elim (cases_Bool (c == 44)) [
  | inl comma ↦ subst (λ d. d < 128) (sym (eqb-true c 44 comma)) (lit< tt)
  | inr not_comma ↦ elim (cases_Bool (c == 59)) [
    | inl semicolon ↦ subst (λ d. d < 128) (sym (eqb-true c 59 semicolon)) (lit< tt)
    | inr not_semicolon ↦ elim (cases_Bool (c == 126)) [
      | inl tilde ↦ subst (λ d. d < 128) (sym (eqb-true c 126 tilde)) (lit< tt)
      | inr not_tilde ↦ absurd (let f = no_mark c not_comma not_semicolon not_tilde in cc)
    ]
  ]
]

cut_parts : (c : ℕ) (after : List ℕ) → is_mark c ≡ true → parts_from false (encode_utf8 c ++ after) ≡ [] ∷ parts_from false after
cut_parts c after mark =
    ap (λ l. parts_from false (l ++ after)) (encode_ascii c (mark_small c mark))
    ∙ ap (λ cut. if cut then [] ∷ parts_from false after else put_before c (parts_from (if c == 39 then true else false) after)) mark

-- a part ends
cut_here : (q : Bool) (c : ℕ) (done : List (List ℕ)) (part rest after : List ℕ) (total : List (List ℕ)) → rest ≡ encode_utf8 c ++ after
    → (not q && is_mark c) ≡ true → glued done part (parts_from q rest) ≡ total → glued (done ++ part ∷ []) [] (parts_from q after) ≡ total
cut_here true c done part rest after total is cut so_far = absurd cc
cut_here false c done part rest after total is cut so_far =
    let left = parts_from false after in
    ap (λ ps. (done ++ part ∷ []) ++ ps) (before_none left (some_parts false after)) ∙ append_assoc done (part ∷ []) left
    ∙ ap (λ p. done ++ p ∷ left) (sym (append-nil part)) ∙ ap (λ ps. done ++ before part ps) (sym (ap (parts_from false) is ∙ cut_parts c after cut)) ∙ so_far

at_start : (text : List ℕ) → glued [] [] (parts_from false text) ≡ parts_from false text
at_start text = before_none (parts_from false text) (some_parts false text)

-- ---- the parts as they are held
pub started : (items : List (String Global)) (part rest text : List ℕ) → items ≡ [] → part ≡ [] → rest ≡ text → glued (map string_bytes items) part (parts_from false rest) ≡ parts_from false text
started items part rest text e f g =
    ap (λ l. glued (map string_bytes l) part (parts_from false rest)) e ∙ ap (λ p. glued [] p (parts_from false rest)) f ∙ ap (λ r. glued [] [] (parts_from false r)) g ∙ at_start text

pub cut_on : (q : Bool) (c : ℕ) (items more : List (String Global)) (part : String Global) (bytes rest after : List ℕ) (total : List (List ℕ)) → rest ≡ encode_utf8 c ++ after
    → (not q && is_mark c) ≡ true → more ≡ items ++ part ∷ [] → bytes ≡ [] → glued (map string_bytes items) (string_bytes part) (parts_from q rest) ≡ total
    → glued (map string_bytes more) bytes (parts_from q after) ≡ total
cut_on q c items more part bytes rest after total is cut put none so_far =
    ap (λ l. glued (map string_bytes l) bytes (parts_from q after)) put ∙ ap (λ l. glued l bytes (parts_from q after)) (map-append string_bytes items (part ∷ []))
    ∙ ap (λ b. glued (map string_bytes items ++ string_bytes part ∷ []) b (parts_from q after)) none
    ∙ cut_here q c (map string_bytes items) (string_bytes part) rest after total is cut so_far

-- ---- lengths
abbrev AreShort : ℕ → List (List ℕ) → Type 0
AreShort n [] = Unit {0}
AreShort n (part ∷ parts) = (length part ≤ n) × AreShort n parts

short_more : (n : ℕ) (parts : List (List ℕ)) → AreShort n parts → AreShort (suc n) parts
short_more n [] h = tt
short_more n (part ∷ parts) h = (omega (arith, h.0), short_more n parts h.1)

short_before : (b n : ℕ) (parts : List (List ℕ)) → AreShort n parts → AreShort (suc n) (put_before b parts)
short_before b n [] h = (omega arith, tt)
short_before b n (part ∷ parts) h = (omega (arith, h.0), short_more n parts h.1)

parts_short : (q : Bool) (text : List ℕ) → AreShort (length text) (parts_from q text)
parts_short q [] = (omega arith, tt)
parts_short q (b ∷ rest) = by_case (not q && is_mark b) (λ quoted. parts_short quoted rest)
  where
    by_case : (cut : Bool) → ((quoted : Bool) → AreShort (length rest) (parts_from quoted rest))
        → AreShort (suc (length rest)) (if cut then [] ∷ parts_from false rest else put_before b (parts_from (if b == 39 then not q else q) rest))
    by_case true short = (omega arith, short_more (length rest) (parts_from false rest) (short false))
    by_case false short = short_before b (length rest) (parts_from (if b == 39 then not q else q) rest) (short (if b == 39 then not q else q))

short_item : (n : ℕ) (items : List (String Global)) (i : ℕ) (item : String Global) → AreShort n (map string_bytes items) → i < length items → item ≡ get_or items i item
    → length (string_bytes item) ≤ n
short_item n [] i item h below is = absurd (omega (arith, below))
short_item n (x ∷ items) zero item h below is = rw is h.0
short_item n (x ∷ items) (suc i) item h below is = short_item n items i item h.1 (omega (arith, below)) is

pub short_part : (items : List (String Global)) (text : List ℕ) (i : ℕ) (item : String Global) → map string_bytes items ≡ parts_from false text → i < length items → item ≡ get_or items i item
    → length (string_bytes item) ≤ length text
short_part items text i item are below is = short_item (length text) items i item (subst (AreShort (length text)) (sym are) (parts_short false text)) below is
