-- Numbers.
use Rattle.std.proofs.Common.{◌≡◌, ◌⊎◌, ℕ, ℤ, pos, suc, ◌+◌, ◌<◌, ◌≤◌, Bool, true, false, cond, eqb, List, [], ◌∷◌, ◌++◌, length, drop, refl, sym, ap, subst, ◌∙◌, inl, inr, append_assoc, length-append, arith}
use Rattle.std.specs.Prelude.{◌&&◌, ◌||◌, not}
use Rattle.std.proofs.Math.Seq.{drop-append_seam}
use Rattle.std.proofs.lemmas.Bool.{and_parts, and_from, eqb-true, or_cases}
use Rattle.std.proofs.lemmas.Bool.Decides.{nat_tests}
use Rattle.std.proofs.lemmas.List.{append-nil}
use Rattle.std.proofs.lemmas.List.Folds.{length-prefix_len}
use Rattle.std.proofs.lemmas.Str.Parse.{digit_from_value}
use Rattle.std.specs.Char.{digit_value}
use Rattle.std.specs.List.{prefix_len}
use Rattle.std.specs.Str.Parse.{AllDigits, IsNumeral, digits_value}
use Rattle.frac128.specs.Numeral.{SpellsSign, unsigned, plus, minus, SpellsMantissa, pointed, point_first, SpellsExponent, absent, present}
use Rattle.frac128.specs.Numeral as numeral
use Rattle.frac128.specs.Signed.{signed}
use Rattle.formula_lexer.specs.Front.{digits, exponent, first, fraction, is_digit, mantissa, number_len, sign, starts_number}
use Rattle.text_laws.specs.FrontTokens.{IsNumber}

-- ---- digits

digit_passes : (d : ℕ) → digit_value d < 10 → is_digit d ≡ true
digit_passes d h = let r = digit_from_value d h in grind (arith, nat_tests)

pub passing_digit : (d : ℕ) → is_digit d ≡ true → digit_value d < 10
passing_digit d e = grind (arith, nat_tests)

len_is : (bytes : List ℕ) → digits bytes ≡ prefix_len is_digit bytes
len_is bytes = length-prefix_len is_digit bytes

one_more : (b : ℕ) (bytes : List ℕ) → is_digit b ≡ true → digits (b ∷ bytes) ≡ suc (digits bytes)
one_more b bytes e = len_is (b ∷ bytes) ∙ ap (λ t. cond t (1 + prefix_len is_digit bytes) 0) e ∙ (let k = len_is bytes in omega arith)

none_more : (b : ℕ) (bytes : List ℕ) → is_digit b ≡ false → digits (b ∷ bytes) ≡ 0
none_more b bytes e = len_is (b ∷ bytes) ∙ ap (λ t. cond t (1 + prefix_len is_digit bytes) 0) e

digits_more : (ds rest : List ℕ) → AllDigits 10 ds → digits (ds ++ rest) ≡ length ds + digits rest
digits_more [] rest h = omega arith
digits_more (d ∷ ds) rest h = let e = one_more d (ds ++ rest) (digit_passes d h.0) in let k = digits_more ds rest h.1 in omega arith

record DigitsCut (bytes : List ℕ) : Type 0 where
  pub ds : List ℕ
  pub rest : List ℕ
  pub parts : bytes ≡ ds ++ rest
  pub size : length ds ≡ digits bytes
  pub all : AllDigits 10 ds

digits_cut : (bytes : List ℕ) → DigitsCut bytes
digits_cut [] = record { ds = []; rest = []; parts = refl; size = refl; all = tt }
digits_cut (b ∷ bytes) = by (is_digit b) refl (digits_cut bytes)
  where
    by : (t : Bool) → is_digit b ≡ t → DigitsCut bytes → DigitsCut (b ∷ bytes)
    by true e r = record { ds = b ∷ r.ds; rest = r.rest; parts = ap (λ x. b ∷ x) r.parts; size = ap suc r.size ∙ sym (one_more b bytes e); all = (passing_digit b e, r.all) }
    by false e r = record { ds = []; rest = b ∷ bytes; parts = refl; size = sym (none_more b bytes e); all = tt }

-- ---- what is a number is cut

sign_small : (bytes : List ℕ) (d : ℕ) (ds : List ℕ) → digit_value d < 10 → sign ((d ∷ ds) ++ bytes) ≡ 0
sign_small bytes d ds h = ap (λ t. cond t 1 0) (no_sign d (digit_from_value d h))
  where
    no_sign : (d : ℕ) → (48 ≤ d) × (d ≤ 57) → (eqb d 43 || eqb d 45) ≡ false
    no_sign d h = grind (arith, nat_tests)

one_sign : (b : ℕ) {negative : Bool} (rest : List ℕ) → SpellsSign (b ∷ []) negative → sign (b ∷ rest) ≡ 1
one_sign b rest plus = refl
one_sign b rest minus = refl

short_sign : {s : List ℕ} {negative : Bool} → SpellsSign s negative → length s ≤ 1
short_sign unsigned = omega arith
short_sign plus = omega arith
short_sign minus = omega arith

-- the sign of an exponent, and its digits
signed_digits : (s ds rest : List ℕ) (negative : Bool) → SpellsSign s negative → IsNumeral 10 ds
    → (sign ((s ++ ds) ++ rest) ≡ length s) × (digits (drop (length s) ((s ++ ds) ++ rest)) ≡ length ds + digits rest)
signed_digits [] [] rest negative h k = absurd (omega (arith, k.0))
signed_digits [] (d ∷ ds) rest negative h k = (sign_small rest d ds k.1.0, digits_more (d ∷ ds) rest k.1)
signed_digits (b ∷ []) ds rest negative h k = (one_sign b (ds ++ rest) h, digits_more ds rest k.1)
signed_digits (b ∷ c ∷ s) ds rest negative h k = absurd (let short = short_sign h in omega arith)

-- an exponent stands in front of the rest
record ExponentStands (x rest : List ℕ) : Type 0 where
  pub least : length x ≤ exponent (x ++ rest)
  pub apart : (x ≡ []) ⊎ ((digits (x ++ rest) ≡ 0) × (fraction (x ++ rest) ≡ 0))

exponent_stands : {x : List ℕ} {power : ℤ} → SpellsExponent x power → (rest : List ℕ) → ExponentStands x rest
exponent_stands absent rest = record { least = omega arith; apart = inl refl }
exponent_stands (present mark s ds negative is h k) rest =
    let bytes = (s ++ ds) ++ rest in
    let g = signed_digits s ds rest negative h k in
    let many : digits (drop (sign bytes) bytes) ≡ length ds + digits rest = ap (λ n. digits (drop n bytes)) g.0 ∙ g.1 in
    let test : ((eqb mark 101 || eqb mark 69) && not (eqb (digits (drop (sign bytes) bytes)) 0)) ≡ true = and_from _ _ (is_mark mark is) (some_digits _ _ _ many k.0) in
    let long : exponent (mark ∷ bytes) ≡ suc (sign bytes + digits (drop (sign bytes) bytes)) = ap (λ t. cond t (suc (sign bytes + digits (drop (sign bytes) bytes))) 0) test in
    record {
      least = let l = length-append s ds in let a = g.0 in omega (arith, long, many, l, a);
      apart = inr (none_more mark bytes (no_digit mark is), ap (λ t. cond t (suc (digits bytes)) 0) (no_point mark is));
    }
  where
    is_mark : (m : ℕ) → (m ≡ 101) ⊎ (m ≡ 69) → (eqb m 101 || eqb m 69) ≡ true
    is_mark m h = elim h [
      | inl e ↦ ap (λ n. eqb n 101 || eqb n 69) e
      | inr e ↦ ap (λ n. eqb n 101 || eqb n 69) e
    ]

    no_digit : (m : ℕ) → (m ≡ 101) ⊎ (m ≡ 69) → is_digit m ≡ false
    no_digit m h = elim h [
      | inl e ↦ ap is_digit e
      | inr e ↦ ap is_digit e
    ]

    no_point : (m : ℕ) → (m ≡ 101) ⊎ (m ≡ 69) → eqb m 46 ≡ false
    no_point m h = elim h [
      | inl e ↦ ap (λ n. eqb n 46) e
      | inr e ↦ ap (λ n. eqb n 46) e
    ]

    some_digits : (d l r : ℕ) → d ≡ l + r → 0 < l → not (eqb d 0) ≡ true
    some_digits d l r e h = grind (arith, nat_tests)

-- a mantissa stands in front of the rest
record MantissaStands (m rest : List ℕ) : Type 0 where
  pub least : length m ≤ mantissa (m ++ rest)
  pub exact : digits rest ≡ 0 → fraction rest ≡ 0 → mantissa (m ++ rest) ≡ length m

-- a number begins with this list
pub record Starts (a : List ℕ) : Type 0 where
  pub front : ℕ
  pub others : List ℕ
  pub are : a ≡ front ∷ others
  pub starts : (more : List ℕ) → starts_number front (others ++ more) ≡ true

with_point : (ds es rest : List ℕ) → AllDigits 10 ds → AllDigits 10 es → mantissa ((ds ++ 46 ∷ es) ++ rest) ≡ length ds + suc (length es + digits rest)
with_point ds es rest h k =
    let text = ds ++ 46 ∷ (es ++ rest) in
    let whole : digits text ≡ length ds = digits_more ds (46 ∷ (es ++ rest)) h ∙ (let z = none_more 46 (es ++ rest) refl in omega arith) in
    let left : drop (digits text) text ≡ 46 ∷ (es ++ rest) = ap (λ n. drop n text) whole ∙ drop-append_seam ds (46 ∷ (es ++ rest)) in
    let behind : fraction (drop (digits text) text) ≡ suc (digits (es ++ rest)) = ap fraction left in
    let more = digits_more es rest k in
    ap mantissa (append_assoc ds (46 ∷ es) rest) ∙ (let sum : digits text + fraction (drop (digits text) text) ≡ length ds + suc (length es + digits rest) = omega (arith, whole, behind, more) in sum)

point_stands : (ds es rest : List ℕ) → AllDigits 10 ds → AllDigits 10 es → MantissaStands (ds ++ 46 ∷ es) rest
point_stands ds es rest h k =
    let long = with_point ds es rest h k in
    let size = length-append ds (46 ∷ es) in
    record { least = omega (arith, long, size); exact = λ none point. omega (arith, long, size, none) }

mantissa_stands : {m before behind : List ℕ} → SpellsMantissa m before behind → (rest : List ℕ) → MantissaStands m rest
mantissa_stands (numeral.digits ds h) rest =
    let text = ds ++ rest in
    let more = digits_more ds rest h.1 in
    record {
      least = omega (arith, more);
      exact = λ none point.
          let whole : digits text ≡ length ds = omega (arith, more, none) in
          let left : fraction (drop (digits text) text) ≡ 0 = ap (λ n. fraction (drop n text)) whole ∙ ap fraction (drop-append_seam ds rest) ∙ point in
          omega (arith, whole, left);
    }
mantissa_stands (pointed ds es h k) rest = point_stands ds es rest h.1 k
mantissa_stands (point_first es h) rest = point_stands [] es rest tt h.1

digits_start : (ds more : List ℕ) → IsNumeral 10 ds → Starts (ds ++ more)
digits_start [] more h = absurd (omega (arith, h.0))
digits_start (d ∷ ds) more h = record { front = d; others = ds ++ more; are = refl; starts = λ rest. ap (λ t. t || (eqb d 46 && is_digit (first ((ds ++ more) ++ rest)))) (digit_passes d h.1.0) }

mantissa_starts : {m before behind : List ℕ} → SpellsMantissa m before behind → (more : List ℕ) → Starts (m ++ more)
mantissa_starts (numeral.digits ds h) more = digits_start ds more h
mantissa_starts (pointed ds es h k) more = subst Starts (sym (append_assoc ds (46 ∷ es) more)) (digits_start ds ((46 ∷ es) ++ more) h)
mantissa_starts (point_first es h) more = by es h
  where
    by : (es : List ℕ) → IsNumeral 10 es → Starts ((46 ∷ es) ++ more)
    by [] h = absurd (omega (arith, h.0))
    by (e ∷ es) h = record { front = 46; others = (e ∷ es) ++ more; are = refl; starts = λ rest. digit_passes e h.1.0 }

pub number_starts : (a : List ℕ) → IsNumber a → Starts a
number_starts a n = subst Starts (sym n.joined) (mantissa_starts n.mantissa_is n.exponent)

pub number_least : (a rest : List ℕ) → IsNumber a → length a ≤ number_len (a ++ rest)
number_least a rest n =
    let m = n.mantissa in
    let x = n.exponent in
    let behind = x ++ rest in
    let text = m ++ behind in
    let is : a ++ rest ≡ text = ap (λ b. b ++ rest) n.joined ∙ append_assoc m x rest in
    let size : length a ≡ length m + length x = ap length n.joined ∙ length-append m x in
    let stands = mantissa_stands n.mantissa_is behind in
    let power = exponent_stands n.exponent_is rest in
    subst (λ t. length a ≤ number_len t) (sym is) (elim power.apart [
      | inl none ↦ let l = stands.least in let z = ap length none in omega (arith, l, z, size)
      | inr h ↦
          let whole = stands.exact h.0 h.1 in
          let left : drop (mantissa text) text ≡ behind = ap (λ k. drop k text) whole ∙ drop-append_seam m behind in
          let p : exponent (drop (mantissa text) text) ≡ exponent behind = ap exponent left in
          let l = power.least in omega (arith, whole, p, l, size)
    ])

-- ---- what is cut is a number

record SignCut (bytes : List ℕ) : Type 0 where
  pub s : List ℕ
  pub rest : List ℕ
  pub parts : bytes ≡ s ++ rest
  pub size : length s ≡ sign bytes
  pub negative : Bool
  pub is : SpellsSign s negative

sign_cut : (bytes : List ℕ) → SignCut bytes
sign_cut [] = record { s = []; rest = []; parts = refl; size = refl; negative = false; is = unsigned }
sign_cut (b ∷ bytes) = by (eqb b 43) refl (eqb b 45) refl
  where
    by : (t : Bool) → eqb b 43 ≡ t → (u : Bool) → eqb b 45 ≡ u → SignCut (b ∷ bytes)
    by true e u f = record { s = 43 ∷ []; rest = bytes; parts = ap (λ c. c ∷ bytes) (eqb-true b 43 e); size = sym (ap (λ t. cond (t || eqb b 45) 1 0) e); negative = false; is = plus }
    by false e true f = record {
      s = 45 ∷ [];
      rest = bytes;
      parts = ap (λ c. c ∷ bytes) (eqb-true b 45 f);
      size = sym (ap (λ t. cond (t || eqb b 45) 1 0) e ∙ ap (λ t. cond t 1 0) f);
      negative = true;
      is = minus;
    }
    by false e false f = record { s = []; rest = b ∷ bytes; parts = refl; size = sym (ap (λ t. cond (t || eqb b 45) 1 0) e ∙ ap (λ t. cond t 1 0) f); negative = false; is = unsigned }

record ExponentCut (bytes : List ℕ) : Type 0 where
  pub x : List ℕ
  pub rest : List ℕ
  pub parts : bytes ≡ x ++ rest
  pub size : length x ≡ exponent bytes
  pub power : ℤ
  pub is : SpellsExponent x power

exponent_cut : (bytes : List ℕ) → ExponentCut bytes
exponent_cut [] = record { x = []; rest = []; parts = refl; size = refl; power = pos 0; is = absent }
exponent_cut (b ∷ bytes) = by _ refl
  where
    some_digit : (d l : ℕ) → d ≡ l → not (eqb d 0) ≡ true → 0 < l
    some_digit d l e h = grind (arith, nat_tests)

    marks : (eqb b 101 || eqb b 69) ≡ true → (b ≡ 101) ⊎ (b ≡ 69)
    marks e = elim (or_cases _ _ e) [
      | inl h ↦ inl (eqb-true b 101 h)
      | inr h ↦ inr (eqb-true b 69 h)
    ]

    by : (t : Bool) → ((eqb b 101 || eqb b 69) && not (eqb (digits (drop (sign bytes) bytes)) 0)) ≡ t → ExponentCut (b ∷ bytes)
    by false e = record { x = []; rest = b ∷ bytes; parts = refl; size = sym (ap (λ t. cond t (suc (sign bytes + digits (drop (sign bytes) bytes))) 0) e); power = pos 0; is = absent }
    by true e =
        let s = sign_cut bytes in
        let d = digits_cut s.rest in
        let left : drop (sign bytes) bytes ≡ s.rest = ap (λ n. drop n bytes) (sym s.size) ∙ ap (drop (length s.s)) s.parts ∙ drop-append_seam s.s s.rest in
        let many : digits (drop (sign bytes) bytes) ≡ length d.ds = ap digits left ∙ sym d.size in
        let both = and_parts _ _ e in
        record {
          x = b ∷ (s.s ++ d.ds);
          rest = d.rest;
          parts = ap (λ c. b ∷ c) (s.parts ∙ ap (λ c. s.s ++ c) d.parts ∙ sym (append_assoc s.s d.ds d.rest));
          size =
              (let l = length-append s.s d.ds in let a = s.size in let sum : suc (length (s.s ++ d.ds)) ≡ suc (sign bytes + digits (drop (sign bytes) bytes)) = omega (arith, l, a, many) in sum)
              ∙ sym (ap (λ t. cond t (suc (sign bytes + digits (drop (sign bytes) bytes))) 0) e);
          power = signed s.negative (digits_value 10 d.ds);
          is = present b s.s d.ds s.negative (marks both.0) s.is (some_digit _ _ many both.1, d.all);
        }

record FractionCut (bytes : List ℕ) : Type 0 where
  pub f : List ℕ
  pub rest : List ℕ
  pub parts : bytes ≡ f ++ rest
  pub size : length f ≡ fraction bytes
  pub is : (f ≡ []) ⊎ ((es : List ℕ) × (f ≡ 46 ∷ es) × AllDigits 10 es)

fraction_cut : (bytes : List ℕ) → FractionCut bytes
fraction_cut [] = record { f = []; rest = []; parts = refl; size = refl; is = inl refl }
fraction_cut (b ∷ bytes) = by (eqb b 46) refl
  where
    by : (t : Bool) → eqb b 46 ≡ t → FractionCut (b ∷ bytes)
    by true e =
        let d = digits_cut bytes in
        record {
          f = 46 ∷ d.ds;
          rest = d.rest;
          parts = ap (λ c. c ∷ bytes) (eqb-true b 46 e) ∙ ap (λ c. 46 ∷ c) d.parts;
          size = ap suc d.size ∙ sym (ap (λ t. cond t (suc (digits bytes)) 0) e);
          is = inr (d.ds, refl, d.all);
        }
    by false e = record { f = []; rest = b ∷ bytes; parts = refl; size = sym (ap (λ t. cond t (suc (digits bytes)) 0) e); is = inl refl }

-- digits and a fraction are a mantissa, if there is a digit
record MantissaIs (m : List ℕ) : Type 0 where
  pub before : List ℕ
  pub behind : List ℕ
  pub is : SpellsMantissa m before behind

mantissa_is : (ds f : List ℕ) → AllDigits 10 ds → (f ≡ []) ⊎ ((es : List ℕ) × (f ≡ 46 ∷ es) × AllDigits 10 es) → (0 < length ds) ⊎ (1 < length f) → MantissaIs (ds ++ f)
mantissa_is ds f h is some = elim is [
  | inl none ↦ elim some [
    | inl more ↦ subst (λ c. MantissaIs (ds ++ c)) (sym none) (subst MantissaIs (sym (append-nil ds)) (record { before = ds; behind = []; is = numeral.digits ds (more, h) }))
    | inr more ↦ absurd (let z = ap length none in omega (arith, more, z))
  ]
  | inr p ↦ subst (λ c. MantissaIs (ds ++ c)) (sym p.1) (by ds h p.0 p.2 (elim some [
    | inl more ↦ inl more
    | inr more ↦ inr (let z = ap length p.1 in omega (arith, more, z))
  ]))
]
  where
    by : (ds : List ℕ) → AllDigits 10 ds → (es : List ℕ) → AllDigits 10 es → (0 < length ds) ⊎ (0 < length es) → MantissaIs (ds ++ 46 ∷ es)
    by [] h es k some = elim some [
      | inl more ↦ absurd (omega (arith, more))
      | inr more ↦ record { before = []; behind = es; is = point_first es (more, k) }
    ]
    by (d ∷ ds) h es k some = record { before = d ∷ ds; behind = es; is = pointed (d ∷ ds) es (omega arith, h) k }

pub record NumberCut (text : List ℕ) : Type 0 where
  pub token : List ℕ
  pub rest : List ℕ
  pub parts : text ≡ token ++ rest
  pub size : length token ≡ number_len text
  pub is : IsNumber token

pub number_cut : (b : ℕ) (bytes : List ℕ) → starts_number b bytes ≡ true → NumberCut (b ∷ bytes)
number_cut b bytes e =
    let text = b ∷ bytes in
    let d = digits_cut text in
    let f = fraction_cut d.rest in
    let x = exponent_cut f.rest in
    let m = d.ds ++ f.f in
    let behind : drop (digits text) text ≡ d.rest = ap (λ n. drop n text) (sym d.size) ∙ ap (drop (length d.ds)) d.parts ∙ drop-append_seam d.ds d.rest in
    let point : fraction (drop (digits text) text) ≡ length f.f = ap fraction behind ∙ sym f.size in
    let whole : mantissa text ≡ length m = let s = d.size in let l = length-append d.ds f.f in omega (arith, s, l, point) in
    let parts : text ≡ m ++ f.rest = d.parts ∙ ap (λ c. d.ds ++ c) f.parts ∙ sym (append_assoc d.ds f.f f.rest) in
    let left : drop (mantissa text) text ≡ f.rest = ap (λ n. drop n text) whole ∙ ap (drop (length m)) parts ∙ drop-append_seam m f.rest in
    let power : exponent (drop (mantissa text) text) ≡ length x.x = ap exponent left ∙ sym x.size in
    let is = mantissa_is d.ds f.f d.all f.is (some d.ds f.f d.rest d.size f.size behind) in
    record {
      token = m ++ x.x;
      rest = x.rest;
      parts = parts ∙ ap (λ c. m ++ c) x.parts ∙ sym (append_assoc m x.x x.rest);
      size = let l = length-append m x.x in omega (arith, l, whole, power);
      is = record { mantissa = m; exponent = x.x; before = is.before; behind = is.behind; power = x.power; joined = refl; mantissa_is = is.is; exponent_is = x.is };
    }
  where
    first_digit : (bytes : List ℕ) → is_digit (first bytes) ≡ true → 0 < digits bytes
    first_digit [] h = absurd cc
    first_digit (c ∷ bytes) h = let k = one_more c bytes h in omega (arith, k)

    some : (ds f rest : List ℕ) → length ds ≡ digits (b ∷ bytes) → length f ≡ fraction rest → drop (digits (b ∷ bytes)) (b ∷ bytes) ≡ rest → (0 < length ds) ⊎ (1 < length f)
    some ds f rest s t left = by (is_digit b) refl e
      where
        by : (t : Bool) → is_digit b ≡ t → (t || (eqb b 46 && is_digit (first bytes))) ≡ true → (0 < length ds) ⊎ (1 < length f)
        by true is h = inl (let k = one_more b bytes is in omega (arith, k, s))
        by false is h =
            let p = and_parts _ _ h in
            let none : digits (b ∷ bytes) ≡ 0 = none_more b bytes is in
            let all : b ∷ bytes ≡ rest = ap (λ n. drop n (b ∷ bytes)) (sym none) ∙ left in
            let long : fraction rest ≡ suc (digits bytes) = ap fraction (sym all) ∙ ap (λ t. cond t (suc (digits bytes)) 0) p.0 in
            inr (let k = first_digit bytes p.1 in omega (arith, k, long, t))
