-- Which bytes a numeral has.
use Rattle.std.proofs.Common.{◌≡◌, ◌⊎◌, ℕ, ◌<◌, Bool, true, false, eqb, List, [], ◌∷◌, ◌++◌, refl, sym, ap, subst, ◌∙◌, arith, inl, inr}
use Rattle.std.specs.Prelude.{◌||◌}
use Rattle.std.specs.List.{list_any}
use Rattle.std.specs.Char.{digit_value}
use Rattle.std.specs.Str.Parse.{AllDigits}
use Rattle.std.proofs.lemmas.Bool.Decides.{nat_tests}
use Rattle.std.proofs.lemmas.Str.Parse.{digit_from_value}
use Rattle.frac128.specs.Numeral.{Numeral, Spells, SpellsSign, unsigned, plus, minus, SpellsMantissa, digits, pointed, point_first, SpellsExponent, absent, present, SpellsPercent, plain, percent}

-- it is no slash, no equals sign and no `o`
pub record IsPlain (b : ℕ) : Type 0 where
  pub slash : eqb b 47 ≡ false
  pub equals : eqb b 61 ≡ false
  pub letter : eqb b 111 ≡ false

abbrev pub AllPlain : List ℕ → Type 0
AllPlain [] = Unit {0}
AllPlain (b ∷ bytes) = IsPlain b × AllPlain bytes

plain_append : (a b : List ℕ) → AllPlain a → AllPlain b → AllPlain (a ++ b)
plain_append [] b h k = k
plain_append (x ∷ a) b h k = (h.0, plain_append a b h.1 k)

plain_digit : (d : ℕ) → digit_value d < 10 → IsPlain d
plain_digit d h = let r = digit_from_value d h in record { slash = grind (arith, nat_tests); equals = grind (arith, nat_tests); letter = grind (arith, nat_tests) }

plain_digits : (ds : List ℕ) → AllDigits 10 ds → AllPlain ds
plain_digits [] h = tt
plain_digits (d ∷ ds) h = (plain_digit d h.0, plain_digits ds h.1)

this : (b : ℕ) → eqb b 47 ≡ false → eqb b 61 ≡ false → eqb b 111 ≡ false → IsPlain b
this b s e l = record { slash = s; equals = e; letter = l }

plain_sign : {s : List ℕ} {negative : Bool} → SpellsSign s negative → AllPlain s
plain_sign unsigned = tt
plain_sign plus = (this 43 refl refl refl, tt)
plain_sign minus = (this 45 refl refl refl, tt)

plain_mantissa : {m before behind : List ℕ} → SpellsMantissa m before behind → AllPlain m
plain_mantissa (digits ds h) = plain_digits ds h.1
plain_mantissa (pointed ds es h k) = plain_append ds (46 ∷ es) (plain_digits ds h.1) (this 46 refl refl refl, plain_digits es k)
plain_mantissa (point_first es h) = (this 46 refl refl refl, plain_digits es h.1)

plain_mark : (m : ℕ) → (m ≡ 101) ⊎ (m ≡ 69) → IsPlain m
plain_mark m (inl e) = subst IsPlain (sym e) (this 101 refl refl refl)
plain_mark m (inr e) = subst IsPlain (sym e) (this 69 refl refl refl)

plain_exponent : {x : List ℕ} {e : _} → SpellsExponent x e → AllPlain x
plain_exponent absent = tt
plain_exponent (present mark sign ds negative is s h) = (plain_mark mark is, plain_append sign ds (plain_sign s) (plain_digits ds h.1))

plain_percent : {p : List ℕ} {t : Bool} → SpellsPercent p t → AllPlain p
plain_percent plain = tt
plain_percent percent = (this 37 refl refl refl, tt)

-- so are all bytes of a numeral
pub plain_numeral : (text : List ℕ) (n : Numeral) → Spells text n → AllPlain text
plain_numeral text n s =
    subst AllPlain (sym s.joined)
    (plain_append s.sign _ (plain_sign s.sign_is) (plain_append s.mantissa _ (plain_mantissa s.mantissa_is) (plain_append s.exponent s.percent (plain_exponent s.exponent_is) (plain_percent s.percent_is))))

abbrev pub has_slash : List ℕ → Bool
has_slash bytes = list_any (λ b. eqb b 47) bytes

-- no slash stands in plain bytes
pub no_slash : (bytes : List ℕ) → AllPlain bytes → has_slash bytes ≡ false
no_slash [] h = refl
no_slash (b ∷ bytes) h = ap (λ t. t || has_slash bytes) h.0.slash ∙ no_slash bytes h.1

or_true : (t : Bool) → (t || true) ≡ true
or_true true = refl
or_true false = refl

-- one stands where it is
pub slash_stands : (a b : List ℕ) → has_slash (a ++ (47 ∷ b)) ≡ true
slash_stands [] b = refl
slash_stands (x ∷ a) b = ap (λ t. eqb x 47 || t) (slash_stands a b) ∙ or_true (eqb x 47)
