-- The sign in front of a text.
use Rattle.std.proofs.Common.{◌≡◌, ℕ, ◌<◌, Bool, true, false, cond, ◌||◌, nat_eq, List, [], ◌∷◌, ◌++◌, refl, sym, ap, ap₂, subst, arith}
use Rattle.std.proofs.lemmas.Bool.{eqb-true, ne_eqb}
use Rattle.std.proofs.lemmas.Str.Parse.{digit_from_value}
use Rattle.std.specs.Char.{digit_value}
use Rattle.std.specs.Str.Parse.{IsNumeral}
use Rattle.frac128.specs.Numeral.{SpellsSign, unsigned, plus, minus}
use Rattle.frac128.specs.NumeralReading.{front_minus, past_sign}
use Rattle.frac128.proofs.FrontDigits.{NotFirst}

-- a text is a sign and the rest
pub record SignFound (text rest : List ℕ) (m : Bool) : Type 0 where
  pub sign : List ℕ
  pub joined : text ≡ sign ++ rest
  pub spelled : SpellsSign sign m

pub sign-found : (text : List ℕ) → SignFound text (past_sign text) (front_minus text)
sign-found [] = record { sign = []; joined = refl; spelled = unsigned }
sign-found (b ∷ bytes) = by_test (nat_eq b 43) (nat_eq b 45) (eqb-true b 43) (eqb-true b 45)
  where
    by_test : (s t : Bool) → (s ≡ true → b ≡ 43) → (t ≡ true → b ≡ 45) → SignFound (b ∷ bytes) (cond (s || t) bytes (b ∷ bytes)) t
    by_test true true h k = record { sign = b ∷ []; joined = refl; spelled = subst (λ c. SpellsSign (c ∷ []) true) (sym (k refl)) minus }
    by_test false true h k = record { sign = b ∷ []; joined = refl; spelled = subst (λ c. SpellsSign (c ∷ []) true) (sym (k refl)) minus }
    by_test true false h k = record { sign = b ∷ []; joined = refl; spelled = subst (λ c. SpellsSign (c ∷ []) false) (sym (h refl)) plus }
    by_test false false h k = record { sign = []; joined = refl; spelled = unsigned }

pub right-false : (s t : Bool) → (s || t) ≡ false → t ≡ false
right-false false t e = e
right-false true t e = cc

pub left-true : (s : Bool) → (s || false) ≡ true → s ≡ true
left-true true e = refl
left-true false e = e

abbrev pub is_sign : ℕ → Bool
is_sign b = nat_eq b 43 || nat_eq b 45

no-sign : (rest : List ℕ) → NotFirst is_sign rest → (front_minus rest ≡ false) × (past_sign rest ≡ rest)
no-sign [] n = (refl, refl)
no-sign (b ∷ bytes) n = (right-false (nat_eq b 43) (nat_eq b 45) n, ap (λ t. cond t bytes (b ∷ bytes)) n)

pub sign-front : (rest : List ℕ) → NotFirst is_sign rest → (sign : List ℕ) (m : Bool) → SpellsSign sign m → (front_minus (sign ++ rest) ≡ m) × (past_sign (sign ++ rest) ≡ rest)
sign-front rest n _ _ unsigned = no-sign rest n
sign-front rest n _ _ plus = (refl, refl)
sign-front rest n _ _ minus = (refl, refl)

pub left-false : (s t : Bool) → (s || t) ≡ false → s ≡ false
left-false false t e = refl
left-false true t e = e

digit-no-sign : (d : ℕ) → digit_value d < 10 → is_sign d ≡ false
digit-no-sign d h = let r = digit_from_value d h in ap₂ ◌||◌ (ne_eqb d 43 (λ e. omega (arith, e, r.0))) (ne_eqb d 45 (λ e. omega (arith, e, r.0)))

pub digits-no-sign : (ds rest : List ℕ) → IsNumeral 10 ds → NotFirst is_sign (ds ++ rest)
digits-no-sign [] rest h = absurd (omega (arith, h.0))
digits-no-sign (d ∷ ds) rest h = digit-no-sign d h.1.0
