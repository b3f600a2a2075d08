-- Whether a form is a fraction times another, number by number.
use Rattle.std.specs.Prelude.{◌≢◌, ◌&&◌}
use Rattle.std.proofs.Common.{◌≡◌, refl, sym, ap, ◌∙◌, subst, ℕ, Bool, true, false, true≢false, List, [], ◌∷◌, Some, None, Option, get_or, rules}
use Rattle.std.specs.Option.{option_map}
use Rattle.fractions.specs.Rational.{ℚ, zero_ℚ, eq_ℚ, ◌*ℚ◌, ◌/ℚ◌}
use Rattle.calculations.specs.Calculation.{Calculation, product, quotient, after, narrow, stays_narrow, turned_into}
use Rattle.calculations.proofs.CalculationLaws.{narrow-turned_into}
use Rattle.affine_forms.specs.Forms.{AffineForm, RiseFrom, coefficient, same_form, same_terms, are_some}
use Rattle.affine_forms.specs.Steps.{scaled, scaled_terms, with_constant, multiple_of, multiple_by}
use Rattle.affine_forms.proofs.Stepping.{goes_on, stops}

some_bool : (a b : Bool) → Some a ≡ Some b → a ≡ b
some_bool a b e = search rules

none_is_none : (b : Bool) → ¬ (None ≡ Some b)
none_is_none b e = search rules

some_is_not_none : (b : Bool) → ¬ (Some b ≡ None)
some_is_not_none b e = search rules

-- the first of terms of which there are some
pub first_there : (ts : List (ℕ × ℚ)) (u : ℕ × ℚ) → are_some ts ≡ true → u ≡ get_or ts 0 u → (us : List (ℕ × ℚ)) × (ts ≡ u ∷ us)
first_there [] u h e = absurd (true≢false (sym h))
first_there (t ∷ ts) u h e = (ts, ap (λ v. v ∷ ts) (sym e))

pub first_rises : (ts us : List (ℕ × ℚ)) (u : ℕ × ℚ) → RiseFrom 0 ts → ts ≡ u ∷ us → u.1 ≢ zero_ℚ
first_rises ts us u r e = (subst (RiseFrom 0) e r).1

module _ (f t : AffineForm) (u : ℕ × ℚ) (us : List (ℕ × ℚ)) (first : t.terms ≡ u ∷ us) where
  abbrev compared : ℚ → Calculation Bool
  compared k = turned_into (same_form f) (scaled k t)

  by_first : multiple_of f t ≡ after (quotient (coefficient f.terms u.0) u.1) compared
  by_first = ap (multiple_by f t) first

  pub quotient_stops : stays_narrow (quotient (coefficient f.terms u.0) u.1) ≡ false → narrow (multiple_of f t) ≡ None
  quotient_stops w = ap narrow by_first ∙ stops (quotient (coefficient f.terms u.0) u.1) compared w

  module _ (k : ℚ) (is : k ≡ coefficient f.terms u.0 /ℚ u.1) (w : stays_narrow (quotient (coefficient f.terms u.0) u.1) ≡ true) where
    divided : narrow (multiple_of f t) ≡ narrow (compared k)
    divided = ap narrow by_first ∙ goes_on (quotient (coefficient f.terms u.0) u.1) compared k is w

    abbrev behind : ℚ → Calculation Bool
    behind c = turned_into (same_form f) (turned_into (with_constant c) (scaled_terms k t.terms))

    pub constant_stops : stays_narrow (product t.constant k) ≡ false → narrow (multiple_of f t) ≡ None
    constant_stops v = divided ∙ stops (product t.constant k) behind v

    module _ (c : ℚ) (this : c ≡ t.constant *ℚ k) (v : stays_narrow (product t.constant k) ≡ true) where
      scaled_is : narrow (multiple_of f t) ≡ option_map (same_form f) (option_map (with_constant c) (narrow (scaled_terms k t.terms)))
      scaled_is =
          divided ∙ goes_on (product t.constant k) behind c this v ∙ narrow-turned_into (same_form f) (turned_into (with_constant c) (scaled_terms k t.terms))
          ∙ ap (option_map (same_form f)) (narrow-turned_into (with_constant c) (scaled_terms k t.terms))

      terms_are : narrow (turned_into (same_terms f.terms) (scaled_terms k t.terms)) ≡ option_map (same_terms f.terms) (narrow (scaled_terms k t.terms))
      terms_are = narrow-turned_into (same_terms f.terms) (scaled_terms k t.terms)

      pub terms_stop : narrow (turned_into (same_terms f.terms) (scaled_terms k t.terms)) ≡ None → narrow (multiple_of f t) ≡ None
      terms_stop n = scaled_is ∙ by_cases (narrow (scaled_terms k t.terms)) (sym terms_are ∙ n)
        where
          by_cases : (o : Option (List (ℕ × ℚ))) → option_map (same_terms f.terms) o ≡ None → option_map (same_form f) (option_map (with_constant c) o) ≡ None
          by_cases None e = refl
          by_cases (Some ts) e = absurd (some_is_not_none (same_terms f.terms ts) e)

      pub terms_give : (s : Bool) → narrow (turned_into (same_terms f.terms) (scaled_terms k t.terms)) ≡ Some s → narrow (multiple_of f t) ≡ Some (eq_ℚ f.constant c && s)
      terms_give s n = scaled_is ∙ by_cases (narrow (scaled_terms k t.terms)) (sym terms_are ∙ n)
        where
          by_cases : (o : Option (List (ℕ × ℚ))) → option_map (same_terms f.terms) o ≡ Some s → option_map (same_form f) (option_map (with_constant c) o) ≡ Some (eq_ℚ f.constant c && s)
          by_cases None e = absurd (none_is_none s e)
          by_cases (Some ts) e = ap (λ b. Some (eq_ℚ f.constant c && b)) (some_bool (same_terms f.terms ts) s e)
