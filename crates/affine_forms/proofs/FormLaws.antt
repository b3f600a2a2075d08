-- The laws of forms, together.
use Rattle.std.specs.Prelude.{◌≢◌, ◌==◌, map}
use Rattle.std.specs.List.{AllByRecursion}
use Rattle.std.proofs.Common.{◌≡◌, refl, sym, ap, ap₂, ◌∙◌, subst, ℕ, Bool, true, false, if◌then◌else◌, List, [], ◌∷◌, arith}
use Rattle.fractions.specs.Rational.{ℚ, zero_ℚ, one_ℚ, ◌+ℚ◌, ◌*ℚ◌, neg_ℚ}
use Rattle.fractions.specs.Vectors.{sum_ℚ}
use Rattle.fractions.proofs.Laws.{add-zero, ring_laws, add_assoc, neg-zero}
use Rattle.calculations.specs.Calculation.{Calculation, sum, product, done, after, exact, through}
use Rattle.affine_forms.specs.Forms.{Assignment, AffineForm, IsForm, worth, sum_at, constant_form, decision_form, coefficient, negated_terms, same_form}
use Rattle.affine_forms.specs.Laws.{WorthLaws, FormLaws, CoefficientLaws, EqualityLaws, MovementLaws, MultipleLaws, RelationLaws}
use Rattle.affine_forms.specs.Points.{Apart}
use Rattle.affine_forms.specs.Steps.{added, scaled, scaled_terms, merged, with_constant, added_product, total}
use Rattle.affine_forms.proofs.Exact.{exact-followed_by, exact-turned_into}
use Rattle.affine_forms.proofs.Rising.{one_is_some}
use Rattle.affine_forms.proofs.Worths.{added_worth, subtracted_worth, scaled_worth, negated_worth, added_is_form, negated_is_form, scaled_is_form, merged_worth, scaled_sum}
use Rattle.affine_forms.proofs.Directions.{moves, both_move, worth_moved, reached, reached_worth, along, sum_along}
use Rattle.affine_forms.proofs.Multiples.{same_form_is, same_form_refl, forms_differ, multiple_true, multiple_false, follows_or_turns}
use Rattle.affine_forms.proofs.Relating.{holds_test, reversed_holds, mirrored_holds}

decision_worth : (x : Assignment) (j : ℕ) → worth x (decision_form j) ≡ x j
decision_worth x j = one_times (x j)
  where
    one_times : (a : ℚ) → zero_ℚ +ℚ (one_ℚ *ℚ a +ℚ zero_ℚ) ≡ a
    one_times a = simp ring_laws

product_worth : (x : Assignment) (f g : AffineForm) (k : ℚ) → worth x (exact (added_product f k g)) ≡ worth x f +ℚ worth x g *ℚ k
product_worth x f g k =
    ap (worth x) (exact-followed_by (scaled k g) (added f)) ∙ added_worth x f (exact (scaled k g)) ∙ ap (λ w. worth x f +ℚ w) (scaled_worth x k g)

through_worth : (x : Assignment) (f : AffineForm) (gs : List AffineForm) → worth x (exact (through added f gs)) ≡ worth x f +ℚ sum_ℚ (map (worth x) gs)
through_worth x f [] = sym (add-zero (worth x f))
through_worth x f (g ∷ gs) =
    ap (worth x) (exact-followed_by (added f g) (λ h. through added h gs)) ∙ through_worth x (exact (added f g)) gs
    ∙ ap (λ w. w +ℚ sum_ℚ (map (worth x) gs)) (added_worth x f g) ∙ add_assoc (worth x f) (worth x g) (sum_ℚ (map (worth x) gs))

total_worth : (x : Assignment) (fs : List AffineForm) → worth x (exact (total fs)) ≡ sum_ℚ (map (worth x) fs)
total_worth x fs = through_worth x (constant_form zero_ℚ) fs ∙ from_zero (sum_ℚ (map (worth x) fs))
  where
    from_zero : (s : ℚ) → (zero_ℚ +ℚ zero_ℚ) +ℚ s ≡ s
    from_zero s = simp ring_laws

abbrev step : Assignment → ℚ → ℕ × ℚ → Calculation ℚ
step x = λ so_far (t : ℕ × ℚ). after (product t.1 (x t.0)) (λ p. after (sum so_far p) done)

evaluated : (x : Assignment) (c : ℚ) (ts : List (ℕ × ℚ)) → exact (through (step x) c ts) ≡ c +ℚ sum_at x ts
evaluated x c [] = sym (add-zero c)
evaluated x c (t ∷ ts) = evaluated x (c +ℚ t.1 *ℚ x t.0) ts ∙ add_assoc c (t.1 *ℚ x t.0) (sum_at x ts)

pub worth_laws : WorthLaws
worth_laws = record {
  constant = λ x c. add-zero c;
  decision = decision_worth;
  negated = negated_worth;
  added = added_worth;
  subtracted = subtracted_worth;
  scaled = scaled_worth;
  added_product = product_worth;
  total = total_worth;
  evaluated = λ x f. evaluated x f.constant f.terms;
}

product_is_form : (f g : AffineForm) (k : ℚ) → IsForm f → IsForm g → IsForm (exact (added_product f k g))
product_is_form f g k h i = subst IsForm (sym (exact-followed_by (scaled k g) (added f))) (added_is_form f (exact (scaled k g)) h (scaled_is_form k g i))

through_is_form : (f : AffineForm) (gs : List AffineForm) → IsForm f → AllByRecursion IsForm gs → IsForm (exact (through added f gs))
through_is_form f [] h all = h
through_is_form f (g ∷ gs) h all =
    subst IsForm (sym (exact-followed_by (added f g) (λ s. through added s gs))) (through_is_form (exact (added f g)) gs (added_is_form f g h all.0) all.1)

pub form_laws : FormLaws
form_laws = record {
  constant = λ c. record { rise = tt };
  decision = λ j. record { rise = (omega arith, one_is_some one_ℚ refl, tt) };
  negated = negated_is_form;
  added = added_is_form;
  subtracted = λ f g h k. added_is_form f (Rattle.affine_forms.specs.Forms.negated g) h (negated_is_form g k);
  scaled = scaled_is_form;
  added_product = product_is_form;
  total = λ fs h. through_is_form (constant_form zero_ℚ) fs record { rise = tt } h;
}

-- ---- coefficients
added_coefficient : (f g : AffineForm) → IsForm f → IsForm g → (j : ℕ) → coefficient (exact (added f g)).terms j ≡ coefficient f.terms j +ℚ coefficient g.terms j
added_coefficient f g h k j =
    let is : (exact (added f g)).terms ≡ exact (merged f.terms g.terms) = ap (λ (s : AffineForm). s.terms) (exact-turned_into (with_constant (f.constant +ℚ g.constant)) (merged f.terms g.terms)) in
    sym (sum_along 0 j (exact (added f g)).terms (added_is_form f g h k).rise) ∙ ap (sum_at (along j)) is ∙ merged_worth (along j) f.terms g.terms
    ∙ ap₂ ◌+ℚ◌ (sum_along 0 j f.terms h.rise) (sum_along 0 j g.terms k.rise)

scaled_coefficient : (k : ℚ) (f : AffineForm) → IsForm f → (j : ℕ) → coefficient (exact (scaled k f)).terms j ≡ coefficient f.terms j *ℚ k
scaled_coefficient k f h j =
    let is : (exact (scaled k f)).terms ≡ exact (scaled_terms k f.terms) = ap (λ (s : AffineForm). s.terms) (exact-turned_into (with_constant (f.constant *ℚ k)) (scaled_terms k f.terms)) in
    sym (sum_along 0 j (exact (scaled k f)).terms (scaled_is_form k f h).rise) ∙ ap (sum_at (along j)) is ∙ scaled_sum (along j) k f.terms
    ∙ ap (λ c. c *ℚ k) (sum_along 0 j f.terms h.rise)

negated_coefficient : (ts : List (ℕ × ℚ)) (j : ℕ) → coefficient (negated_terms ts) j ≡ neg_ℚ (coefficient ts j)
negated_coefficient [] j = sym neg-zero
negated_coefficient (t ∷ ts) j = by_test (t.0 == j) (negated_coefficient ts j)
  where
    by_test : (b : Bool) → coefficient (negated_terms ts) j ≡ neg_ℚ (coefficient ts j)
        → (if b then neg_ℚ t.1 else coefficient (negated_terms ts) j) ≡ neg_ℚ (if b then t.1 else coefficient ts j)
    by_test true ih = refl
    by_test false ih = ih

pub coefficient_laws : CoefficientLaws
coefficient_laws = record { negated = λ f j. negated_coefficient f.terms j; added = added_coefficient; scaled = scaled_coefficient }

others_differ : (f g : AffineForm) → IsForm f → IsForm g → f ≢ g → Apart f g
others_differ f g h k n = forms_differ f g h k (by_test (same_form f g) refl)
  where
    by_test : (b : Bool) → same_form f g ≡ b → same_form f g ≡ false
    by_test true e = absurd (n (same_form_is f g e))
    by_test false e = e

pub equality_laws : EqualityLaws
equality_laws = record { test = λ f g. (same_form_is f g, same_form_refl f g); others = others_differ }

pub movement_laws : MovementLaws
movement_laws = record {
  moved = worth_moved;
  moves = moves;
  any_value = λ f h some v. let m = moves f h some in (reached f m (λ _. zero_ℚ) v, reached_worth f m (λ _. zero_ℚ) v);
  both_move = λ f g h k some more. both_move f g (moves f h some) (moves g k more);
}

pub multiple_laws : MultipleLaws
multiple_laws = record { multiple = multiple_true; other = multiple_false; follows_or_turns = follows_or_turns }

pub relation_laws : RelationLaws
relation_laws = record { test = holds_test; reversed = reversed_holds; mirrored = mirrored_holds }
