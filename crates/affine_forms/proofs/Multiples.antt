-- Forms that are equal, and forms that are multiples of another.
use Rattle.std.specs.Prelude.{◌≢◌, ◌==◌, IsTrue, ◌&&◌}
use Rattle.std.proofs.Common.{◌≡◌, ◌↔◌, refl, sym, ap, ap₂, ◌∙◌, subst, ℕ, suc, ◌≤◌, ◌<◌, Bool, true, false, true≢false, if◌then◌else◌, List, [], ◌∷◌, arith, ◌⊎◌, inl, inr}
use Rattle.std.proofs.lemmas.Bool.{eqb-true, eqb-false, eq-eqb, ne_eqb}
use Rattle.fractions.specs.Rational.{ℚ, zero_ℚ, one_ℚ, eq_ℚ, neg_ℚ, ◌*ℚ◌, ◌+ℚ◌, ◌-ℚ◌, inv_ℚ, ◌/ℚ◌}
use Rattle.fractions.proofs.Order.{eq_iff}
use Rattle.fractions.proofs.Field.{ordered_field}
use Rattle.fractions.proofs.Laws.{ring_laws, mul_assoc, mul_comm, mul-one, zero-mul, add_right_cancel, mul-zero, add-zero}
use Rattle.fractions.proofs.Quote.{quotes, by_ring}
use Rattle.calculations.specs.Calculation.{exact}
use Rattle.affine_forms.specs.Forms.{Assignment, AffineForm, RiseFrom, IsForm, worth, sum_at, coefficient, same_form, same_terms, has_terms, are_some}
pub use Rattle.affine_forms.specs.Points.{Apart, Multiple, Crossed}
use Rattle.affine_forms.specs.Points.{Follows, Turns}
use Rattle.affine_forms.specs.Steps.{scaled, scaled_terms, with_constant, multiple_of, multiple_by}
use Rattle.affine_forms.proofs.Exact.{exact-turned_into}
use Rattle.affine_forms.proofs.Worths.{scaled_worth, scaled_is_form, scaled_sum, scaled_rise}
use Rattle.affine_forms.proofs.Directions.{moved, worth_moved, sum_moved, along, sum_along}

both_true : (p q : Bool) → (p && q) ≡ true → (p ≡ true) × (q ≡ true)
both_true true q h = (refl, h)
both_true false q h = absurd (true≢false (sym h))

-- ---- equal forms
pub same_terms_is : (ts us : List (ℕ × ℚ)) → same_terms ts us ≡ true → ts ≡ us
same_terms_is [] [] h = refl
same_terms_is [] (u ∷ us) h = absurd (true≢false (sym h))
same_terms_is (t ∷ ts) [] h = absurd (true≢false (sym h))
same_terms_is (t ∷ ts) (u ∷ us) h =
    let a = both_true (t.0 == u.0) _ h in
    let b = both_true (eq_ℚ t.1 u.1) _ a.1 in
    let j : t.0 ≡ u.0 = eqb-true t.0 u.0 a.0 in
    let c : t.1 ≡ u.1 = (eq_iff t.1 u.1).0 b.0 in
    let r = same_terms_is ts us b.1 in
    λ i. (j i, c i) ∷ (r i)

pub same_form_is : (f g : AffineForm) → same_form f g ≡ true → f ≡ g
same_form_is f g h =
    let a = both_true (eq_ℚ f.constant g.constant) _ h in
    let c : f.constant ≡ g.constant = (eq_iff f.constant g.constant).0 a.0 in
    let r = same_terms_is f.terms g.terms a.1 in
    λ i. record { constant = c i; terms = r i }

same_terms_refl : (ts : List (ℕ × ℚ)) → same_terms ts ts ≡ true
same_terms_refl [] = refl
same_terms_refl (t ∷ ts) = ap₂ (λ a b. a && (b && same_terms ts ts)) (eq-eqb t.0 t.0 refl) ((eq_iff t.1 t.1).1 refl) ∙ same_terms_refl ts

pub same_form_refl : (f g : AffineForm) → f ≡ g → same_form f g ≡ true
same_form_refl f g e = ap (same_form f) (sym e) ∙ ap₂ ◌&&◌ ((eq_iff f.constant f.constant).1 refl) (same_terms_refl f.terms)

-- the tests of the two parts
module _ (f g : AffineForm) (p q : ℚ) (left right : List (ℕ × ℚ)) (a : p ≡ f.constant) (b : q ≡ g.constant) (l : left ≡ f.terms) (r : right ≡ g.terms) where
  by_parts : same_form f g ≡ (eq_ℚ p q && same_terms left right)
  by_parts = sym (λ i. eq_ℚ (a i) (b i) && same_terms (l i) (r i))

  pub terms_decide : (s t : Bool) → s ≡ eq_ℚ p q → s ≡ true → t ≡ same_terms left right → IsTrue t ↔ (f ≡ g)
  terms_decide s t e h d =
      let is : same_form f g ≡ t = by_parts ∙ ap (λ k. k && same_terms left right) (sym e ∙ h) ∙ sym d in
      ((λ k. same_form_is f g (is ∙ k)), (λ k. sym is ∙ same_form_refl f g k))

  pub constants_decide : (s : Bool) → s ≡ eq_ℚ p q → s ≡ false → IsTrue s ↔ (f ≡ g)
  constants_decide s e h =
      let is : same_form f g ≡ s = by_parts ∙ ap (λ k. k && same_terms left right) (sym e ∙ h) ∙ sym h in
      ((λ k. same_form_is f g (is ∙ k)), (λ k. sym is ∙ same_form_refl f g k))

-- ---- other forms
coefficient_behind : (n j : ℕ) (ts : List (ℕ × ℚ)) → j < n → RiseFrom n ts → coefficient ts j ≡ zero_ℚ
coefficient_behind n j [] h r = refl
coefficient_behind n j (t ∷ ts) h r =
    let a : n ≤ t.0 = r.0 in
    ap (λ b. if b then t.1 else coefficient ts j) (ne_eqb t.0 j (λ (e : t.0 ≡ j). absurd (omega arith))) ∙ coefficient_behind (suc t.0) j ts (omega arith) r.2

first_coefficient : (t : ℕ × ℚ) (ts : List (ℕ × ℚ)) → coefficient (t ∷ ts) t.0 ≡ t.1
first_coefficient t ts = ap (λ b. if b then t.1 else coefficient ts t.0) (eq-eqb t.0 t.0 refl)

later_coefficient : (t : ℕ × ℚ) (ts : List (ℕ × ℚ)) (j : ℕ) → t.0 < j → coefficient (t ∷ ts) j ≡ coefficient ts j
later_coefficient t ts j h = ap (λ b. if b then t.1 else coefficient ts j) (ne_eqb t.0 j (λ (e : t.0 ≡ j). absurd (omega arith)))

-- a decision at which they differ
pub record Differ (n : ℕ) (ts us : List (ℕ × ℚ)) : Type 0 where
  pub decision : ℕ
  pub from : n ≤ decision
  pub other : coefficient ts decision ≢ coefficient us decision

pub less_or_more : (a b : ℕ) → ¬ (a ≡ b) → (a < b) ⊎ (b < a)
less_or_more a b h = by_test (Rattle.std.specs.Prelude.nat_lt a b) refl
  where
    by_test : (c : Bool) → Rattle.std.specs.Prelude.nat_lt a b ≡ c → (a < b) ⊎ (b < a)
    by_test true e = inl (Rattle.std.proofs.lemmas.Bool.ltb-true a b e)
    by_test false e = let k : b ≤ a = Rattle.std.proofs.lemmas.Bool.ltb-false a b e in inr (omega (arith, h))

pub terms_differ : (n : ℕ) (ts us : List (ℕ × ℚ)) → RiseFrom n ts → RiseFrom n us → same_terms ts us ≡ false → Differ n ts us
terms_differ n [] [] r q h = absurd (true≢false h)
terms_differ n [] (u ∷ us) r q h = record { decision = u.0; from = q.0; other = λ e. q.1 (sym (first_coefficient u us) ∙ sym e) }
terms_differ n (t ∷ ts) [] r q h = record { decision = t.0; from = r.0; other = λ e. r.1 (sym (first_coefficient t ts) ∙ e) }
terms_differ n (t ∷ ts) (u ∷ us) r q h = by_tests (t.0 == u.0) refl (eq_ℚ t.1 u.1) refl h (λ k w. terms_differ (suc t.0) ts us r.2 k w)
  where
    by_tests : (a : Bool) → (t.0 == u.0) ≡ a → (b : Bool) → eq_ℚ t.1 u.1 ≡ b → (a && (b && same_terms ts us)) ≡ false
        → (RiseFrom (suc t.0) us → same_terms ts us ≡ false → Differ (suc t.0) ts us) → Differ n (t ∷ ts) (u ∷ us)
    by_tests true a true b h ih =
        let j : t.0 ≡ u.0 = eqb-true t.0 u.0 a in
        let d = ih (subst (λ k. RiseFrom (suc k) us) (sym j) q.2) h in
        let above : suc t.0 ≤ d.decision = d.from in
        let low : n ≤ t.0 = r.0 in
        record { decision = d.decision; from = omega arith; other = λ e. d.other (sym (later_coefficient t ts d.decision (omega arith)) ∙ e ∙ later_coefficient u us d.decision (omega arith)) }
    by_tests true a false b h ih =
        let j : t.0 ≡ u.0 = eqb-true t.0 u.0 a in
        record {
          decision = t.0;
          from = r.0;
          other = λ e. let s : eq_ℚ t.1 u.1 ≡ true = (eq_iff t.1 u.1).1 (sym (first_coefficient t ts) ∙ e ∙ ap (coefficient (u ∷ us)) j ∙ first_coefficient u us) in true≢false (sym s ∙ b);
        }
    by_tests false a b d h ih = by_order (less_or_more t.0 u.0 (eqb-false t.0 u.0 a))
      where
        by_order : (t.0 < u.0) ⊎ (u.0 < t.0) → Differ n (t ∷ ts) (u ∷ us)
        by_order (inl l) =
            record {
              decision = t.0;
              from = r.0;
              other = λ e. r.1 (sym (first_coefficient t ts) ∙ e ∙ coefficient_behind u.0 t.0 (u ∷ us) l (omega arith, q.1, q.2));
            }
        by_order (inr l) =
            record {
              decision = u.0;
              from = q.0;
              other = λ e. q.1 (sym (first_coefficient u us) ∙ sym e ∙ coefficient_behind t.0 u.0 (t ∷ ts) l (omega arith, r.1, r.2));
            }

abbrev nowhere : Assignment
nowhere j = zero_ℚ

sum_nowhere : (ts : List (ℕ × ℚ)) → sum_at nowhere ts ≡ zero_ℚ
sum_nowhere [] = refl
sum_nowhere (t ∷ ts) = ap₂ ◌+ℚ◌ (mul-zero t.1) (sum_nowhere ts) ∙ add-zero zero_ℚ

worth_nowhere : (f : AffineForm) → worth nowhere f ≡ f.constant
worth_nowhere f = ap (λ s. f.constant +ℚ s) (sum_nowhere f.terms) ∙ add-zero f.constant

left_cancel : (c a b : ℚ) → c +ℚ a ≡ c +ℚ b → a ≡ b
left_cancel c a b e = add_right_cancel a b c (Rattle.fractions.proofs.Laws.add_comm a c ∙ e ∙ Rattle.fractions.proofs.Laws.add_comm c b)

pub forms_differ : (f g : AffineForm) → IsForm f → IsForm g → same_form f g ≡ false → Apart f g
forms_differ f g h k e = by_tests (eq_ℚ f.constant g.constant) refl e
  where
    by_tests : (a : Bool) → eq_ℚ f.constant g.constant ≡ a → (a && same_terms f.terms g.terms) ≡ false → Apart f g
    by_tests false a e =
        record { point = nowhere; differ = λ s. let w : eq_ℚ f.constant g.constant ≡ true = (eq_iff f.constant g.constant).1 (sym (worth_nowhere f) ∙ s ∙ worth_nowhere g) in true≢false (sym w ∙ a) }
    by_tests true a e =
        let c : f.constant ≡ g.constant = (eq_iff f.constant g.constant).0 a in
        let d = terms_differ 0 f.terms g.terms h.rise k.rise e in
        record {
          point = along d.decision;
          differ = λ s. d.other (sym (sum_along 0 d.decision f.terms h.rise) ∙ left_cancel g.constant _ _ (ap (λ c. c +ℚ sum_at (along d.decision) f.terms) (sym c) ∙ s) ∙ sum_along 0 d.decision g.terms k.rise);
        }

-- ---- multiples
pub multiple_true : (d t : AffineForm) → exact (multiple_of d t) ≡ true → Multiple d t
multiple_true d t h = by_terms t.terms h
  where
    by_terms : (ts : List (ℕ × ℚ)) → exact (multiple_by d t ts) ≡ true → Multiple d t
    by_terms [] h = absurd (true≢false (sym h))
    by_terms (u ∷ us) h =
        let k = coefficient d.terms u.0 /ℚ u.1 in
        let s = same_form_is d (exact (scaled k t)) (sym (exact-turned_into (same_form d) (scaled k t)) ∙ h) in
        record { factor = k; is = λ x. ap (worth x) s ∙ scaled_worth x k t }

divided_back : (c u : ℚ) → u ≢ zero_ℚ → u *ℚ (c /ℚ u) ≡ c
divided_back c u h = ap (λ t. u *ℚ t) (mul_comm c (inv_ℚ u)) ∙ sym (mul_assoc u (inv_ℚ u) c) ∙ ap (λ t. t *ℚ c) (ordered_field.mul-inv u h) ∙ mul_comm one_ℚ c ∙ mul-one c

back_to_zero : (w u : ℚ) → u ≢ zero_ℚ → w +ℚ neg_ℚ (w *ℚ inv_ℚ u) *ℚ u ≡ zero_ℚ
back_to_zero w u h = regrouped w (inv_ℚ u) u ∙ ap (λ t. w +ℚ neg_ℚ (w *ℚ t)) (ordered_field.mul-inv u h) ∙ cancelled w
  where
    regrouped : (w i u : ℚ) → w +ℚ neg_ℚ (w *ℚ i) *ℚ u ≡ w +ℚ neg_ℚ (w *ℚ (u *ℚ i))
    regrouped w i u = by_ring (w ∷ i ∷ u ∷ []) (search quotes depth 20) (search quotes depth 20) refl

    cancelled : (w : ℚ) → w +ℚ neg_ℚ (w *ℚ one_ℚ) ≡ zero_ℚ
    cancelled w = by_ring (w ∷ []) (search quotes depth 20) (search quotes depth 20) refl

scaled_terms_are : (k : ℚ) (t : AffineForm) → exact (Rattle.affine_forms.specs.Steps.scaled_terms k t.terms) ≡ (exact (scaled k t)).terms
scaled_terms_are k t = sym (ap (λ (f : AffineForm). f.terms) (exact-turned_into (Rattle.affine_forms.specs.Steps.with_constant (t.constant *ℚ k)) (Rattle.affine_forms.specs.Steps.scaled_terms k t.terms)))

pub multiple_false : (d t : AffineForm) → IsForm d → IsForm t → IsTrue (has_terms t) → exact (multiple_of d t) ≡ false → Crossed d t
multiple_false d t h k some e = by_terms t.terms refl k.rise some e
  where
    by_terms : (ts : List (ℕ × ℚ)) → t.terms ≡ ts → RiseFrom 0 ts → are_some ts ≡ true → exact (multiple_by d t ts) ≡ false → Crossed d t
    by_terms [] same r some e = absurd (true≢false (sym some))
    by_terms (u ∷ us) same r some e =
        let q = coefficient d.terms u.0 /ℚ u.1 in
        let s = exact (scaled q t) in
        let apart = forms_differ d s h (scaled_is_form q t k) (sym (exact-turned_into (same_form d) (scaled q t)) ∙ e) in
        let p = apart.point in
        let back = neg_ℚ (worth p t *ℚ inv_ℚ u.1) in
        let at = moved p back (along u.0) in
        let slope : sum_at (along u.0) t.terms ≡ u.1 = ap (sum_at (along u.0)) same ∙ sum_along 0 u.0 (u ∷ us) r ∙ first_coefficient u us in
        let steep : sum_at (along u.0) s.terms ≡ coefficient d.terms u.0 = ap (λ f. sum_at (along u.0) f) (sym (scaled_terms_are q t)) ∙ scaled_sum (along u.0) q t.terms ∙ ap (λ w. w *ℚ q) slope ∙ divided_back (coefficient d.terms u.0) u.1 r.1 in
        let z : worth at t ≡ zero_ℚ = worth_moved p back (along u.0) t ∙ ap (λ w. worth p t +ℚ back *ℚ w) slope ∙ back_to_zero (worth p t) u.1 r.1 in
        record {
          point = at;
          zero = z;
          some = λ n.
              apart.differ (add_right_cancel _ _ (back *ℚ coefficient d.terms u.0)
              (ap (λ w. worth p d +ℚ back *ℚ w) (sym (sum_along 0 u.0 d.terms h.rise)) ∙ sym (worth_moved p back (along u.0) d) ∙ n ∙ sym (zero-mul q) ∙ ap (λ w. w *ℚ q) (sym z) ∙ sym (scaled_worth at q t)
              ∙ worth_moved p back (along u.0) s ∙ ap (λ w. worth p s +ℚ back *ℚ w) steep));
        }

-- ---- forms that follow another, or change where it stays
followed : (f t k s : ℚ) (a b : ℚ) → s ≡ b *ℚ k → f +ℚ s ≡ (a +ℚ b) *ℚ k +ℚ (f -ℚ a *ℚ k)
followed f t k s a b e = rw e (by_ring (f ∷ k ∷ a ∷ b ∷ []) (search quotes depth 20) (search quotes depth 20) refl)

pub follows_or_turns : (f t : AffineForm) → IsForm f → IsForm t → IsTrue (has_terms t) → Follows f t ⊎ Turns f t
follows_or_turns f t h k some = by_terms t.terms refl k.rise some
  where
    by_terms : (ts : List (ℕ × ℚ)) → t.terms ≡ ts → RiseFrom 0 ts → are_some ts ≡ true → Follows f t ⊎ Turns f t
    by_terms [] same r some = absurd (true≢false (sym some))
    by_terms (u ∷ us) same r some = by_test (same_terms f.terms (exact (scaled_terms q t.terms))) refl
      where
        q : ℚ
        q = coefficient f.terms u.0 /ℚ u.1

        by_test : (b : Bool) → same_terms f.terms (exact (scaled_terms q t.terms)) ≡ b → Follows f t ⊎ Turns f t
        by_test true e =
            let is : f.terms ≡ exact (scaled_terms q t.terms) = same_terms_is f.terms (exact (scaled_terms q t.terms)) e in
            inl record {
              factor = q;
              more = f.constant -ℚ t.constant *ℚ q;
              is = λ x. followed f.constant q q (sum_at x f.terms) t.constant (sum_at x t.terms) (ap (sum_at x) is ∙ scaled_sum x q t.terms);
            }
        by_test false e =
            let s = exact (scaled_terms q t.terms) in
            let d = terms_differ 0 f.terms s h.rise (scaled_rise 0 q t.terms k.rise) e in
            let p = along d.decision in
            let back = neg_ℚ (sum_at p t.terms *ℚ inv_ℚ u.1) in
            let at = moved p back (along u.0) in
            let slope : sum_at (along u.0) t.terms ≡ u.1 = ap (sum_at (along u.0)) same ∙ sum_along 0 u.0 (u ∷ us) r ∙ first_coefficient u us in
            let steep : sum_at (along u.0) s ≡ coefficient f.terms u.0 = scaled_sum (along u.0) q t.terms ∙ ap (λ w. w *ℚ q) slope ∙ divided_back (coefficient f.terms u.0) u.1 r.1 in
            let z : sum_at at t.terms ≡ zero_ℚ = sum_moved p back (along u.0) t.terms ∙ ap (λ w. sum_at p t.terms +ℚ back *ℚ w) slope ∙ back_to_zero (sum_at p t.terms) u.1 r.1 in
            inr record {
              direction = at;
              stays = z;
              changes = λ n.
                  d.other (sym (sum_along 0 d.decision f.terms h.rise) ∙ add_right_cancel _ _ (back *ℚ coefficient f.terms u.0)
                  (ap (λ w. sum_at p f.terms +ℚ back *ℚ w) (sym (sum_along 0 u.0 f.terms h.rise)) ∙ sym (sum_moved p back (along u.0) f.terms) ∙ n ∙ sym (zero-mul q) ∙ ap (λ w. w *ℚ q) (sym z)
                  ∙ sym (scaled_sum at q t.terms) ∙ sum_moved p back (along u.0) s ∙ ap (λ w. sum_at p s +ℚ back *ℚ w) steep)
                  ∙ sum_along 0 d.decision s (scaled_rise 0 q t.terms k.rise));
            }
