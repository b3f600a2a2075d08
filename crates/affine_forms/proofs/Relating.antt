-- Relations of numbers to 0, and their tests.
use Rattle.std.specs.Prelude.{IsTrue, T, not}
use Rattle.std.proofs.Common.{◌≡◌, ◌↔◌, refl, sym, ap, ◌∙◌, subst, Bool, true, false, true≢false}
use Rattle.fractions.specs.Rational.{ℚ, zero_ℚ, neg_ℚ, le_ℚ, eq_ℚ, ◌≤ℚ◌, ◌<ℚ◌}
use Rattle.fractions.proofs.Order.{eq_iff, neg_le}
use Rattle.fractions.proofs.Laws.{neg-neg, neg-zero}
use Rattle.affine_forms.specs.declared.rel.Rel.{Rel}
use Rattle.affine_forms.specs.declared.rel.Rel.TheVariants as rel
use Rattle.affine_forms.specs.Relations.{Holds, holds, reversed, mirrored}

is_true : (b : Bool) → T b → b ≡ true
is_true true h = refl
is_true false h = absurd h

le_test : (x y : ℚ) → IsTrue (le_ℚ x y) ↔ (x ≤ℚ y)
le_test x y = ((λ h. record { at_most = subst T (sym h) tt }), (λ h. is_true (le_ℚ x y) h.at_most))

lt_test : (x y : ℚ) → IsTrue (not (le_ℚ y x)) ↔ (x <ℚ y)
lt_test x y = ((λ h. record { below = subst T (sym h) tt }), (λ h. is_true (not (le_ℚ y x)) h.below))

not_test : (b : Bool) (P : Type 0) → IsTrue b ↔ P → IsTrue (not b) ↔ ¬ P
not_test true P i = ((λ h. absurd (true≢false (sym h))), (λ n. absurd (n (i.0 refl))))
not_test false P i = ((λ h p. absurd (true≢false (sym (i.1 p)))), (λ n. refl))

pub holds_test : (r : Rel) (x : ℚ) → IsTrue (holds r x) ↔ Holds r x
holds_test rel.Lt x = lt_test x zero_ℚ
holds_test rel.Le x = le_test x zero_ℚ
holds_test rel.Eq x = eq_iff x zero_ℚ
holds_test rel.Ne x = not_test (eq_ℚ x zero_ℚ) (x ≡ zero_ℚ) (eq_iff x zero_ℚ)
holds_test rel.Ge x = le_test zero_ℚ x
holds_test rel.Gt x = lt_test zero_ℚ x

twice : (b : Bool) → b ≡ not (not b)
twice true = refl
twice false = refl

reversed_is : (r : Rel) (x : ℚ) → holds (reversed r) x ≡ not (holds r x)
reversed_is rel.Lt x = twice (le_ℚ zero_ℚ x)
reversed_is rel.Le x = refl
reversed_is rel.Eq x = refl
reversed_is rel.Ne x = twice (eq_ℚ x zero_ℚ)
reversed_is rel.Ge x = refl
reversed_is rel.Gt x = twice (le_ℚ x zero_ℚ)

pub reversed_holds : (r : Rel) (x : ℚ) → Holds (reversed r) x ↔ ¬ Holds r x
reversed_holds r x =
    let a = holds_test (reversed r) x in
    let b = not_test (holds r x) (Holds r x) (holds_test r x) in
    ((λ h. b.0 (sym (reversed_is r x) ∙ a.1 h)), (λ n. a.0 (reversed_is r x ∙ b.1 n)))

-- ---- the sign turned
lt_iff : (x y : ℚ) → (x <ℚ y) ↔ ¬ (y ≤ℚ x)
lt_iff x y =
    let n = not_test (le_ℚ y x) (y ≤ℚ x) (le_test y x) in
    ((λ h. n.0 ((lt_test x y).1 h)), (λ m. (lt_test x y).0 (n.1 m)))

below_turned : (x : ℚ) → (neg_ℚ x ≤ℚ zero_ℚ) ↔ (zero_ℚ ≤ℚ x)
below_turned x = (
  (λ h. let P : ℚ → Type 0 = λ y. y ≤ℚ neg_ℚ (neg_ℚ x) in let Q : ℚ → Type 0 = λ y. zero_ℚ ≤ℚ y in subst Q (neg-neg x) (subst P neg-zero (neg_le (neg_ℚ x) zero_ℚ h))),
  (λ h. let P : ℚ → Type 0 = λ y. neg_ℚ x ≤ℚ y in subst P neg-zero (neg_le zero_ℚ x h)),
)

above_turned : (x : ℚ) → (zero_ℚ ≤ℚ neg_ℚ x) ↔ (x ≤ℚ zero_ℚ)
above_turned x = (
  (λ h. let P : ℚ → Type 0 = λ y. neg_ℚ (neg_ℚ x) ≤ℚ y in let Q : ℚ → Type 0 = λ y. y ≤ℚ zero_ℚ in subst Q (neg-neg x) (subst P neg-zero (neg_le zero_ℚ (neg_ℚ x) h))),
  (λ h. let P : ℚ → Type 0 = λ y. y ≤ℚ neg_ℚ x in subst P neg-zero (neg_le x zero_ℚ h)),
)

not_both_ways : (P Q : Type 0) → P ↔ Q → (¬ P) ↔ ¬ Q
not_both_ways P Q i = ((λ n q. n (i.1 q)), (λ n p. n (i.0 p)))

strict : (x y z w : ℚ) → (y ≤ℚ x) ↔ (w ≤ℚ z) → (x <ℚ y) ↔ (z <ℚ w)
strict x y z w i =
    let a = lt_iff x y in
    let b = lt_iff z w in
    let n = not_both_ways (y ≤ℚ x) (w ≤ℚ z) i in
    ((λ h. b.1 (n.0 (a.0 h))), (λ h. a.1 (n.1 (b.0 h))))

zero_turned : (x : ℚ) → (neg_ℚ x ≡ zero_ℚ) ↔ (x ≡ zero_ℚ)
zero_turned x = ((λ h. sym (neg-neg x) ∙ ap neg_ℚ h ∙ neg-zero), (λ h. ap neg_ℚ h ∙ neg-zero))

pub mirrored_holds : (r : Rel) (x : ℚ) → Holds (mirrored r) (neg_ℚ x) ↔ Holds r x
mirrored_holds rel.Lt x = strict zero_ℚ (neg_ℚ x) x zero_ℚ (below_turned x)
mirrored_holds rel.Le x = above_turned x
mirrored_holds rel.Eq x = zero_turned x
mirrored_holds rel.Ne x = not_both_ways (neg_ℚ x ≡ zero_ℚ) (x ≡ zero_ℚ) (zero_turned x)
mirrored_holds rel.Ge x = below_turned x
mirrored_holds rel.Gt x = strict (neg_ℚ x) zero_ℚ zero_ℚ x (above_turned x)

pub turned_test : (b : Bool) (P Q : Type 0) → IsTrue b ↔ P → Q ↔ ¬ P → IsTrue (not b) ↔ Q
turned_test b P Q i q = let n = not_test b P i in ((λ h. q.1 (n.0 h)), (λ h. n.1 (q.0 h)))
