-- When operations on forms meet narrow numbers alone.
use Rattle.std.specs.Prelude.{◌==◌, IsTrue, IsSome}
use Rattle.std.proofs.Common.{◌≡◌, ◌↔◌, refl, sym, ◌∙◌, subst, ℕ, suc, ◌<◌, ◌≤◌, Bool, true, false, true≢false, [], ◌∷◌, Option, Some, None, ◌⊎◌, inl, inr, arith}
use Rattle.std.proofs.lemmas.Bool.{eqb-true, eqb-false}
use Rattle.std.specs.Option.{option_map}
use Rattle.fractions.specs.Rational.{ℚ, ◌+ℚ◌, ◌*ℚ◌}
use Rattle.frac128.specs.Narrow.{IsNarrow, IsNarrowSum}
use Rattle.frac128.proofs.NarrowLaws.{narrow_test, narrow_sum_test}
use Rattle.calculations.specs.Calculation.{Calculation, Operation, sum, product, after, narrow, stays_narrow, result_of, turned_into}
use Rattle.calculations.proofs.CalculationLaws.{narrow-turned_into}
use Rattle.affine_forms.specs.Forms.{AffineForm, RiseFrom, IsForm}
use Rattle.affine_forms.specs.Laws.{HasTerm, NarrowLaws}
use Rattle.affine_forms.specs.Steps.{added, scaled, scaled_terms, merged, in_front, with_constant}
use Rattle.affine_forms.proofs.Multiples.{less_or_more}
use Rattle.affine_forms.proofs.Stepping.{goes_on, stops}
use Rattle.affine_forms.proofs.TermSteps.{Terms, first_is, second_is, both_is, merged_nil}

then_so : {P Q R : Type 0} → P ↔ Q → Q ↔ R → P ↔ R
then_so f g = ((λ p. g.0 (f.0 p)), (λ r. f.1 (g.1 r)))

-- a calculation whose answer is turned into another has one where that has
map_some : {A B : Type 0} (f : A → B) (o : Option A) → IsSome (option_map f o) ↔ IsSome o
map_some f None = ((λ h. h), (λ h. h))
map_some f (Some x) = ((λ h. refl), (λ h. refl))

same_some : {A : Type 0} (o p : Option A) → o ≡ p → IsSome o ↔ IsSome p
same_some o p e = ((λ h. subst IsSome e h), (λ h. subst IsSome (sym e) h))

nothing_some : (A : Type 0) → ¬ (IsSome {T = A} None)
nothing_some A h = true≢false (sym h)

-- an operation, and what goes on with its result
module _ {A : Type 0} (o : Operation) (rest : ℚ → Calculation A) (P Q : Type 0) (test : IsTrue (stays_narrow o) ↔ P) (behind : IsSome (narrow (rest (result_of o))) ↔ Q) where
  by_stay : (b : Bool) → stays_narrow o ≡ b → IsSome (narrow (after o rest)) ↔ (P × Q)
  by_stay true e =
      let s = same_some (narrow (after o rest)) (narrow (rest (result_of o))) (goes_on o rest (result_of o) refl e) in
      ((λ h. (test.0 e, behind.0 (s.0 h))), (λ h. s.1 (behind.1 h.1)))
  by_stay false e =
      let s = same_some (narrow (after o rest)) None (stops o rest e) in
      ((λ h. absurd (nothing_some A (s.0 h))), (λ h. absurd (true≢false (sym (test.1 h.0) ∙ e))))

  step_some : IsSome (narrow (after o rest)) ↔ (P × Q)
  step_some = by_stay (stays_narrow o) refl

turned_some : {A B : Type 0} (f : A → B) (c : Calculation A) → IsSome (narrow (turned_into f c)) ↔ IsSome (narrow c)
turned_some f c = then_so (same_some _ _ (narrow-turned_into f c)) (map_some f (narrow c))

-- ---- multiples
abbrev EachFits : ℚ → Terms → Type 0
EachFits k ts = (j : ℕ) (a : ℚ) → HasTerm ts j a → IsNarrow (a *ℚ k)

first_and_rest : (k : ℚ) (t : ℕ × ℚ) (ts : Terms) → (IsNarrow (t.1 *ℚ k) × EachFits k ts) ↔ EachFits k (t ∷ ts)
first_and_rest k t ts = (to, (λ h. (h t.0 t.1 (inl (refl, refl)), (λ j a x. h j a (inr x)))))
  where
    to : IsNarrow (t.1 *ℚ k) × EachFits k ts → EachFits k (t ∷ ts)
    to h j a (inl x) = subst (λ c. IsNarrow (c *ℚ k)) x.1 h.0
    to h j a (inr x) = h.1 j a x

terms_scaled : (k : ℚ) (ts : Terms) → IsSome (narrow (scaled_terms k ts)) ↔ EachFits k ts
terms_scaled k [] = ((λ h j a x. absurd x), (λ h. refl))
terms_scaled k (t ∷ ts) =
    then_so
    (step_some (product t.1 k) (λ c. turned_into (in_front t.0 c) (scaled_terms k ts)) (IsNarrow (t.1 *ℚ k)) (EachFits k ts) (narrow_test (t.1 *ℚ k))
    (then_so (turned_some (in_front t.0 (t.1 *ℚ k)) (scaled_terms k ts)) (terms_scaled k ts)))
    (first_and_rest k t ts)

pub narrow_scaled : (k : ℚ) (f : AffineForm) → IsSome (narrow (scaled k f)) ↔ (IsNarrow (f.constant *ℚ k) × ((j : ℕ) (a : ℚ) → HasTerm f.terms j a → IsNarrow (a *ℚ k)))
narrow_scaled k f =
    step_some (product f.constant k) (λ c. turned_into (with_constant c) (scaled_terms k f.terms)) (IsNarrow (f.constant *ℚ k)) (EachFits k f.terms) (narrow_test (f.constant *ℚ k))
    (then_so (turned_some (with_constant (f.constant *ℚ k)) (scaled_terms k f.terms)) (terms_scaled k f.terms))

-- ---- sums
abbrev Meet : Terms → Terms → Type 0
Meet ts us = (j : ℕ) (a b : ℚ) → HasTerm ts j a → HasTerm us j b → IsNarrowSum a b

reaches : (n j : ℕ) (a : ℚ) (ts : Terms) → RiseFrom n ts → HasTerm ts j a → n ≤ j
reaches n j a [] r h = absurd h
reaches n j a (t ∷ ts) r (inl h) = let l : n ≤ t.0 = r.0 in let e : t.0 ≡ j = h.0 in omega arith
reaches n j a (t ∷ ts) r (inr h) = let l : n ≤ t.0 = r.0 in let k : suc t.0 ≤ j = reaches (suc t.0) j a ts r.2 h in omega arith

module _ (t : ℕ × ℚ) (ts : Terms) (n : ℕ) (r : RiseFrom n (t ∷ ts)) (ih : (us : Terms) (m : ℕ) → RiseFrom m us → IsSome (narrow (merged ts us)) ↔ Meet ts us) where
  first_apart : (u : ℕ × ℚ) (us : Terms) (m : ℕ) → RiseFrom m (u ∷ us) → t.0 < u.0 → Meet ts (u ∷ us) ↔ Meet (t ∷ ts) (u ∷ us)
  first_apart u us m q l = (to, (λ h j a b x y. h j a b (inr x) y))
    where
      to : Meet ts (u ∷ us) → Meet (t ∷ ts) (u ∷ us)
      to h j a b (inr x) y = h j a b x y
      to h j a b (inl x) y = let k : u.0 ≤ j = reaches u.0 j b (u ∷ us) (omega arith, q.1, q.2) y in let e : t.0 ≡ j = x.0 in absurd (omega arith)

  second_apart : (u : ℕ × ℚ) (us : Terms) (m : ℕ) → RiseFrom m (u ∷ us) → u.0 < t.0 → Meet (t ∷ ts) us ↔ Meet (t ∷ ts) (u ∷ us)
  second_apart u us m q l = (to, (λ h j a b x y. h j a b x (inr y)))
    where
      to : Meet (t ∷ ts) us → Meet (t ∷ ts) (u ∷ us)
      to h j a b x (inr y) = h j a b x y
      to h j a b x (inl y) = let k : t.0 ≤ j = reaches t.0 j a (t ∷ ts) (omega arith, r.1, r.2) x in let e : u.0 ≡ j = y.0 in absurd (omega arith)

  both_there : (u : ℕ × ℚ) (us : Terms) (m : ℕ) → RiseFrom m (u ∷ us) → t.0 ≡ u.0 → (IsNarrowSum t.1 u.1 × Meet ts us) ↔ Meet (t ∷ ts) (u ∷ us)
  both_there u us m q s = (to, (λ h. (h t.0 t.1 u.1 (inl (refl, refl)) (inl (sym s, refl)), (λ j a b x y. h j a b (inr x) (inr y)))))
    where
      to : IsNarrowSum t.1 u.1 × Meet ts us → Meet (t ∷ ts) (u ∷ us)
      to h j a b (inl x) (inl y) = subst (λ c. IsNarrowSum c b) x.1 (subst (λ c. IsNarrowSum t.1 c) y.1 h.0)
      to h j a b (inl x) (inr y) = let k : suc u.0 ≤ j = reaches (suc u.0) j b us q.2 y in let e : t.0 ≡ j = x.0 in absurd (omega arith)
      to h j a b (inr x) (inl y) = let k : suc t.0 ≤ j = reaches (suc t.0) j a ts r.2 x in let e : u.0 ≡ j = y.0 in absurd (omega arith)
      to h j a b (inr x) (inr y) = h.1 j a b x y

  beside_some : (us : Terms) (m : ℕ) → RiseFrom m us → IsSome (narrow (merged (t ∷ ts) us)) ↔ Meet (t ∷ ts) us
  beside_some [] m q = ((λ h j a b x y. absurd y), (λ h. (same_some (narrow (merged (t ∷ ts) [])) (Some (t ∷ ts)) (merged_nil (t ∷ ts))).1 refl))
  beside_some (u ∷ us) m q = by_order (t.0 == u.0) refl (beside_some us (suc u.0) q.2)
    where
      by_order : (e : Bool) → (t.0 == u.0) ≡ e → IsSome (narrow (merged (t ∷ ts) us)) ↔ Meet (t ∷ ts) us → IsSome (narrow (merged (t ∷ ts) (u ∷ us))) ↔ Meet (t ∷ ts) (u ∷ us)
      by_order true e rest =
          let s : t.0 ≡ u.0 = eqb-true t.0 u.0 e in
          then_so (same_some _ _ (both_is t u ts us s))
          (then_so (step_some (sum t.1 u.1) (λ c. turned_into (in_front t.0 c) (merged ts us)) (IsNarrowSum t.1 u.1) (Meet ts us) (narrow_sum_test t.1 u.1)
          (then_so (turned_some (in_front t.0 (t.1 +ℚ u.1)) (merged ts us)) (ih us (suc u.0) q.2)))
          (both_there u us m q s))
      by_order false e rest = by_less (less_or_more t.0 u.0 (eqb-false t.0 u.0 e))
        where
          by_less : (t.0 < u.0) ⊎ (u.0 < t.0) → IsSome (narrow (merged (t ∷ ts) (u ∷ us))) ↔ Meet (t ∷ ts) (u ∷ us)
          by_less (inl l) = then_so (same_some _ _ (first_is t u ts us l)) (then_so (map_some (λ vs. t ∷ vs) (narrow (merged ts (u ∷ us)))) (then_so (ih (u ∷ us) m q) (first_apart u us m q l)))
          by_less (inr l) = then_so (same_some _ _ (second_is t u ts us l)) (then_so (map_some (λ vs. u ∷ vs) (narrow (merged (t ∷ ts) us))) (then_so rest (second_apart u us m q l)))

merged_some : (ts : Terms) (n : ℕ) → RiseFrom n ts → (us : Terms) (m : ℕ) → RiseFrom m us → IsSome (narrow (merged ts us)) ↔ Meet ts us
merged_some [] n r us m q = ((λ h j a b x y. absurd x), (λ h. refl))
merged_some (t ∷ ts) n r us m q = beside_some t ts n r (merged_some ts (suc t.0) r.2) us m q

pub narrow_added : (f g : AffineForm) → IsForm f → IsForm g
    → IsSome (narrow (added f g)) ↔ (IsNarrowSum f.constant g.constant × ((j : ℕ) (a b : ℚ) → HasTerm f.terms j a → HasTerm g.terms j b → IsNarrowSum a b))
narrow_added f g h k =
    step_some (sum f.constant g.constant) (λ c. turned_into (with_constant c) (merged f.terms g.terms)) (IsNarrowSum f.constant g.constant) (Meet f.terms g.terms) (narrow_sum_test f.constant g.constant)
    (then_so (turned_some (with_constant (f.constant +ℚ g.constant)) (merged f.terms g.terms)) (merged_some f.terms 0 h.rise g.terms 0 k.rise))

pub narrow_laws : NarrowLaws
narrow_laws = record { added = narrow_added; scaled = narrow_scaled }
