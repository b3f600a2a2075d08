-- Lists of coefficients that are filled in from terms in rising order, and spread over columns.
use Rattle.std.proofs.Common.{◌≡◌, ℕ, zero, suc, ◌<◌, ◌≤◌, Bool, true, false, refl, sym, ap, ap₂, ◌∙◌, List, [], ◌∷◌, length, set, replicate, arith, ◌⊎◌, inl, inr, subst, get_or-set_same, get_or-set_other, length-set}
use Rattle.std.proofs.lemmas.List.{length-replicate}
use Rattle.fractions.specs.Rational.{ℚ, ◌+ℚ◌, ◌*ℚ◌, neg_ℚ, zero_ℚ}
use Rattle.fractions.specs.Vectors.{at}
use Rattle.fractions.proofs.Laws.{mul-one, add-zero, zero-add}
use Rattle.affine_forms.specs.Forms.{RiseFrom, coefficient}
use Rattle.affine_forms.specs.Assigned.{ReachTo}
use Rattle.linear_models.specs.Standard.{spread}
use Rattle.linear_models.proofs.Forms.{unit, summed_coefficient, unit_same, term_other, summed_before, coefficient_is}

-- the list with each term's coefficient put in its place
abbrev pub filled : List (ℕ × ℚ) → List ℚ → List ℚ
filled [] v = v
filled (t ∷ ts) v = filled ts (set v t.0 t.1)

pub record Fills (k : ℕ) (ts : List (ℕ × ℚ)) (v : List ℚ) (i : ℕ) : Type 0 where
  pub before : i < k → at (filled ts v) i ≡ at v i
  pub later : k ≤ i → at (filled ts v) i ≡ summed_coefficient ts i

fills : (k n : ℕ) (ts : List (ℕ × ℚ)) (v : List ℚ) (i : ℕ) → RiseFrom k ts → ReachTo ts n → length v ≡ n → ((i : ℕ) → k ≤ i → at v i ≡ zero_ℚ) → Fills k ts v i
fills k n [] v i r b e z = record { before = λ h. refl; later = λ h. z i h }
fills k n (t ∷ ts) v i r b e z =
    let u = set v t.0 t.1 in
    let f = fills (suc t.0) n ts u i r.2 b.1 (length-set v t.0 t.1 ∙ e) (λ i h. get_or-set_other v t.0 i t.1 zero_ℚ (λ q. absurd (omega (arith, h, q))) ∙ z i (omega (arith, r.0, h))) in
    record {
      before = λ h. f.before (omega (arith, r.0, h)) ∙ get_or-set_other v t.0 i t.1 zero_ℚ (λ q. absurd (omega (arith, r.0, h, q)));
      later = λ h. cases f (order t.0 i) h;
    }
  where
    order : (j i : ℕ) → ((i < j) ⊎ (j < i)) ⊎ (j ≡ i)
    order j i = grind arith

    this : Fills (suc t.0) ts (set v t.0 t.1) t.0 → at (filled ts (set v t.0 t.1)) t.0 ≡ t.1 *ℚ unit t.0 t.0 +ℚ summed_coefficient ts t.0
    this f =
        f.before (omega arith) ∙ get_or-set_same v t.0 t.1 zero_ℚ (omega (arith, b.0))
        ∙ sym (ap₂ ◌+ℚ◌ (ap (λ s. t.1 *ℚ s) (unit_same t.0) ∙ mul-one t.1) (summed_before ts (suc t.0) t.0 r.2 (omega arith)) ∙ add-zero t.1)

    cases : Fills (suc t.0) ts (set v t.0 t.1) i → ((i < t.0) ⊎ (t.0 < i)) ⊎ (t.0 ≡ i) → k ≤ i → at (filled ts (set v t.0 t.1)) i ≡ t.1 *ℚ unit t.0 i +ℚ summed_coefficient ts i
    cases f (inl (inl h)) l =
        f.before (omega arith) ∙ get_or-set_other v t.0 i t.1 zero_ℚ (λ q. absurd (omega (arith, h, q))) ∙ z i l
        ∙ sym (ap₂ ◌+ℚ◌ (term_other t.1 t.0 i (λ q. absurd (omega (arith, h, q)))) (summed_before ts (suc t.0) i r.2 (omega arith)) ∙ add-zero zero_ℚ)
    cases f (inl (inr h)) l = f.later (omega arith) ∙ sym (ap (λ s. s +ℚ summed_coefficient ts i) (term_other t.1 t.0 i (λ q. absurd (omega (arith, h, q)))) ∙ zero-add _)
    cases f (inr q) l =
        subst (λ i. at (filled ts (set v t.0 t.1)) i ≡ t.1 *ℚ unit t.0 i +ℚ summed_coefficient ts i) q
        (this (subst (λ i. Fills (suc t.0) ts (set v t.0 t.1) i) (sym q) f))

-- zeros filled with all terms are the coefficients
pub coefficients_are : (n : ℕ) (ts : List (ℕ × ℚ)) (i : ℕ) → RiseFrom 0 ts → ReachTo ts n → at (filled ts (replicate n zero_ℚ)) i ≡ coefficient ts i
coefficients_are n ts i r b =
    (fills 0 n ts (replicate n zero_ℚ) i r b (length-replicate n zero_ℚ) (λ i h. zeros n i)).later (omega arith) ∙ sym (coefficient_is ts 0 i r)
  where
    zeros : (n i : ℕ) → at (replicate n zero_ℚ) i ≡ zero_ℚ
    zeros zero i = refl
    zeros (suc n) zero = refl
    zeros (suc n) (suc i) = zeros n i

-- only the numbers of the decisions count
pub spread_same : (splits : List Bool) (c d : ℕ → ℚ) → ((i : ℕ) → i < length splits → c i ≡ d i) → spread splits c ≡ spread splits d
spread_same [] c d h = refl
spread_same (false ∷ splits) c d h = ap₂ ◌∷◌ (h 0 (omega arith)) (spread_same splits _ _ (λ i l. h (suc i) (omega arith)))
spread_same (true ∷ splits) c d h =
    ap₂ (λ x xs. x ∷ neg_ℚ x ∷ xs) (h 0 (omega arith)) (spread_same splits _ _ (λ i l. h (suc i) (omega arith)))
