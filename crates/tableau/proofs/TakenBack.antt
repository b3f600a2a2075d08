-- A pivot taken back: where the leaving row comes in again for the variable of the place, each row is what it was, and its numbers are narrow.
use Rattle.std.proofs.Common.{◌≡◌, ◌≢◌, ℕ, ◌<◌, refl, sym, ap, ap₂, ◌∙◌, subst, List, [], ◌∷◌, length, Bool, true, false, cond, eqb}
use Rattle.std.proofs.lemmas.Bool.{eqb-true, eqb-false, eq-eqb, ne_eqb}
use Rattle.std.proofs.lemmas.List.{ext_get_or}
use Rattle.fractions.specs.Rational.{ℚ, ◌+ℚ◌, ◌*ℚ◌, inv_ℚ, neg_ℚ, zero_ℚ, one_ℚ}
use Rattle.fractions.specs.Vectors.{at, without}
use Rattle.fractions.proofs.Inverse.{mul-inv}
use Rattle.fractions.proofs.Laws.{one-mul, mul-one, mul_comm, mul_assoc, zero-add}
use Rattle.fractions.proofs.Quote.{quotes, by_ring}
use Rattle.frac128.specs.Narrow.{IsNarrow, IsNarrowSum}
use Rattle.frac128.proofs.NarrowLaws.{narrow_neg, narrow_sum_comm}
use Rattle.linear_programs.proofs.Vectors.{at-without_same, at-without_other}
use Rattle.dictionaries.specs.Dictionary.{solved_row, substituted}
use Rattle.dictionaries.specs.Narrow.{IsNarrowStep, IsNarrowSubstituted}
use Rattle.dictionaries.proofs.Keeps.{length-substituted}
use Rattle.tableau.proofs.Back.{narrow_back}
use Rattle.tableau.proofs.Elements.{at-solved_row}
use Rattle.tableau.proofs.Zeros.{at-substituted, narrow_sum-zero}

moved : (f i x : ℚ) → f *ℚ (neg_ℚ x *ℚ i) ≡ neg_ℚ ((f *ℚ i) *ℚ x)
moved f i x = by_ring (f ∷ i ∷ x ∷ []) (search quotes depth 20) (search quotes depth 20) refl

turned : (f i x : ℚ) → (f *ℚ i) *ℚ x ≡ neg_ℚ (f *ℚ (neg_ℚ x *ℚ i))
turned f i x = by_ring (f ∷ i ∷ x ∷ []) (search quotes depth 20) (search quotes depth 20) refl

cancelled : (own f i x : ℚ) → (own +ℚ f *ℚ (neg_ℚ x *ℚ i)) +ℚ (f *ℚ i) *ℚ x ≡ own
cancelled own f i x = by_ring (own ∷ f ∷ i ∷ x ∷ []) (search quotes depth 20) (search quotes depth 20) refl

over : (f p : ℚ) → p ≢ zero_ℚ → (f *ℚ inv_ℚ p) *ℚ p ≡ f
over f p n = mul_assoc f (inv_ℚ p) p ∙ ap (λ t. f *ℚ t) (mul_comm (inv_ℚ p) p ∙ mul-inv p n) ∙ mul-one f

by_there : (r by : List ℚ) (k : ℕ) → by ≡ solved_row r k → at by k ≡ inv_ℚ (at r k)
by_there r by k e =
    ap (λ l. at l k) e ∙ at-solved_row r k k ∙ ap (λ b. cond b one_ℚ (neg_ℚ (at r k)) *ℚ inv_ℚ (at r k)) (eq-eqb k k refl) ∙ one-mul _

by_elsewhere : (r by : List ℚ) (k j : ℕ) → by ≡ solved_row r k → j ≢ k → at by j ≡ neg_ℚ (at r j) *ℚ inv_ℚ (at r k)
by_elsewhere r by k j e n = ap (λ l. at l j) e ∙ at-solved_row r k j ∙ ap (λ b. cond b one_ℚ (neg_ℚ (at r j)) *ℚ inv_ℚ (at r k)) (ne_eqb j k n)

-- ---- the row after the pivot
new_there : (row r by : List ℚ) (k : ℕ) → by ≡ solved_row r k → at (substituted row k by) k ≡ at row k *ℚ inv_ℚ (at r k)
new_there row r by k e =
    at-substituted row k by k ∙ ap₂ ◌+ℚ◌ (at-without_same row k) (ap (λ t. at row k *ℚ t) (by_there r by k e)) ∙ zero-add _

new_elsewhere : (row by : List ℚ) (k j : ℕ) → j ≢ k → at (without (substituted row k by) k) j ≡ at row j +ℚ at row k *ℚ at by j
new_elsewhere row by k j n =
    at-without_other (substituted row k by) k j n ∙ at-substituted row k by j ∙ ap (λ t. t +ℚ at row k *ℚ at by j) (at-without_other row k j n)

taken_back_at : (row r by : List ℚ) (k j : ℕ) → at r k ≢ zero_ℚ → by ≡ solved_row r k → at (substituted (substituted row k by) k r) j ≡ at row j
taken_back_at row r by k j h e = at-substituted (substituted row k by) k r j ∙ cases (eqb j k) refl
  where
    cases : (b : Bool) → eqb j k ≡ b → at (without (substituted row k by) k) j +ℚ at (substituted row k by) k *ℚ at r j ≡ at row j
    cases true q =
        let i : j ≡ k = eqb-true j k q in
        ap₂ ◌+ℚ◌ (ap (at (without (substituted row k by) k)) i ∙ at-without_same (substituted row k by) k) (ap₂ ◌*ℚ◌ (new_there row r by k e) (ap (at r) i))
        ∙ zero-add _ ∙ over (at row k) (at r k) h ∙ ap (at row) (sym i)
    cases false q =
        let n : j ≢ k = eqb-false j k q in
        ap₂ ◌+ℚ◌ (new_elsewhere row by k j n ∙ ap (λ t. at row j +ℚ at row k *ℚ t) (by_elsewhere r by k j e n)) (ap (λ t. t *ℚ at r j) (new_there row r by k e))
        ∙ cancelled (at row j) (at row k) (inv_ℚ (at r k)) (at r j)

pub taken_back : (row r by : List ℚ) (k : ℕ) → at r k ≢ zero_ℚ → by ≡ solved_row r k → length by ≡ length row → length r ≡ length row → substituted (substituted row k by) k r ≡ row
taken_back row r by k h e l m =
    ext_get_or zero_ℚ (substituted (substituted row k by) k r) row (length-substituted (substituted row k by) k r (m ∙ sym (length-substituted row k by l)) ∙ length-substituted row k by l)
    (λ j q. taken_back_at row r by k j h e)

pub narrow_taken_back : (row r by : List ℚ) (k : ℕ) → at r k ≢ zero_ℚ → by ≡ solved_row r k → length by ≡ length row → k < length row
    → ((j : ℕ) → j < length row → IsNarrow (at row j)) → IsNarrowSubstituted row k by → IsNarrowSubstituted (substituted row k by) k r
unfolding IsNarrowStep
narrow_taken_back row r by k h e l p n s j q = cases (eqb j k) refl (subst (λ w. j < w) (length-substituted row k by l) q)
  where
    there : at (substituted row k by) k *ℚ at r k ≡ at row k
    there = ap (λ t. t *ℚ at r k) (new_there row r by k e) ∙ over (at row k) (at r k) h

    cases : (b : Bool) → eqb j k ≡ b → j < length row → IsNarrow (at (substituted row k by) k *ℚ at r j) × IsNarrowSum (at (without (substituted row k by) k) j) (at (substituted row k by) k *ℚ at r j)
    cases true b m =
        let i : j ≡ k = eqb-true j k b in
        let product : at (substituted row k by) k *ℚ at r j ≡ at row k = ap (λ t. at (substituted row k by) k *ℚ at r t) i ∙ there in
        let own : at (without (substituted row k by) k) j ≡ zero_ℚ = ap (at (without (substituted row k by) k)) i ∙ at-without_same (substituted row k by) k in (
          subst IsNarrow (sym product) (n k p),
          subst (λ t. IsNarrowSum t (at (substituted row k by) k *ℚ at r j)) (sym own) (subst (IsNarrowSum zero_ℚ) (sym product) (narrow_sum_comm (at row k) zero_ℚ (narrow_sum-zero (at row k) (n k p)))),
        )
    cases false b m =
        let o : j ≢ k = eqb-false j k b in
        let made = s j m in
        let product : at (substituted row k by) k *ℚ at r j ≡ neg_ℚ (at row k *ℚ at by j) =
        ap (λ t. t *ℚ at r j) (new_there row r by k e) ∙ turned (at row k) (inv_ℚ (at r k)) (at r j) ∙ ap (λ t. neg_ℚ (at row k *ℚ t)) (sym (by_elsewhere r by k j e o)) in (
          subst IsNarrow (sym product) (narrow_neg (at row k *ℚ at by j) made.0),
          subst (λ t. IsNarrowSum t (at (substituted row k by) k *ℚ at r j)) (sym (new_elsewhere row by k j o))
              (subst (IsNarrowSum (at row j +ℚ at row k *ℚ at by j)) (sym product)
              (narrow_back (at row j) (at row k *ℚ at by j) (n j m) (subst (λ t. IsNarrowSum t (at row k *ℚ at by j)) (at-without_other row k j o) made.1))),
        )
