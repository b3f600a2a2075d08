-- Assignments at which forms have wanted values.
use Rattle.std.specs.Prelude.{◌≢◌, ◌==◌, IsTrue}
use Rattle.std.proofs.Common.{◌≡◌, refl, sym, ap, ap₂, ◌∙◌, ℕ, suc, ◌≤◌, ◌<◌, Bool, true, false, true≢false, if◌then◌else◌, List, [], ◌∷◌, arith, ◌⊎◌, inl, inr}
use Rattle.std.proofs.lemmas.Bool.{eqb-true, eqb-false, eq-eqb, ne_eqb}
use Rattle.fractions.specs.Rational.{ℚ, zero_ℚ, one_ℚ, ◌*ℚ◌, ◌+ℚ◌, ◌-ℚ◌, inv_ℚ}
use Rattle.fractions.proofs.Order.{eq_or_ne}
use Rattle.fractions.proofs.Field.{ordered_field}
use Rattle.fractions.proofs.Laws.{ring_laws, zero-add, mul-one, add-zero, mul_assoc, mul-zero, mul_comm}
use Rattle.fractions.proofs.Quote.{quotes, by_ring}
use Rattle.affine_forms.specs.Forms.{Assignment, AffineForm, RiseFrom, IsForm, worth, sum_at, are_some, has_terms, coefficient}
pub use Rattle.affine_forms.specs.Points.{moved, Moves, BothMove}

pub sum_moved : (p : Assignment) (k : ℚ) (d : Assignment) (ts : List (ℕ × ℚ)) → sum_at (moved p k d) ts ≡ sum_at p ts +ℚ k *ℚ sum_at d ts
sum_moved p k d [] = sym (ap (λ t. zero_ℚ +ℚ t) (mul-zero k) ∙ add-zero zero_ℚ)
sum_moved p k d (t ∷ ts) = ap (λ s. t.1 *ℚ (p t.0 +ℚ k *ℚ d t.0) +ℚ s) (sum_moved p k d ts) ∙ regrouped _ _ _ _ _ _
  where
    regrouped : (c a k b s t : ℚ) → c *ℚ (a +ℚ k *ℚ b) +ℚ (s +ℚ k *ℚ t) ≡ (c *ℚ a +ℚ s) +ℚ k *ℚ (c *ℚ b +ℚ t)
    regrouped c a k b s t = simp ring_laws

pub worth_moved : (p : Assignment) (k : ℚ) (d : Assignment) (f : AffineForm) → worth (moved p k d) f ≡ worth p f +ℚ k *ℚ sum_at d f.terms
worth_moved p k d f = ap (λ s. f.constant +ℚ s) (sum_moved p k d f.terms) ∙ regrouped _ _ _
  where
    regrouped : (c s t : ℚ) → c +ℚ (s +ℚ t) ≡ (c +ℚ s) +ℚ t
    regrouped c s t = simp ring_laws

-- the direction of one decision
abbrev pub along : ℕ → Assignment
along j = λ i. if i == j then one_ℚ else zero_ℚ

along_other : (i j : ℕ) → ¬ (i ≡ j) → along j i ≡ zero_ℚ
along_other i j h = ap (λ b. if b then one_ℚ else zero_ℚ) (ne_eqb i j h)

along_same : (j : ℕ) → along j j ≡ one_ℚ
along_same j = ap (λ b. if b then one_ℚ else zero_ℚ) (eq-eqb j j refl)

sum_behind : (n j : ℕ) (ts : List (ℕ × ℚ)) → j < n → RiseFrom n ts → sum_at (along j) ts ≡ zero_ℚ
sum_behind n j [] h r = refl
sum_behind n j (t ∷ ts) h r =
    let a : n ≤ t.0 = r.0 in
    let e : ¬ (t.0 ≡ j) = (λ (e : t.0 ≡ j). absurd (omega arith)) in
    ap₂ (λ u v. t.1 *ℚ u +ℚ v) (along_other t.0 j e) (sum_behind (suc t.0) j ts (omega arith) r.2) ∙ ap (λ u. u +ℚ zero_ℚ) (mul-zero t.1) ∙ add-zero zero_ℚ

-- along a decision the terms change by its coefficient
pub sum_along : (n j : ℕ) (ts : List (ℕ × ℚ)) → RiseFrom n ts → sum_at (along j) ts ≡ coefficient ts j
sum_along n j [] r = refl
sum_along n j (t ∷ ts) r = by_test (t.0 == j) refl (sum_along (suc t.0) j ts r.2)
  where
    by_test : (b : Bool) → (t.0 == j) ≡ b → sum_at (along j) ts ≡ coefficient ts j → sum_at (along j) (t ∷ ts) ≡ (if b then t.1 else coefficient ts j)
    by_test true e ih =
        let same : t.0 ≡ j = eqb-true t.0 j e in
        ap₂ (λ u v. t.1 *ℚ u +ℚ v) (ap (along j) same ∙ along_same j) (sum_behind (suc t.0) j ts (omega arith) r.2) ∙ ap (λ u. u +ℚ zero_ℚ) (mul-one t.1) ∙ add-zero t.1
    by_test false e ih = ap₂ (λ u v. t.1 *ℚ u +ℚ v) (along_other t.0 j (eqb-false t.0 j e)) ih ∙ ap (λ u. u +ℚ coefficient ts j) (mul-zero t.1) ∙ zero-add _

-- a form with a term changes along a direction
pub moves : (f : AffineForm) → IsForm f → IsTrue (has_terms f) → Moves f
moves f h some = by_terms f.terms h.rise some
  where
    by_terms : (ts : List (ℕ × ℚ)) → RiseFrom 0 ts → are_some ts ≡ true → Moves (record { constant = f.constant; terms = ts })
    by_terms [] r e = absurd (true≢false (sym e))
    by_terms (t ∷ ts) r e =
        record {
          direction = along t.0;
          changes = λ z. r.1 (sym (sum_along 0 t.0 (t ∷ ts) r ∙ ap (λ b. if b then t.1 else coefficient ts t.0) (eq-eqb t.0 t.0 refl)) ∙ z);
        }

-- a point at which it has a wanted value
abbrev pub reached : (f : AffineForm) → Moves f → Assignment → ℚ → Assignment
reached f m p v = moved p ((v -ℚ worth p f) *ℚ inv_ℚ (sum_at m.direction f.terms)) m.direction

pub reached_worth : (f : AffineForm) (m : Moves f) (p : Assignment) (v : ℚ) → worth (reached f m p v) f ≡ v
reached_worth f m p v =
    let s = sum_at m.direction f.terms in
    worth_moved p _ m.direction f ∙ ap (λ t. worth p f +ℚ t) (mul_assoc (v -ℚ worth p f) (inv_ℚ s) s ∙ ap (λ t. (v -ℚ worth p f) *ℚ t) (mul_comm (inv_ℚ s) s ∙ ordered_field.mul-inv s m.changes))
    ∙ whole (worth p f) v
  where
    whole : (w v : ℚ) → w +ℚ (v -ℚ w) *ℚ one_ℚ ≡ v
    whole w v = by_ring (w ∷ v ∷ []) (search quotes depth 20) (search quotes depth 20) refl

pub both_move : (f g : AffineForm) → Moves f → Moves g → BothMove f g
both_move f g m n = by_tests (eq_or_ne (sum_at m.direction g.terms) zero_ℚ) (eq_or_ne (sum_at n.direction f.terms) zero_ℚ)
  where
    first_stays : (a e : ℚ) → e ≡ zero_ℚ → a +ℚ one_ℚ *ℚ e ≡ a
    first_stays a e h = rw h (simp ring_laws)

    second_stays : (b c : ℚ) → b ≡ zero_ℚ → b +ℚ one_ℚ *ℚ c ≡ c
    second_stays b c h = rw h (simp ring_laws)

    by_tests : (sum_at m.direction g.terms ≡ zero_ℚ) ⊎ (sum_at m.direction g.terms ≢ zero_ℚ) → (sum_at n.direction f.terms ≡ zero_ℚ) ⊎ (sum_at n.direction f.terms ≢ zero_ℚ)
        → BothMove f g
    by_tests (inr b) e = record { direction = m.direction; first = m.changes; second = b }
    by_tests (inl b) (inr e) = record { direction = n.direction; first = e; second = n.changes }
    by_tests (inl b) (inl e) =
        record {
          direction = moved m.direction one_ℚ n.direction;
          first = λ z. m.changes (sym (sum_moved m.direction one_ℚ n.direction f.terms ∙ first_stays _ _ e) ∙ z);
          second = λ z. n.changes (sym (sum_moved m.direction one_ℚ n.direction g.terms ∙ second_stays _ _ b) ∙ z);
        }
