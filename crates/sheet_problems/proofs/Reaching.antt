-- A form whose worth depends on the first n decisions alone has terms in these alone.
use Rattle.std.proofs.Common.{◌≡◌, ◌<◌, ◌≤◌, ◌⊎◌, inl, inr, ℕ, suc, Bool, true, false, List, [], ◌∷◌, refl, sym, ap, ap₂, ◌∙◌, arith, eqb, cond, eq-eqb}
use Rattle.std.proofs.lemmas.Bool.{cases_lt, eqb-true}
use Rattle.fractions.specs.Rational.{ℚ, ◌+ℚ◌, ◌*ℚ◌, zero_ℚ, one_ℚ}
use Rattle.fractions.proofs.Laws.{add_comm, add_right_cancel, mul-one, mul-zero}
use Rattle.affine_forms.specs.Assigned.{ReachTo}
use Rattle.affine_forms.specs.Forms.{Assignment, AffineForm, IsForm, RiseFrom, sum_at, worth}

-- ---- sums from a decision on
alike_from : (m : ℕ) (ts : List (ℕ × ℚ)) (x y : Assignment) → RiseFrom m ts → ((j : ℕ) → m ≤ j → x j ≡ y j) → sum_at x ts ≡ sum_at y ts
alike_from m [] x y rise h = refl
alike_from m (t ∷ ts) x y rise h =
    ap₂ (λ a s. t.1 *ℚ a +ℚ s) (h t.0 rise.0) (alike_from (suc t.0) ts x y rise.2 (λ j k. h j (omega (arith, rise.0, k))))

-- 1 at a decision, and 0 at the others
abbrev only : ℕ → Assignment
only k j = cond (eqb j k) one_ℚ zero_ℚ

abbrev nothing : Assignment
nothing j = zero_ℚ

only_there : (k : ℕ) → only k k ≡ one_ℚ
only_there k = ap (λ b. cond b one_ℚ zero_ℚ) (eq-eqb k k refl)

only_else : (k j : ℕ) → (j ≡ k → ⊥) → nothing j ≡ only k j
only_else k j h = by_test (eqb j k) (λ e. h (eqb-true j k e))
  where
    by_test : (b : Bool) → (b ≡ true → ⊥) → zero_ℚ ≡ cond b one_ℚ zero_ℚ
    by_test true h = absurd (h refl)
    by_test false h = refl

-- the coefficient of a term past the first n decisions is 0
past : (n : ℕ) (t : ℕ × ℚ) (ts : List (ℕ × ℚ)) → n ≤ t.0 → RiseFrom (suc t.0) ts
    → ((x y : Assignment) → ((j : ℕ) → j < n → x j ≡ y j) → sum_at x (t ∷ ts) ≡ sum_at y (t ∷ ts)) → t.1 ≡ zero_ℚ
past n t ts far rise same =
    let whole : sum_at nothing (t ∷ ts) ≡ sum_at (only t.0) (t ∷ ts) = same nothing (only t.0) (λ j h. only_else t.0 j (λ e. omega (arith, far, h, e))) in
    let rest : sum_at nothing ts ≡ sum_at (only t.0) ts = alike_from (suc t.0) ts nothing (only t.0) rise (λ j h. only_else t.0 j (λ e. omega (arith, h, e))) in
    let there : t.1 *ℚ only t.0 t.0 ≡ t.1 = ap (λ x. t.1 *ℚ x) (only_there t.0) ∙ mul-one t.1 in
    sym there ∙ sym (add_right_cancel (t.1 *ℚ zero_ℚ) (t.1 *ℚ only t.0 t.0) (sum_at (only t.0) ts) (ap (λ s. t.1 *ℚ zero_ℚ +ℚ s) (sym rest) ∙ whole)) ∙ mul-zero t.1

terms_reach : (n m : ℕ) (ts : List (ℕ × ℚ)) → RiseFrom m ts → ((x y : Assignment) → ((j : ℕ) → j < n → x j ≡ y j) → sum_at x ts ≡ sum_at y ts) → ReachTo ts n
terms_reach n m [] rise same = tt
terms_reach n m (t ∷ ts) rise same = by_place (cases_lt t.0 n) (λ others. terms_reach n (suc t.0) ts rise.2 others)
  where
    later : t.0 < n → (x y : Assignment) → ((j : ℕ) → j < n → x j ≡ y j) → sum_at x ts ≡ sum_at y ts
    later near x y h =
        add_right_cancel (sum_at x ts) (sum_at y ts) (t.1 *ℚ x t.0)
        (add_comm (sum_at x ts) (t.1 *ℚ x t.0) ∙ same x y h ∙ ap (λ a. t.1 *ℚ a +ℚ sum_at y ts) (sym (h t.0 near)) ∙ add_comm (t.1 *ℚ x t.0) (sum_at y ts))

    by_place : (t.0 < n) ⊎ (n ≤ t.0) → (((x y : Assignment) → ((j : ℕ) → j < n → x j ≡ y j) → sum_at x ts ≡ sum_at y ts) → ReachTo ts n) → ReachTo (t ∷ ts) n
    by_place (inl near) further = (near, further (later near))
    by_place (inr far) further = absurd (rise.1 (past n t ts far rise.2 same))

pub form_reaches : (n : ℕ) (f : AffineForm) → IsForm f → ((x y : Assignment) → ((j : ℕ) → j < n → x j ≡ y j) → worth x f ≡ worth y f) → ReachTo f.terms n
form_reaches n f form same =
    terms_reach n 0 f.terms form.rise
    (λ x y h. add_right_cancel (sum_at x f.terms) (sum_at y f.terms) f.constant (add_comm (sum_at x f.terms) f.constant ∙ same x y h ∙ add_comm f.constant (sum_at y f.terms)))
