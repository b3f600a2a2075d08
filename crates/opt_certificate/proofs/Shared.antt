-- Groups that have two decisions, and decisions that are fixed, as they are tested.
use Rattle.std.proofs.Common.{◌≡◌, ◌↔◌, ℕ, zero, suc, ◌≤◌, true, refl, sym, ◌∙◌, subst, List, [], ◌∷◌, length, drop, Some, None, arith}
use Rattle.std.specs.Prelude.{slice_get}
use Rattle.fractions.specs.Rational.{ℚ}
use Rattle.linear_models.specs.Box.{Box, bound_at}
use Rattle.linear_models.specs.Statement.{is_in}
use Rattle.opt_certificate.specs.Clashes.{ShareGroup, IsFixedTo, AreFixed}

same_list : (a b : List ℕ) → Some a ≡ Some b → a ≡ b
same_list a b e = cc

pub share_here : (g : List ℕ) (gs : List (List ℕ)) (i j : ℕ) → is_in i g ≡ true → is_in j g ≡ true → ShareGroup (g ∷ gs) i j
share_here g gs i j p q = record { place = 0; group = g; group_is = refl; one = p; other = q }

pub share_rest : (g : List ℕ) (gs : List (List ℕ)) (i j : ℕ) → ¬ ((is_in i g ≡ true) × (is_in j g ≡ true)) → ShareGroup (g ∷ gs) i j ↔ ShareGroup gs i j
share_rest g gs i j n = (
  λ s. there s.place s.group s.group_is s.one s.other,
  λ s. record { place = suc s.place; group = s.group; group_is = s.group_is; one = s.one; other = s.other },
)
  where
    there : (k : ℕ) (h : List ℕ) → slice_get (g ∷ gs) k ≡ Some h → is_in i h ≡ true → is_in j h ≡ true → ShareGroup gs i j
    there zero h e p q =
        let s = sym (same_list g h e) in absurd (n (subst (λ (x : List ℕ). is_in i x ≡ true) s p, subst (λ (x : List ℕ). is_in j x ≡ true) s q))
    there (suc k) h e p q = record { place = k; group = h; group_is = e; one = p; other = q }

pub none_shares : (i j : ℕ) → ¬ (ShareGroup [] i j)
none_shares i j s = none s.place s.group s.group_is
  where
    none : (k : ℕ) (g : List ℕ) → slice_get [] k ≡ Some g → ⊥
    none k g e = cc

-- behind the last place there is nothing
pub past : {X : Type 0} (xs : List X) (k : ℕ) → length xs ≤ k → drop k xs ≡ []
past [] zero l = refl
past [] (suc k) l = refl
past (x ∷ xs) zero l = absurd (omega (arith, l))
past (x ∷ xs) (suc k) l = past xs k (omega (arith, l))

-- ---- fixed decisions
some_is : {x y : ℚ} → Some x ≡ Some y → x ≡ y
some_is e = cc

pub not_fixed : (box : Box) (i j : ℕ) → bound_at box.least i ≡ None → ¬ (AreFixed box i j)
not_fixed box i j e f = let q : None ≡ Some f.value = sym e ∙ f.one.least in absurd cc

pub fixed_both : (box : Box) (i j : ℕ) (v : ℚ) → bound_at box.least i ≡ Some v → (IsFixedTo box i v × IsFixedTo box j v) ↔ AreFixed box i j
fixed_both box i j v e = (
  λ h. record { value = v; one = h.0; other = h.1 },
  λ f. let q : f.value ≡ v = some_is (sym f.one.least ∙ e) in (subst (IsFixedTo box i) q f.one, subst (IsFixedTo box j) q f.other),
)
