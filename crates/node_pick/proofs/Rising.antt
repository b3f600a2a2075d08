-- Numbers that rise up to a place.
use Rattle.std.proofs.Common.{◌≡◌, ℕ, ◌+◌, ◌-◌, ◌<◌, ◌≤◌, ◌⊎◌, inl, inr, arith, List, length, subst}
use Rattle.std.specs.Prelude.{Some, slice_get}
use Rattle.std.proofs.lemmas.Option.{slice_get_within}
use Rattle.node_pick.specs.Rules.{IsRising}
use Rattle.node_pick.specs.declared.info.NodeInfo.{NodeInfo}

abbrev pub RisesTo : List NodeInfo → ℕ → Type 0
RisesTo w n = (j k : ℕ) (a b : NodeInfo) → j < k → k < n → slice_get w j ≡ Some a → slice_get w k ≡ Some b → a.number < b.number

pub one_alone : (w : List NodeInfo) → RisesTo w 1
one_alone w j k a b l m s t = absurd (omega (arith, l, m))

same : (w : List NodeInfo) (k : ℕ) (a b : NodeInfo) → slice_get w k ≡ Some a → slice_get w k ≡ Some b → a ≡ b
same w k a b e f = cc

pub one_more : (w : List NodeInfo) (n : ℕ) (x y : NodeInfo) → 0 < n → slice_get w (n - 1) ≡ Some x → slice_get w n ≡ Some y → x.number < y.number
    → RisesTo w n → RisesTo w (n + 1)
one_more w n x y p e f h r j k a b l m s t = at_last (below k m)
  where
    below : (k : ℕ) → k < n + 1 → (k < n) ⊎ (k ≡ n)
    below k m = grind arith

    before : (j : ℕ) → j < n → (j < n - 1) ⊎ (j ≡ n - 1)
    before j l = grind arith

    of_x : (j : ℕ) → slice_get w j ≡ Some a → (j < n - 1) ⊎ (j ≡ n - 1) → a.number ≤ x.number
    of_x j s (inl i) = let z : a.number < x.number = r j (n - 1) a x i (omega (arith, p)) s e in omega (arith, z)
    of_x j s (inr i) = subst (λ (u : NodeInfo). a.number ≤ u.number) (same w (n - 1) a x (subst (λ (u : ℕ). slice_get w u ≡ Some a) i s) e) (omega arith)

    at_last : (k < n) ⊎ (k ≡ n) → a.number < b.number
    at_last (inl i) = r j k a b l i s t
    at_last (inr i) =
        let q : a.number ≤ x.number = of_x j s (before j (omega (arith, l, i))) in
        subst (λ (u : NodeInfo). a.number < u.number) (same w n y b f (subst (λ (u : ℕ). slice_get w u ≡ Some b) i t)) (omega (arith, q, h))

pub rising : (w : List NodeInfo) (n : ℕ) → length w ≤ n → RisesTo w n → IsRising w
rising w n l r j k a b o s t = let z : k < length w = slice_get_within w k b t in r j k a b o (omega (arith, z, l)) s t
