-- The order of bounds, where none is the greatest.
use Rattle.std.proofs.Common.{◌≡◌, ℕ, zero, suc, ◌+◌, ◌<◌, ◌≤◌, ◌⊎◌, inl, inr, sym, ap, arith, List, [], ◌∷◌, length, get_or, subst}
use Rattle.std.specs.Prelude.{Option, Some, None, slice_get}
use Rattle.fractions.specs.Rational.{ℚ, ◌<ℚ◌, ◌≤ℚ◌}
use Rattle.fractions.proofs.Order.{lt_irrefl, lt_of_lt_of_le, lt_of_le_of_lt, le_of_lt}
use Rattle.fractions.proofs.Tests.{le_or_lt}
use Rattle.node_pick.specs.Rules.{IsLess, IsRising, NamesAmong, best_first}
use Rattle.node_pick.specs.declared.info.NodeInfo.{NodeInfo}

pub less_irrefl : (x : Option ℚ) → ¬ (IsLess x x)
less_irrefl None h = h
less_irrefl (Some x) h = lt_irrefl x h

pub less_trans : (x y z : Option ℚ) → IsLess x y → IsLess y z → IsLess x z
less_trans None y z h k = absurd h
less_trans (Some x) None z h k = absurd k
less_trans (Some x) (Some y) None h k = tt
less_trans (Some x) (Some y) (Some z) h k = lt_of_lt_of_le x y z h (le_of_lt y z k)

pub less_of_not : (x y z : Option ℚ) → ¬ (IsLess y x) → IsLess y z → IsLess x z
less_of_not x None z n h = absurd h
less_of_not None (Some y) z n h = absurd (n tt)
less_of_not (Some x) (Some y) None n h = tt
less_of_not (Some x) (Some y) (Some z) n h = cases (le_or_lt x y)
  where
    cases : (x ≤ℚ y) ⊎ (y <ℚ x) → x <ℚ z
    cases (inl l) = lt_of_le_of_lt x y z l h
    cases (inr l) = absurd (n l)

pub get_at : {X : Type 0} (xs : List X) (i : ℕ) (x : X) → i < length xs → x ≡ get_or xs i x → slice_get xs i ≡ Some x
get_at [] i x h e = absurd (omega arith)
get_at (y ∷ ys) zero x h e = ap Some (sym e)
get_at (y ∷ ys) (suc i) x h e = get_at ys i x (omega arith) e

same : (w : List NodeInfo) (k : ℕ) (a b : NodeInfo) → slice_get w k ≡ Some a → slice_get w k ≡ Some b → a ≡ b
same w k a b e f = cc

halves : (k n : ℕ) → k < n + 1 → (k < n) ⊎ (k ≡ n)
halves k n h = grind arith

-- the next node has a greater bound than the best so far
pub greater_next : (w : List NodeInfo) (n p : ℕ) (x y : NodeInfo) → NamesAmong best_first w n p → slice_get w p ≡ Some x → slice_get w n ≡ Some y
    → IsLess x.bound y.bound → NamesAmong best_first w (n + 1) n
greater_next w n p x y m e f h = record {
  place = omega arith;
  best = λ k a b l s t. best k a b (halves k n l) s t;
  ties = λ k a b l s t. ties k a b (halves k n l) s t;
}
  where
    best : (k : ℕ) (a b : NodeInfo) → (k < n) ⊎ (k ≡ n) → slice_get w k ≡ Some a → slice_get w n ≡ Some b → ¬ (IsLess b.bound a.bound)
    best k a b (inl l) s t = λ i.
        let q : y ≡ b = same w n y b f t in
        m.best k a x l s e (less_trans x.bound b.bound a.bound (subst (λ (u : NodeInfo). IsLess x.bound u.bound) q h) i)
    best k a b (inr l) s t = λ i.
        let q : a ≡ b = same w n a b (subst (λ (u : ℕ). slice_get w u ≡ Some a) l s) t in
        less_irrefl b.bound (subst (λ (u : NodeInfo). IsLess b.bound u.bound) q i)

    ties : (k : ℕ) (a b : NodeInfo) → (k < n) ⊎ (k ≡ n) → slice_get w k ≡ Some a → slice_get w n ≡ Some b → IsLess a.bound b.bound ⊎ (b.number ≤ a.number)
    ties k a b (inl l) s t =
        let q : y ≡ b = same w n y b f t in
        inl (less_of_not a.bound x.bound b.bound (m.best k a x l s e) (subst (λ (u : NodeInfo). IsLess x.bound u.bound) q h))
    ties k a b (inr l) s t =
        let q : a ≡ b = same w n a b (subst (λ (u : ℕ). slice_get w u ≡ Some a) l s) t in
        inr (subst (λ (u : NodeInfo). b.number ≤ u.number) (sym q) (omega arith))

-- it has none
pub greater_stays : (w : List NodeInfo) (n p : ℕ) (x y : NodeInfo) → IsRising w → p < n → NamesAmong best_first w n p → slice_get w p ≡ Some x
    → slice_get w n ≡ Some y → ¬ (IsLess x.bound y.bound) → NamesAmong best_first w (n + 1) p
greater_stays w n p x y r o m e f h = record {
  place = omega arith;
  best = λ k a b l s t. best k a b (halves k n l) s t;
  ties = λ k a b l s t. ties k a b (halves k n l) s t;
}
  where
    best : (k : ℕ) (a b : NodeInfo) → (k < n) ⊎ (k ≡ n) → slice_get w k ≡ Some a → slice_get w p ≡ Some b → ¬ (IsLess b.bound a.bound)
    best k a b (inl l) s t = m.best k a b l s t
    best k a b (inr l) s t =
        λ i. let q : y ≡ a = same w n y a f (subst (λ (u : ℕ). slice_get w u ≡ Some a) l s) in
        let z : x ≡ b = same w p x b e t in
        h (subst (λ (u : NodeInfo). IsLess u.bound y.bound) (sym z) (subst (λ (u : NodeInfo). IsLess b.bound u.bound) (sym q) i))

    ties : (k : ℕ) (a b : NodeInfo) → (k < n) ⊎ (k ≡ n) → slice_get w k ≡ Some a → slice_get w p ≡ Some b → IsLess a.bound b.bound ⊎ (b.number ≤ a.number)
    ties k a b (inl l) s t = m.ties k a b l s t
    ties k a b (inr l) s t = let z : b.number < a.number = r p k b a (omega (arith, l, o)) t s in inr (omega (arith, z))

-- the first node alone
pub greater_first : (w : List NodeInfo) → NamesAmong best_first w 1 0
greater_first w = record {
  place = omega arith;
  best = λ k a b l s t. λ i. less_irrefl b.bound (subst (λ (u : NodeInfo). IsLess b.bound u.bound) (one k a b l s t) i);
  ties = λ k a b l s t. inr (subst (λ (u : NodeInfo). b.number ≤ u.number) (sym (one k a b l s t)) (omega arith));
}
  where
    one : (k : ℕ) (a b : NodeInfo) → k < 1 → slice_get w k ≡ Some a → slice_get w 0 ≡ Some b → a ≡ b
    one k a b l s t = let z : k ≡ 0 = omega arith in same w 0 a b (subst (λ (u : ℕ). slice_get w u ≡ Some a) z s) t
