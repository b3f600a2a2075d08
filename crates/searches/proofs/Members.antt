-- Which nodes stand in a list.
use Rattle.std.proofs.Common.{◌≡◌, ℕ, suc, zero, ◌≤◌, ap, List, [], ◌∷◌, ◌++◌, arith, ◌⊎◌, inl, inr}
use Rattle.std.specs.Prelude.{Some, slice_get}
use Rattle.std.specs.List.{remove}
use Rattle.searches.specs.Trails.{waiting_after}
use Rattle.searches.specs.Trees.{Node, End, empty, beaten, whole, split, clash, endless, new_nodes}

abbrev pub In : List Node → Node → Type 0
In [] n = ⊥
In (m ∷ ms) n = (m ≡ n) ⊎ In ms n

pub in_left : (a b : List Node) (n : Node) → In a n → In (a ++ b) n
in_left [] b n h = absurd h
in_left (m ∷ a) b n (inl e) = inl e
in_left (m ∷ a) b n (inr h) = inr (in_left a b n h)

pub in_right : (a b : List Node) (n : Node) → In b n → In (a ++ b) n
in_right [] b n h = h
in_right (m ∷ a) b n h = inr (in_right a b n h)

pub in_cases : (a b : List Node) (n : Node) → In (a ++ b) n → In a n ⊎ In b n
in_cases [] b n h = inr h
in_cases (m ∷ a) b n (inl e) = inl (inl e)
in_cases (m ∷ a) b n (inr h) = elim (in_cases a b n h) [ inl k ↦ inl (inr k) | inr k ↦ inr k ]

pub in_place : (ms : List Node) (p : ℕ) (n : Node) → slice_get ms p ≡ Some n → In ms n
in_place [] p n e = absurd cc
in_place (m ∷ ms) zero n e = inl cc
in_place (m ∷ ms) (suc p) n e = inr (in_place ms p n e)

-- a node of the list is the one at the place, or stays
pub in_rest : (ms : List Node) (p : ℕ) (n m : Node) → slice_get ms p ≡ Some m → In ms n → (m ≡ n) ⊎ In (remove ms p) n
in_rest [] p n m e h = absurd h
in_rest (k ∷ ms) zero n m e (inl q) = inl cc
in_rest (k ∷ ms) zero n m e (inr i) = inr i
in_rest (k ∷ ms) (suc p) n m e (inl q) = inr (inl q)
in_rest (k ∷ ms) (suc p) n m e (inr i) = elim (in_rest ms p n m e i) [ inl q ↦ inl q | inr j ↦ inr (inr j) ]

-- the parts have the next numbers
pub new_from : (n : ℕ) (node : Node) (e : End) (k : Node) → In (new_nodes n node e) k → n ≤ k.number
new_from n node empty k h = absurd h
new_from n node (beaten v) k h = absurd h
new_from n node (whole x v) k h = absurd h
new_from n node (clash i j v) k h = absurd h
new_from n node (split j f v) k (inl e) = let q = ap (λ (u : Node). u.number) e in omega (arith, q)
new_from n node (split j f v) k (inr (inl e)) = let q = ap (λ (u : Node). u.number) e in omega (arith, q)
new_from n node (split j f v) k (inr (inr h)) = absurd h
new_from n node (endless x w) k (inl e) = let q = ap (λ (u : Node). u.number) e in omega (arith, q)
new_from n node (endless x w) k (inr h) = absurd h

-- what waits after an end has waited, or is new
pub in_after : (e : End) (ns ms : List Node) (n : Node) → In (waiting_after e ns ms) n → In ns n ⊎ In ms n
in_after empty ns ms n h = in_cases ns ms n h
in_after (beaten v) ns ms n h = in_cases ns ms n h
in_after (whole x v) ns ms n h = in_cases ns ms n h
in_after (split j f v) ns ms n h = in_cases ns ms n h
in_after (clash i j v) ns ms n h = in_cases ns ms n h
in_after (endless x w) ns ms n h = inr h

pub new_after : (e : End) (ns ms : List Node) (n : Node) → In ms n → In (waiting_after e ns ms) n
new_after empty ns ms n h = in_right ns ms n h
new_after (beaten v) ns ms n h = in_right ns ms n h
new_after (whole x v) ns ms n h = in_right ns ms n h
new_after (split j f v) ns ms n h = in_right ns ms n h
new_after (clash i j v) ns ms n h = in_right ns ms n h
new_after (endless x w) ns ms n h = h

-- what is left was there
pub in_removed : (ns : List Node) (p : ℕ) (n : Node) → In (remove ns p) n → In ns n
in_removed [] zero n h = h
in_removed [] (suc p) n h = h
in_removed (m ∷ ns) zero n h = inr h
in_removed (m ∷ ns) (suc p) n (inl e) = inl e
in_removed (m ∷ ns) (suc p) n (inr h) = inr (in_removed ns p n h)
