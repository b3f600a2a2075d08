-- Finding the first two decisions of a group that hold the same number.
use Rattle.std.specs.Prelude.{All, Vec, slice_get}
use Rattle.std.specs.Global.{Global}
use Rattle.std.specs.List.{AllByRecursion}
use Rattle.std.proofs.Common.{◌≡◌, ◌⊎◌, inl, inr, ℕ, zero, suc, ◌+◌, ◌<◌, ◌≤◌, true, List, [], ◌∷◌, length, get_or, None, Some, refl, sym, ap, ◌∙◌, subst, arith}
use Rattle.std.proofs.lemmas.List.Elements.{All-from_get_or, All-from_recursion, recursion_from_All}
use Rattle.fractions.specs.Vectors.{at}
use Rattle.optimality.specs.Problem.{Assignment}
use Rattle.optimality.specs.Groups.{AreDifferent}
use Rattle.linear_models.specs.Box.{Box}
use Rattle.linear_models.specs.Model.{Model, IsGroupOf, IsValid}
use Rattle.linear_models.specs.Statement.{IsOnce, is_grouped, is_in}
use Rattle.linear_models.proofs.Members.{member_has, or_cases, or_left, or_right}
use Rattle.lin_model.specs.Lists.{lists_of}
use Rattle.opt_certificate.proofs.Clashes.{group_at}
use Rattle.opt_certificate.proofs.Trees.{marked_within}
use Rattle.searches.specs.Alike.{AreAlike, AreFirstAlike, HasTwoBounds}
use Rattle.searches.specs.Trees.{Part, box_along}
use Rattle.searches.proofs.Alike.{alike_or_different}
use Rattle.searches.proofs.GroupBounds.{group_bounds}
use Rattle.search_ends.specs.Pairs.{IsPartner, IsFirstPair}

within : (g : List ℕ) (n j : ℕ) → All (λ j. j < n) g → is_in j g ≡ true → j < n
within g n j h e = member_has (λ j. j < n) g j (recursion_from_All (λ j. j < n) g h) e

or_above : (b n : ℕ) → (b < n) ⊎ (n ≤ b)
or_above b n = grind arith

-- ---- the partner of a decision
pub first_partner : (x : Assignment) (g : List ℕ) (one other : ℕ) → is_in one g ≡ true → is_in other g ≡ true → one < other → at x one ≡ at x other → ((j : ℕ) → j < other → ¬ (AreAlike x g one j))
    → IsPartner x g one other
first_partner x g one other p q l e n = record {
  alike = record { one = p; other = q; before = l; same = e };
  least = λ b a. elim (or_above b other) [ inl k ↦ absurd (n b k a) | inr k ↦ k ];
}

pub no_partner : (x : Assignment) (g : List ℕ) (n one : ℕ) → All (λ j. j < n) g → ((j : ℕ) → j < n → ¬ (AreAlike x g one j)) → (j : ℕ) → ¬ (AreAlike x g one j)
no_partner x g n one b h j a = h j (within g n j b a.other) a

-- ---- the first pair of a group
pub first_found : (x : Assignment) (g : List ℕ) (one other : ℕ) → IsPartner x g one other → ((i j : ℕ) → i < one → ¬ (AreAlike x g i j)) → IsFirstPair x g one other
first_found x g one other p n = record { partner = p; first = λ a b k. elim (or_above a one) [ inl l ↦ absurd (n a b l k) | inr l ↦ l ] }

pub no_pair : (x : Assignment) (g : List ℕ) (n : ℕ) → All (λ j. j < n) g → ((i j : ℕ) → i < n → ¬ (AreAlike x g i j)) → (i j : ℕ) → ¬ (AreAlike x g i j)
no_pair x g n b h i j a = h i j (within g n i b a.one) a

-- ---- of all groups
pub alike_found : (x : Assignment) (gs : List (List ℕ)) (k : ℕ) (g : List ℕ) (i j : ℕ) → slice_get gs k ≡ Some g → ((n : ℕ) (h : List ℕ) (a b : ℕ) → n < k → slice_get gs n ≡ Some h → AreAlike x h a b → ⊥) → IsFirstPair x g i j
    → AreFirstAlike x gs i j
alike_found x gs k g i j e n p = record { place = k; group = g; group_is = e; alike = p.partner.alike; first_group = n; least = p.first; then_least = p.partner.least }

all_once : (m : Model) (gs : List (List ℕ)) → AllByRecursion (IsGroupOf m) gs → AllByRecursion IsOnce gs
all_once m [] h = tt
all_once m (g ∷ gs) h = (h.0.once, all_once m gs h.1)

pub all_different : (m : Model) (x : Assignment) → IsValid m → ((n : ℕ) (h : List ℕ) (a b : ℕ) → slice_get m.groups n ≡ Some h → AreAlike x h a b → ⊥) → All (AreDifferent x) m.groups
all_different m x v n = elim (alike_or_different.either x m.groups (All-from_recursion IsOnce m.groups (all_once m m.groups (recursion_from_All (IsGroupOf m) m.groups v.groups)))) [
  | inl d ↦ d
  | inr f ↦ absurd (n f.2.place f.2.group f.0 f.1 f.2.group_is f.2.alike)
]

-- ---- the groups of a model
pub at_place : (vs : List (Vec ℕ Global)) (k : ℕ) (v : Vec ℕ Global) → k < length vs → v ≡ get_or vs k v → slice_get (lists_of vs) k ≡ Some v.items
at_place [] k v l e = absurd (omega (arith, l))
at_place (w ∷ vs) zero v l e = ap (λ (u : Vec ℕ Global). Some u.items) (sym e)
at_place (w ∷ vs) (suc k) v l e = at_place vs k v (omega (arith, l)) e

pub group_below : (m : Model) (n k : ℕ) (g : List ℕ) → IsValid m → n ≡ length m.whole → slice_get m.groups k ≡ Some g → All (λ j. j < n) g
group_below m n k g v e q =
    let h = group_at (IsGroupOf m) m.groups k g (recursion_from_All _ m.groups v.groups) q in
    All-from_get_or (λ j. j < n) g 0 (λ i l. let b = marked_within m.whole (get_or g i 0) (h.marked i l) in omega (arith, b, e))

same_group : (g h : List ℕ) → Some g ≡ Some h → h ≡ g
same_group g h e = cc

-- one group more has no two that are alike
pub none_more : (x : Assignment) (gs : List (List ℕ)) (k : ℕ) (g : List ℕ) → slice_get gs k ≡ Some g → ((n : ℕ) (h : List ℕ) (a b : ℕ) → n < k → slice_get gs n ≡ Some h → AreAlike x h a b → ⊥) → ((i j : ℕ) → ¬ (AreAlike x g i j))
    → (n : ℕ) (h : List ℕ) (a b : ℕ) → n < k + 1 → slice_get gs n ≡ Some h → AreAlike x h a b → ⊥
none_more x gs k g e before here n h a b l q p = elim (or_last n k l) [
  | inl m ↦ before n h a b m q p
  | inr m ↦ here a b (subst (λ (h : List ℕ). AreAlike x h a b) (same_group g h (sym e ∙ ap (slice_get gs) (sym m) ∙ q)) p)
]
  where
    or_last : (n k : ℕ) → n < k + 1 → (n < k) ⊎ (n ≡ k)
    or_last n k l = grind arith

pub place_within : {X : Type 0} (xs : List X) (n : ℕ) (x : X) → slice_get xs n ≡ Some x → n < length xs
place_within [] n x e = absurd cc
place_within (y ∷ xs) zero x e = omega arith
place_within (y ∷ xs) (suc n) x e = let l = place_within xs n x e in omega (arith, l)

-- ---- decisions that are in a group
pub grouped : (j k : ℕ) (g : List ℕ) (gs : List (List ℕ)) → slice_get gs k ≡ Some g → is_in j g ≡ true → is_grouped j gs ≡ true
grouped j k g [] e i = absurd cc
grouped j zero g (h ∷ gs) e i = or_left (is_in j h) (is_grouped j gs) (subst (λ (h : List ℕ). is_in j h ≡ true) (same_group h g e) i)
grouped j (suc k) g (h ∷ gs) e i = or_right (is_in j h) (is_grouped j gs) (grouped j k g gs e i)

pub group_of : (j : ℕ) (gs : List (List ℕ)) → is_grouped j gs ≡ true → (k : ℕ) × (g : List ℕ) × (slice_get gs k ≡ Some g) × (is_in j g ≡ true)
group_of j [] e = cc
group_of j (g ∷ gs) e = elim (or_cases (is_in j g) (is_grouped j gs) e) [
  | inl i ↦ (0, g, refl, i)
  | inr i ↦ let h = group_of j gs i in (suc h.0, h.1, h.2, h.3)
]

pub bounds_in : (m : Model) (path : List Part) (box : Box) (j : ℕ) → IsValid m → box ≡ box_along m.bounds path → is_grouped j m.groups ≡ true → HasTwoBounds box j
bounds_in m path box j v e i =
    let h = group_of j m.groups i in
    subst (λ (b : Box). HasTwoBounds b j) (sym e) (group_bounds m record { number = 0; path = path; bound = None } h.0 h.1 j v h.2 h.3)
