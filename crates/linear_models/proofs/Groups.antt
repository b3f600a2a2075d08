-- What groups ask: of the decisions of each different numbers, and of each decision a whole number from 1 to as many as the group has.
use Rattle.std.proofs.Common.{◌≡◌, ◌↔◌, ◌⊎◌, inl, inr, ℕ, zero, suc, ◌<◌, true, refl, subst, List, [], ◌∷◌, length, get_or, eqb, arith, pos}
use Rattle.std.specs.Prelude.{flat_map}
use Rattle.std.specs.List.{AllByRecursion}
use Rattle.std.proofs.lemmas.Bool.{eqb-true, eq-eqb}
use Rattle.std.proofs.lemmas.List.Elements.{recursion_from_All}
use Rattle.fractions.specs.Rational.{ℚ, one_ℚ, ◌≤ℚ◌}
use Rattle.fractions.specs.Vectors.{at}
use Rattle.fractions.specs.Whole.{whole_ℚ}
use Rattle.optimality.specs.Problem.{Assignment}
use Rattle.optimality.specs.Groups.{AreDifferent, HoldsEachOnce}
use Rattle.optimality.specs.Optimal.{IsWhole}
use Rattle.optimality.specs.EachOnce.{AreInRange}
use Rattle.optimality.proofs.Permutations.{different_in_range_is_each_once}
use Rattle.linear_models.specs.Statement.{is_in, is_grouped}
use Rattle.linear_models.specs.Bounds.{size_in}
use Rattle.linear_models.specs.Agreement.{IsGroupIn}
use Rattle.linear_models.proofs.Members.{or_cases, or_left, or_right, member_has}
use Rattle.linear_models.proofs.Tightest.{AllAbove, where_above}
use Rattle.linear_models.proofs.Sides.{parts_above}

-- ---- places of a list
-- a number of the list stands at a place
pub place_of : (j : ℕ) (js : List ℕ) → is_in j js ≡ true → (i : ℕ) × (i < length js) × (get_or js i 0 ≡ j)
place_of j [] e = cc
place_of j (k ∷ js) e = cases (or_cases (eqb k j) (is_in j js) e) (place_of j js)
  where
    cases : (eqb k j ≡ true) ⊎ (is_in j js ≡ true) → (is_in j js ≡ true → (i : ℕ) × (i < length js) × (get_or js i 0 ≡ j)) → (i : ℕ) × (i < suc (length js)) × (get_or (k ∷ js) i 0 ≡ j)
    cases (inl q) f = (0, omega arith, eqb-true k j q)
    cases (inr q) f = let p = f q in let l : p.0 < length js = p.1 in (suc p.0, omega (arith, l), p.2)

-- and a place's number is one of the list
pub in_at : (i : ℕ) (js : List ℕ) → i < length js → is_in (get_or js i 0) js ≡ true
in_at i [] h = absurd (omega (arith, h))
in_at zero (k ∷ js) h = or_left (eqb k k) (is_in k js) (eq-eqb k k refl)
in_at (suc i) (k ∷ js) h = or_right (eqb k (get_or js i 0)) (is_in (get_or js i 0) js) (in_at i js (omega (arith, h)))

-- ---- what a group asks of a decision, by its number
pub record Asks (a : Assignment) (n j : ℕ) : Type 0 where
  pub whole : IsWhole (at a j)
  pub least : one_ℚ ≤ℚ at a j
  pub greatest : at a j ≤ℚ whole_ℚ (pos n)

abbrev pub GroupAsks : Assignment → List ℕ → Type 0
GroupAsks a g = (j : ℕ) → is_in j g ≡ true → Asks a (length g) j

-- a decision's number is at most the sizes of the groups that have it
abbrev pub IsWithinSizes : ℕ → ℚ → List ℕ → Type 0
IsWithinSizes j x g = is_in j g ≡ true → x ≤ℚ whole_ℚ (pos (length g))

range_is : (a : Assignment) (g : List ℕ) → AreInRange a g ↔ GroupAsks a g
range_is a g = (
  λ r j e. let p = place_of j g e in subst (Asks a (length g)) p.2 record { whole = r.whole p.0 p.1; least = r.least p.0 p.1; greatest = r.greatest p.0 p.1 },
  λ h. record { whole = λ i l. (h (get_or g i 0) (in_at i g l)).whole; least = λ i l. (h (get_or g i 0) (in_at i g l)).least; greatest = λ i l. (h (get_or g i 0) (in_at i g l)).greatest },
)

pub each_once : (a : Assignment) (gs : List (List ℕ)) → AllByRecursion (HoldsEachOnce a) gs ↔ (AllByRecursion (GroupAsks a) gs × AllByRecursion (AreDifferent a) gs)
each_once a [] = (λ h. (tt, tt), λ h. tt)
each_once a (g ∷ gs) =
    let d = different_in_range_is_each_once a g in
    let r = range_is a g in
    let m = each_once a gs in (
      λ h. ((r.0 (d.0 h.0).0, (m.0 h.1).0), ((d.0 h.0).1, (m.0 h.1).1)),
      λ h. (d.1 (r.1 h.0.0, h.1.0), m.1 (h.0.1, h.1.1)),
    )

pub sizes_above : (j : ℕ) (gs : List (List ℕ)) (x : ℚ) → AllAbove (flat_map (size_in j) gs) x ↔ AllByRecursion (IsWithinSizes j x) gs
sizes_above j [] x = (λ h. tt, λ h. tt)
sizes_above j (g ∷ gs) x =
    let p = parts_above (size_in j g) (flat_map (size_in j) gs) x in
    let w = where_above (is_in j g) (whole_ℚ (pos (length g))) x in
    let r = sizes_above j gs x in
    (λ h. (w.0 (p.0 h).0, r.0 (p.0 h).1), λ h. p.1 (w.1 h.0, r.1 h.1))

-- ---- from each group to a decision that is in one
pub grouped_asks : (a : Assignment) (P : ℕ → Type 0) (j : ℕ) (gs : List (List ℕ)) → AllByRecursion (GroupAsks a) gs → ((n : ℕ) → Asks a n j → P j) → is_grouped j gs ≡ true → P j
grouped_asks a P j [] h f e = cc
grouped_asks a P j (g ∷ gs) h f e = cases (or_cases (is_in j g) (is_grouped j gs) e) (grouped_asks a P j gs h.1 f)
  where
    cases : (is_in j g ≡ true) ⊎ (is_grouped j gs ≡ true) → (is_grouped j gs ≡ true → P j) → P j
    cases (inl q) k = f (length g) (h.0 j q)
    cases (inr q) k = k q

pub all_greatest : (a : Assignment) (j : ℕ) (gs : List (List ℕ)) → AllByRecursion (GroupAsks a) gs → AllByRecursion (IsWithinSizes j (at a j)) gs
all_greatest a j [] h = tt
all_greatest a j (g ∷ gs) h = (λ e. (h.0 j e).greatest, all_greatest a j gs h.1)

-- ---- and back: each decision of a group is in one of all groups
pub all_asked : (a : Assignment) (gs all : List (List ℕ)) (n : ℕ) → AllByRecursion (IsGroupIn n) gs → ((j : ℕ) → is_grouped j gs ≡ true → is_grouped j all ≡ true)
    → ((j : ℕ) → j < n → is_grouped j all ≡ true → IsWhole (at a j) × (one_ℚ ≤ℚ at a j))
    → ((j : ℕ) → j < n → AllByRecursion (IsWithinSizes j (at a j)) gs)
    → AllByRecursion (GroupAsks a) gs
all_asked a [] all n m f w u = tt
all_asked a (g ∷ gs) all n m f w u = (one, all_asked a gs all n m.1 (λ j q. f j (or_right (is_in j g) (is_grouped j gs) q)) w (λ j l. (u j l).1))
  where
    one : GroupAsks a g
    one j e =
        let l : j < n = member_has (λ j. j < n) g j (recursion_from_All (λ j. j < n) g m.0.below) e in
        let k = w j l (f j (or_left (is_in j g) (is_grouped j gs) e)) in
        record { whole = k.0; least = k.1; greatest = (u j l).0 e }
