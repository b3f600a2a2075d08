-- Parts of boxes: their sizes, their points and their bounds.
use Rattle.std.proofs.Common.{◌≡◌, ◌≢◌, ℕ, ◌<◌, ◌≤◌, refl, sym, ap, ◌∙◌, subst, List, [], ◌∷◌, ◌++◌, length, get_or, set, arith, Bool, true, false, cond, ◌⊎◌, inl, inr, get_or-set_same, get_or-set_other, length-set}
use Rattle.std.specs.Prelude.{Option, Some, None, pos, ◌+ℤ◌}
use Rattle.std.proofs.lemmas.List.{set_past}
use Rattle.fractions.specs.Rational.{ℚ, ◌≤ℚ◌, le_ℚ}
use Rattle.fractions.specs.Vectors.{at}
use Rattle.fractions.specs.Whole.{whole_ℚ}
use Rattle.fractions.proofs.Order.{le_trans, le_of_lt}
use Rattle.fractions.proofs.Tests.{le_iff, le_or_lt}
use Rattle.optimality.specs.Problem.{Assignment}
use Rattle.linear_models.specs.Box.{Box, InBox, bound_at, lesser, greater}
use Rattle.linear_models.specs.Model.{Model}
use Rattle.linear_models.specs.Laws.{IsBoxOf}
use Rattle.searches.specs.Trees.{Part, lower, upper, part_of, box_along}

-- ---- sizes
part_is_box : (m : Model) (box : Box) (p : Part) → IsBoxOf m box → IsBoxOf m (part_of box p)
part_is_box m box (lower j f) b = record { least = b.least; greatest = length-set box.greatest j _ ∙ b.greatest }
part_is_box m box (upper j f) b = record { least = length-set box.least j _ ∙ b.least; greatest = b.greatest }

pub along_is_box : (m : Model) (box : Box) (ps : List Part) → IsBoxOf m box → IsBoxOf m (box_along box ps)
along_is_box m box [] b = b
along_is_box m box (p ∷ ps) b = along_is_box m (part_of box p) ps (part_is_box m box p b)

pub along-append : (box : Box) (ps : List Part) (p : Part) → box_along box (ps ++ p ∷ []) ≡ part_of (box_along box ps) p
along-append box [] p = refl
along-append box (q ∷ ps) p = along-append (part_of box q) ps p

-- ---- a bound after one has been put in: the new one at its place, or as before
data Written (os : List (Option ℚ)) (j : ℕ) (c : ℚ) (i : ℕ) : Type 0 where
  here : i ≡ j → bound_at (set os j (Some c)) i ≡ Some c → Written os j c i
  before : bound_at (set os j (Some c)) i ≡ bound_at os i → Written os j c i

written : (os : List (Option ℚ)) (j : ℕ) (c : ℚ) (i : ℕ) → Written os j c i
written os j c i = cases (same_or_not i j) (within_or_past j (length os))
  where
    same_or_not : (i j : ℕ) → (i ≡ j) ⊎ (i ≢ j)
    same_or_not i j = grind arith

    within_or_past : (j n : ℕ) → (j < n) ⊎ (n ≤ j)
    within_or_past j n = grind arith

    cases : (i ≡ j) ⊎ (i ≢ j) → (j < length os) ⊎ (length os ≤ j) → Written os j c i
    cases (inl e) (inl l) = here e (ap (λ k. get_or (set os j (Some c)) k None) e ∙ get_or-set_same os j (Some c) None l)
    cases (inl e) (inr l) = before (ap (λ xs. get_or xs i None) (set_past os j (Some c) l))
    cases (inr n) l = before (get_or-set_other os j i (Some c) None n)

some_is : {x y : ℚ} → Some x ≡ Some y → x ≡ y
some_is e = cc

-- ---- a point of a part is one of the box
below_lesser : (b f x : ℚ) → x ≤ℚ lesser (Some b) f → x ≤ℚ b
below_lesser b f x h = cases (le_ℚ b f) refl h
  where
    cases : (v : Bool) → le_ℚ b f ≡ v → x ≤ℚ cond v b f → x ≤ℚ b
    cases true e k = k
    cases false e k = elim (le_or_lt b f) [
      | inl l ↦ let t : le_ℚ b f ≡ true = (le_iff b f).1 l in absurd cc
      | inr l ↦ le_trans x f b k (le_of_lt f b l)
    ]

above_greater : (b f x : ℚ) → greater (Some b) f ≤ℚ x → b ≤ℚ x
above_greater b f x h = cases (le_ℚ f b) refl h
  where
    cases : (v : Bool) → le_ℚ f b ≡ v → cond v b f ≤ℚ x → b ≤ℚ x
    cases true e k = k
    cases false e k = elim (le_or_lt f b) [
      | inl l ↦ let t : le_ℚ f b ≡ true = (le_iff f b).1 l in absurd cc
      | inr l ↦ le_trans b f x (le_of_lt b f l) k
    ]

in_whole : (box : Box) (p : Part) (a : Assignment) → InBox (part_of box p) a → InBox box a
in_whole box (lower j f) a h = record { least = h.least; greatest = λ i b e. high i b e (written box.greatest j _ i) }
  where
    high : (i : ℕ) (b : ℚ) → bound_at box.greatest i ≡ Some b → Written box.greatest j (lesser (bound_at box.greatest j) (whole_ℚ f)) i → at a i ≤ℚ b
    high i b e (here q w) =
        let k : at a i ≤ℚ lesser (bound_at box.greatest j) (whole_ℚ f) = h.greatest i _ w in
        below_lesser b (whole_ℚ f) (at a i) (subst (λ o. at a i ≤ℚ lesser o (whole_ℚ f)) (sym (ap (bound_at box.greatest) q) ∙ e) k)
    high i b e (before w) = h.greatest i b (w ∙ e)
in_whole box (upper j f) a h = record { least = λ i b e. low i b e (written box.least j _ i); greatest = h.greatest }
  where
    low : (i : ℕ) (b : ℚ) → bound_at box.least i ≡ Some b → Written box.least j (greater (bound_at box.least j) (whole_ℚ (f +ℤ pos 1))) i → b ≤ℚ at a i
    low i b e (here q w) =
        let k : greater (bound_at box.least j) (whole_ℚ (f +ℤ pos 1)) ≤ℚ at a i = h.least i _ w in
        above_greater b (whole_ℚ (f +ℤ pos 1)) (at a i) (subst (λ o. greater o (whole_ℚ (f +ℤ pos 1)) ≤ℚ at a i) (sym (ap (bound_at box.least) q) ∙ e) k)
    low i b e (before w) = h.least i b (w ∙ e)

pub in_whole_along : (box : Box) (ps : List Part) (a : Assignment) → InBox (box_along box ps) a → InBox box a
in_whole_along box [] a h = h
in_whole_along box (p ∷ ps) a h = in_whole box p a (in_whole_along (part_of box p) ps a h)

-- ---- what is bounded in a box is bounded in its parts
pub record StaysBounded (outer inner : Box) : Type 0 where
  pub least : (i : ℕ) (b : ℚ) → bound_at outer.least i ≡ Some b → (c : ℚ) × (bound_at inner.least i ≡ Some c)
  pub greatest : (i : ℕ) (b : ℚ) → bound_at outer.greatest i ≡ Some b → (c : ℚ) × (bound_at inner.greatest i ≡ Some c)

still : (os : List (Option ℚ)) (j : ℕ) (x : ℚ) (i : ℕ) (b : ℚ) → bound_at os i ≡ Some b → (c : ℚ) × (bound_at (set os j (Some x)) i ≡ Some c)
still os j x i b e = elim (written os j x i) [ here q w ↦ (x, w) | before w ↦ (b, w ∙ e) ]

part_bounded : (box : Box) (p : Part) → StaysBounded box (part_of box p)
part_bounded box (lower j f) = record { least = λ i b e. (b, e); greatest = λ i b e. still box.greatest j _ i b e }
part_bounded box (upper j f) = record { least = λ i b e. still box.least j _ i b e; greatest = λ i b e. (b, e) }

pub along_bounded : (box : Box) (ps : List Part) → StaysBounded box (box_along box ps)
along_bounded box [] = record { least = λ i b e. (b, e); greatest = λ i b e. (b, e) }
along_bounded box (p ∷ ps) =
    let one = part_bounded box p in
    let more = along_bounded (part_of box p) ps in
    record { least = λ i b e. let k = one.least i b e in more.least i k.0 k.1; greatest = λ i b e. let k = one.greatest i b e in more.greatest i k.0 k.1 }
