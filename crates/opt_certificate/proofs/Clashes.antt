-- Two decisions of a group that are fixed to one number leave no point.
use Rattle.std.proofs.Common.{◌≡◌, ℕ, zero, suc, sym, ap, ◌∙◌, subst, true, List, [], ◌∷◌, get_or, Some}
use Rattle.std.specs.Prelude.{slice_get}
use Rattle.std.specs.List.{AllByRecursion}
use Rattle.std.proofs.lemmas.List.Elements.{recursion_from_All}
use Rattle.fractions.specs.Rational.{ℚ}
use Rattle.fractions.specs.Vectors.{at}
use Rattle.fractions.proofs.Order.{le_antisymm}
use Rattle.optimality.specs.Problem.{Assignment}
use Rattle.optimality.specs.Groups.{AreDifferent}
use Rattle.linear_models.specs.Box.{Box, InBox}
use Rattle.linear_models.specs.Statement.{is_in}
use Rattle.linear_models.proofs.Groups.{place_of}
use Rattle.opt_certificate.specs.Clashes.{IsFixedTo, ClashLeavesNoPoint}

-- what holds of each group holds of the one at a place
pub group_at : (P : List ℕ → Type 0) (gs : List (List ℕ)) (k : ℕ) (g : List ℕ) → AllByRecursion P gs → slice_get gs k ≡ Some g → P g
group_at P [] k g h e = absurd cc
group_at P (x ∷ gs) zero g h e = subst P (same x g e) h.0
  where
    same : (a b : List ℕ) → Some a ≡ Some b → a ≡ b
    same a b e = cc
group_at P (x ∷ gs) (suc k) g h e = group_at P gs k g h.1 e

-- decisions of a group that hold the same number are one
pub same_decision : (a : Assignment) (g : List ℕ) (i j : ℕ) → AreDifferent a g → is_in i g ≡ true → is_in j g ≡ true → at a i ≡ at a j → i ≡ j
same_decision a g i j d p q e =
    let x = place_of i g p in
    let y = place_of j g q in
    sym x.2 ∙ ap (λ k. get_or g k 0) (d.apart x.0 y.0 x.1 y.1 (ap (at a) x.2 ∙ e ∙ sym (ap (at a) y.2))) ∙ y.2

-- a decision between one number and itself
pub fixed_at : (box : Box) (i : ℕ) (v : ℚ) (a : Assignment) → InBox box a → IsFixedTo box i v → at a i ≡ v
fixed_at box i v a h f = le_antisymm _ _ (h.greatest i v f.greatest) (h.least i v f.least)

pub clash_leaves_no_point : ClashLeavesNoPoint
clash_leaves_no_point groups box i j a c h d =
    c.differ (same_decision a c.shared.group i j (group_at (AreDifferent a) groups c.shared.place c.shared.group (recursion_from_All _ groups d) c.shared.group_is) c.shared.one c.shared.other
    (fixed_at box i c.fixed.value a h c.fixed.one ∙ sym (fixed_at box j c.fixed.value a h c.fixed.other)))
