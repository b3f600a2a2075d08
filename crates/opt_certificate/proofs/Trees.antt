-- What a tree proves holds of every point of its box.
use Rattle.std.proofs.Common.{◌≡◌, ℕ, zero, suc, ◌<◌, Bool, true, false, sym, ap, ◌∙◌, List, [], ◌∷◌, length, Option, Some, None, arith, subst, ⊎_elim, length-set, pos, ◌+ℤ◌}
use Rattle.std.specs.Prelude.{All}
use Rattle.fractions.specs.Rational.{ℚ, ◌≤ℚ◌}
use Rattle.fractions.specs.Whole.{whole_ℚ}
use Rattle.fractions.specs.Vectors.{at}
use Rattle.optimality.specs.Problem.{Assignment}
use Rattle.optimality.specs.Groups.{AreDifferent}
use Rattle.linear_models.specs.Worths.{form_at}
use Rattle.linear_models.specs.Box.{Box, InBox}
use Rattle.linear_models.specs.Model.{Model, IsValid, RowHolds, AreWhole, is_whole_at, maximised}
use Rattle.linear_programs.proofs.LeafProofs.{leaf_proofs_hold}
use Rattle.linear_models.specs.Standard.{standard}
use Rattle.linear_models.specs.Laws.{IsBoxOf, IsBoxPoint}
use Rattle.opt_certificate.specs.Certificate.{Tree, split, best, empty, clash, Proves, ProvesBest, ProvesEmpty, lower_child, upper_child}
use Rattle.linear_models.proofs.Points.{standard_keeps_points}
use Rattle.opt_certificate.proofs.Parts.{in_lower, in_upper, sides}
use Rattle.opt_certificate.proofs.Clashes.{clash_leaves_no_point}

-- what is proved of a point
abbrev pub Below : Option ℚ → ℚ → Type 0
Below None x = ⊥
Below (Some b) x = x ≤ℚ b

pub marked_within : (marks : List Bool) (j : ℕ) → is_whole_at marks j ≡ true → j < length marks
marked_within [] j e = cc
marked_within (b ∷ marks) zero e = omega arith
marked_within (b ∷ marks) (suc j) e = let k : j < length marks = marked_within marks j e in omega arith

of_best : (m : Model) (target : Option ℚ) (box : Box) (ys : List ℚ) (a : Assignment) → IsValid m → IsBoxOf m box → IsBoxPoint m box a → ProvesBest m target box ys → Below target (form_at (maximised m.goal m.objective) a)
of_best m None box ys a v s p h = h
of_best m (Some b) box ys a v s p h =
    let g = standard_keeps_points.points m box false v s in
    let y = (g.points a).1 p in
    subst (λ t. t ≤ℚ b) (g.objective y.0 ∙ ap (form_at (maximised m.goal m.objective)) (sym y.2)) (leaf_proofs_hold.bounds (standard m box false) y.0 ys b y.1 h.1)

of_empty : (m : Model) (box : Box) (ys : List ℚ) (a : Assignment) → IsValid m → IsBoxOf m box → IsBoxPoint m box a → ProvesEmpty m box ys → ⊥
of_empty m box ys a v s p h = let y = ((standard_keeps_points.points m box false v s).points a).1 p in leaf_proofs_hold.contradictory (standard m box false) y.0 ys y.1 h.1

pub tree_proves : (m : Model) (target : Option ℚ) (box : Box) (t : Tree) (a : Assignment) → IsValid m → IsBoxOf m box
    → length a ≡ length m.whole → All (RowHolds a) m.rows → AreWhole m.whole a → All (AreDifferent a) m.groups → InBox box a → Proves m target box t → Below target (form_at (maximised m.goal m.objective) a)
tree_proves m target box (split j f lower upper) a v s n rows whole d i h =
    let k = marked_within m.whole j h.0 in
    ⊎_elim
    (λ (x : at a j ≤ℚ whole_ℚ f). tree_proves m target (lower_child box j f) lower a v record { least = s.least; greatest = length-set box.greatest j _ ∙ s.greatest } n rows whole d (in_lower box j f a (omega (arith, k, s.greatest)) i x) h.1)
    (λ (x : whole_ℚ (f +ℤ pos 1) ≤ℚ at a j). tree_proves m target (upper_child box j f) upper a v record { least = length-set box.least j _ ∙ s.least; greatest = s.greatest } n rows whole d (in_upper box j f a (omega (arith, k, s.least)) i x) h.2)
    (sides (at a j) f (whole j h.0))
tree_proves m target box (best ys) a v s n rows whole d i h = of_best m target box ys a v s record { one_each = n; rows = rows; bounds = i } h
tree_proves m target box (empty ys) a v s n rows whole d i h = absurd (of_empty m box ys a v s record { one_each = n; rows = rows; bounds = i } h)
tree_proves m target box (clash j k) a v s n rows whole d i h = absurd (clash_leaves_no_point m.groups box j k a h i d)
