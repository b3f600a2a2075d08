-- Trees of splits with a proof at each leaf, and what they prove of a linear model. (Chvatal, Linear Programming, chapter 1, on
-- multipliers of rows; Schrijver, Theory of Linear and Integer Programming, chapter 24, on branching.)
use Rattle.std.specs.Prelude.{◌≡◌, ◌≤◌, ℕ, true, false, List, length, All, Option, Some, None, ℤ, pos, ◌+ℤ◌}
use Rattle.fractions.specs.Rational.{ℚ, ◌≤ℚ◌, ◌<ℚ◌, zero_ℚ}
use Rattle.fractions.specs.Whole.{whole_ℚ}
use Rattle.fractions.specs.Vectors.{at}
use Rattle.optimality.specs.Problem.{Assignment, Relation}
use Rattle.optimality.specs.Optimal.{Stand, Optimal, Infeasible, Unbounded}
use Rattle.affine_forms.specs.Forms.{AffineForm, sum_at}
use Rattle.affine_forms.specs.Assigned.{assigned}
use Rattle.linear_programs.specs.Program.{Bounds, IsContradictory}
use Rattle.linear_models.specs.Worths.{form_at}
use Rattle.linear_models.specs.Box.{Box, bound_at, lower_part, upper_part}
use Rattle.linear_models.specs.Model.{Model, IsPoint, is_whole_at, maximised, problem_of, IsValid}
use Rattle.linear_models.specs.Standard.{standard}
use Rattle.opt_certificate.specs.Clashes.{IsClash}

-- a split: the decision is at most the floor, or at least the floor and 1; a leaf: multipliers of the rows of its box's standard program, or two decisions of a
-- group that are fixed to one number
pub data Tree : Type 0 where
  split : (decision : ℕ) (floor : ℤ) (lower upper : Tree) → Tree
  best : (multipliers : List ℚ) → Tree
  empty : (multipliers : List ℚ) → Tree
  clash : (first second : ℕ) → Tree

-- what is claimed: the point is optimal, there is no point, or the objective improves without end from the point along the direction
pub data Claim : Type 0 where
  optimal : (point : List ℚ) → Claim
  infeasible : Claim
  unbounded : (point direction : List ℚ) → Claim

-- ---- the two parts of a box at a split
-- the decision is at most the floor
abbrev pub lower_child : Box → ℕ → ℤ → Box
lower_child box j f = lower_part box j (whole_ℚ f)

-- the decision is at least the whole number above it
abbrev pub upper_child : Box → ℕ → ℤ → Box
upper_child box j f = upper_part box j (whole_ℚ (f +ℤ pos 1))

-- ---- what a tree proves: no point of its box has a greater objective than the target, or without a target there is no point
-- at a best leaf: at most as many multipliers as the box's program has rows, and they bound its objective by the target
abbrev pub ProvesBest : Model → Option ℚ → Box → List ℚ → Type 0
ProvesBest m None box ys = ⊥
ProvesBest m (Some b) box ys = (length ys ≤ length (standard m box false).rows) × Bounds (standard m box false) ys b

-- at an empty leaf: as many at most, and they are contradictory
abbrev pub ProvesEmpty : Model → Box → List ℚ → Type 0
ProvesEmpty m box ys = (length ys ≤ length (standard m box false).rows) × IsContradictory (standard m box false) ys

-- at a split: the decision is to be whole, and each part is proved; at a clash leaf: the two decisions clash in the box
abbrev pub Proves : Model → Option ℚ → Box → Tree → Type 0
Proves m target box (split j f lower upper) =
    (is_whole_at m.whole j ≡ true) × Proves m target (lower_child box j f) lower × Proves m target (upper_child box j f) upper
Proves m target box (best ys) = ProvesBest m target box ys
Proves m target box (empty ys) = ProvesEmpty m box ys
Proves m target box (clash i j) = IsClash m.groups box i j

-- a direction that keeps every row and bound however far it is followed, and improves the objective
pub record IsWayOut (m : Model) (d : Assignment) : Type 0 where
  pub one_each : length d ≡ length m.whole
  pub rows : All (λ (row : AffineForm × Relation). Stand row.1 (sum_at (assigned d) row.0.terms) zero_ℚ) m.rows
  pub least : (j : ℕ) (b : ℚ) → bound_at m.bounds.least j ≡ Some b → zero_ℚ ≤ℚ at d j
  pub greatest : (j : ℕ) (b : ℚ) → bound_at m.bounds.greatest j ≡ Some b → at d j ≤ℚ zero_ℚ
  pub improves : zero_ℚ <ℚ sum_at (assigned d) (maximised m.goal m.objective).terms

-- ---- certificates
-- there is a tree, and it proves the target of the model's box
abbrev pub ProvesTarget : Model → Option ℚ → Option Tree → Type 0
ProvesTarget m target tree = (t : Tree) × (tree ≡ Some t) × Proves m target m.bounds t

-- optimal: the point is one of the model, and the tree bounds the objective by its value there; infeasible: the tree leaves no point;
-- unbounded: the point is one of the model, and the direction leads out of it, whatever the tree is
abbrev pub Certifies : Model → Option Tree → Claim → Type 0
Certifies m tree (optimal a) = IsPoint m a × ProvesTarget m (Some (form_at (maximised m.goal m.objective) a)) tree
Certifies m tree infeasible = ProvesTarget m None tree
Certifies m tree (unbounded a d) = IsPoint m a × IsWayOut m d

-- the claim is true of the problem that the model is
abbrev pub IsTrueOf : Model → Claim → Type 0
IsTrueOf m (optimal a) = Optimal (problem_of m) a
IsTrueOf m infeasible = Infeasible (problem_of m)
IsTrueOf m (unbounded a d) = Unbounded (problem_of m)

-- what is certified is true
abbrev pub CertificatesHold : Type 0
CertificatesHold = (m : Model) (tree : Option Tree) (claim : Claim) → IsValid m → Certifies m tree claim → IsTrueOf m claim
