-- What the check of a certificate looks at, node by node, and which of its sums are narrow.
use Rattle.std.specs.Prelude.{◌≡◌, ◌⊎◌, ◌<◌, ℕ, Bool, true, false, List, [], length, All, Option, Some, Result, Ok, Err, slice_get}
use Rattle.fractions.specs.Rational.{ℚ, zero_ℚ}
use Rattle.optimality.specs.Problem.{Assignment, Relation}
use Rattle.affine_forms.specs.Forms.{AffineForm}
use Rattle.linear_models.specs.Box.{Box}
use Rattle.linear_models.specs.Model.{Model, is_whole_at, maximised}
use Rattle.linear_programs.specs.Program.{Program}
use Rattle.linear_models.specs.Standard.{standard}
use Rattle.opt_certificate.specs.Certificate.{Tree, Claim, optimal, infeasible, unbounded, ProvesBest, ProvesEmpty, ProvesTarget, Certifies}
use Rattle.opt_certificate.specs.Clashes.{IsClash}
use Rattle.opt_certificate.specs.Nodes.{Node, split_at, best_leaf, empty_leaf, clash_leaf, boxed_or_none}
use Rattle.opt_certificate.specs.Sums.{column_sum, bound_sum, whole_bound, form_sum, StaysNarrow}
use Rattle.opt_certificate.specs.declared.checking.CheckStop.{CheckStop}
use Rattle.opt_certificate.specs.declared.checking.CheckStop.TheVariants as stops

-- what is asked of a node in its box: of a split that its decision is to be whole, of a leaf its proof
abbrev pub NodeProves : Model → Option ℚ → Box × Node → Type 0
NodeProves m target (box, split_at j f lower upper) = is_whole_at m.whole j ≡ true
NodeProves m target (box, best_leaf ys) = ProvesBest m target box ys
NodeProves m target (box, empty_leaf ys) = ProvesEmpty m box ys
NodeProves m target (box, clash_leaf i j) = IsClash m.groups box i j

-- each coefficient of a combination is summed over narrow numbers
abbrev pub ColumnsAreNarrow : Program → List ℚ → Type 0
ColumnsAreNarrow p ys = (j : ℕ) → j < length p.objective → StaysNarrow (column_sum j ys p.rows)

-- the sums of a leaf's combination are; a split and a clash have none
abbrev pub NodeIsNarrow : Model → Box × Node → Type 0
NodeIsNarrow m (box, split_at j f lower upper) = Unit {0}
NodeIsNarrow m (box, best_leaf ys) = let p = standard m box false in ColumnsAreNarrow p ys × StaysNarrow (whole_bound ys p)
NodeIsNarrow m (box, empty_leaf ys) = let p = standard m box false in ColumnsAreNarrow p ys × StaysNarrow (bound_sum ys p.rows)
NodeIsNarrow m (box, clash_leaf i j) = Unit {0}

-- the sums of the rows at a point are
abbrev pub RowsAreNarrow : Model → Assignment → Type 0
RowsAreNarrow m a = All (λ (row : AffineForm × Relation). StaysNarrow (form_sum row.0 a)) m.rows

-- the form with the constant 0
abbrev pub without_constant : AffineForm → AffineForm
without_constant f = record { constant = zero_ℚ; terms = f.terms }

-- the sums of the rows along a direction are
abbrev pub StepsAreNarrow : Model → Assignment → Type 0
StepsAreNarrow m d = All (λ (row : AffineForm × Relation). StaysNarrow (form_sum (without_constant row.0) d)) m.rows

-- the sums of the rows and of the objective at the claimed point and along the claimed direction are
abbrev pub ClaimIsNarrow : Model → Claim → Type 0
ClaimIsNarrow m (optimal a) = RowsAreNarrow m a × StaysNarrow (form_sum (maximised m.goal m.objective) a)
ClaimIsNarrow m infeasible = Unit {0}
ClaimIsNarrow m (unbounded a d) = RowsAreNarrow m a × (StepsAreNarrow m d × StaysNarrow (form_sum (without_constant (maximised m.goal m.objective)) d))

-- the nodes that are read: none for an unbounded claim
abbrev pub read_nodes : Model → Option Tree → Claim → List (Box × Node)
read_nodes m tree (optimal a) = boxed_or_none m.bounds tree
read_nodes m tree infeasible = boxed_or_none m.bounds tree
read_nodes m tree (unbounded a d) = []

-- every sum of the check is narrow
abbrev pub IsNarrowCheck : Model → Option Tree → Claim → Type 0
IsNarrowCheck m tree claim = ClaimIsNarrow m claim × All (NodeIsNarrow m) (read_nodes m tree claim)

-- a sum of this node isn't; the claim's sums count for the first
abbrev pub IsWideAt : Model → Option Tree → Claim → ℕ → Type 0
IsWideAt m tree claim n = ((n ≡ 0) × ¬ (ClaimIsNarrow m claim)) ⊎ ((x : Box × Node) × (slice_get (read_nodes m tree claim) n ≡ Some x) × ¬ (NodeIsNarrow m x))

-- what the check answers: yes where all is certified over narrow sums, no where it isn't certified, or a node with a sum that isn't narrow
abbrev pub Checked : Model → Option Tree → Claim → Result Bool CheckStop → Type 0
Checked m tree claim (Ok true) = Certifies m tree claim × IsNarrowCheck m tree claim
Checked m tree claim (Ok false) = ¬ (Certifies m tree claim)
Checked m tree claim (Err (stops.Wide n)) = IsWideAt m tree claim n
Checked m tree claim (Err stops.Memory) = Unit {0}

-- what is found of the tree alone, in the same way
abbrev pub TreeChecked : Model → Option ℚ → Option Tree → Result Bool CheckStop → Type 0
TreeChecked m target tree (Ok true) = ProvesTarget m target tree × All (NodeIsNarrow m) (boxed_or_none m.bounds tree)
TreeChecked m target tree (Ok false) = ¬ (ProvesTarget m target tree)
TreeChecked m target tree (Err (stops.Wide n)) = (x : Box × Node) × (slice_get (boxed_or_none m.bounds tree) n ≡ Some x) × ¬ (NodeIsNarrow m x)
TreeChecked m target tree (Err stops.Memory) = Unit {0}
