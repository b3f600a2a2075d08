-- Answers at leaves.
use Rattle.std.proofs.Common.{◌≡◌, ◌↔◌, ◌≤◌, ℕ, Bool, true, false, refl, sym, List, length, subst}
use Rattle.std.proofs.lemmas.Bool.{false≢true}
use Rattle.std.specs.Prelude.{IsTrue, Result, Ok}
use Rattle.fractions.specs.Rational.{ℚ}
use Rattle.linear_models.specs.Box.{Box}
use Rattle.linear_models.specs.Model.{Model}
use Rattle.std.proofs.Common.{Option, Some}
use Rattle.linear_programs.specs.Program.{Program, Bounds, IsContradictory}
use Rattle.opt_certificate.specs.Certificate.{ProvesBest, ProvesEmpty}
use Rattle.opt_certificate.specs.Clashes.{IsClash}
use Rattle.opt_certificate.specs.Checks.{ColumnsAreNarrow, NodeProves, NodeIsNarrow}
use Rattle.opt_certificate.specs.Nodes.{Node, best_leaf, empty_leaf, clash_leaf}
use Rattle.opt_certificate.specs.Sums.{StaysNarrow, whole_bound, bound_sum}
use Rattle.opt_certificate.specs.declared.node.LeafStop.{LeafStop}
use Rattle.opt_certificate.specs.Judged.{Judged, LeafJudged}

-- a said or a no at a leaf
leaf_answer : (E P N : Type 0) (said : Bool) → Judged {E = E} P N (Ok said) → LeafJudged P N (Ok said)
leaf_answer E P N true j = j
leaf_answer E P N false j = j

pub best_answer : (E : Type 0) (p q : Program) (ys : List ℚ) (b : ℚ) (said : Bool) → p ≡ q
    → Judged {E = E} ((length ys ≤ length p.rows) × Bounds p ys b) (ColumnsAreNarrow p ys × StaysNarrow (whole_bound ys p)) (Ok said)
    → LeafJudged ((length ys ≤ length q.rows) × Bounds q ys b) (ColumnsAreNarrow q ys × StaysNarrow (whole_bound ys q)) (Ok said)
best_answer E p q ys b said e j =
    subst (λ (q : Program). LeafJudged ((length ys ≤ length q.rows) × Bounds q ys b) (ColumnsAreNarrow q ys × StaysNarrow (whole_bound ys q)) (Ok said)) e (leaf_answer E _ _ said j)

pub empty_answer : (E : Type 0) (p q : Program) (ys : List ℚ) (said : Bool) → p ≡ q
    → Judged {E = E} ((length ys ≤ length p.rows) × IsContradictory p ys) (ColumnsAreNarrow p ys × StaysNarrow (bound_sum ys p.rows)) (Ok said)
    → LeafJudged ((length ys ≤ length q.rows) × IsContradictory q ys) (ColumnsAreNarrow q ys × StaysNarrow (bound_sum ys q.rows)) (Ok said)
empty_answer E p q ys said e j =
    subst (λ (q : Program). LeafJudged ((length ys ≤ length q.rows) × IsContradictory q ys) (ColumnsAreNarrow q ys × StaysNarrow (bound_sum ys q.rows)) (Ok said)) e (leaf_answer E _ _ said j)

-- what is found of a leaf is found of its node
pub of_best_node : (m : Model) (box : Box) (node : Node) (target : Option ℚ) (ys zs : List ℚ) (b : ℚ) (r : Result Bool LeafStop) → node ≡ best_leaf ys → target ≡ Some b → zs ≡ ys
    → LeafJudged (ProvesBest m (Some b) box zs) (NodeIsNarrow m (box, best_leaf zs)) r → LeafJudged (NodeProves m target (box, node)) (NodeIsNarrow m (box, node)) r
of_best_node m box node target ys zs b r e f g j =
    subst (λ (node : Node). LeafJudged (NodeProves m target (box, node)) (NodeIsNarrow m (box, node)) r) (sym e)
    (subst (λ (target : Option ℚ). LeafJudged (NodeProves m target (box, best_leaf ys)) (NodeIsNarrow m (box, best_leaf ys)) r) (sym f)
    (subst (λ (ys : List ℚ). LeafJudged (ProvesBest m (Some b) box ys) (NodeIsNarrow m (box, best_leaf ys)) r) g j))

pub of_empty_node : (m : Model) (box : Box) (node : Node) (target : Option ℚ) (ys zs : List ℚ) (r : Result Bool LeafStop) → node ≡ empty_leaf ys → zs ≡ ys
    → LeafJudged (ProvesEmpty m box zs) (NodeIsNarrow m (box, empty_leaf zs)) r → LeafJudged (NodeProves m target (box, node)) (NodeIsNarrow m (box, node)) r
of_empty_node m box node target ys zs r e g j =
    subst (λ (node : Node). LeafJudged (NodeProves m target (box, node)) (NodeIsNarrow m (box, node)) r) (sym e)
    (subst (λ (ys : List ℚ). LeafJudged (ProvesEmpty m box ys) (NodeIsNarrow m (box, empty_leaf ys)) r) g j)

pub of_clash_node : (m : Model) (box : Box) (node : Node) (target : Option ℚ) (i j : ℕ) (said : Bool) → node ≡ clash_leaf i j → IsTrue said ↔ IsClash m.groups box i j → LeafJudged (NodeProves m target (box, node)) (NodeIsNarrow m (box, node)) (Ok said)
of_clash_node m box node target i j said e h = subst (λ (node : Node). LeafJudged (NodeProves m target (box, node)) (NodeIsNarrow m (box, node)) (Ok said)) (sym e) (cases said h)
  where
    cases : (b : Bool) → IsTrue b ↔ IsClash m.groups box i j → LeafJudged (NodeProves m target (box, clash_leaf i j)) (NodeIsNarrow m (box, clash_leaf i j)) (Ok b)
    cases true h = (h.0 refl, tt)
    cases false h = λ p. false≢true (h.1 p)
