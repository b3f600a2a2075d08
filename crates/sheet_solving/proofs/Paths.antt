-- Paths of a search lead along decisions of the model, and these are cells on the sheets.
use Rattle.std.proofs.Common.{◌≡◌, ◌<◌, ℕ, sym, subst, Bool, true, List, [], ◌∷◌, length, map, get_or}
use Rattle.std.specs.Prelude.{All, ℤ}
use Rattle.std.specs.List.{AllByRecursion}
use Rattle.std.proofs.lemmas.List.Elements.{All-from_recursion, All-get_or, All-map, All-weaker}
use Rattle.cell_refs.specs.declared.cell.Cell.{Cell}
use Rattle.linear_models.specs.Box.{Box}
use Rattle.linear_models.specs.Model.{Model, IsValid, is_whole_at}
use Rattle.opt_certificate.proofs.Trees.{marked_within}
use Rattle.node_pick.specs.Rules.{Rule}
use Rattle.searches.specs.Trees.{Part, lower, upper, part_of}
use Rattle.searches.specs.Trails as trails
use Rattle.searches.specs.TrueTrees.{SplitTree, leaf, split_at, HasNode, IsTrueSplit, split_between, split_alike, IsTrueTree}
use Rattle.searches.proofs.TrueTrees.{trees_are_true}
use Rattle.search_paths.specs.Steps.{step_of}
use Rattle.branch_bound.specs.Ends.{IsWideAt}
use Rattle.cell_refs.specs.Listed.{IsListed}
use Rattle.commands.specs.Refusals.{StepIsListed}
use Rattle.sheet_solving.specs.Solving.{by_cell, by_cells, no_cell}

-- the step's decision is one of so many
abbrev pub IsBelow : ℕ → ℕ × Bool × ℤ → Type 0
IsBelow n step = step.0 < n

-- a true split is at a decision that is to be whole
is_marked : (m : Model) (plain : Bool) (box : Box) (j : ℕ) (f : ℤ) → IsTrueSplit m plain box j f → is_whole_at m.whole j ≡ true
is_marked m plain box j f (split_between h) = h.marked
is_marked m plain box j f (split_alike h) = h.marked

-- each part of a path in a true tree is split at a decision of the model
along : (m : Model) (plain : Bool) (box : Box) (t : SplitTree) (path : List Part) → IsTrueTree m plain box t → HasNode t path → AllByRecursion (IsBelow (length m.whole)) (map step_of path)
along m plain box t [] h n = tt
along m plain box leaf (p ∷ path) h n = absurd n
along m plain box (split_at j f low high) (lower i g ∷ path) h n = (
  subst (λ (k : ℕ). k < length m.whole) (sym n.0) (marked_within m.whole j (is_marked m plain box j f h.0)),
  along m plain (part_of box (lower j f)) low path h.1.0 n.1.1,
)
along m plain box (split_at j f low high) (upper i g ∷ path) h n = (
  subst (λ (k : ℕ). k < length m.whole) (sym n.0) (marked_within m.whole j (is_marked m plain box j f h.0)),
  along m plain (part_of box (upper j f)) high path h.1.1 n.1.1,
)

-- so are the steps of the node that is worked on
pub steps_below : (m : Model) (rule : Rule) (units : List trails.SearchUnit) (s : trails.State) (steps : List (ℕ × Bool × ℤ)) (basis : List ℕ) (leaves enters : ℕ) → IsValid m → trails.Trail m rule units s
    → IsWideAt s steps basis leaves enters → All (IsBelow (length m.whole)) steps
steps_below m rule units s steps basis leaves enters valid trail wide =
    let trees = trees_are_true m rule units s valid trail in
    let node = trees.work wide.0 wide.1 in
    subst (λ (steps : List (ℕ × Bool × ℤ)). All (IsBelow (length m.whole)) steps) (sym wide.2.path_is)
    (All-from_recursion (IsBelow (length m.whole)) (map step_of wide.0.node.path) (along m (trails.is_plain s.way) m.bounds (trees.trees (trails.is_plain s.way)) wide.0.node.path (trees.are_true (trails.is_plain s.way)) node))

-- and the cells of such steps lie on the sheets
pub cells_listed : (sheets : List (List ℕ)) (cells : List Cell) (steps : List (ℕ × Bool × ℤ)) → All (IsListed sheets) cells → All (IsBelow (length cells)) steps
    → All (StepIsListed sheets) (by_cells cells steps)
cells_listed sheets cells steps listed below =
    All-map (StepIsListed sheets) (by_cell cells) steps
    (All-weaker (IsBelow (length cells)) (λ (step : ℕ × Bool × ℤ). IsListed sheets (get_or cells step.0 no_cell)) (λ (step : ℕ × Bool × ℤ) (h : IsBelow (length cells) step). All-get_or (IsListed sheets) cells step.0 no_cell h listed) steps below)
