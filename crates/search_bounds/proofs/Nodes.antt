-- The nodes of a tree whose splits leave a whole value on either side are few.
use Rattle.std.proofs.Common.{◌≤◌, [], ◌∷◌, arith}
use Rattle.linear_models.specs.Box.{Box}
use Rattle.linear_models.specs.Model.{Model}
use Rattle.linear_models.specs.Laws.{IsBoxOf}
use Rattle.searches.specs.Trees.{lower, upper, part_of}
use Rattle.searches.specs.TrueTrees.{SplitTree, leaf, split_at}
use Rattle.searches.proofs.Boxes.{along_is_box}
use Rattle.search_bounds.specs.Trees.{SplitsInParts, most_nodes, nodes_in}
use Rattle.search_bounds.proofs.Weights.{one_node, halves_fit}
use Rattle.search_bounds.proofs.Halves.{halved}
use Rattle.search_bounds.proofs.WholeBounds.{HasWholeBounds}

pub nodes_few : (m : Model) (box : Box) (t : SplitTree) → IsBoxOf m box → HasWholeBounds m box → SplitsInParts m box t → nodes_in t ≤ most_nodes m box
nodes_few m box leaf b w s = one_node m box
nodes_few m box (split_at j f low high) b w s =
    let h = halved m box j f b w s.0 in
    let x = nodes_few m (part_of box (lower j f)) low (along_is_box m box (lower j f ∷ []) b) h.low s.1.0 in
    let y = nodes_few m (part_of box (upper j f)) high (along_is_box m box (upper j f ∷ []) b) h.high s.1.1 in
    omega (arith, x, y, halves_fit m box j f h)
