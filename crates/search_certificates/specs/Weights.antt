-- How much a tree weighs: each leaf counts 1 and the rows of its box's program.
use Rattle.std.specs.Prelude.{◌+◌, ◌*◌, ◌<◌, ℕ, length, false}
use Rattle.linear_models.specs.Box.{Box}
use Rattle.linear_models.specs.Model.{Model}
use Rattle.linear_models.specs.Standard.{standard}
use Rattle.opt_certificate.specs.Certificate.{Tree, split, best, empty, clash, lower_child, upper_child}
use Rattle.opt_certificate.specs.Nodes.{size}

-- of a leaf with this box
abbrev pub leaf_weight : Model → Box → ℕ
leaf_weight m box = 1 + length (standard m box false).rows

abbrev pub weight_of : Model → Box → Tree → ℕ
weight_of m box (split j f low high) = weight_of m (lower_child box j f) low + weight_of m (upper_child box j f) high
weight_of m box (best ys) = leaf_weight m box
weight_of m box (empty ys) = leaf_weight m box
weight_of m box (clash i j) = leaf_weight m box

-- a tree has fewer than twice as many nodes
abbrev pub PlacesFit : Type 0
PlacesFit = (m : Model) (t : Tree) → size t < 2 * weight_of m m.bounds t
