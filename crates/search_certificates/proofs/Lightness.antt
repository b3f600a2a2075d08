-- A tree has fewer nodes than twice its weight.
use Rattle.std.proofs.Common.{◌*◌, ◌<◌, arith}
use Rattle.linear_models.specs.Box.{Box}
use Rattle.linear_models.specs.Model.{Model}
use Rattle.opt_certificate.specs.Certificate.{Tree, split, best, empty, clash, lower_child, upper_child}
use Rattle.opt_certificate.specs.Nodes.{size}
use Rattle.search_certificates.specs.Weights.{weight_of, PlacesFit}

light : (m : Model) (box : Box) (t : Tree) → size t < 2 * weight_of m box t
light m box (split j f low high) =
    let a = light m (lower_child box j f) low in
    let b = light m (upper_child box j f) high in
    omega (arith, a, b)
light m box (best ys) = omega arith
light m box (empty ys) = omega arith
light m box (clash i j) = omega arith

pub places_fit : PlacesFit
places_fit m t = light m m.bounds t
