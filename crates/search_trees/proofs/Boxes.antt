-- Boxes of nodes.
use Rattle.std.proofs.Common.{◌≡◌, sym, ap, ◌∙◌, subst, List}
use Rattle.linear_models.specs.Box.{Box}
use Rattle.linear_models.specs.Laws.{IsBoxOf}
use Rattle.linear_models.specs.Model.{Model, IsValid}
use Rattle.searches.specs.Trees.{Part, box_along}
use Rattle.searches.proofs.Boxes.{along_is_box}

-- the box of a path, from the bounds that are lent
pub box_is : (m : Model) (root box : Box) (path : List Part) → root ≡ m.bounds → box ≡ box_along root path → box ≡ box_along m.bounds path
box_is m root box path e h = h ∙ ap (λ (b : Box). box_along b path) e

pub is_box : (m : Model) (root box : Box) (path : List Part) → IsValid m → root ≡ m.bounds → box ≡ box_along root path → IsBoxOf m box
is_box m root box path v e h =
    subst (λ (b : Box). IsBoxOf m b) (sym (box_is m root box path e h)) (along_is_box m m.bounds path record { least = v.least; greatest = v.greatest })
