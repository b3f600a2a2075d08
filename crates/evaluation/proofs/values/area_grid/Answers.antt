use Rattle.std.proofs.Common.{◌≡◌, ◌∙◌, ◌+◌, ◌-◌, ◌*◌, arith}
use Rattle.std.proofs.lemmas.List.FromFn.{length-map-range_with_len}
use Rattle.cell_refs.specs.Areas.{area_height, area_len, area_width, cell_at}
use Rattle.evaluation.proofs.values.area_grid.Goals as goal

pub in_grid-requires-clause-count : goal.in_grid-requires-clause-count
in_grid-requires-clause-count g c =
    let top = c.top.ensures.value in
    let bottom = c.bottom.ensures.value in
    let left = c.left.ensures.value in
    let right = c.right.ensures.value in
    let rows : area_height c.args.area.now ≡ c.bottom.result - c.top.result + 1 = omega (arith, top, bottom) in
    let columns : area_width c.args.area.now ≡ c.right.result - c.left.result + 1 = omega (arith, left, right) in
    (rw c.in-Some.is at c.in_ok-values.ensures.count) ∙ length-map-range_with_len (cell_at c.args.area.now) 0 (area_len c.args.area.now) ∙ (λ i. (rows i) * (columns i))
