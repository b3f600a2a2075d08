use Rattle.std.proofs.Common.{◌≡◌, ◌∙◌, ◌+◌, ◌-◌, ◌*◌, ◌++◌, map, ap, arith, sym}
use Rattle.std.specs.List.{range_with_len}
use Rattle.std.proofs.lemmas.List.{append-nil}
use Rattle.cell_refs.specs.Areas.{area_width, cell_at}
use Rattle.cell_grids.proofs.AreaRows.{one_row}
use Rattle.cell_grids.proofs.areas.push_cells.Goals as goal

pub loop-row-init : goal.loop-row-init
loop-row-init c =
    let none : c.top-row.result - c.args.area.now.top ≡ 0 = omega (arith, c.top-row.ensures.value) in
    let no_cells : (c.top-row.result - c.args.area.now.top) * area_width c.args.area.now ≡ 0 = ap (λ n. n * area_width c.args.area.now) none ∙ omega arith in
    c.in_ok-reserve.ensures.items
    ∙ sym (ap (λ n. c.args.to.now.items ++ map (cell_at c.args.area.now) (range_with_len 0 n)) no_cells ∙ append-nil c.args.to.now.items)

pub loop-row-preserved : goal.loop-row-preserved
loop-row-preserved c =
    let top = c.top-row.ensures.value in
    let from = c.loop-row.auto.row in
    let at : c.args.area.now.top + (c.loop-row.row - c.args.area.now.top) ≡ c.loop-row.row = omega (arith, top, from) in
    one_row c.args.area.now (c.loop-row.row - c.args.area.now.top) c.loop-row.row c.args.to.now.items c.loop-row.to.items c.push_row.new.to.items at c.loop-row.invariant c.in_ok-push_row.ensures
    ∙ ap (λ n. c.args.to.now.items ++ map (cell_at c.args.area.now) (range_with_len 0 (n * area_width c.args.area.now))) (omega (arith, top, from))

pub returns : goal.returns
returns c =
    let top = c.top-row.ensures.value in
    let bottom = c.bottom-row-end.ensures.value in
    let upto = c.loop-row.auto.row-end (omega (arith, top, bottom)) in
    let end = c.loop-row-test.false in
    c.loop-row.invariant ∙ ap (λ n. c.args.to.now.items ++ map (cell_at c.args.area.now) (range_with_len 0 (n * area_width c.args.area.now))) (omega (arith, top, bottom, upto, end))
