use Rattle.std.proofs.Common.{◌≡◌, ◌∙◌, ◌+◌, ◌-◌, ◌++◌, ap, arith, sym}
use Rattle.std.proofs.lemmas.List.{append-nil}
use Rattle.cell_grids.specs.AreaRows.{first_of_row}
use Rattle.cell_grids.proofs.AreaRows.{one_in_row}
use Rattle.cell_grids.proofs.areas.push_row.Goals as goal

pub loop-col-init : goal.loop-col-init
loop-col-init c =
    let none : c.left-col.result - c.args.area.now.left ≡ 0 = omega (arith, c.left-col.ensures.value) in
    sym (ap (λ n. c.args.to.now.items ++ first_of_row c.args.area.now c.args.row n) none ∙ append-nil c.args.to.now.items)

pub loop-col-preserved : goal.loop-col-preserved
loop-col-preserved c =
    let left = c.left-col.ensures.value in
    let from = c.loop-col.auto.col in
    let at : c.args.area.now.left + (c.loop-col.col - c.args.area.now.left) ≡ c.loop-col.col = omega (arith, left, from) in
    one_in_row c.args.area.now c.args.row (c.loop-col.col - c.args.area.now.left) c.loop-col.col _ c.args.to.now.items c.loop-col.to.items c.push.new.self.items at
    (λ i. record { sheet = c.sheet-sheet.ensures i; row = c.args.row; col = sym at i }) c.loop-col.invariant c.in_ok-push.ensures.items
    ∙ ap (λ n. c.args.to.now.items ++ first_of_row c.args.area.now c.args.row n) (omega (arith, left, from))

pub returns : goal.returns
returns c =
    let left = c.left-col.ensures.value in
    let right = c.right-col-end.ensures.value in
    let upto = c.loop-col.auto.col-end (omega (arith, left, right)) in
    let end = c.loop-col-test.false in
    c.loop-col.invariant ∙ ap (λ n. c.args.to.now.items ++ first_of_row c.args.area.now c.args.row n) (omega (arith, left, right, upto, end))
