use Rattle.std.proofs.Common.{get_or, ◌≡◌, ◌≤◌, ◌∙◌, ◌+◌, ◌-◌, ◌++◌, ◌∷◌, [], ap, arith, map, sym, false, true}
use Rattle.std.specs.Prelude.{is_some}
use Rattle.cell_refs.specs.Areas.{area_width}
use Rattle.cell_grids.specs.AreaRows.{cell_of_row, first_of_row}
use Rattle.recalculation.specs.Looking.{are_known, known_or_empty, or_empty}
use Rattle.recalc.specs.Values.{value_at, value_in_list}
use Rattle.recalc.proofs.AreaValues.{known_more, not_all, one_value}
use Rattle.recalc.proofs.Tables.{read_at}
use Rattle.recalc.proofs.values.Values.push_row.Goals as goal

pub returns-then-not-branch-clause-known : goal.returns-then-not-branch-clause-known
returns-then-not-branch-clause-known c =
    let n = c.loop-col.col - c.args.area.now.left in
    let left = c.left-col.ensures.value in
    let right = c.right-col-end.ensures.value in
    let from = c.loop-col.auto.col in
    let at : c.args.area.now.left + n ≡ c.loop-col.col = omega (arith, left, from) in
    let seen : value_in_list c.args.self.now c.place_in_row.result ≡ value_at c.args.self.now (cell_of_row c.args.area.now c.args.row n) =
    read_at c.args.self.now _ c.place_in_row.result c.loop-col.col n c.args.row c.sheet.result c.args.area.now c.place_in_row.ensures (c.row_at-places.ensures ∙ ap (λ rows. get_or rows c.args.row []) c.rows-rows.ensures) c.sheet.ensures at in
    let before = c.loop-col-test.true in
    let within : n + 1 ≤ area_width c.args.area.now = omega (arith, left, right, from, before) in
    let unknown : is_some (value_at c.args.self.now (cell_of_row c.args.area.now c.args.row n)) ≡ false = ap is_some (sym seen) ∙ sym c.in_ok-push_known.ensures.known ∙ c.if-not-branch.true in
    sym (not_all (value_at c.args.self.now) (cell_of_row c.args.area.now c.args.row) (n + 1) (area_width c.args.area.now) within
    (known_more (value_at c.args.self.now) (cell_of_row c.args.area.now c.args.row) n c.loop-col.invariant.known ∙ unknown))

pub loop-col-preserved : goal.loop-col-preserved
loop-col-preserved c =
    let n = c.loop-col.col - c.args.area.now.left in
    let left = c.left-col.ensures.value in
    let from = c.loop-col.auto.col in
    let at : c.args.area.now.left + n ≡ c.loop-col.col = omega (arith, left, from) in
    let seen : value_in_list c.args.self.now c.place_in_row.result ≡ value_at c.args.self.now (cell_of_row c.args.area.now c.args.row n) =
    read_at c.args.self.now _ c.place_in_row.result c.loop-col.col n c.args.row c.sheet.result c.args.area.now c.place_in_row.ensures (c.row_at-places.ensures ∙ ap (λ rows. get_or rows c.args.row []) c.rows-rows.ensures) c.sheet.ensures at in
    let next : n + 1 ≡ c.loop-col.col + 1 - c.args.area.now.left = omega (arith, left, from) in
    let known : is_some (value_at c.args.self.now (cell_of_row c.args.area.now c.args.row n)) ≡ true = ap is_some (sym seen) ∙ sym c.in_ok-push_known.ensures.known ∙ c.if-not-branch.false in
    record {
      known = ap (λ m. are_known (value_at c.args.self.now) (first_of_row c.args.area.now c.args.row m)) (sym next)
          ∙ known_more (value_at c.args.self.now) (cell_of_row c.args.area.now c.args.row) n c.loop-col.invariant.known ∙ known;
      values = one_value (value_at c.args.self.now) (cell_of_row c.args.area.now c.args.row) n c.args.to.now.items c.loop-col.to.items c.push_known.new.to.items c.loop-col.invariant.values
          (c.in_ok-push_known.ensures.value c.if-not-branch.false ∙ ap (λ v. c.loop-col.to.items ++ or_empty v ∷ []) seen)
          ∙ ap (λ m. c.args.to.now.items ++ map (known_or_empty (value_at c.args.self.now)) (first_of_row c.args.area.now c.args.row m)) next;
    }
