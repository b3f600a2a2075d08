use Rattle.std.proofs.Common.{get_or, ◌≡◌, ◌≤◌, ◌∙◌, ◌+◌, ◌-◌, ◌++◌, ◌∷◌, [], ap, arith, map, sym, false}
use Rattle.std.specs.Prelude.{is_some}
use Rattle.cell_refs.specs.Areas.{area_height}
use Rattle.cell_grids.specs.AreaRows.{cell_of_row}
use Rattle.recalculation.specs.Looking.{are_known, known_or_empty, or_empty}
use Rattle.recalc.specs.Values.{value_at, value_in_list}
use Rattle.recalc.proofs.AreaValues.{all_values, known_alone, known_row, no_values, row_values, rows, value_alone}
use Rattle.recalc.proofs.Tables.{read_at}
use Rattle.recalc.proofs.values.Values.column.Goals as goal

pub returns-then-not-branch-clause-values : goal.returns-then-not-branch-clause-values
returns-then-not-branch-clause-values c =
    let i = c.loop-row.row - c.args.area.now.top in
    let top = c.top-row.ensures.value in
    let bottom = c.bottom-row-end.ensures.value in
    let from = c.loop-row.auto.row in
    let before = c.loop-row-test.true in
    let at : c.args.area.now.top + i ≡ c.loop-row.row = omega (arith, top, from) in
    let within : i + 1 ≤ area_height c.args.area.now = omega (arith, top, bottom, from, before) in
    let seen : value_in_list c.args.self.now c.place_in_row.result ≡ value_at c.args.self.now (cell_of_row c.args.area.now c.loop-row.row 0) =
    read_at c.args.self.now _ c.place_in_row.result c.left-col.result 0 c.loop-row.row c.sheet.result c.args.area.now c.place_in_row.ensures (c.row_at.ensures ∙ ap (λ rows. get_or rows c.loop-row.row []) c.rows-rows.ensures) c.sheet.ensures (omega (arith, c.left-col.ensures.value)) in
    let unknown : are_known (value_at c.args.self.now) (rows (value_at c.args.self.now) c.args.area.now (i + 1)) ≡ false =
    known_row (value_at c.args.self.now) c.args.area.now i c.loop-row.row at c.loop-row.invariant.known
    ∙ known_alone (value_at c.args.self.now) c.args.area.now c.loop-row.row c.requires ∙ ap is_some (sym seen) ∙ sym c.in_ok-push_known.ensures.known ∙ c.if-not-branch.true in
    sym (no_values (value_at c.args.self.now) c.args.area.now (i + 1) within unknown)

pub loop-row-preserved : goal.loop-row-preserved
loop-row-preserved c =
    let i = c.loop-row.row - c.args.area.now.top in
    let top = c.top-row.ensures.value in
    let from = c.loop-row.auto.row in
    let at : c.args.area.now.top + i ≡ c.loop-row.row = omega (arith, top, from) in
    let next : i + 1 ≡ c.loop-row.row + 1 - c.args.area.now.top = omega (arith, top, from) in
    let seen : value_in_list c.args.self.now c.place_in_row.result ≡ value_at c.args.self.now (cell_of_row c.args.area.now c.loop-row.row 0) =
    read_at c.args.self.now _ c.place_in_row.result c.left-col.result 0 c.loop-row.row c.sheet.result c.args.area.now c.place_in_row.ensures (c.row_at.ensures ∙ ap (λ rows. get_or rows c.loop-row.row []) c.rows-rows.ensures) c.sheet.ensures (omega (arith, c.left-col.ensures.value)) in
    record {
      known = ap (λ n. are_known (value_at c.args.self.now) (rows (value_at c.args.self.now) c.args.area.now n)) (sym next)
          ∙ known_row (value_at c.args.self.now) c.args.area.now i c.loop-row.row at c.loop-row.invariant.known
          ∙ known_alone (value_at c.args.self.now) c.args.area.now c.loop-row.row c.requires ∙ ap is_some (sym seen) ∙ sym c.in_ok-push_known.ensures.known ∙ c.if-not-branch.false;
      values = row_values (value_at c.args.self.now) c.args.area.now i c.loop-row.row c.loop-row.values.items c.push_known.new.to.items at c.loop-row.invariant.values
          (c.in_ok-push_known.ensures.value c.if-not-branch.false ∙ ap (λ v. c.loop-row.values.items ++ or_empty v ∷ []) seen
          ∙ value_alone (value_at c.args.self.now) c.args.area.now c.loop-row.row c.loop-row.values.items c.requires)
          ∙ ap (λ n. map (known_or_empty (value_at c.args.self.now)) (rows (value_at c.args.self.now) c.args.area.now n)) next;
    }

pub returns-clause-values : goal.returns-clause-values
returns-clause-values c =
    let top = c.top-row.ensures.value in
    let bottom = c.bottom-row-end.ensures.value in
    let upto = c.loop-row.auto.row-end (omega (arith, top, bottom)) in
    let end = c.loop-row-test.false in
    all_values (value_at c.args.self.now) c.args.area.now (c.loop-row.row - c.args.area.now.top) c.loop-row.values.items (omega (arith, top, bottom, upto, end)) c.loop-row.invariant.known c.loop-row.invariant.values
