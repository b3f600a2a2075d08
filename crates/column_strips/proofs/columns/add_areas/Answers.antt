use Rattle.std.proofs.Common.{◌&&◌, length, refl, take, ap, sym, ◌∙◌, arith}
use Rattle.std.specs.Prelude.{◌||◌}
use Rattle.std.specs.List.{list_any}
use Rattle.std.specs.Ordering.{eq_by_cmp}
use Rattle.std.proofs.lemmas.List.Folds.{list_any_more}
use Rattle.std.proofs.lemmas.Option.{slice_get_read}
use Rattle.cell_refs.specs.Cells.{cell_cmp}
use Rattle.column_strips.specs.Columns.{strips_in}
use Rattle.column_strips.specs.Strips.{has_strip, is_part}
use Rattle.column_strips.proofs.Parts.{one_more_added}
use Rattle.column_strips.proofs.columns.add_areas.Goals as goal

pub add_area-requires-clause-room : goal.add_area-requires-clause-room
add_area-requires-clause-room c = λ i a b.
    let at = slice_get_read c.args.areas.now (length c.args.areas.now) c.loop-area.area-index c.area-item.result refl c.loop-area-test.true c.area-item.is in
    let room = c.loop-area.invariant.room c.loop-area.area-index c.area-item.result (omega arith) at i a b in
    let test = c.loop-area-test.true in
    omega (arith, room, test)

pub loop-area-preserved : goal.loop-area-preserved
loop-area-preserved c =
    record {
      rising = c.add_area.ensures.rising;
      room = λ k area h at i a b. let room = c.loop-area.invariant.room k area (omega (arith, h)) at i a b in omega (arith, room, c.add_area.ensures.room i);
      has = λ sheet column s.
          let more = list_any_more (λ area. is_part area sheet column s) c.args.areas.now c.loop-area.area-index c.area-item.result c.loop-area-test.true
          ∙ ap (λ area. list_any (λ area. is_part area sheet column s) (take c.loop-area.area-index c.args.areas.now) || is_part area sheet column s) (sym c.area-item.is) in
          c.add_area.ensures.has sheet column s
          ∙ ap (λ b. ((eq_by_cmp cell_cmp s.cell c.args.cell && is_part c.area-item.result sheet column s) || b)) (c.loop-area.invariant.has sheet column s)
          ∙ one_more_added (eq_by_cmp cell_cmp s.cell c.args.cell) (is_part c.area-item.result sheet column s) (list_any (λ area. is_part area sheet column s) (take c.loop-area.area-index c.args.areas.now)) (has_strip (strips_in c.args.columns.now sheet column) s)
          ∙ ap (λ b. ((eq_by_cmp cell_cmp s.cell c.args.cell && b) || has_strip (strips_in c.args.columns.now sheet column) s)) (sym more);
    }
