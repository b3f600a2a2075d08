use Rattle.std.proofs.Common.{◌&&◌, take, ap, sym, ◌∙◌, arith}
use Rattle.std.specs.Prelude.{◌||◌, not}
use Rattle.std.specs.List.{list_any}
use Rattle.std.specs.Ordering.{eq_by_cmp}
use Rattle.std.proofs.lemmas.List.Folds.{list_any_more}
use Rattle.cell_refs.specs.Cells.{cell_cmp}
use Rattle.column_strips.specs.Columns.{strips_in}
use Rattle.column_strips.specs.Strips.{has_strip, is_part}
use Rattle.column_strips.proofs.Parts.{one_more_dropped}
use Rattle.column_strips.proofs.columns.drop_areas.Goals as goal

pub loop-area-preserved : goal.loop-area-preserved
loop-area-preserved c =
    record {
      rising = c.drop_area.ensures.rising;
      room = λ i. omega (arith, c.loop-area.invariant.room i, c.drop_area.ensures.room i);
      has = λ sheet column s.
          let more = list_any_more (λ area. is_part area sheet column s) c.args.areas.now c.loop-area.area-index c.area-item.result c.loop-area-test.true
          ∙ ap (λ area. list_any (λ area. is_part area sheet column s) (take c.loop-area.area-index c.args.areas.now) || is_part area sheet column s) (sym c.area-item.is) in
          c.drop_area.ensures.has sheet column s
          ∙ ap (λ b. (not (eq_by_cmp cell_cmp s.cell c.args.cell && is_part c.area-item.result sheet column s) && b)) (c.loop-area.invariant.has sheet column s)
          ∙ one_more_dropped (eq_by_cmp cell_cmp s.cell c.args.cell) (is_part c.area-item.result sheet column s) (list_any (λ area. is_part area sheet column s) (take c.loop-area.area-index c.args.areas.now)) (has_strip (strips_in c.args.columns.now sheet column) s)
          ∙ ap (λ b. (not (eq_by_cmp cell_cmp s.cell c.args.cell && b) && has_strip (strips_in c.args.columns.now sheet column) s)) (sym more);
    }
