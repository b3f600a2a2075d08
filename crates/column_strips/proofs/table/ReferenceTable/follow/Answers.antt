use Rattle.std.proofs.Common.{◌≡◌, Some, true, get_or, slice_get, take, ap, sym, ◌∙◌, arith}
use Rattle.std.specs.Prelude.{◌||◌, ◌&&◌, nat_le, List}
use Rattle.std.specs.FinMap.{contains_key, get}
use Rattle.std.specs.List.{list_any}
use Rattle.std.specs.Ordering.{eq_by_cmp}
use Rattle.std.proofs.lemmas.List.{take_all}
use Rattle.std.proofs.lemmas.List.Folds.{list_any_more}
use Rattle.std.proofs.lemmas.Option.{slice_get-get_or}
use Rattle.cell_refs.specs.Cells.{cell_cmp}
use Rattle.column_strips.specs.declared.strip.Strip.{Strip}
use Rattle.column_strips.specs.Affected.{has_cell}
use Rattle.column_strips.proofs.Following.{made_by, marked_formulas, marked_has, marked_kept, reached, room_left}
use Rattle.column_strips.proofs.Referring.{leads, leads_is, strip_kept}
use Rattle.column_strips.proofs.table.ReferenceTable.follow.Goals as goal

abbrev none : Strip
none = record { cell = record { sheet = record { 0 = 0 }; row = 0; col = 0 }; top = 0; bottom = 0 }

pub mark-requires-clause-room : goal.mark-requires-clause-room
mark-requires-clause-room c = λ absent.
    let s : Strip = get_or c.strips-strips.result.now c.loop-strip.strip-index none in
    let at : slice_get c.strips-strips.result.now c.loop-strip.strip-index ≡ Some s = slice_get-get_or c.strips-strips.result.now c.loop-strip.strip-index none c.loop-strip-test.true in
    let own : contains_key c.args.self.now s.cell ≡ true
    = made_by (get c.args.self.now s.cell) c.args.to.sheet.0 c.args.to.col s (strip_kept c.args.self.now c.args.to c.strips-strips.result.now c.strips-strips.ensures c.loop-strip.strip-index s at) in
    let less = room_left c.args.self.now c.loop-strip.cells.items s.cell c.loop-strip.invariant.marks.distinct c.loop-strip.invariant.formulas own c.requires.few absent in
    omega (arith, less, c.loop-strip.cells.ok.0)

pub loop-strip-preserved : goal.loop-strip-preserved
loop-strip-preserved c =
    let s : Strip = get_or c.strips-strips.result.now c.loop-strip.strip-index none in
    let at : slice_get c.strips-strips.result.now c.loop-strip.strip-index ≡ Some s = slice_get-get_or c.strips-strips.result.now c.loop-strip.strip-index none c.loop-strip-test.true in
    let own : contains_key c.args.self.now s.cell ≡ true
    = made_by (get c.args.self.now s.cell) c.args.to.sheet.0 c.args.to.col s (strip_kept c.args.self.now c.args.to c.strips-strips.result.now c.strips-strips.ensures c.loop-strip.strip-index s at) in
    let has_row : (nat_le s.top c.args.to.row && nat_le c.args.to.row s.bottom) ≡ true = sym c.has_row.ensures ∙ c.if-not-has_row.false in
    record {
      marks = c.mark.ensures.marks;
      formulas = marked_formulas c.loop-strip.cells.items c.mark.new.cells.items s.cell c.mark.ensures.marked c.args.self.now c.loop-strip.invariant.formulas own;
      kept = λ p d h. marked_kept c.loop-strip.cells.items c.mark.new.cells.items s.cell c.mark.ensures.marked p d (c.loop-strip.invariant.kept p d h);
      has = λ x.
          marked_has c.loop-strip.cells.items c.mark.new.cells.items s.cell c.mark.ensures.marked x
          ∙ ap (λ b. b || eq_by_cmp cell_cmp x s.cell) (c.loop-strip.invariant.has x)
          ∙ reached (has_cell c.args.cells.now.items x) (list_any (leads c.args.to.row x) (take c.loop-strip.strip-index c.strips-strips.result.now)) (eq_by_cmp cell_cmp x s.cell)
          (nat_le s.top c.args.to.row && nat_le c.args.to.row s.bottom) has_row
          ∙ ap (λ b. has_cell c.args.cells.now.items x || b) (sym (list_any_more (leads c.args.to.row x) c.strips-strips.result.now c.loop-strip.strip-index none c.loop-strip-test.true));
    }

pub returns-clause-followed : goal.returns-clause-followed
returns-clause-followed c = record {
  kept = c.loop-strip.invariant.kept;
  has = λ x.
      c.loop-strip.invariant.has x
      ∙ ap (λ (xs : List Strip). has_cell c.args.cells.now.items x || list_any (leads c.args.to.row x) xs) (take_all c.loop-strip.strip-index c.strips-strips.result.now c.loop-strip-test.false)
      ∙ ap (λ b. has_cell c.args.cells.now.items x || b) (leads_is c.args.self.now c.args.to c.strips-strips.result.now c.strips-strips.ensures x);
}
