use Rattle.std.proofs.Common.{◌≡◌, ℕ, ◌≤◌, List, Some, true, get_or, slice_get, ap, subst, sym, ◌∙◌, arith, inl, inr}
use Rattle.std.specs.FinMap.{contains_key, get}
use Rattle.std.proofs.lemmas.Bool.{cases_eq}
use Rattle.std.proofs.lemmas.Option.{same_Some, slice_get-get_or, slice_get_within}
use Rattle.column_strips.specs.declared.strip.Strip.{Strip}
use Rattle.column_strips.specs.Affected.{IsAtOrReaches, has_cell, refers_in}
use Rattle.column_strips.specs.Rows.{in_column}
use Rattle.column_strips.proofs.Following.{made_by, marked_formulas, marked_kept, room_left}
use Rattle.column_strips.proofs.Gathered.{marked_itself, marked_still, marked_which, one_reaches, refers_to_row, strip_of_row}
use Rattle.column_strips.proofs.Referring.{strip_kept}
use Rattle.column_strips.proofs.table.ReferenceTable.follow_rows.Goals as goal

abbrev none : Strip
none = record { cell = record { sheet = record { 0 = 0 }; row = 0; col = 0 }; top = 0; bottom = 0 }

pub mark-requires-clause-room : goal.mark-requires-clause-room
mark-requires-clause-room c = λ absent.
    let s : Strip = get_or c.strips-strips.result.now c.loop-strip.strip-index none in
    let at : slice_get c.strips-strips.result.now c.loop-strip.strip-index ≡ Some s = slice_get-get_or c.strips-strips.result.now c.loop-strip.strip-index none c.loop-strip-test.true in
    let own : contains_key c.args.self.now s.cell ≡ true
    = made_by (get c.args.self.now s.cell) c.args.to.sheet.0 c.args.to.col s (strip_kept c.args.self.now c.args.to c.strips-strips.result.now c.strips-strips.ensures c.loop-strip.strip-index s at) in
    let less = room_left c.args.self.now c.loop-strip.cells.items s.cell c.loop-strip.invariant.marks.distinct c.loop-strip.invariant.formulas own c.requires.few absent in
    omega (arith, less, c.loop-strip.cells.ok.0)

pub loop-strip-preserved-then-not-meets : goal.loop-strip-preserved-then-not-meets
loop-strip-preserved-then-not-meets c =
    let s : Strip = get_or c.strips-strips.result.now c.loop-strip.strip-index none in
    let at : slice_get c.strips-strips.result.now c.loop-strip.strip-index ≡ Some s = slice_get-get_or c.strips-strips.result.now c.loop-strip.strip-index none c.loop-strip-test.true in
    record {
      marks = c.loop-strip.invariant.marks;
      formulas = c.loop-strip.invariant.formulas;
      kept = c.loop-strip.invariant.kept;
      sound = c.loop-strip.invariant.sound;
      ahead = c.loop-strip.invariant.ahead;
      room = c.loop-strip.invariant.room;
      rows = c.loop-strip.invariant.rows;
      sought = c.loop-strip.invariant.sought;
      all = λ i t r h g w top bottom. elim (cases_eq i c.loop-strip.strip-index) as (λ _. has_cell c.loop-strip.cells.items t.cell ≡ true) [
        | inl e ↦
            let same : t ≡ s = same_Some t s (sym g ∙ ap (slice_get c.strips-strips.result.now) e ∙ at) in
            let m = c.meets.ensures.all r (ap (λ (xs : List ℕ). slice_get xs r) c.deref.ensures.value ∙ c.loop-strip.invariant.sought r w) (subst (λ (x : Strip). x.top ≤ r) same top) (subst (λ (x : Strip). r ≤ x.bottom) same bottom) in
            let n = c.if-not-meets.true in
            cc
        | inr n ↦ c.loop-strip.invariant.all i t r (omega (arith, h, n)) g w top bottom
      ];
    }

pub loop-strip-preserved : goal.loop-strip-preserved
loop-strip-preserved c =
    let s : Strip = get_or c.strips-strips.result.now c.loop-strip.strip-index none in
    let at : slice_get c.strips-strips.result.now c.loop-strip.strip-index ≡ Some s = slice_get-get_or c.strips-strips.result.now c.loop-strip.strip-index none c.loop-strip-test.true in
    let own : contains_key c.args.self.now s.cell ≡ true
    = made_by (get c.args.self.now s.cell) c.args.to.sheet.0 c.args.to.col s (strip_kept c.args.self.now c.args.to c.strips-strips.result.now c.strips-strips.ensures c.loop-strip.strip-index s at) in
    let w = c.meets.ensures.one c.if-not-meets.false in
    let refers = refers_to_row c.args.self.now c.args.to c.strips-strips.result.now c.strips-strips.ensures c.loop-strip.strip-index s w.0 at w.2 w.3 in
    let reach : IsAtOrReaches (refers_in c.args.self.now) c.args.from s.cell
    = one_reaches (refers_in c.args.self.now) c.args.from s.cell (in_column c.args.to w.0) refers (c.loop-strip.invariant.sound (in_column c.args.to w.0) (c.loop-strip.invariant.rows w.0 (ap (λ (xs : List ℕ). slice_get xs w.0) (sym c.deref.ensures.value) ∙ w.1))) in
    record {
      marks = c.mark.ensures.marks;
      formulas = marked_formulas c.loop-strip.cells.items c.mark.new.cells.items s.cell c.mark.ensures.marked c.args.self.now c.loop-strip.invariant.formulas own;
      kept = λ p d h. marked_kept c.loop-strip.cells.items c.mark.new.cells.items s.cell c.mark.ensures.marked p d (c.loop-strip.invariant.kept p d h);
      sound = λ x h. elim (marked_which c.loop-strip.cells.items c.mark.new.cells.items s.cell c.mark.ensures.marked x h) as (λ _. IsAtOrReaches (refers_in c.args.self.now) c.args.from x) [
        | inl old ↦ c.loop-strip.invariant.sound x old
        | inr e ↦ subst (IsAtOrReaches (refers_in c.args.self.now) c.args.from) (sym e) reach
      ];
      ahead = c.add_beside.ensures.ahead;
      room = omega (arith, c.loop-strip.invariant.room, c.add_beside.ensures.capacity);
      rows = λ r h. elim (c.add_beside.ensures.others r h) as (λ _. has_cell c.mark.new.cells.items (in_column c.args.to r) ≡ true) [
        | inl e ↦ ap (has_cell c.mark.new.cells.items) (sym e) ∙ marked_itself c.loop-strip.cells.items c.mark.new.cells.items s.cell c.mark.ensures.marked
        | inr old ↦ marked_still c.loop-strip.cells.items c.mark.new.cells.items s.cell c.mark.ensures.marked (in_column c.args.to r) (c.loop-strip.invariant.rows r old)
      ];
      sought = λ r h. c.add_beside.ensures.kept r (c.loop-strip.invariant.sought r h);
      all = λ i t r h g u top bottom. elim (cases_eq i c.loop-strip.strip-index) as (λ _. has_cell c.mark.new.cells.items t.cell ≡ true) [
        | inl e ↦
            let same : t ≡ s = same_Some t s (sym g ∙ ap (slice_get c.strips-strips.result.now) e ∙ at) in
            ap (λ (x : Strip). has_cell c.mark.new.cells.items x.cell) same ∙ marked_itself c.loop-strip.cells.items c.mark.new.cells.items s.cell c.mark.ensures.marked
        | inr n ↦ marked_still c.loop-strip.cells.items c.mark.new.cells.items s.cell c.mark.ensures.marked t.cell (c.loop-strip.invariant.all i t r (omega (arith, h, n)) g u top bottom)
      ];
    }

pub returns-clause-all : goal.returns-clause-all
returns-clause-all c = λ r x w h.
    let p = strip_of_row c.args.self.now c.args.to c.strips-strips.result.now c.strips-strips.ensures x r h in
    let inside = slice_get_within c.strips-strips.result.now p.0 p.1 p.2 in
    ap (has_cell c.loop-strip.cells.items) p.3 ∙ c.loop-strip.invariant.all p.0 p.1 r (omega (arith, inside, c.loop-strip-test.false)) p.2 w p.4 p.5
