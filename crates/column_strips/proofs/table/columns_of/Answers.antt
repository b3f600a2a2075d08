use Rattle.std.proofs.Common.{◌≡◌, ◌&&◌, ◌++◌, Bool, true, false, cond, List, [], length, take, drop, refl, ap, sym, subst, ◌∙◌, arith, append-nil}
use Rattle.std.specs.Prelude.{◌||◌, nat_lt}
use Rattle.std.specs.List.{list_any}
use Rattle.std.specs.Ordering.{eq_by_cmp}
use Rattle.std.proofs.lemmas.List.{drop_all, take_all}
use Rattle.std.proofs.lemmas.List.Folds.{list_any_more}
use Rattle.cell_refs.specs.Areas.{Area}
use Rattle.cell_refs.specs.Cells.{cell_cmp}
use Rattle.cell_refs.specs.declared.limits.TheConstants.{COLUMNS}
use Rattle.column_strips.specs.declared.formulas.Formula.{Formula}
use Rattle.column_strips.specs.declared.strip.Strip.{Strip}
use Rattle.column_strips.specs.Columns.{AllRising, Columns, place_in, strips_in}
use Rattle.column_strips.specs.Kept.{makes}
use Rattle.column_strips.specs.Strips.{has_strip, is_part}
use Rattle.column_strips.proofs.table.columns_of.Goals as goal

-- a list written back whole
whole : (new items : Columns) → length new ≡ length items → take (length items) (new ++ drop (length new) items) ≡ new
whole new items same =
    ap (λ (xs : Columns). take (length items) (new ++ xs)) (drop_all (length new) items (omega (arith, same)))
    ∙ ap (take (length items)) (append-nil new) ∙ take_all (length items) new (omega (arith, same))

turned : (a b : Bool) → (a || b) ≡ (b || a)
turned true true = refl
turned true false = refl
turned false true = refl
turned false false = refl

pub loop-formula-preserved : goal.loop-formula-preserved
loop-formula-preserved c =
    let f : Formula = c.formula-item.result in
    let n : length c.add_areas.new.columns ≡ length c.make_room.new.columns.items = omega (arith, c.add_areas.auto.columns, ap length c.deref_mut.ensures.value) in
    let len : c.make_room.new.columns.len ≡ length c.make_room.new.columns.items = omega (arith, c.make_room.new.columns.ok.0) in
    let e : take c.make_room.new.columns.len (c.add_areas.new.columns ++ drop (length c.add_areas.new.columns) c.make_room.new.columns.items) ≡ c.add_areas.new.columns
    = ap (λ k. take k (c.add_areas.new.columns ++ drop (length c.add_areas.new.columns) c.make_room.new.columns.items)) len ∙ whole c.add_areas.new.columns c.make_room.new.columns.items n in
    record {
      rising = subst AllRising (sym e) c.add_areas.ensures.rising;
      strips = λ sheet column s.
          ap (λ (cs : Columns). has_strip (strips_in cs sheet column) s) e
          ∙ c.add_areas.ensures.has sheet column s
          ∙ ap (λ (cs : Columns). (eq_by_cmp cell_cmp s.cell f.cell && list_any (λ area. is_part area sheet column s) c.as_slice-areas.result.now) || has_strip (strips_in cs sheet column) s) c.deref_mut.ensures.value
          ∙ ap (λ (xs : List Strip). (eq_by_cmp cell_cmp s.cell f.cell && list_any (λ area. is_part area sheet column s) c.as_slice-areas.result.now) || has_strip (cond (nat_lt column COLUMNS) xs []) s)
          (c.in_ok-make_room.ensures.same (place_in sheet column))
          ∙ ap (λ b. (eq_by_cmp cell_cmp s.cell f.cell && list_any (λ area. is_part area sheet column s) c.as_slice-areas.result.now) || b) (c.loop-formula.invariant.strips sheet column s)
          ∙ ap (λ (areas : List Area). (eq_by_cmp cell_cmp s.cell f.cell && list_any (λ area. is_part area sheet column s) areas) || list_any (makes sheet column s) (take c.loop-formula.formula-index c.args.formulas.now))
          c.as_slice-areas.ensures.value
          ∙ turned (makes sheet column s f) (list_any (makes sheet column s) (take c.loop-formula.formula-index c.args.formulas.now))
          ∙ sym (list_any_more (makes sheet column s) c.args.formulas.now c.loop-formula.formula-index f c.loop-formula-test.true
          ∙ ap (λ (g : Formula). list_any (makes sheet column s) (take c.loop-formula.formula-index c.args.formulas.now) || makes sheet column s g) (sym c.formula-item.is));
    }
