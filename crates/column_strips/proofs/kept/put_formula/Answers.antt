use Rattle.std.proofs.Common.{◌≡◌, ◌&&◌, cond, List, length, ap, sym, subst, ◌∙◌, arith}
use Rattle.std.specs.Prelude.{◌||◌, slice_get}
use Rattle.std.specs.List.{insert, list_any}
use Rattle.std.specs.Ordering.{eq_by_cmp}
use Rattle.cell_refs.specs.Areas.{Area}
use Rattle.cell_refs.specs.Cells.{cell_cmp}
use Rattle.column_strips.specs.declared.formulas.Formula.{Formula}
use Rattle.column_strips.specs.Columns.{strips_in}
use Rattle.column_strips.specs.Formulas.{references_in}
use Rattle.column_strips.specs.Kept.{AreKept}
use Rattle.column_strips.specs.Strips.{has_strip, is_part}
use Rattle.column_strips.proofs.Finding.{references_insert}
use Rattle.column_strips.proofs.KeptLaws.{kept_with, later_ones}
use Rattle.column_strips.proofs.kept.put_formula.Goals as goal

pub returns-clause-kept : goal.returns-clause-kept
returns-clause-kept c =
    let e = c.first_not_before-place.ensures in
    let inserted : c.insert.new.self.items ≡ insert c.args.formulas.now.items c.first_not_before-place.result c.args.formula
    = c.insert.ensures.items ∙ ap (λ b. cond b (insert c.args.formulas.now.items c.first_not_before-place.result c.args.formula) c.args.formulas.now.items) (c.insert.ensures.succeeds c.requires.room) in
    subst (λ (fs : List Formula). AreKept fs c.add_areas.new.columns) (sym inserted)
    (kept_with c.args.formulas.now.items c.args.columns.now c.requires.kept c.first_not_before-place.result c.args.formula
    (omega (arith, e.within.1, ap length c.deref-2.ensures.value)) c.add_areas.new.columns c.add_areas.ensures.rising
    (λ k g l at. e.before k g (omega arith) l (ap (λ (xs : List Formula). slice_get xs k) c.deref-2.ensures.value ∙ at))
    (later_ones c.args.formulas.now.items c.requires.kept.sorted c.args.formula.cell c.requires.absent c.first_not_before-place.result
    (λ f at. e.first f (ap (λ (xs : List Formula). slice_get xs c.first_not_before-place.result) c.deref-2.ensures.value ∙ at)))
    c.requires.few
    (λ sheet column s.
    c.add_areas.ensures.has sheet column s
    ∙ ap (λ (areas : List Area). (eq_by_cmp cell_cmp s.cell c.args.formula.cell && list_any (λ area. is_part area sheet column s) areas) || has_strip (strips_in c.args.columns.now sheet column) s) c.deref.ensures.value))

pub returns-clause-put : goal.returns-clause-put
returns-clause-put c =
    let e = c.first_not_before-place.ensures in
    let inserted : c.insert.new.self.items ≡ insert c.args.formulas.now.items c.first_not_before-place.result c.args.formula
    = c.insert.ensures.items ∙ ap (λ b. cond b (insert c.args.formulas.now.items c.first_not_before-place.result c.args.formula) c.args.formulas.now.items) (c.insert.ensures.succeeds c.requires.room) in
    ap references_in inserted
    ∙ references_insert c.args.formulas.now.items c.first_not_before-place.result c.args.formula
    (λ k g l at. e.before k g (omega arith) l (ap (λ (xs : List Formula). slice_get xs k) c.deref-2.ensures.value ∙ at))
