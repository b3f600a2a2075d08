use Rattle.std.proofs.Common.{◌≡◌, ap, subst, sym, ◌∙◌}
use Rattle.std.specs.FinSet as set
use Rattle.cell_refs.specs.Cells.{cell_cmp}
use Rattle.cell_refs.specs.declared.cell.Cell.{Cell}
use Rattle.cell_refs.proofs.Order.{cells_total}
use Rattle.dep_table.specs.Affected.{AreAffected}
use Rattle.column_strips.specs.Affected.{has_cell}
use Rattle.needed_forms.specs.FromExtract.{form_at}
use Rattle.kept_marks.specs.Marks.{without_marked}
use Rattle.needed_forms.specs.FromSheetProblems.{tree_of}
use Rattle.kept_marks.specs.FromTouchedPlaces.{touches}
use Rattle.extract_incr.specs.Keeping.{Kept}
use Rattle.extract_incr.specs.Marking.{AreAreasOf}
use Rattle.extract_incr.proofs.Taken.{touched_are_taken}
use Rattle.extract_incr.proofs.forms.Forms.mark.Goals as goal

pub returns-clause-forms : goal.returns-clause-forms
returns-clause-forms c = λ book references p.
    let found = c.affected.ensures book references in
    let listed = λ (a : Cell). ap (λ (s : set.FinSet cell_cmp). set.contains s a) (sym c.cells-cells.ensures.all) ∙ set.contains-from_list cells_total c.cells-cells.result.now a in
    let affected : AreAffected book c.args.cell (has_cell c.cells-cells.result.now) = λ a. (λ h. (found a).0 (listed a ∙ h), λ w. sym (listed a) ∙ (found a).1 w) in
    subst (λ (k : Kept). form_at c.take_sides.new.table p ≡ without_marked (touches book (tree_of k.sides) c.args.cell) (form_at k.table) p) c.self.view_is
    (touched_are_taken book c.args.cell c.cells-cells.result.now affected c.self.inside.sides.items c.deref.result.now c.self.invariant.0
    (subst (λ areas. AreAreasOf areas c.self.inside.sides.items) (sym c.deref.ensures.value) c.self.invariant.1)
    c.self.inside.table c.take_cells.new.table c.take_sides.new.table (c.take_cells.ensures.cells, c.take_cells.ensures.sides) (c.take_sides.ensures.cells, c.take_sides.ensures.sides) p)
