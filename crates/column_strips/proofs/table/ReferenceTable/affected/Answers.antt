use Rattle.std.proofs.Common.{◌≡◌, ◌++◌, ◌∷◌, [], cond, List, length, ap, sym, subst, ◌∙◌, arith}
use Rattle.std.specs.FinSet as set
use Rattle.cell_refs.specs.declared.cell.Cell.{Cell}
use Rattle.cell_refs.proofs.Order.{cells_total}
use Rattle.column_strips.specs.Affected.{AreDone, AreFormulas, IsSpreading, has_cell, refers_in}
use Rattle.column_strips.proofs.Gathered.{none_done}
use Rattle.column_strips.proofs.Marked.{none_listed}
use Rattle.column_strips.proofs.Spreading.{all_found, first_spreads}
use Rattle.column_strips.proofs.table.ReferenceTable.affected.Goals as goal

pub mark-requires-clause-room : goal.mark-requires-clause-room
mark-requires-clause-room c = λ absent.
    let empty : c.marks.inside.cells.items ≡ [] = none_listed c.marks.inside.cells.items (c.marks.view_is ∙ c.requires) in
    omega (arith, ap length empty, c.marks.inside.cells.ok.0)

pub spread-requires-clause-formulas : goal.spread-requires-clause-formulas
spread-requires-clause-formulas c =
    let empty : c.marks.inside.cells.items ≡ [] = none_listed c.marks.inside.cells.items (c.marks.view_is ∙ c.requires) in
    let alone : c.mark.new.cells.items ≡ c.args.from ∷ []
    = c.mark.ensures.marked ∙ ap (λ (xs : List Cell). cond (has_cell xs c.args.from) xs (xs ++ c.args.from ∷ [])) empty in
    subst (AreFormulas c.args.self.now) (sym alone) (λ p d h. cc)

pub spread-requires-clause-spreading : goal.spread-requires-clause-spreading
spread-requires-clause-spreading c =
    let empty : c.marks.inside.cells.items ≡ [] = none_listed c.marks.inside.cells.items (c.marks.view_is ∙ c.requires) in
    let alone : c.mark.new.cells.items ≡ c.args.from ∷ []
    = c.mark.ensures.marked ∙ ap (λ (xs : List Cell). cond (has_cell xs c.args.from) xs (xs ++ c.args.from ∷ [])) empty in
    subst (λ (xs : List Cell). IsSpreading (refers_in c.args.self.now) c.args.from xs 0) (sym alone) (first_spreads (refers_in c.args.self.now) c.args.from)

pub returns : goal.returns
returns c = λ d.
    let found = all_found (refers_in c.args.self.now) c.args.from c.spread.new.cells.items c.spread.ensures.spread d in
    let e = set.contains-from_list cells_total c.spread.new.cells.items d in
    (λ h. found.0 (sym e ∙ h), λ h. e ∙ found.1 h)

pub spread-requires-clause-done : goal.spread-requires-clause-done
spread-requires-clause-done c = subst (AreDone (refers_in c.args.self.now) c.mark.new.cells.items) (sym c.clear.ensures.items) (none_done (refers_in c.args.self.now) c.mark.new.cells.items)
