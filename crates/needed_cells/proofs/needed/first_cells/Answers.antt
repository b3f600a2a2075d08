use Rattle.std.specs.Prelude.{◌↔◌, IfOk}
use Rattle.std.proofs.Common.{Contains, subst, sym}
use Rattle.cell_refs.specs.declared.cell.Cell.{Cell}
use Rattle.form_needs.specs.Needed.{PlaceLooksAt}
use Rattle.needed_cells.specs.Finding.{StartsAt, asked}
use Rattle.needed_cells.proofs.needed.first_cells.Goals as goal

pub returns-in_default : goal.returns-in_default
returns-in_default c =
    let q = asked c.args.sheet.now.book.now c.args.sheet.now.sides.now c.args.sheet.now.adj.now c.args.sheet.now.roots.now in
    subst (λ p. IfOk c.looks_of.result (λ cells. (b : Cell) → Contains cells.items b ↔ StartsAt q p b)) (sym c.in_default.is)
    (subst (λ p. IfOk c.looks_of.result (λ cells. (b : Cell) → Contains cells.items b ↔ PlaceLooksAt q p b)) c.in_default.is c.looks_of.ensures)
