use Rattle.std.proofs.Common.{◌∙◌, ◌++◌, ap, filter, subst, sym}
use Rattle.std.specs.Prelude.{Contains, ◌↔◌}
use Rattle.form_needs.specs.Needed.{Asked, IsNeeded}
use Rattle.workbook.specs.Kinds.{book_of}
use Rattle.cell_refs.specs.declared.place.Place.{Place}
use Rattle.needed_forms.specs.Firsts.{is_side}
use Rattle.needed_forms.proofs.Needing.{cells_as_places, needed_places}
use Rattle.needed_forms.proofs.places.needed_places.Goals as goal

pub returns : goal.returns
returns c =
    let q : Asked = record { book = book_of c.args.book.now; sides = c.args.sides.now; decisions = c.args.adj.now; roots = c.args.roots.now } in
    let same = c.in_ok-all.ensures ∙ ap (λ xs. xs ++ filter is_side c.args.roots.now) (c.in_ok-places.ensures ∙ ap cells_as_places c.deref.ensures.value) in
    subst (λ xs. (p : Place) → Contains xs p ↔ IsNeeded q p) (sym same)
    (needed_places q c.in_ok-found.found c.in_ok-cells.cells.items c.in_ok-found.ensures c.in_ok-cells.ensures.all)
