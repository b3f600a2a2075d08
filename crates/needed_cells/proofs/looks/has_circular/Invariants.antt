use Rattle.std.proofs.Common.{◌≡◌, false, take}
use Rattle.std.specs.List.{list_any}
use Rattle.cell_refs.specs.declared.place.Place.TheVariants as place
use Rattle.needed_cells.specs.Finding.{is_kept_circular}
use Rattle.needed_cells.proofs.looks.has_circular.Given as goal

abbrev pub invariant-loop-cell : goal.invariant-loop-cell
invariant-loop-cell l = list_any (λ b. is_kept_circular l.forms (place.Cell b)) (take l.cell-index l.cells) ≡ false
