use Rattle.std.proofs.Common.{◌∙◌, ap}
use Rattle.std.specs.Cmp.{nat_cmp_total}
use Rattle.std.specs.FinMap.{from_entries, nat_cmp-IsAntisymmetric}
use Rattle.std.specs.Prelude.{◌==◌}
use Rattle.cell_refs.specs.declared.place.Place.TheVariants as place
use Rattle.extract.specs.Tables.{Table, without}
use Rattle.extract.proofs.Maps.{taken_as, same_numbers, number_itself}
use Rattle.extract.proofs.table.FormTable.take_side.Goals as goal

pub returns : goal.returns
returns c =
    (λ i. record { cells = from_entries c.self.inside.cells.entries; sides = taken_as nat_cmp_total nat_cmp-IsAntisymmetric (λ a b. a == b) same_numbers number_itself c.self.inside.sides.entries c.swap_remove.new.self.entries c.args.number c.swap_remove.ensures.updates.0 i })
    ∙ ap (λ (t : Table). without t (place.Side c.args.number)) c.self.view_is
