use Rattle.std.proofs.Common.{◌∙◌, ap}
use Rattle.std.specs.Cmp.{nat_cmp_total}
use Rattle.std.specs.FinMap.{from_entries, nat_cmp-IsAntisymmetric}
use Rattle.std.specs.Prelude.{◌==◌}
use Rattle.cell_refs.specs.declared.place.Place.TheVariants as place
use Rattle.extract.specs.Tables.{Table, with_form}
use Rattle.extract.proofs.Maps.{put_as, same_numbers, number_itself}
use Rattle.extract.proofs.table.FormTable.put_side.Goals as goal

pub returns-clause-ok : goal.returns-clause-ok
returns-clause-ok c =
    (λ i. record { cells = from_entries c.self.inside.cells.entries; sides = put_as nat_cmp_total nat_cmp-IsAntisymmetric (λ a b. a == b) same_numbers number_itself c.self.inside.sides.entries c.insert.new.self.entries c.args.number c.args.form c.in-Ok.ensures.updates.0 i })
    ∙ ap (λ (t : Table). with_form t (place.Side c.args.number) c.args.form) c.self.view_is
