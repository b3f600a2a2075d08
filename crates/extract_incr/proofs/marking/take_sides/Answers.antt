use Rattle.std.specs.Prelude.{if◌then◌else◌}
use Rattle.std.proofs.Common.{◌≡◌, subst}
use Rattle.std.proofs.lemmas.List.{take_all}
use Rattle.needed_forms.specs.FromExtract.{without}
use Rattle.cell_refs.specs.declared.place.Place.TheVariants as place
use Rattle.extract_incr.specs.Marking.{have_one}
use Rattle.extract_incr.specs.declared.marking.SideAreas.{SideAreas}
use Rattle.extract_incr.proofs.Taken.{AreSidesTaken, no_sides_taken, one_side_taken}
use Rattle.extract_incr.proofs.marking.take_sides.Goals as goal

pub loop-side-init : goal.loop-side-init
loop-side-init c = no_sides_taken c.args.cells.now c.args.table.now

pub loop-side-preserved : goal.loop-side-preserved
loop-side-preserved c =
    one_side_taken c.args.sides.now c.loop-side.side-index c.side-item.result c.args.cells.now c.args.table.now c.loop-side.table c.take_side.new.table c.loop-side-test.true c.loop-side.invariant
    (subst (λ (s : SideAreas). c.take_side.new.table ≡ (if have_one s.areas.items c.args.cells.now then without c.loop-side.table (place.Side s.number) else c.loop-side.table)) c.side-item.is c.take_side.ensures)

pub returns-clause-cells : goal.returns-clause-cells
returns-clause-cells c = c.loop-side.invariant.0

pub returns-clause-sides : goal.returns-clause-sides
returns-clause-sides c = (subst (λ sides. AreSidesTaken sides c.args.cells.now c.args.table.now c.loop-side.table) (take_all c.loop-side.side-index c.args.sides.now c.loop-side-test.false) c.loop-side.invariant).1
