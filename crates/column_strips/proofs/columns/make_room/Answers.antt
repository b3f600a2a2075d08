use Rattle.std.proofs.Common.{arith}
use Rattle.std.proofs.lemmas.Option.{slice_get_within}
use Rattle.column_strips.proofs.columns.make_room.Goals as goal

pub returns-clause-room : goal.returns-clause-room
returns-clause-room c = λ k area at i a b.
    let within = slice_get_within c.args.areas.now k area at in
    let end = c.loop-area-test.false in
    c.loop-area.invariant.room k area (omega (arith, within, end)) at i a b
