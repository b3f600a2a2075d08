use Rattle.std.proofs.Common.{◌≡◌, ◌<◌, ◌∙◌, ap, length, arith}
use Rattle.std.proofs.lemmas.List.{length-replicate, length-set}
use Rattle.fractions.specs.Rational.{zero_ℚ}
use Rattle.tableau.proofs.Made.{put_here}
use Rattle.tableau.proofs.Merging.{written_result}
use Rattle.tableau.proofs.numbers.write.Goals as goal

pub returns-in-Ok-clause-made : goal.returns-in-Ok-clause-made
returns-in-Ok-clause-made c =
    let width : length c.clear.new.self ≡ length c.args.into.now = ap length c.clear.ensures ∙ length-replicate (length c.args.into.now) zero_ℚ in
    let some : 0 < length c.clear.new.self = omega (arith, c.requires.place, c.requires.room, width) in
    let size : length c.write_entries.new.into ≡ length c.args.row.now =
    c.write_entries.ensures.size ∙ ap length c.set_rest.ensures ∙ length-set c.clear.new.self 0 c.in-Ok.sum ∙ width ∙ c.requires.room in
    written_result c.args.row.now c.args.by.now c.write_entries.new.into c.args.col c.rest-rest.result c.args.factor.now c.rest.result c.in-Ok.sum c.write_entries.result c.requires.narrow
    c.requires.other size c.rest-rest.ensures c.requires.factor c.rest.ensures c.in-Ok.ensures
    (c.write_entries.ensures.rest ∙ put_here c.clear.new.self c.set_rest.new.self 0 c.in-Ok.sum c.set_rest.ensures some) c.write_entries.ensures.made
