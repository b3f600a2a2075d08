use Rattle.std.proofs.Common.{◌∙◌}
use Rattle.form_ops.specs.Operands.{wanted_in}
use Rattle.form_areas.proofs.Placing.{none_fault, range_known, range_open}
use Rattle.form_areas.proofs.indexing.place_in_range.Goals as goal

pub returns-in-Some : goal.returns-in-Some
returns-in-Some c = range_known c.args.size (wanted_in c.args.place.now) c.in-Some.number c.in-Some.ensures

pub returns-in-None : goal.returns-in-None
returns-in-None c = c.only_place.ensures ∙ range_open c.args.size (wanted_in c.args.place.now) c.in-None.ensures (λ k e. c.in_default.not-Fault k (none_fault c.args.place.now k e))
