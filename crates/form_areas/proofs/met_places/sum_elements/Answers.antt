use Rattle.form_areas.proofs.Meeting.{elements_fault, elements_given}
use Rattle.form_areas.proofs.met_places.sum_elements.Goals as goal

pub returns-in-Some : goal.returns-in-Some
returns-in-Some c = rw c.fault.ensures (elements_fault c.args.items.now c.in-Some.kind c.in-Some.ensures)

pub returns : goal.returns
returns c = rw c.as_one.ensures (rw c.as_entry.ensures (elements_given c.args.items.now c.total_of.result c.in_default.ensures c.total_of.ensures))
