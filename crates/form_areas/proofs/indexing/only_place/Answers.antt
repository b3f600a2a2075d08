use Rattle.std.proofs.Common.{Some, ap, ◌∙◌}
use Rattle.form_areas.specs.Places.{picked_at}
use Rattle.form_areas.proofs.Placing.{only_none, only_one}
use Rattle.form_areas.proofs.indexing.only_place.Goals as goal

pub returns-then-size-eq1 : goal.returns-then-size-eq1
returns-then-size-eq1 c = ap (λ z. picked_at c.args.size (Some z)) c.zero.ensures ∙ only_one c.args.size c.if-size-eq1.true

pub returns : goal.returns
returns c = only_none c.args.size c.if-size-eq1.false
