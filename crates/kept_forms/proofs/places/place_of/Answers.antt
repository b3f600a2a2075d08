use Rattle.std.proofs.Common.{sym, ◌∙◌, arith}
use Rattle.std.proofs.lemmas.Bool.{eqb-true}
use Rattle.kept_forms.proofs.Placed.{at_place}
use Rattle.kept_forms.proofs.places.place_of.Goals as goal

pub returns-then-is_of-clause-found : goal.returns-then-is_of-clause-found
returns-then-is_of-clause-found c =
    let t = c.index-tables-place.result in
    (t, at_place c.args.tables.now c.loop-place.place t (omega arith) c.index-tables-place.is, eqb-true t.sheet c.args.sheet.0 (sym c.is_of.ensures ∙ c.if-is_of.true))
