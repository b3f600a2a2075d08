use Rattle.std.proofs.Common.{◌<◌, ◌∙◌, [], Some, ap, length, sym}
use Rattle.std.proofs.lemmas.Option.{slice_get-get_or}
use Rattle.csv.specs.Records.{fields_of}
use Rattle.csv.proofs.RecordFacts.{field-get, field-there}
use Rattle.sheet_csv.proofs.rows.Record.text.Goals as goal

pub unreachable-requires : goal.unreachable-requires
unreachable-requires c =
    let lt : c.args.column < length (fields_of c.self.inside.texts) = rw c.self.view_is c.requires in
    field-there (fields_of c.self.inside.texts) c.args.column lt (sym c.in_default.ensures.value)

pub returns : goal.returns
returns c =
    let fields = fields_of c.self.inside.texts in
    let lt : c.args.column < length fields = rw c.self.view_is c.requires in
    rw (← c.self.view_is) (slice_get-get_or fields c.args.column [] lt ∙ ap Some (field-get fields c.args.column c.in-Some.text.now (sym c.in-Some.ensures.value)))
