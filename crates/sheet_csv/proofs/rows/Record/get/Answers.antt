use Rattle.std.proofs.Common.{◌∙◌}
use Rattle.csv.specs.Records.{fields_of}
use Rattle.sheet_csv.proofs.RowTexts.{field_at-slice_get}
use Rattle.sheet_csv.proofs.rows.Record.get.Goals as goal

pub returns : goal.returns
returns c = rw (← c.self.view_is) (c.get.ensures.value ∙ field_at-slice_get (fields_of c.self.inside.texts) c.args.column)
