use Rattle.csv.specs.Records.{fields_of}
use Rattle.csv.proofs.RecordFacts.{text-more}
use Rattle.sheet_csv.proofs.rows.put_text.Goals as goal

pub returns-clause-text : goal.returns-clause-text
returns-clause-text c = λ texts.
    rw (c.in_ok-push_field.ensures.fields, c.requires, c.as_bytes.ensures.value) (text-more (fields_of c.args.row.now) c.args.text.now texts c.utf8.text)
