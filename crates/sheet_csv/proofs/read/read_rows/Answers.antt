use Rattle.sheet_csv.proofs.Fields.{rows_text}
use Rattle.sheet_csv.proofs.read.read_rows.Goals as goal

pub returns-clause-text : goal.returns-clause-text
returns-clause-text c =
    let found = rw c.in-Some.is at c.in-Ok.ensures in
    rows_text c.args.bytes.now c.in-Some.records.items c.in_default.ensures.cases.1 found.0
