use Rattle.std.proofs.Common.{arith}
use Rattle.csv.specs.Reading.{strip_bom}
use Rattle.sheet_csv.proofs.Marks.{strip_shorter}
use Rattle.sheet_csv.proofs.Records.{few_records}
use Rattle.sheet_csv.proofs.read.read_records.Goals as goal

-- so short a file has no more records than can be counted
pub unreachable-requires : goal.unreachable-requires
unreachable-requires c =
    let many = rw c.in-Err-TooManyRows.field-0-is at c.in-Err-TooManyRows.ensures.reads in
    omega (arith, many.1, few_records (strip_bom c.args.bytes.now), strip_shorter c.args.bytes.now)
