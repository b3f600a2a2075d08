use Rattle.csv.specs.Records.{AllText}
use Rattle.sheet_csv.proofs.rows.record_of.Goals as goal

pub loop-text-init : goal.loop-text-init
unfolding AllText
loop-text-init c = record {
  fields = c.new-row.ensures.fields;
  whole = c.new-row.ensures.partial;
  texts = rw c.new-row.ensures.fields tt;
}
