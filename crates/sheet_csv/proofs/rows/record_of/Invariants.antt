use Rattle.std.proofs.Common.{◌≡◌, [], map, take}
use Rattle.csv.specs.Records.{AllText, fields_of, partial_of}
use Rattle.sheet_csv.proofs.rows.record_of.Given as goal

-- the texts so far are the fields
abbrev pub invariant-loop-text : goal.invariant-loop-text
invariant-loop-text l = record {
  fields : fields_of l.row ≡ map (λ t. t.now) (take l.text-index l.texts);
  whole : partial_of l.row ≡ [];
  texts : AllText (fields_of l.row);
}
