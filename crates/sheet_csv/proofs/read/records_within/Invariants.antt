use Rattle.std.proofs.Common.{◌≡◌, ◌<◌, ◌≤◌, ℕ, List, Some, length}
use Rattle.csv.specs.Reading.{Reached, Ready, default_config, source_of, strip_bom}
use Rattle.csv.specs.declared.parser.State.TheVariants as st
use Rattle.csv.specs.declared.reader.Trim.TheVariants as trim
use Rattle.sheet_csv.proofs.read.records_within.Given as goal

-- the records so far take the text to what the reader has left
abbrev pub invariant-loop-record : goal.invariant-loop-record
invariant-loop-record l = record {
  plain : l.record-iterator.rdr.trim ≡ trim.None;
  ready : Ready l.record-iterator.rdr;
  turns : 0 < l.record-iterator.left;
  config : l.record-iterator.rdr.config ≡ default_config;
  few : length l.records.items ≤ l.most;
  rest : List ℕ;
  source : source_of (λ s. Some s.now) l.record-iterator.rdr ≡ Some rest;
  reached : Reached default_config st.StartRecord (strip_bom l.fn.text) l.records.items l.record-iterator.rdr.state rest;
}
