use Rattle.std.proofs.Common.{◌≡◌, ◌≤◌, ◌-◌, length}
use Rattle.std.specs.Io.KnownBytes.{Consumes}
use Rattle.cell_refs.specs.declared.limits.TheConstants.{FILE_BYTES}
use Rattle.run_inputs.proofs.script.read_script.Given as goal

-- what was read so far stood at the front of the script, and no read failed
abbrev pub invariant-loop-count : goal.invariant-loop-count
invariant-loop-count g l = record {
  few : length l.bytes.items ≤ FILE_BYTES;
  read : Consumes (g.S.Source.left l.fn.script) (g.S.Source.left l.script) l.bytes.items;
  same : g.S.Source.faults l.script ≡ g.S.Source.faults l.fn.script;
}

abbrev pub decreases-loop-count : goal.decreases-loop-count
decreases-loop-count g l = FILE_BYTES - length l.bytes.items
