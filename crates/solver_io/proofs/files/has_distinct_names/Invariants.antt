use Rattle.std.proofs.Common.{drop}
use Rattle.std.specs.List.{IsDistinct}
use Rattle.std.specs.Str.{bytes_eq}
use Rattle.solver_io.specs.Held.{names_of}
use Rattle.solver_io.proofs.files.has_distinct_names.Given as goal

-- the names from here on are distinct
abbrev pub invariant-loop-i : goal.invariant-loop-i
invariant-loop-i l = IsDistinct bytes_eq (names_of (drop l.i l.files))
