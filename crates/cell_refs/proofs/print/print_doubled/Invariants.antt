use Rattle.std.proofs.Common.{◌≡◌, ◌++◌, string_bytes}
use Rattle.std.specs.Prelude.{encode_utf8_all}
use Rattle.cell_refs.specs.Names.{doubled}
use Rattle.cell_refs.proofs.print.print_doubled.Given as goal

-- the characters so far are appended, each quote twice
abbrev pub invariant-loop-c : goal.invariant-loop-c
invariant-loop-c l = string_bytes l.to ≡ string_bytes l.fn.to ++ doubled (encode_utf8_all l.yielded)
