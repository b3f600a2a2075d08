use Rattle.std.proofs.Common.{◌≡◌, ◌++◌, string_bytes}
use Rattle.std.specs.Prelude.{encode_utf8_all}
use Rattle.commands.specs.Lines.{doubled}
use Rattle.commands.proofs.lines.say_doubled.Given as goal

-- the characters so far are appended, each quote twice
abbrev pub invariant-loop-c : goal.invariant-loop-c
invariant-loop-c l = string_bytes l.to ≡ string_bytes l.fn.to ++ doubled (encode_utf8_all l.yielded)
