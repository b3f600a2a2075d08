use Rattle.std.proofs.Common.{◌≡◌, ◌++◌, drop, map, string_bytes}
use Rattle.model_lines.specs.Ended.{ended}
use Rattle.commands.specs.Prices.{price_line}
use Rattle.commands.proofs.price_lines.say_rows.Given as goal

-- what is appended so far, and the lines of the rows that are left, are the lines of all
abbrev pub invariant-loop-row : goal.invariant-loop-row
invariant-loop-row l =
    string_bytes l.to ++ ended (map price_line (drop l.row-index l.rows)) ≡ string_bytes l.fn.to ++ ended (map price_line l.rows)
