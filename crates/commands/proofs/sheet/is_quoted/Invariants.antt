use Rattle.std.proofs.Common.{◌≡◌, drop}
use Rattle.cell_refs.specs.Sheets.{unquoted}
use Rattle.commands.proofs.Naming.{is_name}
use Rattle.commands.proofs.sheet.is_quoted.Given as goal

-- what is left of the name stands in what is left of the text where the whole does
abbrev pub invariant-loop-own : goal.invariant-loop-own
invariant-loop-own l = is_name (drop l.own-index l.name) (unquoted l.left) ≡ is_name l.name (unquoted l.text)
