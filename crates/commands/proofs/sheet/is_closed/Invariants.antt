use Rattle.std.proofs.Common.{◌≡◌, drop}
use Rattle.std.specs.Prelude.{is_some}
use Rattle.cell_refs.specs.Sheets.{unquoted}
use Rattle.cell_refs.proofs.Quoted.{left_of}
use Rattle.commands.proofs.sheet.is_closed.Given as goal

-- what is left of the text is closed where the whole is
abbrev pub invariant-loop-byte : goal.invariant-loop-byte
invariant-loop-byte l = is_some (left_of l.is_behind_quote (drop l.byte-index l.text)) ≡ is_some (unquoted l.text)
