use Rattle.cell_refs.specs.Sheets.{unquoted}
use Rattle.commands.proofs.Naming.{ended_before, is_name}
use Rattle.commands.proofs.sheet.is_quoted.Goals as goal

pub returns-in_default : goal.returns-in_default
returns-in_default c =
    let name = c.args.name.now in
    ended_before name c.loop-own.own-index (unquoted c.loop-own.left.now) (is_name name (unquoted c.args.text.now)) c.loop-own-test.true c.in_default.ensures.none c.loop-own.invariant
