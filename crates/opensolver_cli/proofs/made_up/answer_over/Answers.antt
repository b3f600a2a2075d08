use Rattle.std.proofs.Common.{◌≡◌, ap, rules, string_bytes}
use Rattle.commands.specs.Commands.{Solve}
use Rattle.made_up_books.specs.MadeUp.{sheet_name}
use Rattle.opensolver_cli.proofs.made_up.answer_over.Goals as goal

pub answer_command-requires-clause-solve : goal.answer_command-requires-clause-solve
answer_command-requires-clause-solve g c =
    let named : string_bytes c.in_ok-from_str.field-0 ≡ sheet_name = search rules in
    ap Solve named
