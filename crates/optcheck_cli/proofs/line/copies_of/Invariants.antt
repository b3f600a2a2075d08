use Rattle.std.proofs.Common.{◌≡◌, map, take}
use Rattle.command_line.specs.Words.{texts_of}
use Rattle.optcheck_cli.proofs.line.copies_of.Given as goal

abbrev pub invariant-loop-text : goal.invariant-loop-text
invariant-loop-text l = texts_of l.copies.items ≡ map (λ t. t.now) (take l.text-index l.texts)
