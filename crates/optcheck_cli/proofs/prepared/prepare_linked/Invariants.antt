use Rattle.optcheck_cli.proofs.prepared.prepare_linked.Given as goal

abbrev pub ghosts-prepare_counted : goal.ghosts-prepare_counted
ghosts-prepare_counted a = record { name = a.counter.blank.name; parts = a.counter.blank.parts }
