use Rattle.opensolver_cli.proofs.answer.answer_records.Given as goal

abbrev pub ghosts-answer_counted : goal.ghosts-answer_counted
ghosts-answer_counted g a = record { name = a.of.blank.name; parts = a.of.blank.parts }
