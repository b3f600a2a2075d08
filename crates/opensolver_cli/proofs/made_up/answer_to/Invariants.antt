use Rattle.opensolver_cli.proofs.made_up.answer_to.Given as goal

abbrev pub ghosts-answer_counted : goal.ghosts-answer_counted
ghosts-answer_counted g a = record { name = a.blank.name; parts = a.blank.parts }
