use Rattle.opensolver_cli.proofs.answer.answer_record.Goals as goal

pub returns-clause-answers : goal.returns-clause-answers
returns-clause-answers g c = c.answer_command.ensures.answers c.args.fields.now c.in-Ok.ensures.command
