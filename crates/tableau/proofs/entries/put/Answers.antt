use Rattle.tableau.proofs.entries.put.Goals as goal

pub returns-in-Ok-clause-sparse : goal.returns-in-Ok-clause-sparse
returns-in-Ok-clause-sparse c = c.replace.ensures.sparse c.args.columns c.requires.sparse
