use Rattle.solver_names.specs.Answers.{statement_of}
use Rattle.sheet_quick.proofs.Opens.{fit}
use Rattle.sheet_quick.proofs.opening.quick_over.Goals as goal

pub new-requires-clause-fits : goal.new-requires-clause-fits
new-requires-clause-fits c =
    fit c.args.book.now (statement_of c.args.statement) c.args.parameters c.args.objective c.args.sides.items c.requires.stated c.requires.numbers c.in_ok-conditions.conditions c.len-count.result
    c.in_ok-conditions.ensures c.len-count.ensures.count
