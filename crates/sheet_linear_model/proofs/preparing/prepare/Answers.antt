use Rattle.kept_forms.specs.Tables.{is_searching}
use Rattle.sheet_linear_model.proofs.Settled.{are_settled}
use Rattle.sheet_linear_model.proofs.preparing.prepare.Goals as goal

pub returns-clause-settles : goal.returns-clause-settles
returns-clause-settles g c =
    are_settled c.args.linked.now.book.now (is_searching c.args.searching.now) c.args.sheet c.in_ok-statement.statement c.args.tables.now c.settle.new.tables c.in_ok-once.once c.model_over.result c.in_ok-statement.ensures.statement
    c.in_ok-statement.ensures.sheet c.in_ok-once.ensures.settled
