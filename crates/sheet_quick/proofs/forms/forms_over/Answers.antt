use Rattle.solver_names.specs.Answers.{statement_of}
use Rattle.sheet_quick.proofs.Formed.{made_for}
use Rattle.sheet_quick.proofs.forms.forms_over.Goals as goal

pub numbers-requires-clause-kept : goal.numbers-requires-clause-kept
numbers-requires-clause-kept g c =
    made_for c.args.linked.now.book.now (statement_of c.args.of.now) c.in_ok-forms.forms c.args.sides.items c.in_ok-forms.ensures.given c.requires.sides c.in_ok-forms.ensures.full
