use Rattle.std.proofs.Common.{◌∙◌}
use Rattle.solver_names.specs.Answers.{statement_of}
use Rattle.sheet_quick.proofs.Causes.{kept_roots}
use Rattle.sheet_quick.proofs.forms.refusal.Goals as goal

pub refusal-requires-clause-roots : goal.refusal-requires-clause-roots
refusal-requires-clause-roots c =
    kept_roots c.args.book.now (statement_of c.args.of.now) c.args.forms.now _ c.requires.kept (c.deref.ensures.value ∙ c.in_ok-roots.ensures) c.requires.there
