use Rattle.std.proofs.Common.{ap, refl, sym, subst, ◌≤◌}
use Rattle.std.specs.Prelude.{IfOk}
use Rattle.search_bounds.specs.Choices.{IsBounded}
use Rattle.search_bounds.specs.Enough.{enough_for}
use Rattle.sheet_linear_model.specs.Answers.{prepared_of}
use Rattle.sheet_solving.specs.Searches.{Opened}
use Rattle.sheet_solving.specs.Solving.{HasBudgetLeft}
use Rattle.sheet_solving.proofs.Ends.{all_solved}
use Rattle.sheet_solving.proofs.solving.solve.Goals as goal

pub slice-requires-clause-prepared : goal.slice-requires-clause-prepared
slice-requires-clause-prepared g c = (c.requires.prepared.0, prepared_of c.args.of, c.requires.prepared.1, refl, sym (ap (λ (o : Opened). o.model) c.in_ok-search.ensures))

pub returns-clause-solves : goal.returns-clause-solves
returns-clause-solves g c = all_solved _ c.args.budget c.args.book.now c.slice.new.book _ c.args.of.model _ c.slice.new.search c.slice.result c.in_ok-search.ensures c.slice.ensures.slices

pub returns-clause-enough : goal.returns-clause-enough
returns-clause-enough g c =
    subst (λ (o : Opened). IsBounded o.model → enough_for o.model ≤ c.args.budget → IfOk c.slice.result HasBudgetLeft) c.in_ok-search.ensures c.slice.ensures.enough
