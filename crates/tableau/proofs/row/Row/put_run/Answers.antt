use Rattle.std.proofs.Common.{◌≡◌, ◌∙◌, suc, sym, ap, subst, List, length}
use Rattle.fractions.specs.Rational.{ℚ}
use Rattle.tableau.specs.Entries.{spread}
use Rattle.tableau.specs.Runs.{IsRunPut}
use Rattle.tableau.proofs.Spread.{length-spread}
use Rattle.tableau.proofs.Runs.{row_has_run, run_of}
use Rattle.tableau.proofs.row.Row.put_run.Goals as goal

pub put_run-requires-clause-run : goal.put_run-requires-clause-run
put_run-requires-clause-run c =
    let i = c.self.inside in
    let e : suc i.columns ≡ length c.args.self.now = sym (length-spread i.rest i.columns i.kept.items) ∙ ap length c.self.view_is in
    run_of (length c.args.self.now) i.columns c.args.run.now (sym e) c.requires

pub returns : goal.returns
returns c =
    let i = c.self.inside in
    let e : suc i.columns ≡ length c.args.self.now = sym (length-spread i.rest i.columns i.kept.items) ∙ ap length c.self.view_is in
    subst (λ (r : List ℚ). IsRunPut c.args.run.now r (spread i.rest i.columns c.put_run.new.kept.items)) c.self.view_is
    (row_has_run i.rest i.columns c.args.run.now i.kept.items c.put_run.new.kept.items (run_of (length c.args.self.now) i.columns c.args.run.now (sym e) c.requires) c.put_run.ensures.entries)
