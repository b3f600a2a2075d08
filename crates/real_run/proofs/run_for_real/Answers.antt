use Rattle.std.proofs.Common.{[], ◌∷◌, List, inr, refl, subst, sym}
use Rattle.node_pick.specs.Rules.{Rule, best_first, depth_first, oldest_first}
use Rattle.opensolver_cli.specs.FromCommandLine.{asked_of, texts_of}
use Rattle.opensolver_cli.specs.Headline.{IsCounted, RunsAs}
use Rattle.opensolver_cli.specs.Outside.{Outside, seen}
use Rattle.run_inputs.specs.declared.status.Status.TheVariants as status
use Rattle.opensolver_cli.proofs.MadeUpLaws.{memory_ends, memory_runs}
use Rattle.opensolver_cli.proofs.RunLaws.{memory_counted}
use Rattle.real_run.proofs.run_for_real.Goals as goal

pub returns-in-Ok : goal.returns-in-Ok
returns-in-Ok g c = (c.in-Ok.status, (c.in-Ok.ensures.headline, c.in-Ok.ensures.exactly, c.in-Ok.ensures.counts, c.in-Ok.ensures.complete), c.exit_code.ensures)

-- no memory for the boxes: nothing was touched
pub returns-in-Err : goal.returns-in-Err
returns-in-Err g c =
    let rules : List Rule = depth_first ∷ best_first ∷ oldest_first ∷ [] in
    let before : Outside = seen (g.F.Folder.content c.args.folder.now) (g.F.Folder.read_faults c.args.folder.now) (g.F.Folder.write_faults c.args.folder.now) (g.F.Folder.write_wants c.args.folder.now) (g.S.Source.left c.args.script.now) (g.S.Source.faults c.args.script.now) (g.K.Sink.pieces c.args.out.now) (g.K.Sink.faults c.args.out.now) in
    let after : Outside = seen (g.F.Folder.content c.run_with_pickers.new.folder) (g.F.Folder.read_faults c.run_with_pickers.new.folder) (g.F.Folder.write_faults c.run_with_pickers.new.folder) (g.F.Folder.write_wants c.run_with_pickers.new.folder) (g.S.Source.left c.run_with_pickers.new.script) (g.S.Source.faults c.run_with_pickers.new.script) (g.K.Sink.pieces c.run_with_pickers.new.out) (g.K.Sink.faults c.run_with_pickers.new.out) in (
      status.Memory,
      (
        subst (λ (z : Outside). RunsAs rules (asked_of (texts_of c.args.words.now)) before z status.Memory) (sym c.in-Err.ensures.unread) (memory_runs rules (asked_of (texts_of c.args.words.now)) before),
        memory_ends (asked_of (texts_of c.args.words.now)) (g.F.Folder.content c.args.folder.now) (g.S.Source.left c.args.script.now),
        subst (λ (z : Outside). IsCounted before z status.Memory) (sym c.in-Err.ensures.unread) (memory_counted before before (refl, refl) refl refl refl),
        λ _ _. inr refl,
      ),
      c.exit_code-in-Err.ensures,
    )
