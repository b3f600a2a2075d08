use Rattle.std.proofs.Common.{◌≡◌, List, Some, refl, subst}
use Rattle.node_pick.specs.Rules.{Rule}
use Rattle.opensolver_cli.specs.Answering.{SolvesSize}
use Rattle.command_line.specs.Read.{job_read}
use Rattle.command_line.specs.Words.{MadeUp, Script, asked_of, texts_of}
use Rattle.opensolver_cli.specs.Headline.{RunsScript}
use Rattle.opensolver_cli.specs.Outside.{Outside, seen}
use Rattle.opensolver_cli.proofs.RunLaws.{job_runs, memory_counted, rules_in}
use Rattle.opensolver_cli.proofs.MadeUpLaws.{asked_script, asked_size, memory_ends, size_ends, memory_runs, size_counted, size_exactly, size_runs}
use Rattle.opensolver_cli.proofs.CompleteLaws.{job_complete, memory_complete, size_complete}
use Rattle.opensolver_cli.proofs.top.run.Given as given
use Rattle.opensolver_cli.proofs.top.run.Goals as goal

pub returns-in-MadeUp-clause-headline : goal.returns-in-MadeUp-clause-headline
returns-in-MadeUp-clause-headline g c =
    let rules : List Rule = rules_in c.args.pickers.items (λ p. (given.Picker-dyn g (p.vtable, p.value)).rule p.value) in
    let before : Outside = seen (g.F.Folder.content c.args.folder.now) (g.F.Folder.read_faults c.args.folder.now) (g.F.Folder.write_faults c.args.folder.now) (g.F.Folder.write_wants c.args.folder.now) (g.S.Source.left c.args.script.now) (g.S.Source.faults c.args.script.now) (g.K.Sink.pieces c.args.out.now) (g.K.Sink.faults c.args.out.now) in
    let after : Outside = seen (g.F.Folder.content c.args.folder.now) (g.F.Folder.read_faults c.args.folder.now) (g.F.Folder.write_faults c.args.folder.now) (g.F.Folder.write_wants c.args.folder.now) (g.S.Source.left c.args.script.now) (g.S.Source.faults c.args.script.now) (g.K.Sink.pieces c.solve_made_up.new.out) (g.K.Sink.faults c.solve_made_up.new.out) in
    let is : Some (MadeUp c.in-MadeUp.size) ≡ asked_of (texts_of c.args.words.now) = asked_size c.in-MadeUp.size c.in-Ok-Some.asked _ _ c.in-Ok-Some.field-0-is c.in-MadeUp.is c.in-Ok-Some.ensures.asked in
    size_runs rules c.in-MadeUp.size _ before after c.solve_made_up.result is (record { files = refl; reads = refl; writes = refl; wants = refl }) (record { left = refl; reads = refl })
    (subst (λ (z : Rule). SolvesSize z c.in-MadeUp.size before.pieces after.pieces c.solve_made_up.result) c.picker_of-pick-in-MadeUp.ensures c.solve_made_up.ensures.solves)

-- the picker that the words name has its rule
pub returns-in-Script-clause-headline : goal.returns-in-Script-clause-headline
returns-in-Script-clause-headline g c =
    let rules : List Rule = rules_in c.args.pickers.items (λ p. (given.Picker-dyn g (p.vtable, p.value)).rule p.value) in
    let job = job_read c.in-Script.job in
    let before : Outside = seen (g.F.Folder.content c.args.folder.now) (g.F.Folder.read_faults c.args.folder.now) (g.F.Folder.write_faults c.args.folder.now) (g.F.Folder.write_wants c.args.folder.now) (g.S.Source.left c.args.script.now) (g.S.Source.faults c.args.script.now) (g.K.Sink.pieces c.args.out.now) (g.K.Sink.faults c.args.out.now) in
    let after : Outside = seen (g.F.Folder.content c.run_job.new.folder) (g.F.Folder.read_faults c.run_job.new.folder) (g.F.Folder.write_faults c.run_job.new.folder) (g.F.Folder.write_wants c.run_job.new.folder) (g.S.Source.left c.run_job.new.script) (g.S.Source.faults c.run_job.new.script) (g.K.Sink.pieces c.run_job.new.out) (g.K.Sink.faults c.run_job.new.out) in
    let is : Some (Script job) ≡ asked_of (texts_of c.args.words.now) = asked_script c.in-Script.job c.in-Ok-Some.asked _ _ c.in-Ok-Some.field-0-is c.in-Script.is c.in-Ok-Some.ensures.asked in
    job_runs rules job _ before after c.run_job.result is (subst (λ (z : Rule). RunsScript z job before after c.run_job.result) c.picker_of-pick.ensures c.run_job.ensures.headline)

pub returns-in-MadeUp-clause-exactly : goal.returns-in-MadeUp-clause-exactly
returns-in-MadeUp-clause-exactly g c =
    let is : Some (MadeUp c.in-MadeUp.size) ≡ asked_of (texts_of c.args.words.now) = asked_size c.in-MadeUp.size c.in-Ok-Some.asked _ _ c.in-Ok-Some.field-0-is c.in-MadeUp.is c.in-Ok-Some.ensures.asked in
    size_exactly _ c.in-MadeUp.size _ (g.F.Folder.content c.args.folder.now) (g.S.Source.left c.args.script.now) (g.K.Sink.pieces c.args.out.now) (g.K.Sink.pieces c.solve_made_up.new.out) c.solve_made_up.result is c.solve_made_up.ensures.solves

pub returns-in-MadeUp-clause-counts : goal.returns-in-MadeUp-clause-counts
returns-in-MadeUp-clause-counts g c =
    let before : Outside = seen (g.F.Folder.content c.args.folder.now) (g.F.Folder.read_faults c.args.folder.now) (g.F.Folder.write_faults c.args.folder.now) (g.F.Folder.write_wants c.args.folder.now) (g.S.Source.left c.args.script.now) (g.S.Source.faults c.args.script.now) (g.K.Sink.pieces c.args.out.now) (g.K.Sink.faults c.args.out.now) in
    let after : Outside = seen (g.F.Folder.content c.args.folder.now) (g.F.Folder.read_faults c.args.folder.now) (g.F.Folder.write_faults c.args.folder.now) (g.F.Folder.write_wants c.args.folder.now) (g.S.Source.left c.args.script.now) (g.S.Source.faults c.args.script.now) (g.K.Sink.pieces c.solve_made_up.new.out) (g.K.Sink.faults c.solve_made_up.new.out) in
    size_counted _ c.in-MadeUp.size before after c.solve_made_up.result (record { files = refl; reads = refl; writes = refl; wants = refl }) (record { left = refl; reads = refl }) c.solve_made_up.ensures.solves c.solve_made_up.ensures.cause

pub returns-in-Err-clause-headline : goal.returns-in-Err-clause-headline
returns-in-Err-clause-headline g c =
    let rules : List Rule = rules_in c.args.pickers.items (λ p. (given.Picker-dyn g (p.vtable, p.value)).rule p.value) in
    let before : Outside = seen (g.F.Folder.content c.args.folder.now) (g.F.Folder.read_faults c.args.folder.now) (g.F.Folder.write_faults c.args.folder.now) (g.F.Folder.write_wants c.args.folder.now) (g.S.Source.left c.args.script.now) (g.S.Source.faults c.args.script.now) (g.K.Sink.pieces c.args.out.now) (g.K.Sink.faults c.args.out.now) in
    memory_runs rules (asked_of (texts_of c.args.words.now)) before

pub returns-in-Err-clause-exactly : goal.returns-in-Err-clause-exactly
returns-in-Err-clause-exactly g c = memory_ends (asked_of (texts_of c.args.words.now)) (g.F.Folder.content c.args.folder.now) (g.S.Source.left c.args.script.now)

pub returns-in-Err-clause-counts : goal.returns-in-Err-clause-counts
returns-in-Err-clause-counts g c =
    let before : Outside = seen (g.F.Folder.content c.args.folder.now) (g.F.Folder.read_faults c.args.folder.now) (g.F.Folder.write_faults c.args.folder.now) (g.F.Folder.write_wants c.args.folder.now) (g.S.Source.left c.args.script.now) (g.S.Source.faults c.args.script.now) (g.K.Sink.pieces c.args.out.now) (g.K.Sink.faults c.args.out.now) in
    memory_counted before before (refl, refl) refl refl refl

pub returns-in-MadeUp-clause-complete : goal.returns-in-MadeUp-clause-complete
returns-in-MadeUp-clause-complete g c =
    let before : Outside = seen (g.F.Folder.content c.args.folder.now) (g.F.Folder.read_faults c.args.folder.now) (g.F.Folder.write_faults c.args.folder.now) (g.F.Folder.write_wants c.args.folder.now) (g.S.Source.left c.args.script.now) (g.S.Source.faults c.args.script.now) (g.K.Sink.pieces c.args.out.now) (g.K.Sink.faults c.args.out.now) in
    let after : Outside = seen (g.F.Folder.content c.args.folder.now) (g.F.Folder.read_faults c.args.folder.now) (g.F.Folder.write_faults c.args.folder.now) (g.F.Folder.write_wants c.args.folder.now) (g.S.Source.left c.args.script.now) (g.S.Source.faults c.args.script.now) (g.K.Sink.pieces c.solve_made_up.new.out) (g.K.Sink.faults c.solve_made_up.new.out) in
    let is : Some (MadeUp c.in-MadeUp.size) ≡ asked_of (texts_of c.args.words.now) = asked_size c.in-MadeUp.size c.in-Ok-Some.asked _ _ c.in-Ok-Some.field-0-is c.in-MadeUp.is c.in-Ok-Some.ensures.asked in
    let ends = size_ends _ c.in-MadeUp.size (g.K.Sink.pieces c.args.out.now) (g.K.Sink.pieces c.solve_made_up.new.out) c.solve_made_up.result c.solve_made_up.ensures.solves in
    size_complete c.in-MadeUp.size _ before after c.solve_made_up.result is ends.0 ends.1 c.solve_made_up.ensures.cause

pub returns-in-Script-clause-complete : goal.returns-in-Script-clause-complete
returns-in-Script-clause-complete g c =
    let before : Outside = seen (g.F.Folder.content c.args.folder.now) (g.F.Folder.read_faults c.args.folder.now) (g.F.Folder.write_faults c.args.folder.now) (g.F.Folder.write_wants c.args.folder.now) (g.S.Source.left c.args.script.now) (g.S.Source.faults c.args.script.now) (g.K.Sink.pieces c.args.out.now) (g.K.Sink.faults c.args.out.now) in
    let after : Outside = seen (g.F.Folder.content c.run_job.new.folder) (g.F.Folder.read_faults c.run_job.new.folder) (g.F.Folder.write_faults c.run_job.new.folder) (g.F.Folder.write_wants c.run_job.new.folder) (g.S.Source.left c.run_job.new.script) (g.S.Source.faults c.run_job.new.script) (g.K.Sink.pieces c.run_job.new.out) (g.K.Sink.faults c.run_job.new.out) in
    let is : Some (Script (job_read c.in-Script.job)) ≡ asked_of (texts_of c.args.words.now) = asked_script c.in-Script.job c.in-Ok-Some.asked _ _ c.in-Ok-Some.field-0-is c.in-Script.is c.in-Ok-Some.ensures.asked in
    job_complete _ _ before after c.run_job.result is c.run_job.ensures.exactly c.run_job.ensures.counts

pub returns-in-Err-clause-complete : goal.returns-in-Err-clause-complete
returns-in-Err-clause-complete g c =
    let before : Outside = seen (g.F.Folder.content c.args.folder.now) (g.F.Folder.read_faults c.args.folder.now) (g.F.Folder.write_faults c.args.folder.now) (g.F.Folder.write_wants c.args.folder.now) (g.S.Source.left c.args.script.now) (g.S.Source.faults c.args.script.now) (g.K.Sink.pieces c.args.out.now) (g.K.Sink.faults c.args.out.now) in
    memory_complete (asked_of (texts_of c.args.words.now)) before before
