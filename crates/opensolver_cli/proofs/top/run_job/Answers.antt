use Rattle.std.proofs.Common.{ℕ, ◌<◌, inl, inr, refl, ap, subst, ◌∙◌}
use Rattle.std.specs.Prelude.{Err}
use Rattle.cell_refs.specs.declared.limits.TheConstants.{SHEETS}
use Rattle.opensolver_cli.specs.Outside.{Outside, seen, written}
use Rattle.run_inputs.specs.Stops.{stop_line}
use Rattle.command_line.specs.Read.{job_read, named_of}
use Rattle.run_inputs.proofs.FileLaws.{length_texts}
use Rattle.opensolver_cli.proofs.RunLaws.{IsFound, answered_counted, answered_exactly, answered_over, fault_over, memory_counted, memory_exactly, read_fault_counted, read_fault_exactly, run_answered, run_stopped, run_unseen, said_counted, stopped_exactly}
use Rattle.opensolver_cli.proofs.top.run_job.Goals as goal

pub returns-in-Ok-clause-headline : goal.returns-in-Ok-clause-headline
returns-in-Ok-clause-headline g c =
    let named = named_of c.args.job.now.named in
    let job = job_read c.args.job.now in
    let before : Outside = seen (g.F.Folder.content c.args.folder.now) (g.F.Folder.read_faults c.args.folder.now) (g.F.Folder.write_faults c.args.folder.now) (g.F.Folder.write_wants c.args.folder.now) (g.S.Source.left c.args.script.now) (g.S.Source.faults c.args.script.now) (g.K.Sink.pieces c.args.out.now) (g.K.Sink.faults c.args.out.now) in
    let after : Outside = seen (g.F.Folder.content c.answer_records.new.folder) (g.F.Folder.read_faults c.answer_records.new.folder) (g.F.Folder.write_faults c.answer_records.new.folder) (g.F.Folder.write_wants c.answer_records.new.folder) (g.S.Source.left c.find.new.script) (g.S.Source.faults c.find.new.script) (g.K.Sink.pieces c.answer_records.new.out) (g.K.Sink.faults c.answer_records.new.out) in
    let is : IsFound named before after = record {
      order = c.in-Ok.ensures.order;
      many = λ big. absurd (cc (c.in-Ok.ensures.many (subst (λ (k : ℕ). SHEETS < k) (length_texts c.args.job.now.named.sheets.items) big)).0);
    } in
    run_answered _ job before after c.in-Ok.book c.in-Ok.rows c.answer_records.result is c.in-Ok.ensures.finds
    (answered_over _ job c.in-Ok.book c.in-Ok.rows (g.F.Folder.content c.find.new.folder) (g.F.Folder.content c.args.folder.now) (g.F.Folder.write_faults c.find.new.folder) (g.F.Folder.write_wants c.find.new.folder) (g.F.Folder.write_faults c.args.folder.now) (g.F.Folder.write_wants c.args.folder.now) (g.K.Sink.pieces c.args.out.now) (g.K.Sink.faults c.args.out.now) (written after) c.answer_records.result c.in-Ok.ensures.folder c.in-Ok.ensures.writes c.in-Ok.ensures.wants c.answer_records.ensures.answers)

pub returns-in-Ok-clause-exactly : goal.returns-in-Ok-clause-exactly
returns-in-Ok-clause-exactly g c =
    answered_exactly (job_read c.args.job.now) (g.F.Folder.content c.args.folder.now) (g.S.Source.left c.args.script.now) (g.S.Source.left c.find.new.script) c.in-Ok.book c.in-Ok.rows c.answer_records.result c.in-Ok.ensures.finds c.answer_records.ensures.ends

pub returns-in-Ok-clause-counts : goal.returns-in-Ok-clause-counts
returns-in-Ok-clause-counts g c =
    let named = named_of c.args.job.now.named in
    let job = job_read c.args.job.now in
    let before : Outside = seen (g.F.Folder.content c.args.folder.now) (g.F.Folder.read_faults c.args.folder.now) (g.F.Folder.write_faults c.args.folder.now) (g.F.Folder.write_wants c.args.folder.now) (g.S.Source.left c.args.script.now) (g.S.Source.faults c.args.script.now) (g.K.Sink.pieces c.args.out.now) (g.K.Sink.faults c.args.out.now) in
    let after : Outside = seen (g.F.Folder.content c.answer_records.new.folder) (g.F.Folder.read_faults c.answer_records.new.folder) (g.F.Folder.write_faults c.answer_records.new.folder) (g.F.Folder.write_wants c.answer_records.new.folder) (g.S.Source.left c.find.new.script) (g.S.Source.faults c.find.new.script) (g.K.Sink.pieces c.answer_records.new.out) (g.K.Sink.faults c.answer_records.new.out) in
    let none = c.in-Ok.ensures.no_read_fault (λ e. cc e) in
    answered_counted before after c.answer_records.result c.answer_records.ensures.ends (c.answer_records.ensures.reads ∙ none.0, none.1)
    (fault_over (g.F.Folder.content c.find.new.folder) (g.F.Folder.content c.args.folder.now) (g.F.Folder.write_faults c.find.new.folder) (g.F.Folder.write_wants c.find.new.folder) (g.F.Folder.write_faults c.args.folder.now) (g.F.Folder.write_wants c.args.folder.now) (g.K.Sink.pieces c.args.out.now) (g.K.Sink.faults c.args.out.now) (written after) c.answer_records.result c.in-Ok.ensures.folder c.in-Ok.ensures.writes c.in-Ok.ensures.wants c.answer_records.ensures.cause)

pub returns-in-Err-Stopped-clause-headline : goal.returns-in-Err-Stopped-clause-headline
returns-in-Err-Stopped-clause-headline g c =
    let named = named_of c.args.job.now.named in
    let job = job_read c.args.job.now in
    let before : Outside = seen (g.F.Folder.content c.args.folder.now) (g.F.Folder.read_faults c.args.folder.now) (g.F.Folder.write_faults c.args.folder.now) (g.F.Folder.write_wants c.args.folder.now) (g.S.Source.left c.args.script.now) (g.S.Source.faults c.args.script.now) (g.K.Sink.pieces c.args.out.now) (g.K.Sink.faults c.args.out.now) in
    let after : Outside = seen (g.F.Folder.content c.find.new.folder) (g.F.Folder.read_faults c.find.new.folder) (g.F.Folder.write_faults c.find.new.folder) (g.F.Folder.write_wants c.find.new.folder) (g.S.Source.left c.find.new.script) (g.S.Source.faults c.find.new.script) (g.K.Sink.pieces c.say_stop.new.out) (g.K.Sink.faults c.say_stop.new.out) in
    let is : IsFound named before after = record {
      order = c.in-Err-Stopped.ensures.order;
      many = λ big. let m = c.in-Err-Stopped.ensures.many (subst (λ (k : ℕ). SHEETS < k) (length_texts c.args.job.now.named.sheets.items) big) in (record { files = c.in-Err-Stopped.ensures.folder; reads = m.1; writes = c.in-Err-Stopped.ensures.writes; wants = c.in-Err-Stopped.ensures.wants }, m.2);
    } in
    run_stopped _ job before after c.in-Err-Stopped.stop c.say_stop.result is c.in-Err-Stopped.ensures.folder (rw c.in-Err-Stopped.field-0-is at c.in-Err-Stopped.ensures.finds) c.say_stop.ensures.says

pub returns-in-Err-Stopped-clause-exactly : goal.returns-in-Err-Stopped-clause-exactly
returns-in-Err-Stopped-clause-exactly g c =
    stopped_exactly (job_read c.args.job.now) (g.F.Folder.content c.args.folder.now) (g.S.Source.left c.args.script.now) (g.S.Source.left c.find.new.script) c.in-Err-Stopped.stop (stop_line (named_of c.args.job.now.named) c.in-Err-Stopped.stop) (g.K.Sink.pieces c.args.out.now)
    (g.K.Sink.pieces c.say_stop.new.out) c.say_stop.result (rw c.in-Err-Stopped.field-0-is at c.in-Err-Stopped.ensures.finds) c.say_stop.ensures.says

pub returns-in-Err-Stopped-clause-counts : goal.returns-in-Err-Stopped-clause-counts
returns-in-Err-Stopped-clause-counts g c =
    let named = named_of c.args.job.now.named in
    let job = job_read c.args.job.now in
    let before : Outside = seen (g.F.Folder.content c.args.folder.now) (g.F.Folder.read_faults c.args.folder.now) (g.F.Folder.write_faults c.args.folder.now) (g.F.Folder.write_wants c.args.folder.now) (g.S.Source.left c.args.script.now) (g.S.Source.faults c.args.script.now) (g.K.Sink.pieces c.args.out.now) (g.K.Sink.faults c.args.out.now) in
    let after : Outside = seen (g.F.Folder.content c.find.new.folder) (g.F.Folder.read_faults c.find.new.folder) (g.F.Folder.write_faults c.find.new.folder) (g.F.Folder.write_wants c.find.new.folder) (g.S.Source.left c.find.new.script) (g.S.Source.faults c.find.new.script) (g.K.Sink.pieces c.say_stop.new.out) (g.K.Sink.faults c.say_stop.new.out) in
    said_counted c.in-Err-Stopped.stop (stop_line named c.in-Err-Stopped.stop) before after c.say_stop.result c.say_stop.ensures.says (c.in-Err-Stopped.ensures.no_read_fault (λ e. cc e)) c.in-Err-Stopped.ensures.writes c.in-Err-Stopped.ensures.wants c.say_stop.ensures.cause c.in-Err-Stopped.ensures.folder

pub returns-in-Err-Failed-clause-headline : goal.returns-in-Err-Failed-clause-headline
returns-in-Err-Failed-clause-headline g c =
    let named = named_of c.args.job.now.named in
    let job = job_read c.args.job.now in
    let before : Outside = seen (g.F.Folder.content c.args.folder.now) (g.F.Folder.read_faults c.args.folder.now) (g.F.Folder.write_faults c.args.folder.now) (g.F.Folder.write_wants c.args.folder.now) (g.S.Source.left c.args.script.now) (g.S.Source.faults c.args.script.now) (g.K.Sink.pieces c.args.out.now) (g.K.Sink.faults c.args.out.now) in
    let after : Outside = seen (g.F.Folder.content c.find.new.folder) (g.F.Folder.read_faults c.find.new.folder) (g.F.Folder.write_faults c.find.new.folder) (g.F.Folder.write_wants c.find.new.folder) (g.S.Source.left c.find.new.script) (g.S.Source.faults c.find.new.script) (g.K.Sink.pieces c.args.out.now) (g.K.Sink.faults c.args.out.now) in
    let is : IsFound named before after = record {
      order = c.in-Err-Failed.ensures.order;
      many = λ big. let m = c.in-Err-Failed.ensures.many (subst (λ (k : ℕ). SHEETS < k) (length_texts c.args.job.now.named.sheets.items) big) in (record { files = c.in-Err-Failed.ensures.folder; reads = m.1; writes = c.in-Err-Failed.ensures.writes; wants = c.in-Err-Failed.ensures.wants }, m.2);
    } in
    run_unseen _ job before after _ is c.in-Err-Failed.ensures.folder (inl refl) refl

pub returns-in-Err-Failed-clause-exactly : goal.returns-in-Err-Failed-clause-exactly
returns-in-Err-Failed-clause-exactly g c =
    read_fault_exactly (job_read c.args.job.now) (g.F.Folder.content c.args.folder.now) (g.S.Source.left c.args.script.now)

pub returns-in-Err-Failed-clause-counts : goal.returns-in-Err-Failed-clause-counts
returns-in-Err-Failed-clause-counts g c =
    let named = named_of c.args.job.now.named in
    let job = job_read c.args.job.now in
    let before : Outside = seen (g.F.Folder.content c.args.folder.now) (g.F.Folder.read_faults c.args.folder.now) (g.F.Folder.write_faults c.args.folder.now) (g.F.Folder.write_wants c.args.folder.now) (g.S.Source.left c.args.script.now) (g.S.Source.faults c.args.script.now) (g.K.Sink.pieces c.args.out.now) (g.K.Sink.faults c.args.out.now) in
    let after : Outside = seen (g.F.Folder.content c.find.new.folder) (g.F.Folder.read_faults c.find.new.folder) (g.F.Folder.write_faults c.find.new.folder) (g.F.Folder.write_wants c.find.new.folder) (g.S.Source.left c.find.new.script) (g.S.Source.faults c.find.new.script) (g.K.Sink.pieces c.args.out.now) (g.K.Sink.faults c.args.out.now) in
    read_fault_counted before after (c.in-Err-Failed.ensures.read_fault (ap Err c.in-Err-Failed.field-0-is)) c.in-Err-Failed.ensures.writes c.in-Err-Failed.ensures.wants refl refl c.in-Err-Failed.ensures.folder

pub returns-in-Err-Memory-clause-headline : goal.returns-in-Err-Memory-clause-headline
returns-in-Err-Memory-clause-headline g c =
    let named = named_of c.args.job.now.named in
    let job = job_read c.args.job.now in
    let before : Outside = seen (g.F.Folder.content c.args.folder.now) (g.F.Folder.read_faults c.args.folder.now) (g.F.Folder.write_faults c.args.folder.now) (g.F.Folder.write_wants c.args.folder.now) (g.S.Source.left c.args.script.now) (g.S.Source.faults c.args.script.now) (g.K.Sink.pieces c.args.out.now) (g.K.Sink.faults c.args.out.now) in
    let after : Outside = seen (g.F.Folder.content c.find.new.folder) (g.F.Folder.read_faults c.find.new.folder) (g.F.Folder.write_faults c.find.new.folder) (g.F.Folder.write_wants c.find.new.folder) (g.S.Source.left c.find.new.script) (g.S.Source.faults c.find.new.script) (g.K.Sink.pieces c.args.out.now) (g.K.Sink.faults c.args.out.now) in
    let is : IsFound named before after = record {
      order = c.in-Err-Memory.ensures.order;
      many = λ big. let m = c.in-Err-Memory.ensures.many (subst (λ (k : ℕ). SHEETS < k) (length_texts c.args.job.now.named.sheets.items) big) in (record { files = c.in-Err-Memory.ensures.folder; reads = m.1; writes = c.in-Err-Memory.ensures.writes; wants = c.in-Err-Memory.ensures.wants }, m.2);
    } in
    run_unseen _ job before after _ is c.in-Err-Memory.ensures.folder (inr refl) refl

pub returns-in-Err-Memory-clause-exactly : goal.returns-in-Err-Memory-clause-exactly
returns-in-Err-Memory-clause-exactly g c =
    memory_exactly (job_read c.args.job.now) (g.F.Folder.content c.args.folder.now) (g.S.Source.left c.args.script.now)

pub returns-in-Err-Memory-clause-counts : goal.returns-in-Err-Memory-clause-counts
returns-in-Err-Memory-clause-counts g c =
    let named = named_of c.args.job.now.named in
    let job = job_read c.args.job.now in
    let before : Outside = seen (g.F.Folder.content c.args.folder.now) (g.F.Folder.read_faults c.args.folder.now) (g.F.Folder.write_faults c.args.folder.now) (g.F.Folder.write_wants c.args.folder.now) (g.S.Source.left c.args.script.now) (g.S.Source.faults c.args.script.now) (g.K.Sink.pieces c.args.out.now) (g.K.Sink.faults c.args.out.now) in
    let after : Outside = seen (g.F.Folder.content c.find.new.folder) (g.F.Folder.read_faults c.find.new.folder) (g.F.Folder.write_faults c.find.new.folder) (g.F.Folder.write_wants c.find.new.folder) (g.S.Source.left c.find.new.script) (g.S.Source.faults c.find.new.script) (g.K.Sink.pieces c.args.out.now) (g.K.Sink.faults c.args.out.now) in
    memory_counted before after (c.in-Err-Memory.ensures.no_read_fault (λ e. cc e)) c.in-Err-Memory.ensures.writes c.in-Err-Memory.ensures.wants refl
