use Rattle.std.proofs.Common.{inl, inr, refl}
use Rattle.optcheck_cli.specs.Lines.{halt_line}
use Rattle.optcheck_cli.specs.Outside.{Outside, seen}
use Rattle.optcheck_cli.specs.Read.{asked_read}
use Rattle.optcheck_cli.specs.declared.status.CheckStatus.TheVariants as status
use Rattle.optcheck_cli.proofs.Exactly.{early_exactly, halted_exactly, halted_or_early, judged_exactly, judged_or_early}
use Rattle.optcheck_cli.proofs.Running.{counted, halted_over, judged_over, none_read, read_fault_counted, unseen}
use Rattle.optcheck_cli.proofs.top.check_files.Goals as goal

pub returns-in-Ok : goal.returns-in-Ok
returns-in-Ok g c =
    let asked = asked_read c.args.asked.now in
    let before : Outside = seen (g.F.Folder.content c.args.folder.now) (g.F.Folder.read_faults c.args.folder.now) (g.F.Folder.write_faults c.args.folder.now) (g.F.Folder.write_wants c.args.folder.now) (g.K.Sink.pieces c.args.out.now) (g.K.Sink.faults c.args.out.now) in
    let after : Outside = seen (g.F.Folder.content c.find.new.folder) (g.F.Folder.read_faults c.find.new.folder) (g.F.Folder.write_faults c.find.new.folder) (g.F.Folder.write_wants c.find.new.folder) (g.K.Sink.pieces c.say_verdict.new.out) (g.K.Sink.faults c.say_verdict.new.out) in (
      (judged_over asked (g.F.Folder.content c.args.folder.now) before after c.in-Ok.book c.in-Ok.cert c.say_verdict.result c.in-Ok.ensures.finds c.say_verdict.ensures.says, none_read c.args.asked.now before after c.in-Ok.ensures.many),
      judged_exactly asked (g.F.Folder.content c.args.folder.now) c.in-Ok.book c.in-Ok.cert c.say_verdict.result c.in-Ok.ensures.finds c.say_verdict.ensures.ends,
      counted before after c.say_verdict.result (judged_or_early c.say_verdict.result c.say_verdict.ensures.ends).1.1 c.in-Ok.ensures.cause (record { files = c.in-Ok.ensures.same; writes = c.in-Ok.ensures.writes; wants = c.in-Ok.ensures.wants }) c.say_verdict.ensures.cause,
    )

pub returns-in-Err-Halted : goal.returns-in-Err-Halted
returns-in-Err-Halted g c =
    let asked = asked_read c.args.asked.now in
    let before : Outside = seen (g.F.Folder.content c.args.folder.now) (g.F.Folder.read_faults c.args.folder.now) (g.F.Folder.write_faults c.args.folder.now) (g.F.Folder.write_wants c.args.folder.now) (g.K.Sink.pieces c.args.out.now) (g.K.Sink.faults c.args.out.now) in
    let after : Outside = seen (g.F.Folder.content c.find.new.folder) (g.F.Folder.read_faults c.find.new.folder) (g.F.Folder.write_faults c.find.new.folder) (g.F.Folder.write_wants c.find.new.folder) (g.K.Sink.pieces c.say_halt.new.out) (g.K.Sink.faults c.say_halt.new.out) in (
      (halted_over asked (g.F.Folder.content c.args.folder.now) before after c.in-Err-Halted.halt c.say_halt.result (rw c.in-Err-Halted.field-0-is at c.in-Err-Halted.ensures.finds) c.say_halt.ensures.says, none_read c.args.asked.now before after c.in-Err-Halted.ensures.many),
      halted_exactly asked (g.F.Folder.content c.args.folder.now) c.in-Err-Halted.halt (halt_line asked c.in-Err-Halted.halt) (g.K.Sink.pieces c.args.out.now) (g.K.Sink.pieces c.say_halt.new.out) c.say_halt.result (rw c.in-Err-Halted.field-0-is at c.in-Err-Halted.ensures.finds) c.say_halt.ensures.says,
      counted before after c.say_halt.result (halted_or_early c.in-Err-Halted.halt (halt_line asked c.in-Err-Halted.halt) (g.K.Sink.pieces c.args.out.now) (g.K.Sink.pieces c.say_halt.new.out) c.say_halt.result c.say_halt.ensures.says).1.1 (rw c.in-Err-Halted.field-0-is at c.in-Err-Halted.ensures.cause) (record { files = c.in-Err-Halted.ensures.same; writes = c.in-Err-Halted.ensures.writes; wants = c.in-Err-Halted.ensures.wants }) c.say_halt.ensures.cause,
    )

pub returns-in-Err-Failed : goal.returns-in-Err-Failed
returns-in-Err-Failed g c =
    let asked = asked_read c.args.asked.now in
    let before : Outside = seen (g.F.Folder.content c.args.folder.now) (g.F.Folder.read_faults c.args.folder.now) (g.F.Folder.write_faults c.args.folder.now) (g.F.Folder.write_wants c.args.folder.now) (g.K.Sink.pieces c.args.out.now) (g.K.Sink.faults c.args.out.now) in
    let after : Outside = seen (g.F.Folder.content c.find.new.folder) (g.F.Folder.read_faults c.find.new.folder) (g.F.Folder.write_faults c.find.new.folder) (g.F.Folder.write_wants c.find.new.folder) (g.K.Sink.pieces c.args.out.now) (g.K.Sink.faults c.args.out.now) in (
      (unseen asked (g.F.Folder.content c.args.folder.now) before after status.ReadFault (inl refl) refl, none_read c.args.asked.now before after c.in-Err-Failed.ensures.many),
      early_exactly asked (g.F.Folder.content c.args.folder.now) status.ReadFault tt (λ e. cc e),
      read_fault_counted before after (rw c.in-Err-Failed.field-0-is at c.in-Err-Failed.ensures.cause) refl refl (record { files = c.in-Err-Failed.ensures.same; writes = c.in-Err-Failed.ensures.writes; wants = c.in-Err-Failed.ensures.wants }),
    )

pub returns-in-Err-Memory : goal.returns-in-Err-Memory
returns-in-Err-Memory g c =
    let asked = asked_read c.args.asked.now in
    let before : Outside = seen (g.F.Folder.content c.args.folder.now) (g.F.Folder.read_faults c.args.folder.now) (g.F.Folder.write_faults c.args.folder.now) (g.F.Folder.write_wants c.args.folder.now) (g.K.Sink.pieces c.args.out.now) (g.K.Sink.faults c.args.out.now) in
    let after : Outside = seen (g.F.Folder.content c.find.new.folder) (g.F.Folder.read_faults c.find.new.folder) (g.F.Folder.write_faults c.find.new.folder) (g.F.Folder.write_wants c.find.new.folder) (g.K.Sink.pieces c.args.out.now) (g.K.Sink.faults c.args.out.now) in (
      (unseen asked (g.F.Folder.content c.args.folder.now) before after status.Memory (inr refl) refl, none_read c.args.asked.now before after c.in-Err-Memory.ensures.many),
      early_exactly asked (g.F.Folder.content c.args.folder.now) status.Memory tt (λ e. cc e),
      counted before after status.Memory (λ e. cc e) (rw c.in-Err-Memory.field-0-is at c.in-Err-Memory.ensures.cause) (record { files = c.in-Err-Memory.ensures.same; writes = c.in-Err-Memory.ensures.writes; wants = c.in-Err-Memory.ensures.wants }) refl,
    )
