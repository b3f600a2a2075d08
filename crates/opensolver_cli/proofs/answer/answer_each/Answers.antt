use Rattle.std.proofs.Common.{◌≡◌, ◌<◌, arith, length, refl, ◌∙◌}
use Rattle.std.specs.Prelude.{◌||◌}
use Rattle.opensolver_cli.specs.Outside.{Written, put_in}
use Rattle.command_line.specs.Read.{named_of}
use Rattle.opensolver_cli.proofs.StepLaws.{all_were_answered, first_records, memory_counts, memory_failed, none_failed, refused_before, refused_here, this_rule, went_on, write_failed}
use Rattle.opensolver_cli.proofs.answer.answer_each.Goals as goal
use Rattle.opensolver_cli.proofs.answer.answer_each.Goals.{then-refused, else-refused}

pub loop-place-init : goal.loop-place-init
loop-place-init g c =
    let u : Written = put_in (g.F.Folder.content c.args.folder.now) (g.F.Folder.write_faults c.args.folder.now) (g.F.Folder.write_wants c.args.folder.now) (g.K.Sink.pieces c.args.out.now) (g.K.Sink.faults c.args.out.now) in
    record {
      answered = first_records _ (named_of c.args.job.now.named) c.args.session.now.state (g.F.Folder.content c.args.folder.now) u refl;
      rule = refl;
      none = record { folder = refl; wants = refl; sink = refl };
      reads = refl;
    }

pub returns-in-Err-Failed-clause-answers : goal.returns-in-Err-Failed-clause-answers
returns-in-Err-Failed-clause-answers g c =
    let u : Written = put_in (g.F.Folder.content c.args.folder.now) (g.F.Folder.write_faults c.args.folder.now) (g.F.Folder.write_wants c.args.folder.now) (g.K.Sink.pieces c.args.out.now) (g.K.Sink.faults c.args.out.now) in
    let v : Written = put_in (g.F.Folder.content c.loop-place.folder) (g.F.Folder.write_faults c.loop-place.folder) (g.F.Folder.write_wants c.loop-place.folder) (g.K.Sink.pieces c.loop-place.out) (g.K.Sink.faults c.loop-place.out) in
    let w : Written = put_in (g.F.Folder.content c.answer_record.new.folder) (g.F.Folder.write_faults c.answer_record.new.folder) (g.F.Folder.write_wants c.answer_record.new.folder) (g.K.Sink.pieces c.answer_record.new.out) (g.K.Sink.faults c.answer_record.new.out) in
    write_failed _ _ (named_of c.args.job.now.named) c.args.session.now.state (g.F.Folder.content c.args.folder.now) c.loop-place.session.state c.answer_record.new.session.state c.args.rows.now c.loop-place.place u v w c.loop-place.refused c.in-Err-Failed.field-0
    c.loop-place.invariant.rule c.in-Err-Failed.field-0-is c.loop-place.invariant.none c.loop-place.invariant.answered (c.at.result.now, c.at.ensures, c.in-Err-Failed.ensures.answers)

pub returns-in-Err-Memory-clause-answers : goal.returns-in-Err-Memory-clause-answers
returns-in-Err-Memory-clause-answers g c =
    let u : Written = put_in (g.F.Folder.content c.args.folder.now) (g.F.Folder.write_faults c.args.folder.now) (g.F.Folder.write_wants c.args.folder.now) (g.K.Sink.pieces c.args.out.now) (g.K.Sink.faults c.args.out.now) in
    let v : Written = put_in (g.F.Folder.content c.loop-place.folder) (g.F.Folder.write_faults c.loop-place.folder) (g.F.Folder.write_wants c.loop-place.folder) (g.K.Sink.pieces c.loop-place.out) (g.K.Sink.faults c.loop-place.out) in
    let w : Written = put_in (g.F.Folder.content c.answer_record.new.folder) (g.F.Folder.write_faults c.answer_record.new.folder) (g.F.Folder.write_wants c.answer_record.new.folder) (g.K.Sink.pieces c.answer_record.new.out) (g.K.Sink.faults c.answer_record.new.out) in
    memory_failed _ _ (named_of c.args.job.now.named) c.args.session.now.state (g.F.Folder.content c.args.folder.now) c.loop-place.session.state c.answer_record.new.session.state c.args.rows.now c.loop-place.place u v w c.loop-place.refused c.in-Err-Memory.field-0
    c.loop-place.invariant.rule c.in-Err-Memory.field-0-is c.loop-place.invariant.none c.loop-place.invariant.answered (c.at.result.now, c.at.ensures, c.in-Err-Memory.ensures.answers)

pub returns-in-Err-Memory-clause-cause : goal.returns-in-Err-Memory-clause-cause
returns-in-Err-Memory-clause-cause g c =
    let u : Written = put_in (g.F.Folder.content c.args.folder.now) (g.F.Folder.write_faults c.args.folder.now) (g.F.Folder.write_wants c.args.folder.now) (g.K.Sink.pieces c.args.out.now) (g.K.Sink.faults c.args.out.now) in
    let v : Written = put_in (g.F.Folder.content c.loop-place.folder) (g.F.Folder.write_faults c.loop-place.folder) (g.F.Folder.write_wants c.loop-place.folder) (g.K.Sink.pieces c.loop-place.out) (g.K.Sink.faults c.loop-place.out) in
    let w : Written = put_in (g.F.Folder.content c.answer_record.new.folder) (g.F.Folder.write_faults c.answer_record.new.folder) (g.F.Folder.write_wants c.answer_record.new.folder) (g.K.Sink.pieces c.answer_record.new.out) (g.K.Sink.faults c.answer_record.new.out) in
    memory_counts (this_rule c.loop-place.invariant.rule) (named_of c.args.job.now.named) c.loop-place.session.state c.answer_record.new.session.state c.args.rows.now c.loop-place.place u v w c.in-Err-Memory.field-0
    c.in-Err-Memory.field-0-is c.loop-place.invariant.none (c.at.result.now, c.at.ensures, c.in-Err-Memory.ensures.answers)

pub loop-place-preserved : goal.loop-place-preserved
loop-place-preserved g c =
    let u : Written = put_in (g.F.Folder.content c.args.folder.now) (g.F.Folder.write_faults c.args.folder.now) (g.F.Folder.write_wants c.args.folder.now) (g.K.Sink.pieces c.args.out.now) (g.K.Sink.faults c.args.out.now) in
    let v : Written = put_in (g.F.Folder.content c.loop-place.folder) (g.F.Folder.write_faults c.loop-place.folder) (g.F.Folder.write_wants c.loop-place.folder) (g.K.Sink.pieces c.loop-place.out) (g.K.Sink.faults c.loop-place.out) in
    let w : Written = put_in (g.F.Folder.content c.answer_record.new.folder) (g.F.Folder.write_faults c.answer_record.new.folder) (g.F.Folder.write_wants c.answer_record.new.folder) (g.K.Sink.pieces c.answer_record.new.out) (g.K.Sink.faults c.answer_record.new.out) in
    let within : c.loop-place.place < length c.args.rows.now = omega arith in
    let refused : (c.loop-place.refused || c.in-Ok.is_refusal) ≡ c.if-refused.refused = elim c.if-refused.branch [
      | then-refused w ↦ refused_before _ _ _ w.if-refused.true w.refused-is
      | else-refused w ↦ refused_here _ _ _ w.if-refused.false w.refused-is
    ] in
    record {
      answered = rw (← refused)
          (went_on _ _ (named_of c.args.job.now.named) c.args.session.now.state (g.F.Folder.content c.args.folder.now) c.loop-place.session.state c.answer_record.new.session.state c.args.rows.now c.loop-place.place u v w c.loop-place.refused c.in-Ok.is_refusal c.loop-place.invariant.rule within
          c.loop-place.invariant.answered (c.at.result.now, c.at.ensures, c.in-Ok.ensures.answers) c.answer_record.ensures.sheets);
      rule = c.answer_record.ensures.rule ∙ c.loop-place.invariant.rule;
      none =
          none_failed (this_rule c.loop-place.invariant.rule) (named_of c.args.job.now.named) c.loop-place.session.state c.answer_record.new.session.state c.args.rows.now c.loop-place.place u v w c.in-Ok.is_refusal c.loop-place.invariant.none
          (c.at.result.now, c.at.ensures, c.in-Ok.ensures.answers);
      reads = c.answer_record.ensures.reads ∙ c.loop-place.invariant.reads;
    }

pub returns-then-refused-2-clause-answers : goal.returns-then-refused-2-clause-answers
returns-then-refused-2-clause-answers g c =
    let u : Written = put_in (g.F.Folder.content c.args.folder.now) (g.F.Folder.write_faults c.args.folder.now) (g.F.Folder.write_wants c.args.folder.now) (g.K.Sink.pieces c.args.out.now) (g.K.Sink.faults c.args.out.now) in
    let v : Written = put_in (g.F.Folder.content c.loop-place.folder) (g.F.Folder.write_faults c.loop-place.folder) (g.F.Folder.write_wants c.loop-place.folder) (g.K.Sink.pieces c.loop-place.out) (g.K.Sink.faults c.loop-place.out) in
    all_were_answered _ (named_of c.args.job.now.named) c.args.session.now.state (g.F.Folder.content c.args.folder.now) c.loop-place.session.state c.args.rows.now c.loop-place.place u v c.loop-place.refused _ c.if-refused-2.true (omega arith) c.loop-place.invariant.answered

pub returns-else-refused-2-clause-answers : goal.returns-else-refused-2-clause-answers
returns-else-refused-2-clause-answers g c =
    let u : Written = put_in (g.F.Folder.content c.args.folder.now) (g.F.Folder.write_faults c.args.folder.now) (g.F.Folder.write_wants c.args.folder.now) (g.K.Sink.pieces c.args.out.now) (g.K.Sink.faults c.args.out.now) in
    let v : Written = put_in (g.F.Folder.content c.loop-place.folder) (g.F.Folder.write_faults c.loop-place.folder) (g.F.Folder.write_wants c.loop-place.folder) (g.K.Sink.pieces c.loop-place.out) (g.K.Sink.faults c.loop-place.out) in
    all_were_answered _ (named_of c.args.job.now.named) c.args.session.now.state (g.F.Folder.content c.args.folder.now) c.loop-place.session.state c.args.rows.now c.loop-place.place u v c.loop-place.refused _ c.if-refused-2.false (omega arith) c.loop-place.invariant.answered
