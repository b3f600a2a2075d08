use Rattle.opensolver_cli.specs.Outside.{Written, put_in}
use Rattle.command_line.specs.Read.{job_read}
use Rattle.opensolver_cli.proofs.StepLaws.{over_opened}
use Rattle.opensolver_cli.proofs.answer.answer_counted.Goals as goal

pub returns-clause-answers : goal.returns-clause-answers
returns-clause-answers g c =
    let u : Written = put_in (g.F.Folder.content c.args.folder.now) (g.F.Folder.write_faults c.args.folder.now) (g.F.Folder.write_wants c.args.folder.now) (g.K.Sink.pieces c.args.out.now) (g.K.Sink.faults c.args.out.now) in
    let w : Written = put_in (g.F.Folder.content c.answer_each.new.folder) (g.F.Folder.write_faults c.answer_each.new.folder) (g.F.Folder.write_wants c.answer_each.new.folder) (g.K.Sink.pieces c.answer_each.new.out) (g.K.Sink.faults c.answer_each.new.out) in
    over_opened _ (job_read c.args.job.now) c.args.of.book (g.F.Folder.content c.args.folder.now) c.in-Ok.session c.args.rows.now u w c.answer_each.result c.in-Ok.ensures c.answer_each.ensures.answers
