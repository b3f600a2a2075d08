use Rattle.std.proofs.Common.{subst, sym}
use Rattle.std.specs.Prelude.{List, ℕ}
use Rattle.commands.specs.Commands.{spoken}
use Rattle.commands.specs.Lines.{CanBeSaid}
use Rattle.opensolver_cli.specs.Outside.{Written, put_in}
use Rattle.command_line.specs.Read.{named_of}
use Rattle.opensolver_cli.proofs.RecordLaws.{told_by}
use Rattle.opensolver_cli.proofs.answer.answer_command.Goals as goal

pub tell_answer-requires : goal.tell_answer-requires
tell_answer-requires g c = record { said = subst (λ (z : List (List ℕ)). CanBeSaid z c.in-Ok.answer) (sym c.in-Ok.ensures.sheets) c.in-Ok.ensures.said }

pub returns-clause-answers : goal.returns-clause-answers
returns-clause-answers g c =
    let v : Written = put_in (g.F.Folder.content c.args.folder.now) (g.F.Folder.write_faults c.args.folder.now) (g.F.Folder.write_wants c.args.folder.now) (g.K.Sink.pieces c.args.out.now) (g.K.Sink.faults c.args.out.now) in
    let w : Written = put_in (g.F.Folder.content c.tell_answer.new.folder) (g.F.Folder.write_faults c.tell_answer.new.folder) (g.F.Folder.write_wants c.tell_answer.new.folder) (g.K.Sink.pieces c.tell_answer.new.out) (g.K.Sink.faults c.tell_answer.new.out) in
    rw (← c.session.view_is) (told_by _ (named_of c.args.job.now.named) c.session.inside.session.state c.apply.new.self.state c.tell_answer.new.session.state (spoken c.args.command.now) c.in-Ok.answer v w c.tell_answer.result c.in-Ok.ensures.step c.in-Ok.ensures.sheets c.tell_answer.ensures.answers)
