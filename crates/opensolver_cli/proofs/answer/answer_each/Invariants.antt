use Rattle.std.proofs.Common.{◌≡◌, take}
use Rattle.opensolver_cli.specs.Outside.{NoneFailed, put_in}
use Rattle.command_line.specs.Read.{named_of}
use Rattle.opensolver_cli.proofs.StepLaws.{AreAnsweredTold}
use Rattle.opensolver_cli.proofs.answer.answer_each.Given as goal

-- the records so far are answered, and no write failed or found no memory
abbrev pub invariant-loop-place : goal.invariant-loop-place
invariant-loop-place g l = record {
  answered : AreAnsweredTold ((goal.Picker-dyn g (l.fn.pick.vtable, l.fn.pick.value)).rule l.fn.pick.value) (named_of l.job.named) l.fn.session.state (g.F.Folder.content l.fn.folder) (take l.place l.rows)
      (put_in (g.F.Folder.content l.fn.folder) (g.F.Folder.write_faults l.fn.folder) (g.F.Folder.write_wants l.fn.folder) (g.K.Sink.pieces l.fn.out) (g.K.Sink.faults l.fn.out))
      (put_in (g.F.Folder.content l.folder) (g.F.Folder.write_faults l.folder) (g.F.Folder.write_wants l.folder) (g.K.Sink.pieces l.out) (g.K.Sink.faults l.out))
      l.session.state l.refused;
  rule : (goal.Picker-dyn g (l.pick.vtable, l.pick.value)).rule l.pick.value ≡ (goal.Picker-dyn g (l.fn.pick.vtable, l.fn.pick.value)).rule l.fn.pick.value;
  none : NoneFailed
      (put_in (g.F.Folder.content l.fn.folder) (g.F.Folder.write_faults l.fn.folder) (g.F.Folder.write_wants l.fn.folder) (g.K.Sink.pieces l.fn.out) (g.K.Sink.faults l.fn.out))
      (put_in (g.F.Folder.content l.folder) (g.F.Folder.write_faults l.folder) (g.F.Folder.write_wants l.folder) (g.K.Sink.pieces l.out) (g.K.Sink.faults l.out));
  reads : g.F.Folder.read_faults l.folder ≡ g.F.Folder.read_faults l.fn.folder;
}
