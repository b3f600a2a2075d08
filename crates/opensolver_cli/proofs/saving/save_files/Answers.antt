use Rattle.std.proofs.Common.{◌<◌, ap, arith, length, ◌∙◌}
use Rattle.std.proofs.lemmas.Result.{err_from_is_err_and}
use Rattle.command_line.specs.Read.{named_of}
use Rattle.opensolver_cli.specs.Worlds.{word_of}
use Rattle.opensolver_cli.proofs.SaveLaws.{next_saved, refused_at}
use Rattle.opensolver_cli.proofs.saving.save_files.Goals as goal

pub loop-file-preserved : goal.loop-file-preserved
loop-file-preserved g c =
    let within : c.loop-file.file-index < length c.args.files.now = omega arith in
    let name = c.word_of.ensures ∙ ap (word_of (named_of c.args.named.now)) c.sheet.ensures in
    record {
      saved =
          next_saved (named_of c.args.named.now) c.args.files.now c.loop-file.file-index c.file-item.result _ _ (g.F.Folder.content c.args.folder.now) (g.F.Folder.content c.loop-file.folder) (g.F.Folder.content c.write.new.self) within c.file-item.is name
          c.bytes.ensures c.loop-file.invariant.saved c.in_ok-write.ensures.puts;
      writes = c.in_ok-write.ensures.cause ∙ c.loop-file.invariant.writes;
      wants = c.in_ok-write.ensures.want ∙ c.loop-file.invariant.wants;
      reads = c.in_ok-write.ensures.reads ∙ c.loop-file.invariant.reads;
    }

pub returns-in_err-write-clause-saves : goal.returns-in_err-write-clause-saves
returns-in_err-write-clause-saves g c =
    let p = err_from_is_err_and c.from_residual.result c.from_residual.ensures.1 in
    let within : c.loop-file.file-index < length c.args.files.now = omega arith in
    let name = c.word_of.ensures ∙ ap (word_of (named_of c.args.named.now)) c.sheet.ensures in
    rw p.1
    (refused_at (named_of c.args.named.now) c.args.files.now c.loop-file.file-index c.file-item.result _ c.bytes.result.now (g.F.Folder.content c.args.folder.now) (g.F.Folder.content c.loop-file.folder) (g.F.Folder.content c.write.new.self) p.0 within
    c.file-item.is name c.loop-file.invariant.saved c.in_err-write.ensures.puts)
