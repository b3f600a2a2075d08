use Rattle.std.proofs.Common.{◌≡◌}
use Rattle.command_line.specs.Read.{named_of}
use Rattle.opensolver_cli.proofs.SaveLaws.{first_saved}
use Rattle.opensolver_cli.proofs.saving.save_files.Given as goal

-- the files so far are saved, and no write failed or found no memory
abbrev pub invariant-loop-file : goal.invariant-loop-file
invariant-loop-file g l = record {
  saved : g.F.Folder.content l.folder ≡ first_saved (named_of l.named) l.files l.file-index (g.F.Folder.content l.fn.folder);
  writes : g.F.Folder.write_faults l.folder ≡ g.F.Folder.write_faults l.fn.folder;
  wants : g.F.Folder.write_wants l.folder ≡ g.F.Folder.write_wants l.fn.folder;
  reads : g.F.Folder.read_faults l.folder ≡ g.F.Folder.read_faults l.fn.folder;
}
