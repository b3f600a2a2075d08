use Rattle.std.proofs.Common.{◌≡◌, IfSome, length}
use Rattle.std.specs.Prelude.{All}
use Rattle.run_inputs.specs.Inputs.{CanBeOpened}
use Rattle.command_line.specs.Words.{texts_of}
use Rattle.run_inputs.proofs.FileLaws.{AreRead}
use Rattle.run_inputs.proofs.files.read_sheets.Given as goal

-- the files of the words so far were read, and the folder holds what it held, and no call of it failed
abbrev pub invariant-loop-place : goal.invariant-loop-place
invariant-loop-place g l = record {
  read : IfSome (g.F.Folder.content l.fn.folder) (λ files. AreRead files (texts_of l.fn.words) l.place l.files.items);
  count : length l.files.items ≡ l.place;
  open_all : All CanBeOpened l.files.items;
  same : g.F.Folder.content l.folder ≡ g.F.Folder.content l.fn.folder;
  reads : g.F.Folder.read_faults l.folder ≡ g.F.Folder.read_faults l.fn.folder;
  writes : g.F.Folder.write_faults l.folder ≡ g.F.Folder.write_faults l.fn.folder;
  wants : g.F.Folder.write_wants l.folder ≡ g.F.Folder.write_wants l.fn.folder;
}
