-- A run as it is seen from outside: the folder's files, what the script has left and the pieces that the sink took, where they are
-- told, and the counts of calls that failed and of writes that found no memory; before it and after it.
use Rattle.std.specs.Prelude.{◌≡◌, ◌∷◌, ℕ, List, [], Option}
use Rattle.solver_io.specs.Bytes.{Takes, TakesSome}
use Rattle.solver_io.specs.Causes.{Rose}
use Rattle.solver_io.specs.Files.{Files}

-- what is told; how many reads and writes of the folder, reads of the script and writes of the sink have failed; and how many writes of
-- the folder have found no memory
pub record Outside : Type 0 where
  pub files : Option Files
  pub left : Option (List ℕ)
  pub pieces : Option (List (List ℕ))
  pub folder_reads : ℕ
  pub folder_writes : ℕ
  pub folder_wants : ℕ
  pub script_reads : ℕ
  pub sink_writes : ℕ

-- what is seen of a folder, a script and a sink, in this order
abbrev pub seen : Option Files → ℕ → ℕ → ℕ → Option (List ℕ) → ℕ → Option (List (List ℕ)) → ℕ → Outside
seen files reads writes wants left script_reads pieces sink_writes = record {
  files = files;
  left = left;
  pieces = pieces;
  folder_reads = reads;
  folder_writes = writes;
  folder_wants = wants;
  script_reads = script_reads;
  sink_writes = sink_writes;
}

-- ---- what is written
-- the folder's files and the pieces that the sink took, where they are told; how many writes of each have failed; and how many of the
-- folder have found no memory
pub record Written : Type 0 where
  pub files : Option Files
  pub pieces : Option (List (List ℕ))
  pub folder_writes : ℕ
  pub folder_wants : ℕ
  pub sink_writes : ℕ

-- the same of a folder and a sink, in this order
abbrev pub put_in : Option Files → ℕ → ℕ → Option (List (List ℕ)) → ℕ → Written
put_in files writes wants pieces sink_writes = record { files = files; pieces = pieces; folder_writes = writes; folder_wants = wants; sink_writes = sink_writes }

abbrev pub written : Outside → Written
written o = record { files = o.files; pieces = o.pieces; folder_writes = o.folder_writes; folder_wants = o.folder_wants; sink_writes = o.sink_writes }

-- no write failed, and none of the folder found no memory
pub record NoneFailed (before after : Written) : Type 0 where
  pub folder : after.folder_writes ≡ before.folder_writes
  pub wants : after.folder_wants ≡ before.folder_wants
  pub sink : after.sink_writes ≡ before.sink_writes

-- one of these counts rose, and the others are as before: a write of the sink failed, one of the folder did, or one of the folder found
-- no memory
pub record SinkFailed (before after : Written) : Type 0 where
  pub rose : Rose before.sink_writes after.sink_writes
  pub folder : after.folder_writes ≡ before.folder_writes
  pub wants : after.folder_wants ≡ before.folder_wants

pub record FolderFailed (before after : Written) : Type 0 where
  pub rose : Rose before.folder_writes after.folder_writes
  pub wants : after.folder_wants ≡ before.folder_wants
  pub sink : after.sink_writes ≡ before.sink_writes

pub record FolderWantsMemory (before after : Written) : Type 0 where
  pub rose : Rose before.folder_wants after.folder_wants
  pub folder : after.folder_writes ≡ before.folder_writes
  pub sink : after.sink_writes ≡ before.sink_writes

-- ---- what is left as it was
-- the script isn't touched
pub record IsScriptLeft (before after : Outside) : Type 0 where
  pub left : after.left ≡ before.left
  pub reads : after.script_reads ≡ before.script_reads

-- nor the folder
pub record IsFolderLeft (before after : Outside) : Type 0 where
  pub files : after.files ≡ before.files
  pub reads : after.folder_reads ≡ before.folder_reads
  pub writes : after.folder_writes ≡ before.folder_writes
  pub wants : after.folder_wants ≡ before.folder_wants

-- nothing is printed and nothing saved
pub record NothingIsSeen (before after : Outside) : Type 0 where
  pub printed : after.pieces ≡ before.pieces
  pub files : after.files ≡ before.files

-- ---- one line
-- a line is printed as one piece, and no file is changed
pub record Prints (line : List ℕ) (before after : Outside) : Type 0 where
  pub printed : Takes before.pieces after.pieces (line ∷ [])
  pub files : after.files ≡ before.files

-- a part of it is printed, or nothing
pub record PrintsSome (line : List ℕ) (before after : Outside) : Type 0 where
  pub printed : TakesSome before.pieces after.pieces line
  pub files : after.files ≡ before.files
