-- A run as it is seen from outside: the folder's files and the pieces that the sink took, where they are told, and the counts of calls
-- that failed and of writes that found no memory; before it and after it.
use Rattle.std.specs.Prelude.{◌≡◌, ◌∷◌, ℕ, List, [], Option}
use Rattle.solver_io.specs.Bytes.{Takes, TakesSome}
use Rattle.solver_io.specs.Files.{Files}

-- what is told; how many reads and writes of the folder and writes of the sink have failed; and how many writes of the folder have found
-- no memory
pub record Outside : Type 0 where
  pub files : Option Files
  pub folder_reads : ℕ
  pub folder_writes : ℕ
  pub folder_wants : ℕ
  pub pieces : Option (List (List ℕ))
  pub sink_writes : ℕ

-- what is seen of a folder and a sink, in this order
abbrev pub seen : Option Files → ℕ → ℕ → ℕ → Option (List (List ℕ)) → ℕ → Outside
seen files reads writes wants pieces sink_writes = record {
  files = files;
  folder_reads = reads;
  folder_writes = writes;
  folder_wants = wants;
  pieces = pieces;
  sink_writes = sink_writes;
}

-- no file is changed, and no write of the folder was tried
pub record IsFolderKept (before after : Outside) : Type 0 where
  pub files : after.files ≡ before.files
  pub writes : after.folder_writes ≡ before.folder_writes
  pub wants : after.folder_wants ≡ before.folder_wants

-- ---- what is printed
-- a line, as one piece
abbrev pub Prints : List ℕ → Outside → Outside → Type 0
Prints line before after = Takes before.pieces after.pieces (line ∷ [])

-- a part of it, or nothing
abbrev pub PrintsSome : List ℕ → Outside → Outside → Type 0
PrintsSome line before after = TakesSome before.pieces after.pieces line

abbrev pub PrintsNothing : Outside → Outside → Type 0
PrintsNothing before after = after.pieces ≡ before.pieces
