-- Bytes that are written piece by piece, where a writer may take less than it is given.
use Rattle.std.specs.Prelude.{◌≤◌, ℕ, List, length, take, Option}
use Rattle.std.specs.declared.result.Result.{Result}
use Rattle.std.specs.declared.result.Result.TheVariants.{Ok, Err}
use Rattle.std.specs.Io.KnownBytes.{Appends}

-- a prefix of the piece was appended
abbrev pub AppendsSome : Option (List ℕ) → Option (List ℕ) → List ℕ → Type 0
AppendsSome old new piece = (n : ℕ) × (n ≤ length piece) × Appends old new (take n piece)

-- the piece was appended, or after an error a prefix of it
abbrev pub AppendsPiece : {E : Type 0} → Option (List ℕ) → Option (List ℕ) → List ℕ → Result (Unit {0}) E → Type 0
AppendsPiece old new piece (Ok x) = Appends old new piece
AppendsPiece old new piece (Err e) = AppendsSome old new piece
