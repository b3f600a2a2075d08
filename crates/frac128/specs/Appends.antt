-- Texts that are appended to a string in which there is room.
use Rattle.std.specs.Prelude.{◌≡◌, ℕ, ◌+◌, ◌≤◌, List, ◌++◌, length, String, string_bytes, string_len}
use Rattle.std.specs.String.{string_capacity}

-- so many bytes more take no memory
abbrev pub HasRoom : {A : Type 0} → String A → ℕ → Type 0
HasRoom s n = string_len s + n ≤ string_capacity s

-- the bytes stand behind the old ones, and the room does not shrink
pub record Appends {A : Type 0} (old new : String A) (piece : List ℕ) : Type 0 where
  pub bytes : string_bytes new ≡ string_bytes old ++ piece
  pub len : string_len new ≡ string_len old + length piece
  pub capacity : string_capacity old ≤ string_capacity new
