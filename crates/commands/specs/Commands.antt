-- Which command a record of a script is: by its first field and the number of its fields.
use Rattle.std.specs.Prelude.{ℕ, List, [], ◌∷◌, if◌then◌else◌, bytes_eq, codes, string_bytes}
use Rattle.commands.specs.declared.command.Command.{Command}
use Rattle.commands.specs.declared.command.Command.TheVariants as command

-- a command, with the texts of its record behind the first
pub data Spoken : Type 0 where
  Set : (address text : List ℕ) → Spoken
  Clear : (address : List ℕ) → Spoken
  Name : (sheet name text : List ℕ) → Spoken
  Unname : (sheet name : List ℕ) → Spoken
  Show : (address : List ℕ) → Spoken
  Model : (sheet : List ℕ) → Spoken
  Solve : (sheet : List ℕ) → Spoken
  Prices : (sheet : List ℕ) → Spoken
  Begin : (sheet : List ℕ) → Spoken
  Slice : (sheet units : List ℕ) → Spoken
  Stop : (sheet : List ℕ) → Spoken
  Budget : (units : List ℕ) → Spoken
  Cert : (sheet : List ℕ) → Spoken
  Save : Spoken
  Unknown : Spoken

-- ---- the table: words with no text behind them, with one, with two and with three
abbrev pub Text : Type 0
Text = List ℕ

abbrev pub with_none : List (Text × Spoken)
with_none = (codes "save", Save) ∷ []

abbrev pub with_one : List (Text × (Text → Spoken))
with_one = (codes "clear", Clear) ∷ (codes "show", Show) ∷ (codes "model", Model) ∷ (codes "solve", Solve) ∷ (codes "prices", Prices) ∷ (codes "begin", Begin) ∷ (codes "stop", Stop) ∷ (codes "budget", Budget) ∷ (codes "cert", Cert) ∷ []

abbrev pub with_two : List (Text × (Text → Text → Spoken))
with_two = (codes "set", Set) ∷ (codes "unname", Unname) ∷ (codes "slice", Slice) ∷ []

abbrev pub with_three : List (Text × (Text → Text → Text → Spoken))
with_three = (codes "name", Name) ∷ []

-- what a table has for a word, and the other where the word isn't in it
abbrev pub in_table : {A : Type 0} → Text → A → List (Text × A) → A
in_table word other [] = other
in_table word other (row ∷ rows) = if bytes_eq word row.0 then row.1 else in_table word other rows

-- the command that a record is
abbrev pub command_of : List Text → Spoken
command_of (word ∷ []) = in_table word Unknown with_none
command_of (word ∷ a ∷ []) = in_table word (λ x. Unknown) with_one a
command_of (word ∷ a ∷ b ∷ []) = in_table word (λ x y. Unknown) with_two a b
command_of (word ∷ a ∷ b ∷ c ∷ []) = in_table word (λ x y z. Unknown) with_three a b c
command_of _ = Unknown

-- it is one of the table, and has a text, so that memory is wanted for it
abbrev pub HasText : Spoken → Type 0
HasText Save = ⊥
HasText Unknown = ⊥
HasText _ = Unit {0}

-- a command by its texts
abbrev pub spoken : Command → Spoken
spoken (command.Set address text) = Set (string_bytes address) (string_bytes text)
spoken (command.Clear address) = Clear (string_bytes address)
spoken (command.Name sheet name text) = Name (string_bytes sheet) (string_bytes name) (string_bytes text)
spoken (command.Unname sheet name) = Unname (string_bytes sheet) (string_bytes name)
spoken (command.Show address) = Show (string_bytes address)
spoken (command.Model sheet) = Model (string_bytes sheet)
spoken (command.Solve sheet) = Solve (string_bytes sheet)
spoken (command.Prices sheet) = Prices (string_bytes sheet)
spoken (command.Begin sheet) = Begin (string_bytes sheet)
spoken (command.Slice sheet units) = Slice (string_bytes sheet) (string_bytes units)
spoken (command.Stop sheet) = Stop (string_bytes sheet)
spoken (command.Budget units) = Budget (string_bytes units)
spoken (command.Cert sheet) = Cert (string_bytes sheet)
spoken command.Save = Save
spoken command.Unknown = Unknown
