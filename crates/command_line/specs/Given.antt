-- What the command line gives of words, by its matches.
use Rattle.std.specs.Prelude.{◌≡◌, ◌≢◌, [], List, ℕ, Option, Some, None}
use Rattle.clap.specs.Words.{Row, fault_of, found_of, matches_of, rows_of}
use Rattle.clap.specs.declared.parser.matches.ArgMatches.{ArgMatches}
use Rattle.command_line.specs.Line.{the_app}

-- the values of each option, and the files
abbrev pub given : ArgMatches → List Row
given matches = rows_of (found_of matches)

-- the command refuses exactly the words that have a fault, and of the others it gives these values
abbrev pub ReadsWords : List (List ℕ) → Option ArgMatches → Type 0
ReadsWords words None = fault_of the_app words ≢ []
ReadsWords words (Some matches) = (fault_of the_app words ≡ []) × (given matches ≡ matches_of the_app words)
