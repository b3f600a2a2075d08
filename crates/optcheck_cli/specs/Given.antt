-- What the command line gives of words, by its matches.
use Rattle.std.specs.Prelude.{◌≡◌, ◌≢◌, [], List, ℕ, Option, Some, None}
use Rattle.clap.specs.Words.{fault_of, matches_of}
use Rattle.clap.specs.declared.parser.matches.ArgMatches.{ArgMatches}
use Rattle.command_line.specs.Given.{given}
use Rattle.optcheck_cli.specs.Line.{the_app}

-- the command refuses exactly the words that have a fault, and of the others it gives these values
abbrev pub ReadsWords : List (List ℕ) → Option ArgMatches → Type 0
ReadsWords words None = fault_of the_app words ≢ []
ReadsWords words (Some matches) = (fault_of the_app words ≡ []) × (given matches ≡ matches_of the_app words)
