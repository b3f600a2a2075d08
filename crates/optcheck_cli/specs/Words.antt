-- What the words of the command line ask for.
use Rattle.std.specs.Prelude.{ℕ, if◌then◌else◌, ◌==◌, List, length, Option, Some, None, codes}
use Rattle.clap.specs.Words.{Row, fault_of, first_of, matches_of}
use Rattle.command_line.specs.Words.{Named, files_in, named_by}
use Rattle.optcheck_cli.specs.Line.{the_app}

-- the files of a workbook, and that of a certificate
pub record Asked : Type 0 where
  pub named : Named
  pub certificate : List ℕ

abbrev pub asked_over : Option Named → Option (List ℕ) → Option Asked
asked_over (Some named) (Some certificate) = Some (record { named = named; certificate = certificate })
asked_over _ _ = None

abbrev pub asked_by : List Row → Option Asked
asked_by rows = asked_over (named_by (first_of (codes "names") rows) (files_in rows)) (first_of (codes "cert") rows)

-- what the words ask for; none where they are of another form
abbrev pub asked_of : List (List ℕ) → Option Asked
asked_of words = if length (fault_of the_app words) == 0 then asked_by (matches_of the_app words) else None
