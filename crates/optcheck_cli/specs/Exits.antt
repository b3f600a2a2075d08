-- The exit code with which the program ends.
use Rattle.std.specs.Prelude.{◌≡◌, ℕ, List, Option}
use Rattle.std.specs.Process.{exit_status}
use Rattle.std.specs.declared.process.ExitCode.{ExitCode}
use Rattle.optcheck_cli.specs.Completeness.{EndsExactly, IsComplete}
use Rattle.optcheck_cli.specs.Headline.{IsCounted, RunsAs}
use Rattle.optcheck_cli.specs.Numbers.{number_of}
use Rattle.optcheck_cli.specs.Outside.{Outside}
use Rattle.optcheck_cli.specs.Words.{Asked, asked_of}
use Rattle.optcheck_cli.specs.declared.status.CheckStatus.{CheckStatus}

-- it is the number of a status of which this is so
abbrev pub Tells : (CheckStatus → Type 0) → ExitCode → Type 0
Tells IsSo code = (ends : CheckStatus) × IsSo ends × (exit_status code ≡ number_of ends)

-- how a run of what the words ask for ends, by what is seen before it and after it
abbrev pub RunsThrough : Option Asked → Outside → Outside → CheckStatus → Type 0
RunsThrough asked before after ends = RunsAs asked before after ends × EndsExactly asked before.files ends × IsCounted before after ends

-- the same over these words, with what is said of a run of which no call fails
abbrev pub RunsToEnd : List (List ℕ) → Outside → Outside → CheckStatus → Type 0
RunsToEnd words before after ends = RunsThrough (asked_of words) before after ends × IsComplete (asked_of words) before after ends
