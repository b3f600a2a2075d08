-- The exit code with which the program ends.
use Rattle.std.specs.Prelude.{◌≡◌, ◌∷◌, ◌⊎◌, ℕ, List, []}
use Rattle.std.specs.Process.{exit_status}
use Rattle.std.specs.declared.process.ExitCode.{ExitCode}
use Rattle.node_pick.specs.Rules.{best_first, depth_first, oldest_first}
use Rattle.opensolver_cli.specs.FromCommandLine.{asked_of}
use Rattle.opensolver_cli.specs.Completeness.{EndsExactly, IsComplete}
use Rattle.opensolver_cli.specs.Headline.{IsCounted, RunsAs}
use Rattle.opensolver_cli.specs.Outside.{Outside}
use Rattle.run_inputs.specs.Numbers.{number_of}
use Rattle.run_inputs.specs.declared.status.Status.{Status}
use Rattle.run_inputs.specs.declared.status.Status.TheVariants as status

-- it is the number of a status of which this is so
abbrev pub Tells : (Status → Type 0) → ExitCode → Type 0
Tells IsSo code = (ends : Status) × IsSo ends × (exit_status code ≡ number_of ends)

-- how a run over these words ends, with a picker of each rule, by what is seen before it and after it
abbrev pub RunsToEnd : List (List ℕ) → Outside → Outside → Status → Type 0
RunsToEnd words before after ends =
    RunsAs (depth_first ∷ best_first ∷ oldest_first ∷ []) (asked_of words) before after ends
    × EndsExactly (asked_of words) before.files before.left ends
    × IsCounted before after ends
    × IsComplete (asked_of words) before after ends

-- it is how a run ends over some words, whatever was seen
abbrev pub IsEndOfRun : Status → Type 0
IsEndOfRun ends = (words : List (List ℕ)) × (before : Outside) × (after : Outside) × RunsToEnd words before after ends

-- or there was no memory to begin one
abbrev pub IsEnd : Status → Type 0
IsEnd ends = IsEndOfRun ends ⊎ (ends ≡ status.Memory)
