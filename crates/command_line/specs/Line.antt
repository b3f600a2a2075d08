-- The command line as one simple command: options that take one value each, and files.
use Rattle.std.specs.Prelude.{ℕ, List, Some, true, codes}
use Rattle.clap.specs.Words.{App, Rule, new_app, new_rule, with_rule}
use Rattle.clap.specs.Simple.{on_top}
use Rattle.clap.specs.declared.builder.ArgAction.TheVariants.{Append, Set}

-- an option of this name, which takes one value
abbrev pub option_rule : List ℕ → Rule
option_rule id = record (new_rule id) { long = Some id; action = Some Set }

-- any number of values without a name
abbrev pub files_rule : Rule
files_rule = record (new_rule (codes "files")) { action = Some Append }

-- nothing is asked of the words by rules of the command's own, and there are no flags for help and for a version
abbrev pub bare_app : App
bare_app = on_top (λ s. record s { no_binary_name = true; disable_help_flag = true; disable_version_flag = true }) (new_app (codes "opensolver"))

abbrev pub the_app : App
the_app =
    with_rule (with_rule (with_rule (with_rule (with_rule bare_app (option_rule (codes "names"))) (option_rule (codes "budget")))
    (option_rule (codes "pick"))) (option_rule (codes "gen"))) files_rule
