-- The command line as one simple command: two options that take one value each, and files.
use Rattle.std.specs.Prelude.{true, codes}
use Rattle.clap.specs.Simple.{on_top}
use Rattle.clap.specs.Words.{App, new_app, with_rule}
use Rattle.command_line.specs.Line.{files_rule, option_rule}

-- nothing is asked of the words by rules of the command's own, and there are no flags for help and for a version
abbrev pub bare_app : App
bare_app = on_top (λ s. record s { no_binary_name = true; disable_help_flag = true; disable_version_flag = true }) (new_app (codes "optcheck"))

abbrev pub the_app : App
the_app = with_rule (with_rule (with_rule bare_app (option_rule (codes "names"))) (option_rule (codes "cert"))) files_rule
