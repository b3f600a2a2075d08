use Rattle.std.proofs.Common.{ap, ap₂, rules, true, ◌≡◌, ◌∙◌}
use Rattle.std.proofs.lemmas.Result.{IfOk-weaker}
use Rattle.clap.specs.Simple.{app_of_fields, on_top}
use Rattle.clap.specs.Words.{app_of, rule_of, with_rule}
use Rattle.clap.specs.declared.builder.command.Command.{Command}
use Rattle.clap.specs.declared.builder.command.Command.TheOpen.{Command-F}
use Rattle.command_line.specs.Line.{files_rule}
use Rattle.optcheck_cli.specs.Line.{bare_app}
use Rattle.optcheck_cli.proofs.line.the_command.Goals as goal

pub returns : goal.returns
returns c =
    let files_is : rule_of c.action-files.result ≡ files_rule = search rules in
    let bare_is : app_of c.disable_version_flag-bare.result ≡ bare_app =
    ap app_of_fields c.disable_version_flag-bare.ensures
    ∙ ap (λ (f : Command-F Command). app_of_fields (record f { disable_version_flag = true })) c.disable_help_flag.ensures
    ∙ ap (λ (f : Command-F Command). app_of_fields (record f { disable_help_flag = true; disable_version_flag = true })) c.no_binary_name.ensures
    ∙ ap (on_top (λ s. record s { no_binary_name = true; disable_help_flag = true; disable_version_flag = true })) c.new-2.ensures.app in
    let names_in = c.in_ok-arg.ensures.shape (search rules) ∙ ap₂ with_rule bare_is c.option.ensures.rule in
    let cert_in = c.in_ok-arg-2.ensures.shape (search rules) ∙ ap₂ with_rule names_in c.option-2.ensures.rule in
    IfOk-weaker c.arg-3.result _ _ (λ r adds. adds.shape (search rules) ∙ ap₂ with_rule cert_in files_is) c.arg-3.ensures
