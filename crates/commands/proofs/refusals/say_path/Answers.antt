use Rattle.std.proofs.Common.{◌∙◌, ◌++◌, ℕ, List, ap, append_assoc, map, string_bytes}
use Rattle.commands.specs.Preceded.{preceded}
use Rattle.commands.specs.Refusals.{step_text}
use Rattle.commands.proofs.Saying.{behind, path_said}
use Rattle.commands.proofs.refusals.say_path.Goals as goal

pub returns : goal.returns
returns c =
    let old = string_bytes c.args.to.now in
    let sheets = c.args.sheets.now in
    let rest = preceded (map (step_text sheets) (behind c.args.path.now)) in
    c.in_ok-say_further_steps.ensures ∙ ap (λ (l : List ℕ). l ++ rest) c.in_ok-say_step.ensures ∙ append_assoc old _ rest
    ∙ ap (λ l. old ++ l) (path_said sheets c.args.path.now _ c.in-len1-up.len_at_least)
