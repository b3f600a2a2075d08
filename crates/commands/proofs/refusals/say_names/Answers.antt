use Rattle.std.proofs.Common.{◌∙◌, ◌++◌, List, ℕ, ap, append_assoc, codes, string_bytes}
use Rattle.commands.specs.Refusals.{names_text}
use Rattle.commands.proofs.refusals.say_names.Goals as goal

pub returns : goal.returns
returns c =
    let parts = names_text c.args.sheets.now c.args.fault.now in
    c.in_ok-say_fault.ensures ∙ ap (λ (l : List ℕ). l ++ parts) c.in_ok-push_str.ensures.bytes ∙ append_assoc (string_bytes c.args.to.now) (codes "refused names ") parts
