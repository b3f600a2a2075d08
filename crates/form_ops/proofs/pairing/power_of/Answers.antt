use Rattle.std.proofs.Common.{◌≡◌, ◌∙◌, ap, rules}
use Rattle.form_values.specs.Entries.{entry}
use Rattle.form_ops.proofs.pairing.power_of.Goals as goal

pub returns-in_ok-copy-in-Some-2 : goal.returns-in_ok-copy-in-Some-2
returns-in_ok-copy-in-Some-2 c =
    let same : c.entry.result ≡ entry c.args.first.now = c.entry.ensures ∙ ap entry c.in_ok-copy-in-Some-2.ensures.ok in
    rw same (search rules)
