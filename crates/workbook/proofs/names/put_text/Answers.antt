use Rattle.std.proofs.Common.{◌∙◌, ap, sym}
use Rattle.std.specs.Prelude.{string_bytes}
use Rattle.std.specs.Map.{set_value}
use Rattle.workbook.specs.Keyed.{is_key}
use Rattle.workbook.specs.State.{Name}
use Rattle.workbook.proofs.EditedKeys.{not_written, written}
use Rattle.workbook.proofs.names.put_text.Goals as goal

pub returns-in-Some-clause-entries : goal.returns-in-Some-clause-entries
returns-in-Some-clause-entries c =
    (c.get_mut.follows.holds _).0
    ∙ ap (λ (n : Name). set_value (is_key c.args.key.now) c.args.names.now.entries (record n { text = string_bytes c.args.text })) c.own.view_is
    ∙ written (is_key c.args.key.now) (string_bytes c.args.text) c.args.names.now.entries c.in-Some.own.now (sym c.in-Some.ensures.value)

pub returns-in_default-clause-entries : goal.returns-in_default-clause-entries
returns-in_default-clause-entries c =
    ap (λ m. m.entries) c.get_mut.follows.holds-at-none
    ∙ not_written (is_key c.args.key.now) (string_bytes c.args.text) c.args.names.now.entries (sym c.in_default.ensures.value)
