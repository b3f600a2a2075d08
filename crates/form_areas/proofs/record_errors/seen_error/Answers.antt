use Rattle.std.specs.Prelude.{is_none, if◌then◌else◌}
use Rattle.std.proofs.Common.{◌≡◌, ◌∙◌, ap, sym, map, Some, None}
use Rattle.form_table.specs.CertainRecords.{by_field_error}
use Rattle.form_table.specs.Lookups.{error_of, kinds_in, known_value}
use Rattle.form_table.specs.Wanted.{known_number, number_of, value_of}
use Rattle.form_areas.proofs.record_errors.seen_error.Goals as goal

pub returns-in-Ok : goal.returns-in-Ok
returns-in-Ok c =
    let items = map Some c.args.items.now in
    let keys = c.args.keys.now in
    let key = value_of c.args.key.now in
    let x = known_number (number_of c.args.field.now) in
    let kinds = kinds_in c.args.sorted.now in
    let same = c.in-Ok.ensures.0 in
    let fine : error_of key ≡ None = sym (ap error_of same) ∙ c.in-Ok.ensures.1 in
    c.by_field_error.ensures
    ∙ (λ i. by_field_error c.args.fields items (known_value (same i)) keys (known_number (c.operand_in.ensures i)) (c.kind_in.ensures i))
    ∙ sym (ap (λ o. if is_none o then by_field_error c.args.fields items (known_value key) keys x kinds else None) fine)
