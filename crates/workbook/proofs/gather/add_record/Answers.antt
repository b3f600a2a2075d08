use Rattle.std.proofs.Common.{◌+◌, ◌++◌, ◌∙◌, ap, drop, sym}
use Rattle.workbook.specs.Files.{texts_in_record}
use Rattle.workbook.proofs.Gathering.{field_passed, field_put}
use Rattle.workbook.proofs.gather.add_record.Goals.{then-not-is_empty+in_ok-from_str+in_ok-push, else-not-is_empty}
use Rattle.workbook.proofs.gather.add_record.Goals as goal

pub loop-column-preserved : goal.loop-column-preserved
loop-column-preserved c =
    let rest = texts_in_record c.args.sheet.0 c.args.row (c.loop-column.column + 1) (drop (c.loop-column.column + 1) c.args.fields.now) in
    let total = c.args.texts.now.items ++ texts_in_record c.args.sheet.0 c.args.row 0 c.args.fields.now in
    elim c.if-not-is_empty.branch [
      | then-not-is_empty+in_ok-from_str+in_ok-push w ↦
          field_put c.args.sheet.0 c.args.row c.loop-column.column c.args.fields.now c.text-text.result.now c.loop-column.texts.items total c.text-text.ensures c.loop-column.invariant
          c.if-not-is_empty.texts.items w.new-text.result (sym c.is_empty.ensures ∙ w.if-not-is_empty.true)
          (w.new-text.ensures ∙ w.in_ok-from_str.ensures.ok) (ap (λ v. v.items) w.texts-is ∙ w.in_ok-push.ensures.items)
      | else-not-is_empty w ↦
          ap (λ v. v.items ++ rest) w.texts-is
          ∙ field_passed c.args.sheet.0 c.args.row c.loop-column.column c.args.fields.now c.text-text.result.now c.loop-column.texts.items total c.text-text.ensures c.loop-column.invariant
          (sym c.is_empty.ensures ∙ w.if-not-is_empty.false)
    ]
