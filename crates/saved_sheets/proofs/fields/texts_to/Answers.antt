use Rattle.saved_sheets.specs.Saving.{text_at}
use Rattle.saved_sheets.proofs.Rows.{one_more_text}
use Rattle.saved_sheets.proofs.fields.texts_to.Goals as goal

pub loop-col-preserved : goal.loop-col-preserved
loop-col-preserved c =
    one_more_text (text_at c.args.book.now.contents c.args.sheet.0 c.args.row) c.loop-col.col c.loop-col.texts.items c.push.new.self.items c.content.result
    c.loop-col.invariant c.in_ok-push.ensures.items c.content.ensures
