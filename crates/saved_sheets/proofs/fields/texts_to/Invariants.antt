use Rattle.std.proofs.Common.{◌≡◌, map}
use Rattle.std.specs.List.{range_with_len}
use Rattle.saved_sheets.specs.Saving.{text_at}
use Rattle.saved_sheets.proofs.fields.texts_to.Given as goal

abbrev pub invariant-loop-col : goal.invariant-loop-col
invariant-loop-col l = map (λ t. t.now) l.texts.items ≡ map (text_at l.book.contents l.sheet.0 l.row) (range_with_len 0 l.col)
