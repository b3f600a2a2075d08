use Rattle.std.proofs.Common.{◌≡◌, ◌∙◌, ap, subst}
use Rattle.std.specs.Prelude.{IfOk}
use Rattle.recalculation.specs.Entries.{entry}
use Rattle.workbook.specs.Contents.{kind_of}
use Rattle.workbook.specs.Kinds.{book_of}
use Rattle.recalc.specs.Rows.{row_at, seen_of}
use Rattle.recalc.specs.Values.{known_value}
use Rattle.recalc.proofs.Saying.{seen_as}
use Rattle.recalc.proofs.seen.Seen.known.Goals as goal

pub returns : goal.returns
returns c =
    let row = row_at c.args.self.now.rows.now.entries c.args.cell in
    subst (λ v. IfOk c.known_of.result (λ known. known_value known ≡ v))
    (ap (λ k. seen_of k c.content.result.now row) c.kind-kind.ensures
    ∙ ap (λ t. seen_of (kind_of (entry (book_of c.args.self.now.book.now) c.args.cell)) t row) c.content.ensures
    ∙ seen_as c.args.self.now.book.now c.args.cell row)
    c.known_of.ensures
