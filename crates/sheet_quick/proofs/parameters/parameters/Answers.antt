use Rattle.std.proofs.Common.{◌≡◌, ◌∙◌, ap, arith, length, sym}
use Rattle.workbook.specs.Kinds.{book_of}
use Rattle.sheet_quick.proofs.Chosen.{other_of_areas}
use Rattle.sheet_quick.proofs.parameters.parameters.Goals as goal

pub returns-in-Some : goal.returns-in-Some
returns-in-Some c = other_of_areas (book_of c.args.book.now) c.args.adj.now c.args.cells c.areas.result.now c.areas.ensures ∙ sym c.in-Some.ensures

pub returns-then-count : goal.returns-then-count
returns-then-count c =
    let listed : c.len-2.result ≡ length c.args.cells = c.len-2.ensures.len ∙ ap length c.in_ok-listed.ensures in
    let decided : c.len.result ≡ length c.args.adj.now = c.len.ensures.count in (
      other_of_areas (book_of c.args.book.now) c.args.adj.now c.args.cells c.areas.result.now c.areas.ensures ∙ sym c.in_default.ensures,
      omega (arith, listed, decided),
      c.if-count.true,
    )

pub returns : goal.returns
returns c =
    let listed : c.len-2.result ≡ length c.args.cells = c.len-2.ensures.len ∙ ap length c.in_ok-listed.ensures in
    let decided : c.len.result ≡ length c.args.adj.now = c.len.ensures.count in (
      c.of_set.ensures ∙ c.in_ok-listed.ensures,
      other_of_areas (book_of c.args.book.now) c.args.adj.now c.args.cells c.areas.result.now c.areas.ensures ∙ sym c.in_default.ensures,
      omega (arith, listed, decided),
    )
