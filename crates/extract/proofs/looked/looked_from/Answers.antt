use Rattle.std.proofs.Common.{Contains, ap, subst, sym, ◌∙◌}
use Rattle.form_extraction.specs.Parts.{Part}
use Rattle.workbook.specs.Kinds.{book_of}
use Rattle.extract.proofs.Placing.{looks_there, there_looks}
use Rattle.extract.proofs.looked.looked_from.Goals as goal

pub returns-clause-each : goal.returns-clause-each
returns-clause-each c =
    let looks = c.looks.ensures ∙ ap (λ (p : Part). p.looks) c.in_ok-part.ensures in
    λ b. (
      λ h. let there = (c.in_ok-found.ensures.each b).0 h in
          looks_there (book_of c.args.book.now) c.args.adj.now c.args.got.now c.args.tree.now c.requires.forms c.args.place c.requires.tree c.requires.undecided c.requires.free b (subst (λ cells. Contains cells b) looks there.0, there.1),
      λ h. let there = there_looks (book_of c.args.book.now) c.args.adj.now c.args.got.now c.args.tree.now c.requires.forms c.args.place c.requires.tree c.requires.undecided c.requires.free b h in
          (c.in_ok-found.ensures.each b).1 (subst (λ cells. Contains cells b) (sym looks) there.0, there.1),
    )
