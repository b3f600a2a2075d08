use Rattle.std.proofs.Common.{◌∙◌, sym}
use Rattle.workbook.specs.Kinds.{book_of}
use Rattle.kept_book.proofs.Follows.{is_none, kept_after, nothing_kept}
use Rattle.kept_book.proofs.marks.follow.Goals as goal

pub returns-in_default-clause-kept : goal.returns-in_default-clause-kept
returns-in_default-clause-kept c =
    nothing_kept c.take.new.self c.args.book.now c.args.tables.now c.take.ensures.after
    (c.requires.1.none (sym c.take.ensures.value ∙ is_none c.take.result (λ x e. c.in_default.not-Some x e)))

pub returns-in-Ok-clause-kept : goal.returns-in-Ok-clause-kept
returns-in-Ok-clause-kept c =
    let w = c.requires in
    kept_after c.follow_all.new.deps c.args.cells.now w.0 c.args.book.now c.args.tables.now c.mark_all.new.tables w.1.right w.2 c.in-Ok.ensures.followed (c.mark_all.ensures (book_of c.args.book.now) c.in-Ok.ensures.followed)

pub returns-in-Err-clause-kept : goal.returns-in-Err-clause-kept
returns-in-Err-clause-kept c = nothing_kept c.take.new.self c.args.book.now c.clear.new.self c.take.ensures.after c.clear.ensures
