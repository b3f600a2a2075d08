use Rattle.std.proofs.Common.{arith}
use Rattle.workbook.specs.Kinds.{book_of}
use Rattle.extract_incr.proofs.Settling.{formed, free_place, some_unmade, tree_of_place}
use Rattle.extract_incr.proofs.stale.extract_stale.Goals as goal

pub form_of-requires-clause-tree : goal.form_of-requires-clause-tree
form_of-requires-clause-tree g c = tree_of_place (book_of c.args.book.now) c.args.adj.now c.args.sides.now c.args.place c.args.tree.now c.requires.tree

pub keep-requires-clause-form : goal.keep-requires-clause-form
keep-requires-clause-form g c = formed (book_of c.args.book.now) c.args.adj.now c.args.sides.now c.args.place c.args.tree.now c.in_ok-form.form c.requires.tree c.in_ok-form.ensures.form

pub returns-in_err-form-clause-bound : goal.returns-in_err-form-clause-bound
returns-in_err-form-clause-bound g c =
    let free = free_place (book_of c.args.book.now) c.args.adj.now c.args.sides.now c.args.place c.args.tree.now c.requires.tree c.requires.free in
    let some = some_unmade (book_of c.args.book.now) c.args.adj.now c.args.sides.now c.args.table.now c.requires.numbers c.args.place free c.requires.stale in
    omega (arith, some, c.in_err-form.ensures.step)

pub returns-clause-bound : goal.returns-clause-bound
returns-clause-bound g c =
    let free = free_place (book_of c.args.book.now) c.args.adj.now c.args.sides.now c.args.place c.args.tree.now c.requires.tree c.requires.free in
    let some = some_unmade (book_of c.args.book.now) c.args.adj.now c.args.sides.now c.args.table.now c.requires.numbers c.args.place free c.requires.stale in
    omega (arith, some, c.in_ok-form.ensures.step)
