use Rattle.std.proofs.Common.{◌≡◌, None, Some, false, refl, subst, sym, ◌∙◌}
use Rattle.std.specs.FinSet as set
use Rattle.dep_table.specs.Order.{IsOrder, itself}
use Rattle.recalculation.specs.Entries.{no_overriding}
use Rattle.recalculation.specs.Narrow.{known}
use Rattle.workbook.specs.Kinds.{book_of}
use Rattle.recalc.proofs.Answering.{all_rows, circular_there, found_none, found_wide, free_there, never, no_leaves, shown_value}
use Rattle.recalc.proofs.Right.{seen_known}
use Rattle.recalc.proofs.recalculate.value.Goals as goal

pub rows_of-requires-clause-circular : goal.rows_of-requires-clause-circular
rows_of-requires-clause-circular c =
    (circular_there (book_of c.args.book.now) (set.contains c.new-leaves.result) c.args.cell (set.contains c.in_ok-tour.tour.circular)
    (no_leaves c.new-leaves.result c.new-leaves.ensures) (c.in_ok-tour.ensures.circular (book_of c.args.book.now) c.requires)).circular

pub rows_of-requires-clause-order : goal.rows_of-requires-clause-order
rows_of-requires-clause-order c =
    subst (λ l. IsOrder (book_of c.args.book.now) l c.in_ok-tour.tour.order.items) (no_leaves c.new-leaves.result c.new-leaves.ensures)
    (c.in_ok-tour.ensures.order (book_of c.args.book.now) c.requires)

pub wide_cell-requires-clause-circular : goal.wide_cell-requires-clause-circular
wide_cell-requires-clause-circular c =
    circular_there (book_of c.args.book.now) (set.contains c.new-leaves.result) c.args.cell (set.contains c.in_ok-tour.tour.circular)
    (no_leaves c.new-leaves.result c.new-leaves.ensures) (c.in_ok-tour.ensures.circular (book_of c.args.book.now) c.requires)

pub wide_cell-requires-clause-order : goal.wide_cell-requires-clause-order
wide_cell-requires-clause-order c =
    subst (λ l. IsOrder (book_of c.args.book.now) l c.in_ok-tour.tour.order.items) (no_leaves c.new-leaves.result c.new-leaves.ensures)
    (c.in_ok-tour.ensures.order (book_of c.args.book.now) c.requires)

pub wide_cell-requires-clause-free : goal.wide_cell-requires-clause-free
wide_cell-requires-clause-free c =
    free_there (book_of c.args.book.now) (set.contains c.new-leaves.result) c.args.cell c.in_ok-tour.tour.order.items c.in_ok-tour.tour.order.items
    (no_leaves c.new-leaves.result c.new-leaves.ensures) refl (c.in_ok-tour.ensures.all (book_of c.args.book.now) c.requires)

pub wide_cell-requires-clause-rows : goal.wide_cell-requires-clause-rows
wide_cell-requires-clause-rows c =
    let book = book_of c.args.book.now in
    let none = no_leaves c.new-leaves.result c.new-leaves.ensures in
    let are = circular_there book (set.contains c.new-leaves.result) c.args.cell (set.contains c.in_ok-tour.tour.circular) none (c.in_ok-tour.ensures.circular book c.requires) in
    let free = free_there book (set.contains c.new-leaves.result) c.args.cell c.in_ok-tour.tour.order.items c.in_ok-tour.tour.order.items none refl (c.in_ok-tour.ensures.all book c.requires) in
    let rows = c.in_ok-rows.rows.entries in
    let has = all_rows book rows rows c.args.cell (set.contains c.in_ok-tour.tour.circular) c.in_ok-tour.tour.order.items (λ a h. h) c.in_ok-rows.ensures.order c.in_ok-rows.ensures.circular are free in
    has

pub returns-in-Some : goal.returns-in-Some
returns-in-Some c = found_wide (book_of c.args.book.now) c.args.cell c.in_ok-wide.field-0 c.in-Some.wide c.in-Some.is c.in_ok-wide.ensures

pub unreachable-requires : goal.unreachable-requires
unreachable-requires c =
    let book = book_of c.args.book.now in
    let none = no_leaves c.new-leaves.result c.new-leaves.ensures in
    let are = circular_there book (set.contains c.new-leaves.result) c.args.cell (set.contains c.in_ok-tour.tour.circular) none (c.in_ok-tour.ensures.circular book c.requires) in
    let free = free_there book (set.contains c.new-leaves.result) c.args.cell c.in_ok-tour.tour.order.items c.in_ok-tour.tour.order.items none refl (c.in_ok-tour.ensures.all book c.requires) in
    let rows = c.in_ok-rows.rows.entries in
    let has = all_rows book rows rows c.args.cell (set.contains c.in_ok-tour.tour.circular) c.in_ok-tour.tour.order.items (λ a h. h) c.in_ok-rows.ensures.order c.in_ok-rows.ensures.circular are free in
    let none_wide = found_none book c.args.cell c.in_ok-wide.field-0 c.in_default.is c.in_ok-wide.ensures in
    let known_none : known book no_overriding c.args.cell ≡ None =
    sym (c.in_ok-value.ensures ∙ seen_known book false rows c.in_ok-rows.ensures.right c.args.cell (has c.args.cell itself)) ∙ c.in-None.is in
    never book c.args.cell known_none none_wide

pub returns : goal.returns
returns c =
    let book = book_of c.args.book.now in
    let none = no_leaves c.new-leaves.result c.new-leaves.ensures in
    let are = circular_there book (set.contains c.new-leaves.result) c.args.cell (set.contains c.in_ok-tour.tour.circular) none (c.in_ok-tour.ensures.circular book c.requires) in
    let free = free_there book (set.contains c.new-leaves.result) c.args.cell c.in_ok-tour.tour.order.items c.in_ok-tour.tour.order.items none refl (c.in_ok-tour.ensures.all book c.requires) in
    let rows = c.in_ok-rows.rows.entries in
    let has = all_rows book rows rows c.args.cell (set.contains c.in_ok-tour.tour.circular) c.in_ok-tour.tour.order.items (λ a h. h) c.in_ok-rows.ensures.order c.in_ok-rows.ensures.circular are free in
    let none_wide = found_none book c.args.cell c.in_ok-wide.field-0 c.in_default.is c.in_ok-wide.ensures in
    let known_some : known book no_overriding c.args.cell ≡ Some c.in-Some-value.value =
    sym (c.in_ok-value.ensures ∙ seen_known book false rows c.in_ok-rows.ensures.right c.args.cell (has c.args.cell itself)) ∙ c.in-Some-value.is in
    (shown_value book c.args.cell c.in-Some-value.value known_some, none_wide)
