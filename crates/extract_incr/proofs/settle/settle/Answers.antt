use Rattle.std.proofs.Common.{List, ◌∙◌, ap, subst, sym}
use Rattle.std.specs.Prelude.{⊤}
use Rattle.std.specs.FinSet as set
use Rattle.cell_refs.specs.declared.cell.Cell.{Cell}
use Rattle.dep_table.specs.Order.{HasFree, IsOrder}
use Rattle.extract_incr.specs.Settling.{AreCircular, leaf_in}
use Rattle.workbook.specs.Kinds.{book_of}
use Rattle.extract_incr.proofs.Settling.{circular_of, free_of, order_of}
use Rattle.extract_incr.proofs.settle.settle.Goals as goal

pub settle_places-requires-clause-circular : goal.settle_places-requires-clause-circular
settle_places-requires-clause-circular g c =
    subst (AreCircular (book_of c.args.book.now) c.args.adj.now) (sym c.as_slice.ensures.value)
    (circular_of (book_of c.args.book.now) c.in_ok-leaves.leaves c.in_ok-tour.tour.circular c.args.adj.now c.in_ok-circular.circular.items (c.in_ok-leaves.ensures ∙ ap (λ (cells : List Cell). set.from_list cells) c.cells.ensures)
    (c.in_ok-tour.ensures.circular (book_of c.args.book.now) c.requires.references) c.in_ok-circular.ensures.all)

pub settle_places-requires-clause-order : goal.settle_places-requires-clause-order
settle_places-requires-clause-order g c =
    subst (IsOrder (book_of c.args.book.now) (leaf_in c.args.adj.now)) (sym c.as_slice-2.ensures.value)
    (order_of (book_of c.args.book.now) c.in_ok-leaves.leaves c.args.adj.now c.in_ok-tour.tour.order.items (c.in_ok-leaves.ensures ∙ ap (λ (cells : List Cell). set.from_list cells) c.cells.ensures)
    (c.in_ok-tour.ensures.order (book_of c.args.book.now) c.requires.references))

pub settle_places-requires-clause-free : goal.settle_places-requires-clause-free
settle_places-requires-clause-free g c =
    subst (HasFree (book_of c.args.book.now) (leaf_in c.args.adj.now) (λ a. ⊤)) (sym c.as_slice-2.ensures.value)
    (free_of (book_of c.args.book.now) c.in_ok-leaves.leaves c.args.adj.now c.in_ok-tour.tour.order.items (c.in_ok-leaves.ensures ∙ ap (λ (cells : List Cell). set.from_list cells) c.cells.ensures)
    (c.in_ok-tour.ensures.all (book_of c.args.book.now) c.requires.references))
