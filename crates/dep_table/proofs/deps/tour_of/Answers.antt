use Rattle.std.proofs.Common.{◌∙◌, List, length, subst, sym, ℕ}
use Rattle.std.specs.FinSet as set
use Rattle.dep_table.specs.declared.tour.Mark.{Mark}
use Rattle.dep_table.specs.Edges.{edge}
use Rattle.dep_table.specs.Tour.{IsToured}
use Rattle.dep_table.proofs.CircularLaws.{cells_ordered, has_circular, has_free}
use Rattle.dep_table.proofs.Tables.{are_flags, table_of}
use Rattle.dep_table.proofs.deps.tour_of.Goals as goal

pub returns-clause-circular : goal.returns-clause-circular
returns-clause-circular c = λ book is_leaf refs flags.
    let formulas = c.args.formulas.now in
    let toured : IsToured (edge formulas c.args.leaves.now) (length formulas) c.args.wanted.now c.deref.result.now c.in_ok-toured.toured.order.items =
    subst (λ (ms : List Mark). IsToured (edge formulas c.args.leaves.now) (length formulas) c.args.wanted.now ms c.in_ok-toured.toured.order.items) (sym c.deref.ensures.value) c.in_ok-toured.ensures in
    has_circular formulas c.args.leaves.now c.args.wanted.now c.deref.result.now c.in_ok-toured.toured.order.items is_leaf (set.contains c.in_ok-circular.circular)
    (are_flags formulas is_leaf c.args.leaves.now flags) toured c.in_ok-circular.ensures.sound c.in_ok-circular.ensures.complete book (table_of formulas book c.requires.sorted refs)

pub returns-clause-order : goal.returns-clause-order
returns-clause-order c = λ book is_leaf refs flags.
    let formulas = c.args.formulas.now in
    let toured : IsToured (edge formulas c.args.leaves.now) (length formulas) c.args.wanted.now c.in_ok-toured.toured.marks.items c.deref-2.result.now =
    subst (λ (ps : List ℕ). IsToured (edge formulas c.args.leaves.now) (length formulas) c.args.wanted.now c.in_ok-toured.toured.marks.items ps) (sym c.deref-2.ensures.value) c.in_ok-toured.ensures in
    let table = table_of formulas book c.requires.sorted refs in
    let leaves = are_flags formulas is_leaf c.args.leaves.now flags in
    let same = sym c.in_ok-order.order.ok.0 ∙ c.in_ok-order.ensures.count in (
      cells_ordered formulas c.args.leaves.now c.args.wanted.now c.in_ok-toured.toured.marks.items c.deref-2.result.now c.in_ok-order.order.items is_leaf
          leaves toured same c.in_ok-order.ensures.each book table,
      has_free formulas c.args.leaves.now c.args.wanted.now c.in_ok-toured.toured.marks.items c.deref-2.result.now c.in_ok-order.order.items is_leaf
          leaves toured same c.in_ok-order.ensures.each book table,
    )
