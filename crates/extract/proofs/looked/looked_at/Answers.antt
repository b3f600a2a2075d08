use Rattle.std.proofs.Common.{Contains, [], arith, subst, sym}
use Rattle.std.specs.List.Sorted.{IsStrictlySortedBy}
use Rattle.cell_refs.specs.Cells.{cell_cmp}
use Rattle.workbook.specs.Kinds.{book_of}
use Rattle.form_extraction.specs.Places.{numbered_in}
use Rattle.extract.proofs.Placing.{decided_looks}
use Rattle.extract.proofs.looked.looked_at.Goals as goal

pub returns-in-Some-clause-each : goal.returns-in-Some-clause-each
returns-in-Some-clause-each c =
    λ b. (
      λ h. let none : Contains [] b = subst (λ cells. Contains cells b) c.new.ensures.items h in absurd (omega (arith, none.1)),
      λ h. absurd (decided_looks (book_of c.args.book.now) (numbered_in c.args.adj.now) c.args.place c.args.tree.now c.in-Some.field-0 (sym c.in-Some.ensures) b h),
    )

sorted_nil : IsStrictlySortedBy cell_cmp []
unfolding IsStrictlySortedBy
sorted_nil = tt

pub returns-in-Some-clause-sorted : goal.returns-in-Some-clause-sorted
returns-in-Some-clause-sorted c = subst (IsStrictlySortedBy cell_cmp) (sym c.new.ensures.items) sorted_nil
