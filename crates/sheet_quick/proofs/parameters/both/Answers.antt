use Rattle.std.proofs.Common.{◌≤◌, ◌+◌, List, length, subst, sym}
use Rattle.cell_refs.specs.declared.cell.Cell.{Cell}
use Rattle.cell_refs.specs.declared.adj.TheConstants.{DECISIONS}
use Rattle.sheet_quick.specs.Inner.{StandApart}
use Rattle.sheet_quick.proofs.Both.{has_room, is_new, with_it}
use Rattle.sheet_quick.proofs.parameters.both.Goals as goal

pub add-requires-clause-new : goal.add-requires-clause-new
add-requires-clause-new c =
    is_new c.args.adj.now c.cells-listed.result.now c.loop-cell.all c.loop-cell.cell-index
    (subst (λ (cells : List Cell). length c.args.adj.now + length cells ≤ DECISIONS) (sym c.cells-listed.ensures) c.requires.few)
    (subst (λ (cells : List Cell). StandApart c.args.adj.now cells) (sym c.cells-listed.ensures) c.requires.apart) c.loop-cell.invariant c.loop-cell-test.true

pub add-requires-clause-room : goal.add-requires-clause-room
add-requires-clause-room c =
    has_room c.args.adj.now c.cells-listed.result.now c.loop-cell.all c.loop-cell.cell-index
    (subst (λ (cells : List Cell). length c.args.adj.now + length cells ≤ DECISIONS) (sym c.cells-listed.ensures) c.requires.few)
    (subst (λ (cells : List Cell). StandApart c.args.adj.now cells) (sym c.cells-listed.ensures) c.requires.apart) c.loop-cell.invariant c.loop-cell-test.true

pub loop-cell-preserved : goal.loop-cell-preserved
loop-cell-preserved c =
    with_it c.args.adj.now c.cells-listed.result.now c.loop-cell.all c.loop-cell.cell-index
    (subst (λ (cells : List Cell). length c.args.adj.now + length cells ≤ DECISIONS) (sym c.cells-listed.ensures) c.requires.few)
    (subst (λ (cells : List Cell). StandApart c.args.adj.now cells) (sym c.cells-listed.ensures) c.requires.apart) c.loop-cell.invariant c.loop-cell-test.true
    c.add.new.self c.in_ok-add.ensures.ok
