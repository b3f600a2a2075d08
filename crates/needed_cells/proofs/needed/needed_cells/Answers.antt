use Rattle.needed_cells.specs.Finding.{asked}
use Rattle.needed_cells.proofs.Spreading.{all_found, nothing}
use Rattle.needed_cells.proofs.needed.needed_cells.Goals as goal

pub start-requires-clause-spreads : goal.start-requires-clause-spreads
start-requires-clause-spreads c =
    nothing (asked c.args.book.now c.args.sides.now c.args.adj.now c.args.roots.now) c.new-found.result c.new-pending.result.items c.new-found.ensures c.new-pending.ensures.items

pub returns : goal.returns
returns c =
    all_found (asked c.args.book.now c.args.sides.now c.args.adj.now c.args.roots.now) c.spread.new.found c.in_ok-spread.ensures.spreads
    (λ k d i b s. c.in_ok-spread.ensures.kept b (c.in_ok-start.ensures.started k d i b s))
