use Rattle.std.proofs.Common.{◌≡◌, ◌+◌, ◌-◌, ◌*◌, arith}
use Rattle.sheet_model.specs.declared.value.Value.TheVariants.{Empty}
use Rattle.sheet_funcs.proofs.Parts.{part_is, row_within}
use Rattle.sheet_funcs.proofs.indexing.row_part.Goals as goal

pub returns : goal.returns
returns c =
    let g = c.args.grid.now in
    let n = c.args.right + 1 - c.args.left in
    let size : c.args.row * c.cols.result + c.args.right + 1 - (c.args.row * c.cols.result + c.args.left) ≡ n = omega arith in
    rw (size, c.items.ensures.items, c.cols.ensures.count)
    (part_is g.items (c.args.row * g.columns) c.args.left n Empty (row_within g c.args.row c.args.left c.args.right c.items.ensures.full c.requires.row c.requires.order c.requires.right))
