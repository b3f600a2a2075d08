use Rattle.sheet_funcs.proofs.Parts.{part_full}
use Rattle.sheet_funcs.proofs.indexing.part_of.Goals as goal

pub area-requires : goal.area-requires
area-requires c = part_full c.args.grid.now c.args.top c.args.left c.args.bottom c.args.right c.in_ok-items.items.items c.requires.rows_in_order c.requires.columns_in_order c.in_ok-items.ensures
