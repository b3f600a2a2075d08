use Rattle.std.proofs.Common.{None, subst, sym}
use Rattle.saved_sheets.proofs.Passes.{IsSeen, all_seen, fewer_left, none_seen, with_next}
use Rattle.saved_sheets.proofs.Used.{AreWidthsOf, few_widths, is_listed, widths_are}
use Rattle.saved_sheets.proofs.widths.used_widths.Goals as goal

pub loop-cell-init : goal.loop-cell-init
loop-cell-init c = subst (AreWidthsOf (IsSeen c.args.book.now.contents c.args.sheet.0 None)) (sym c.new-widths.ensures.items) (none_seen c.args.book.now.contents c.args.sheet.0)

pub loop-cell-smaller : goal.loop-cell-smaller
loop-cell-smaller c = fewer_left c.args.book.now.contents c.loop-cell.after c.in-Some.cell c.in-Some.ensures

pub reach-requires : goal.reach-requires
reach-requires c = (is_listed c.args.book.now c.texts_are_listed.ensures c.in-Some.cell c.in-Some.ensures.text).column

pub loop-cell-preserved : goal.loop-cell-preserved
loop-cell-preserved c =
    with_next c.args.book.now.contents c.args.sheet.0 c.loop-cell.after c.in-Some.cell c.in-Some.ensures c.loop-cell.widths.items c.reach.new.widths.items
    c.in_ok-reach.ensures c.loop-cell.invariant

pub returns-clause-widths : goal.returns-clause-widths
returns-clause-widths c =
    widths_are c.args.book.now.contents c.args.sheet.0 c.loop-cell.widths.items
    (all_seen c.args.book.now.contents c.args.sheet.0 c.loop-cell.after c.loop-cell.widths.items c.in_default.ensures c.loop-cell.invariant)

pub returns-clause-rows : goal.returns-clause-rows
returns-clause-rows c =
    few_widths c.args.book.now c.args.sheet.0 c.texts_are_listed.ensures c.loop-cell.widths.items
    (widths_are c.args.book.now.contents c.args.sheet.0 c.loop-cell.widths.items
    (all_seen c.args.book.now.contents c.args.sheet.0 c.loop-cell.after c.loop-cell.widths.items c.in_default.ensures c.loop-cell.invariant))
