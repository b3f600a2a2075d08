use Rattle.std.specs.Prelude.{if◌then◌else◌}
use Rattle.std.proofs.Common.{◌≡◌, ◌+◌, [], ◌∷◌, ◌++◌, arith, subst}
use Rattle.cell_refs.specs.Areas.{cell_at}
use Rattle.workbook.specs.Kinds.{book_of}
use Rattle.needed_cells.specs.Finding.{is_open_within}
use Rattle.needed_cells.proofs.Texts.{IsBefore, all_before, all_gathered, here_before, next_before, one_gathered, still_before}
use Rattle.needed_cells.proofs.referred.add_of_area.Goals as goal

pub loop-place-preserved : goal.loop-place-preserved
loop-place-preserved c =
    let book = book_of c.args.book.now in
    let area = c.args.area.now in
    let place = c.loop-place.place in
    one_gathered (is_open_within book c.args.adj.now area) c.args.found.now.items (IsBefore area place) (IsBefore area (place + 1)) c.loop-place.found.items (cell_at area place) c.loop-place.invariant
    (next_before area place) (still_before area place) (here_before area place) c.add_open.new.found.items
    (subst (λ x. c.add_open.new.found.items ≡ (if is_open_within book c.args.adj.now area x then c.loop-place.found.items ++ x ∷ [] else c.loop-place.found.items)) c.at.ensures c.in_ok-add_open.ensures)

pub returns : goal.returns
returns c =
    let book = book_of c.args.book.now in
    let area = c.args.area.now in
    all_gathered (is_open_within book c.args.adj.now area) c.args.found.now.items (IsBefore area c.loop-place.place) c.loop-place.found.items c.loop-place.invariant
    (λ b h. let w = all_before c.args.adj.now book area b h in (w.0, omega (arith, w.1, c.loop-place-test.false, c.len-place-end.ensures), w.2))
