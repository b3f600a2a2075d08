use Rattle.std.specs.Prelude.{◌↔◌}
use Rattle.std.proofs.Common.{◌≡◌, true, Contains, ◌⊎◌, ◌∙◌, subst}
use Rattle.std.proofs.lemmas.List.{take_all}
use Rattle.cell_refs.specs.declared.cell.Cell.{Cell}
use Rattle.workbook.specs.Kinds.{book_of}
use Rattle.needed_cells.specs.Finding.{is_open_within}
use Rattle.needed_cells.proofs.Texts.{AreWithin, none_within, one_within}
use Rattle.needed_cells.proofs.referred.referred_by.Goals as goal

pub loop-area-init : goal.loop-area-init
loop-area-init c = none_within (book_of c.args.book.now) c.args.adj.now c.new-found.result.items c.new-found.ensures.items

pub loop-area-preserved : goal.loop-area-preserved
loop-area-preserved c =
    let book = book_of c.args.book.now in
    one_within book c.args.adj.now c.as_slice-area-items.result.now c.loop-area.area-index c.area-item.result c.loop-area.found.items c.add_within.new.found.items c.loop-area-test.true c.loop-area.invariant
    (subst (λ a. (b : Cell) → Contains c.add_within.new.found.items b ↔ (Contains c.loop-area.found.items b ⊎ (is_open_within book c.args.adj.now a b ≡ true))) c.area-item.is c.in_ok-add_within.ensures)

pub returns : goal.returns
returns c =
    let all = take_all c.loop-area.area-index c.as_slice-area-items.result.now c.loop-area-test.false ∙ c.as_slice-area-items.ensures.value ∙ c.in_ok-areas.ensures in
    subst (λ areas. AreWithin (book_of c.args.book.now) c.args.adj.now areas c.loop-area.found.items) all c.loop-area.invariant
