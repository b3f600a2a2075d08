use Rattle.std.proofs.Common.{◌∙◌, List, [], ap}
use Rattle.std.specs.List.{list_any}
use Rattle.cell_refs.specs.Areas.{Area, within}
use Rattle.workbook.specs.Kinds.{book_of}
use Rattle.extract_incr.proofs.Settling.{same_circle}
use Rattle.extract_incr.proofs.circles.refers_to_circle.Goals as goal

pub returns : goal.returns
returns c =
    c.is_any_within.ensures ∙ ap (λ (areas : List Area). list_any (λ b. list_any (λ area. within area b) areas) c.args.circular.now) (c.as_slice.ensures.value ∙ c.in_ok-areas.ensures)
    ∙ same_circle (book_of c.args.book.now) c.args.adj.now [] c.args.circular.now c.requires c.args.tree.now
