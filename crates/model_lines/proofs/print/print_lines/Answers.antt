use Rattle.std.proofs.Common.{◌≡◌, ◌∙◌, List, ◌++◌, length, ap, codes, string_bytes}
use Rattle.std.specs.Prelude.{map, zip}
use Rattle.linear_models.specs.Box.{Box}
use Rattle.affine_forms.specs.Forms.{AffineForm}
use Rattle.optimality.specs.Problem.{Relation}
use Rattle.model_lines.specs.Ended.{ended}
use Rattle.model_lines.specs.Lines.{cell_lines, row_line}
use Rattle.model_lines.proofs.Cells.{by_parts, rows_reach}
use Rattle.model_lines.proofs.Ended.{put_together}
use Rattle.cell_refs.specs.Listed.{IsListed}
use Rattle.model_lines.proofs.print.print_lines.Goals as goal

pub print_rows-requires-clause-reach : goal.print_rows-requires-clause-reach
print_rows-requires-clause-reach c =
    rw c.rows-rows.ensures (rows_reach c.args.model.now (length c.args.cells.now) c.whole-whole.ensures.valid c.requires.marks)

pub print_cells-requires : goal.print_cells-requires
print_cells-requires c = by_parts (IsListed c.args.sheets.now) c.args.cells.now c.requires.listed

pub returns : goal.returns
returns c =
    let sheets = c.args.sheets.now in
    let cells = c.args.cells.now in
    let m = c.args.model.now in
    let aimed = string_bytes c.print_aim.new.to in
    let rowed = string_bytes c.print_rows.new.to in
    let celled = string_bytes c.print_cells.new.to in
    let grouped = string_bytes c.print_groups.new.to in
    let least = c.least.ensures ∙ ap (λ (b : Box). b.least) c.bounds-bounds.ensures in
    let greatest = c.greatest.ensures ∙ ap (λ (b : Box). b.greatest) c.bounds-bounds.ensures in
    let rows_said : rowed ≡ aimed ++ ended (map (row_line sheets cells) (zip c.args.numbers.now m.rows)) =
    c.in_ok-print_rows.ensures ∙ ap (λ (rows : List (AffineForm × Relation)). aimed ++ ended (map (row_line sheets cells) (zip c.args.numbers.now rows))) c.rows-rows.ensures in
    let cells_said : celled ≡ rowed ++ ended (cell_lines sheets cells m.whole m.bounds.least m.bounds.greatest) = cc (c.in_ok-print_cells.ensures, c.whole-whole.ensures.whole, least, greatest) in
    put_together (string_bytes c.args.to.now) aimed rowed celled grouped _ _ _ _ _ (codes "end") c.in_ok-print_aim.ensures rows_said cells_said c.in_ok-print_groups.ensures c.in_ok-push_str.ensures.bytes
