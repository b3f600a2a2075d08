use Rattle.std.proofs.Common.{◌≡◌, ◌+◌, ◌-◌, ◌*◌, ◌∙◌, ap, length, refl, [], arith, map, flat_map}
use Rattle.std.specs.List.{range_with_len}
use Rattle.sheet_funcs.specs.Picks.{from_to}
use Rattle.cell_grids.proofs.LookRows.{range_part_more}
use Rattle.form_calls.proofs.InRows.{count_places}
use Rattle.form_calls.proofs.places.part_places.Goals as goal

pub loop-row-preserved : goal.loop-row-preserved
loop-row-preserved c =
    range_part_more (λ row. map (λ column. row * c.args.columns + column) (from_to c.args.left c.args.right)) [] c.loop-row.places.items c.push_row.new.to.items _ c.args.top c.loop-row.row (omega arith) c.loop-row.invariant
    c.in_ok-push_row.ensures refl

pub returns-clause-count : goal.returns-clause-count
returns-clause-count c =
    let end = c.loop-row.auto.row-end (omega (arith, c.requires.rows_in_order)) in
    let all : c.loop-row.row ≡ c.args.bottom + 1 = omega (arith, end) in
    ap length (c.loop-row.invariant ∙ ap (λ n. flat_map (λ row. map (λ column. row * c.args.columns + column) (from_to c.args.left c.args.right)) (range_with_len c.args.top (n - c.args.top))) all)
    ∙ count_places (λ row column. row * c.args.columns + column) c.args.top c.args.left c.args.bottom c.args.right
