use Rattle.std.proofs.Common.{◌≡◌, ◌≤◌, ◌∙◌, [], ap, arith, false, length, map, string_bytes}
use Rattle.formula_parser.specs.TextTrees.{area_in}
use Rattle.workbook.specs.Kinds.{behind_equals}
use Rattle.solver_names.specs.Texts.{all_of, area_on, cells_in, parts_from}
use Rattle.solver_names.proofs.Gathered.{all_areas, all_there, area_more, behind, behind_short, no_area}
use Rattle.solver_names.proofs.PartLists.{short_part}
use Rattle.named_cells.proofs.texts.cells_in.Goals as goal

pub loop-part-init : goal.loop-part-init
loop-part-init c =
    let f = area_on c.args.book.now c.args.sheet.0 in
    ap (λ cells. behind cells (all_areas f c.deref-part-items.result.now)) c.new-cells.ensures
    ∙ ap (λ ps. behind [] (all_of (map f ps))) (ap (map string_bytes) c.deref-part-items.ensures.value ∙ c.in_ok-all.ensures ∙ ap (parts_from false) c.behind_equals.ensures)

pub parse_reference-requires-clause-length : goal.parse_reference-requires-clause-length
parse_reference-requires-clause-length c =
    let part : length (string_bytes c.part-item.result) ≤ length c.behind_equals.result.now =
    short_part c.deref-part-items.result.now c.behind_equals.result.now c.loop-part.part-index c.part-item.result
    (ap (map string_bytes) c.deref-part-items.ensures.value ∙ c.in_ok-all.ensures) c.loop-part-test.true c.part-item.is in
    let own : length c.as_str.result.now ≡ length (string_bytes c.part-item.result) = ap length c.as_str.ensures.value in
    let rest : length c.behind_equals.result.now ≡ length (behind_equals c.args.text.now) = ap length c.behind_equals.ensures in
    omega (arith, part, own, rest, behind_short c.args.text.now, c.requires.length)

pub returns-in-None : goal.returns-in-None
returns-in-None c =
    let f = area_on c.args.book.now c.args.sheet.0 in
    let is : c.in_ok-area.field-0 ≡ f (string_bytes c.part-item.result) =
    c.in_ok-area.ensures.area ∙ ap (λ t. area_in (record { text = t; home = c.args.sheet.0; sheets = c.sheets.result.now })) c.as_str.ensures.value
    ∙ ap (λ s. area_in (record { text = string_bytes c.part-item.result; home = c.args.sheet.0; sheets = s })) c.sheets.ensures in
    let e = c.in-None.is in
    no_area f c.deref-part-items.result.now c.loop-part.part-index c.part-item.result c.loop-part.cells c.loop-part-test.true c.part-item.is
    (cells_in c.args.book.now c.args.sheet.0 c.args.text.now) c.loop-part.invariant (cc (e, is))

pub loop-part-preserved : goal.loop-part-preserved
loop-part-preserved c =
    let f = area_on c.args.book.now c.args.sheet.0 in
    let is : c.in_ok-area.field-0 ≡ f (string_bytes c.part-item.result) =
    c.in_ok-area.ensures.area ∙ ap (λ t. area_in (record { text = t; home = c.args.sheet.0; sheets = c.sheets.result.now })) c.as_str.ensures.value
    ∙ ap (λ s. area_in (record { text = string_bytes c.part-item.result; home = c.args.sheet.0; sheets = s })) c.sheets.ensures in
    let e = c.in-Some.is in
    area_more f c.deref-part-items.result.now c.loop-part.part-index c.part-item.result c.loop-part.cells c.loop-part-test.true c.part-item.is
    (cells_in c.args.book.now c.args.sheet.0 c.args.text.now) c.loop-part.invariant c.in-Some.area c.in_ok-cells-in-Some.cells (cc (e, is)) c.in_ok-cells-in-Some.ensures

pub returns : goal.returns
returns c =
    all_there (area_on c.args.book.now c.args.sheet.0) c.deref-part-items.result.now c.loop-part.part-index c.loop-part.cells (cells_in c.args.book.now c.args.sheet.0 c.args.text.now)
    c.loop-part-test.false c.loop-part.invariant
