use Rattle.std.proofs.Common.{◌≡◌, ◌<◌, ◌&&◌, List, length, refl, ap, sym, subst, ◌∙◌, arith}
use Rattle.std.specs.Prelude.{Some, not, slice_get}
use Rattle.std.specs.FinMap as map
use Rattle.std.specs.List.{list_any}
use Rattle.std.specs.Ordering.{eq_by_cmp}
use Rattle.std.proofs.lemmas.Option.{same_Some, slice_get_read, slice_get_within}
use Rattle.cell_refs.specs.Areas.{Area}
use Rattle.cell_refs.specs.Cells.{cell_cmp}
use Rattle.column_strips.specs.declared.formulas.Formula.{Formula}
use Rattle.column_strips.specs.Columns.{strips_in}
use Rattle.column_strips.specs.Formulas.{AreSorted, references_in}
use Rattle.column_strips.specs.Kept.{AreKept}
use Rattle.column_strips.specs.Strips.{has_strip, is_part}
use Rattle.column_strips.proofs.Finding.{nothing_taken, references_remove}
use Rattle.column_strips.proofs.KeptLaws.{kept_without, none_kept}
use Rattle.column_strips.proofs.kept.take_formula.Goals as goal

pub place_of_formula-requires : goal.place_of_formula-requires
place_of_formula-requires c = subst AreSorted (sym c.deref.ensures.value) c.requires.sorted

pub returns-in_default-clause-taken : goal.returns-in_default-clause-taken
returns-in_default-clause-taken c =
    nothing_taken (references_in c.args.formulas.now.items) c.args.cell
    (none_kept c.args.formulas.now.items c.args.cell (λ i f at. c.in_default.ensures.none i f (ap (λ (xs : List Formula). slice_get xs i) c.deref.ensures.value ∙ at)))

pub remove-formula-requires : goal.remove-formula-requires
remove-formula-requires c =
    let found = c.in-Some.ensures.some in
    let within = slice_get_within c.deref.result.now c.in-Some.place found.0 found.1 in
    omega (arith, within, ap length c.deref.ensures.value)

pub returns-clause-kept : goal.returns-clause-kept
returns-clause-kept c =
    let found = c.in-Some.ensures.some in
    let within : c.in-Some.place < length c.args.formulas.now.items = omega (arith, slice_get_within c.deref.result.now c.in-Some.place found.0 found.1, ap length c.deref.ensures.value) in
    let at = slice_get_read c.args.formulas.now.items (length c.args.formulas.now.items) c.in-Some.place c.remove-formula.result refl within c.remove-formula.ensures.value in
    subst (λ (fs : List Formula). AreKept fs c.drop_areas.new.columns) (sym c.remove-formula.ensures.items)
    (kept_without c.args.formulas.now.items c.args.columns.now c.requires c.in-Some.place c.remove-formula.result at within c.drop_areas.new.columns c.drop_areas.ensures.rising
    (λ sheet column s.
    c.drop_areas.ensures.has sheet column s
    ∙ ap (λ (areas : List Area). not (eq_by_cmp cell_cmp s.cell c.remove-formula.result.cell && list_any (λ area. is_part area sheet column s) areas) && has_strip (strips_in c.args.columns.now sheet column) s) c.deref-2.ensures.value))

pub returns-clause-taken : goal.returns-clause-taken
returns-clause-taken c =
    let found = c.in-Some.ensures.some in
    let within : c.in-Some.place < length c.args.formulas.now.items = omega (arith, slice_get_within c.deref.result.now c.in-Some.place found.0 found.1, ap length c.deref.ensures.value) in
    let at = slice_get_read c.args.formulas.now.items (length c.args.formulas.now.items) c.in-Some.place c.remove-formula.result refl within c.remove-formula.ensures.value in
    let there : slice_get c.args.formulas.now.items c.in-Some.place ≡ Some found.0 = ap (λ (xs : List Formula). slice_get xs c.in-Some.place) (sym c.deref.ensures.value) ∙ found.1 in
    let own : c.remove-formula.result.cell ≡ c.args.cell = ap (λ (f : Formula). f.cell) (same_Some c.remove-formula.result found.0 (sym at ∙ there)) ∙ found.2 in
    ap references_in c.remove-formula.ensures.items
    ∙ references_remove c.args.formulas.now.items c.requires.sorted c.in-Some.place c.remove-formula.result at
    ∙ ap (map.remove (references_in c.args.formulas.now.items)) own
