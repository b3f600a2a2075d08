use Rattle.std.proofs.Common.{◌≡◌, ◌≢◌, ◌∙◌, Some, ap, arith, below_more, get_or, slice_get, sym, true, ℕ}
use Rattle.std.specs.Cmp.{tied_itself}
use Rattle.std.specs.Ordering.{is_eq}
use Rattle.std.proofs.lemmas.Option.{same_Some, slice_get-get_or, slice_get_within}
use Rattle.cell_refs.specs.Cells.{cell_cmp}
use Rattle.cell_refs.proofs.Order.{cells_total, exact_cells}
use Rattle.column_strips.specs.declared.formulas.Formula.{Formula}
use Rattle.dep_table.proofs.Orderings.{is_equal}
use Rattle.dep_table.proofs.deps.place_of.Goals as goal

pub returns-then-is_eq-clause-some : goal.returns-then-is_eq-clause-some
returns-then-is_eq-clause-some c =
    let f : Formula = get_or c.args.formulas.now c.loop-place.place c.index-formulas-place.result in
    let tied : is_eq (cell_cmp f.cell c.args.cell) ≡ true = ap is_eq (sym c.cmp.ensures) ∙ sym c.is_eq.ensures ∙ c.if-is_eq.true in
    (f, slice_get-get_or c.args.formulas.now c.loop-place.place c.index-formulas-place.result c.loop-place-test.true, exact_cells f.cell c.args.cell (is_equal _ tied))

pub loop-place-preserved : goal.loop-place-preserved
loop-place-preserved c i f less at =
    below_more (λ (i : ℕ). (f : Formula) → slice_get c.args.formulas.now i ≡ Some f → f.cell ≢ c.args.cell) c.loop-place.place
    (λ k h f at. c.loop-place.invariant k f h at)
    (λ f at same.
    let here = slice_get-get_or c.args.formulas.now c.loop-place.place c.index-formulas-place.result c.loop-place-test.true in
    let e : get_or c.args.formulas.now c.loop-place.place c.index-formulas-place.result ≡ f = same_Some _ f (sym here ∙ at) in
    let g : (get_or c.args.formulas.now c.loop-place.place c.index-formulas-place.result).cell ≡ c.args.cell = ap (λ (x : Formula). x.cell) e ∙ same in
    let tied = ap is_eq (c.cmp.ensures ∙ ap (λ x. cell_cmp x c.args.cell) g ∙ tied_itself cells_total c.args.cell) in
    let not_tied = sym c.is_eq.ensures ∙ c.if-is_eq.false in
    cc (tied, not_tied)) i less f at

pub returns-clause-none : goal.returns-clause-none
returns-clause-none c i f at = c.loop-place.invariant i f (omega (arith, slice_get_within c.args.formulas.now i f at, c.loop-place-test.false)) at
