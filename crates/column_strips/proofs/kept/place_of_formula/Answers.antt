use Rattle.std.proofs.Common.{◌≡◌, ◌∙◌, ap, arith, get_or, sym, true}
use Rattle.std.specs.Cmp.{tied_itself}
use Rattle.std.specs.Ordering.{is_eq}
use Rattle.std.proofs.lemmas.Option.{same_Some, slice_get-get_or, slice_get_within}
use Rattle.cell_refs.specs.Cells.{cell_cmp}
use Rattle.cell_refs.proofs.Order.{cells_total, exact_cells}
use Rattle.column_strips.specs.declared.formulas.Formula.{Formula}
use Rattle.column_strips.proofs.KeptLaws.{no_place}
use Rattle.column_strips.proofs.Tests.{is_equal}
use Rattle.column_strips.proofs.kept.place_of_formula.Goals as goal

pub returns-then-place-formulas-clause-none : goal.returns-then-place-formulas-clause-none
returns-then-place-formulas-clause-none c =
    let e = c.first_not_before-place.ensures in
    no_place c.args.formulas.now c.requires c.args.cell c.first_not_before-place.result e.before e.first
    (λ f at. absurd (omega (arith, slice_get_within c.args.formulas.now c.first_not_before-place.result f at, c.if-place-formulas.true)))

pub returns-then-is_eq-clause-some : goal.returns-then-is_eq-clause-some
returns-then-is_eq-clause-some c =
    let f : Formula = get_or c.args.formulas.now c.first_not_before-place.result c.index-formulas-place.result in
    let tied : is_eq (cell_cmp f.cell c.args.cell) ≡ true = ap is_eq (sym c.cmp.ensures) ∙ sym c.is_eq.ensures ∙ c.if-is_eq.true in (
      f,
      slice_get-get_or c.args.formulas.now c.first_not_before-place.result c.index-formulas-place.result (omega (arith, c.if-place-formulas.false)),
      exact_cells f.cell c.args.cell (is_equal _ tied),
    )

pub returns-clause-none : goal.returns-clause-none
returns-clause-none c =
    let e = c.first_not_before-place.ensures in
    let here = slice_get-get_or c.args.formulas.now c.first_not_before-place.result c.index-formulas-place.result (omega (arith, c.if-place-formulas.false)) in
    no_place c.args.formulas.now c.requires c.args.cell c.first_not_before-place.result e.before e.first
    (λ f at same.
    let g : get_or c.args.formulas.now c.first_not_before-place.result c.index-formulas-place.result ≡ f = same_Some _ f (sym here ∙ at) in
    let own : (get_or c.args.formulas.now c.first_not_before-place.result c.index-formulas-place.result).cell ≡ c.args.cell = ap (λ (x : Formula). x.cell) g ∙ same in
    let tied = ap is_eq (c.cmp.ensures ∙ ap (λ x. cell_cmp x c.args.cell) own ∙ tied_itself cells_total c.args.cell) in
    let not_tied = sym c.is_eq.ensures ∙ c.if-is_eq.false in
    cc (tied, not_tied))
