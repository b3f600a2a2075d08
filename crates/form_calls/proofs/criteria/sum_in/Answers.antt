use Rattle.std.proofs.Common.{◌≡◌, ◌++◌, ap, ap₂, sym, subst, ◌∙◌, IfOk, Some, None, Ok}
use Rattle.calculations.specs.Calculation.{narrow}
use Rattle.form_table.specs.Criteria.{summed_error_by, met_places}
use Rattle.form_table.specs.Lookups.{error_of, known_value}
use Rattle.form_table.specs.Wanted.{grid_of, value_of}
use Rattle.form_calls.specs.Criteria.{cells_seen}
use Rattle.form_calls.specs.Sources.{columns_of, rows_of, read_before, source_of}
use Rattle.form_calls.proofs.Summed.{cells_placed, elements_same, sum_placed}
use Rattle.form_calls.proofs.criteria.sum_in.Goals as goal

pub returns-in-Ok-places_met : goal.returns-in-Ok-places_met
returns-in-Ok-places_met g c =
    let forms = g.C.FormsOfCells.forms c.args.forms.now in
    let a = c.args.tested.now in
    let q = c.args.criterion.now in
    let s = c.args.source.now in
    let places = c.deref.result.now in
    let is : c.in-Ok.criterion.now ≡ value_of q = c.in-Ok.ensures.0 in
    let e : error_of (value_of q) ≡ None = ap error_of (sym is) ∙ c.in-Ok.ensures.1 in
    let r : (grid_of a).rows ≡ rows_of s = let t = c.size_of-rows.ensures.rows in let n = c.rows.ensures.count in let f = c.if-rows.false in cc in
    let d : (grid_of a).columns ≡ columns_of s = let t = c.size_of-rows.ensures.columns in let n = c.cols.ensures.count in let f = c.if-cols.false in cc in
    let n : summed_error_by (known_value (value_of q)) (read_before s) (grid_of a).items ≡ None = let t = c.in_default.ensures in let b = c.read_before.ensures in let l = c.elements.ensures in let h = elements_same a in cc in
    let m : narrow (met_places (grid_of a).items (value_of q)) ≡ Some (Ok places) = ap₂ (λ items v. narrow (met_places items v)) (sym (c.elements-2.ensures ∙ elements_same a)) (sym is) ∙ c.in-Ok-places_met.ensures ∙ ap (λ places. Some (Ok places)) (sym c.deref.ensures.value) in
    subst (λ v. IfOk c.sum_at.result (λ part. part ≡ v))
    (ap₂ (λ cells o. record { span = c.args.whole; looks = c.args.looks.items ++ cells; outcome = o; reference = None })
    (cells_placed (rows_of s) (columns_of s) a (value_of q) places e r d m (cells_seen c.args.seen s))
    (sum_placed c.args.whole c.args.args.now (source_of forms s) (read_before s) a q places e r d n m))
    c.sum_at.ensures
