use Rattle.std.proofs.Common.{◌≡◌, ◌++◌, ◌∙◌, ap, ap₂, append-nil, sym, subst, IfOk, Some, None}
use Rattle.form_table.specs.Certain.{index_error}
use Rattle.form_table.specs.Picks.{pick_form}
use Rattle.form_extraction.specs.Calls.{picked_from, unless_error}
use Rattle.form_extraction.specs.Deciding.{given_by}
use Rattle.form_extraction.specs.Parts.{tried_on}
use Rattle.recalculation.specs.Looks.{then_cells}
use Rattle.form_calls.specs.Sources.{cells_picked, columns_of, read_before, rows_of, source_of}
use Rattle.form_calls.proofs.Recorded.{error_cells}
use Rattle.form_calls.proofs.picks.placed_part.Goals as goal

pub returns-in-Some : goal.returns-in-Some
returns-in-Some g c =
    let s = c.args.source.now in
    let at = c.args.at.now in
    let certain : index_error (rows_of s) (columns_of s) (read_before s) at ≡ Some c.in-Some.kind =
    sym (c.in-Some.ensures ∙ (λ i. index_error (c.rows.ensures.count i) (c.cols.ensures.count i) (c.read_before.ensures i) at)) in
    let tried = tried_on c.args.whole c.args.args.now (pick_form (rows_of s) (columns_of s) at) (picked_from (source_of (g.C.FormsOfCells.forms c.args.forms.now) s)) in
    c.error_part.ensures
    ∙ ap₂ (λ cells o. record { span = c.args.whole; looks = cells; outcome = o; reference = None })
    (sym (ap (λ cells. c.args.looks.items ++ cells) (error_cells s at c.in-Some.kind certain (given_by (pick_form (rows_of s) (columns_of s) at))) ∙ append-nil c.args.looks.items))
    (sym (ap (λ o. unless_error o tried) certain))

pub returns : goal.returns
returns g c =
    let s = c.args.source.now in
    let at = c.args.at.now in
    let none : index_error (rows_of s) (columns_of s) (read_before s) at ≡ None =
    sym (c.in_default.ensures ∙ (λ i. index_error (c.rows.ensures.count i) (c.cols.ensures.count i) (c.read_before.ensures i) at)) in
    let tried = tried_on c.args.whole c.args.args.now (pick_form (rows_of s) (columns_of s) at) (picked_from (source_of (g.C.FormsOfCells.forms c.args.forms.now) s)) in
    let looks = c.args.looks.items ++ then_cells (given_by (pick_form (rows_of s) (columns_of s) at)) (cells_picked s) in
    subst (λ o. IfOk c.tried_part.result (λ part. part ≡ record { span = c.args.whole; looks = looks; outcome = o; reference = None })) (sym (ap (λ o. unless_error o tried) none)) c.tried_part.ensures
