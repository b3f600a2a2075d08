use Rattle.std.proofs.Common.{◌≡◌, ◌++◌, ◌∙◌, ◌∷◌, ap, ap₂, append-nil, map, sym, subst, IfOk, Some, None}
use Rattle.form_table.specs.CertainRecords.{record_error}
use Rattle.form_table.specs.Lookups.{kinds_in, record_form}
use Rattle.form_table.specs.Wanted.{number_of, value_of}
use Rattle.form_extraction.specs.Calls.{record_from, unless_error}
use Rattle.form_extraction.specs.Deciding.{record_by}
use Rattle.form_extraction.specs.Parts.{tried_on}
use Rattle.form_extraction.specs.Sources.{items_seen}
use Rattle.recalculation.specs.Looks.{then_cells}
use Rattle.form_calls.specs.Sources.{cells_picked, columns_of, read_before, source_of}
use Rattle.form_calls.proofs.Recorded.{record_error_cells, seen_is}
use Rattle.form_calls.proofs.records.found_or_error.Goals as goal

pub returns-in-Some : goal.returns-in-Some
returns-in-Some g c =
    let s = c.args.source.now in
    let grid = source_of (g.C.FormsOfCells.forms c.args.forms.now) s in
    let keys = c.args.keys.now in
    let key = value_of c.args.key.now in
    let w = number_of c.args.field.now in
    let kinds = kinds_in c.args.sorted.now in
    let certain : record_error (columns_of s) (map Some (read_before s)) keys key w kinds ≡ Some c.in-Some.kind =
    sym (c.in-Some.ensures ∙ (λ i. record_error (c.cols.ensures.count i) (map Some (c.read_before-seen.ensures i)) keys key w kinds)) in
    let seen : record_error (columns_of s) (items_seen grid) keys key w kinds ≡ Some c.in-Some.kind =
    ap (λ items. record_error (columns_of s) items keys key w kinds) (sym (seen_is (g.C.FormsOfCells.forms c.args.forms.now) s)) ∙ certain in
    let tried = tried_on c.args.whole c.args.args.now (record_form (columns_of s) keys key w kinds) (record_from grid) in
    let found = record_by (columns_of s) keys (c.args.key.now ∷ c.args.field.now ∷ c.args.sorted.now) in
    c.error_part.ensures
    ∙ ap₂ (λ cells o. record { span = c.args.whole; looks = cells; outcome = o; reference = None })
    (sym (ap (λ cells. c.args.looks.items ++ cells) (record_error_cells s keys key w kinds c.in-Some.kind certain found) ∙ append-nil c.args.looks.items))
    (sym (ap (λ o. unless_error o tried) seen))

pub returns : goal.returns
returns g c =
    let s = c.args.source.now in
    let grid = source_of (g.C.FormsOfCells.forms c.args.forms.now) s in
    let keys = c.args.keys.now in
    let key = value_of c.args.key.now in
    let w = number_of c.args.field.now in
    let kinds = kinds_in c.args.sorted.now in
    let none : record_error (columns_of s) (map Some (read_before s)) keys key w kinds ≡ None =
    sym (c.in_default.ensures ∙ (λ i. record_error (c.cols.ensures.count i) (map Some (c.read_before-seen.ensures i)) keys key w kinds)) in
    let seen : record_error (columns_of s) (items_seen grid) keys key w kinds ≡ None =
    ap (λ items. record_error (columns_of s) items keys key w kinds) (sym (seen_is (g.C.FormsOfCells.forms c.args.forms.now) s)) ∙ none in
    let tried = tried_on c.args.whole c.args.args.now (record_form (columns_of s) keys key w kinds) (record_from grid) in
    let looks = c.args.looks.items ++ then_cells (record_by (columns_of s) keys (c.args.key.now ∷ c.args.field.now ∷ c.args.sorted.now)) (cells_picked s) in
    subst (λ o. IfOk c.tried_record.result (λ part. part ≡ record { span = c.args.whole; looks = looks; outcome = o; reference = None })) (sym (ap (λ o. unless_error o tried) seen)) c.tried_record.ensures
