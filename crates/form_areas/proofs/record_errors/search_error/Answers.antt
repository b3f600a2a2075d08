use Rattle.std.proofs.Common.{◌≡◌, ◌∙◌, ◌+◌, ◌∷◌, ap, ap₂, sym, arith, drop, map, Some}
use Rattle.sheet_model.proofs.Spreading.{rest_from}
use Rattle.form_table.specs.CertainRecords.{error_behind, error_there, errors_in, search_error}
use Rattle.form_table.specs.Lookups.{known_value, may_be_key}
use Rattle.form_areas.specs.Agreed.{agreed_behind, joined}
use Rattle.form_areas.proofs.AgreedErrors.{gone_on}
use Rattle.form_areas.proofs.record_errors.search_error.Goals as goal

pub loop-row-preserved : goal.loop-row-preserved
loop-row-preserved c =
    let kind = c.args.kind in
    let errors = errors_in c.args.fields (map Some c.args.items.now) c.args.field in
    let key = known_value c.args.key.now in
    let keys = c.args.keys.now in
    let i = c.loop-row.row in
    let before = c.loop-row.before in
    let a = c.index-keys-row.result in
    let end = c.end_at-end.result in
    let rest : drop i keys ≡ a ∷ drop (i + 1) keys = rest_from keys i a (omega arith) c.index-keys-row.is in
    let so_far = c.loop-row.invariant ∙ ap (λ ks. joined c.loop-row.agreed (search_error kind errors key i before ks)) rest in
    let here : c.error_in-here.result ≡ errors i = c.error_in-here.ensures in
    let there : error_there kind (errors i) before ≡ c.error_there-there.result = ap (λ h. error_there kind h before) (sym here) ∙ sym c.error_there-there.ensures in
    let agreed : agreed_behind end c.loop-row.agreed (error_there kind (errors i) before) ≡ c.agreed_behind-agreed.result = ap (agreed_behind end c.loop-row.agreed) there ∙ sym c.agreed_behind-agreed.ensures in
    let behind : error_behind kind (may_be_key a) (errors i) before ≡ c.error_behind-before.result =
    ap₂ (λ b h. error_behind kind b h before) (sym c.may_be_key.ensures) (sym here) ∙ sym c.error_behind-before.ensures in
    gone_on kind errors key c.loop-row.agreed _ i before a (drop (i + 1) keys) so_far end c.end_at-end.ensures (sym c.is_end.ensures ∙ c.if-is_end.false)
    ∙ ap₂ (λ agreed before. joined agreed (search_error kind errors key (i + 1) before (drop (i + 1) keys))) agreed behind
