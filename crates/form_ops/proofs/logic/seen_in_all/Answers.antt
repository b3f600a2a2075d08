use Rattle.std.proofs.Common.{◌≡◌, ◌+◌, ◌∷◌, drop, sym, ap, ◌∙◌, arith}
use Rattle.sheet_model.proofs.Spreading.{rest_from}
use Rattle.form_table.specs.Logic.{truths_in, truths_of}
use Rattle.form_ops.specs.SeenLogicals.{seen_all}
use Rattle.form_ops.proofs.Junctions.{seen_all-append}
use Rattle.form_ops.proofs.logic.seen_in_all.Goals as goal

pub loop-index-preserved : goal.loop-index-preserved
loop-index-preserved c =
    let d = c.args.deciding in
    let seen = c.loop-index.seen in
    let i = c.loop-index.index in
    let a = c.index-args-index.result in
    let args = c.args.args.now in
    let next : drop i args ≡ a ∷ drop (i + 1) args = rest_from args i a (omega arith) c.index-args-index.is in
    ap (λ s. seen_all d s (truths_of (i + 1) (drop (i + 1) args))) c.in_ok-seen.ensures
    ∙ sym (seen_all-append d seen (truths_in i a) (truths_of (i + 1) (drop (i + 1) args)))
    ∙ sym (ap (λ rest. seen_all d seen (truths_of i rest)) next) ∙ c.loop-index.invariant
