use Rattle.std.proofs.Common.{◌≡◌, ◌+◌, ◌∷◌, drop, sym, ap, ◌∙◌, arith}
use Rattle.sheet_model.proofs.Spreading.{rest_from}
use Rattle.form_ops.specs.SeenNumbers.{taken_args}
use Rattle.form_ops.proofs.extremes.taken_args.Goals as goal

pub loop-index-preserved : goal.loop-index-preserved
loop-index-preserved c =
    let e = c.args.extremum in
    let i = c.loop-index.index in
    let a = c.index-args-index.result in
    let args = c.args.args.now in
    let next : drop i args ≡ a ∷ drop (i + 1) args = rest_from args i a (omega arith) c.index-args-index.is in
    ap (λ s. taken_args e (i + 1) s (drop (i + 1) args)) c.in_ok-taken.ensures ∙ sym (ap (taken_args e i c.loop-index.taken) next) ∙ c.loop-index.invariant
