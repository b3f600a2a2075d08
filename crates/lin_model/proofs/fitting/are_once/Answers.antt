use Rattle.std.proofs.Common.{ap, sym, ◌∙◌, ◌+◌, drop, get_or}
use Rattle.linear_models.specs.Statement.{is_in}
use Rattle.lin_model.proofs.Apart.{behind, no_value_in, one_apart, one_not_apart, value_in}
use Rattle.lin_model.proofs.FitRows.{told_not}
use Rattle.lin_model.proofs.fitting.are_once.Goals as goal

pub returns-then-is_in : goal.returns-then-is_in
returns-then-is_in c =
    let js = c.args.list.now in
    let k = c.loop-place.place in
    let v = value_in (get_or js k 0) (drop (k + 1) js) (ap (is_in (get_or js k 0)) (sym (behind js k)) ∙ sym c.is_in.ensures ∙ c.if-is_in.true) in
    told_not (one_not_apart (λ j. j) js k c.loop-place-test.true v c.loop-place.invariant)

pub loop-place-preserved : goal.loop-place-preserved
loop-place-preserved c =
    let js = c.args.list.now in
    let k = c.loop-place.place in
    let n = no_value_in (get_or js k 0) (drop (k + 1) js) (ap (is_in (get_or js k 0)) (sym (behind js k)) ∙ sym c.is_in.ensures ∙ c.if-is_in.false) in
    one_apart (λ j. j) js k c.loop-place-test.true n c.loop-place.invariant
