use Rattle.std.proofs.Common.{◌+◌, ◌++◌, ◌∙◌, ap, sym, arith, drop}
use Rattle.std.proofs.lemmas.List.{get_or_default}
use Rattle.evaluation.proofs.LookMet.{met_among, skipped, taken}
use Rattle.evaluation.proofs.looks.criteria.push_met_among.Goals as goal
use Rattle.evaluation.proofs.looks.criteria.push_met_among.Goals.{else-meets, then-meets+in_ok-push}

pub loop-place-preserved : goal.loop-place-preserved
loop-place-preserved c =
    let tested = c.args.tested.now in
    let cells = c.args.cells.now in
    let i = c.loop-place.place in
    elim c.if-meets.branch [
      | then-meets+in_ok-push w ↦
          taken c.args.criterion.now tested cells i _ c.loop-place.to (omega arith) c.requires.count c.loop-place.invariant c.index-tested-place.result c.index-tested-place.is
          _ c.if-meets.to (get_or_default cells i _ _ (omega (arith, c.requires.count))) (sym c.meets.ensures ∙ w.if-meets.true) (w.to-is ∙ w.in_ok-push.ensures)
      | else-meets w ↦
          skipped c.args.criterion.now tested cells i _ c.loop-place.to (omega arith) c.requires.count c.loop-place.invariant c.index-tested-place.result c.index-tested-place.is
          (sym c.meets.ensures ∙ w.if-meets.false)
          ∙ ap (λ v. v ++ met_among c.args.criterion.now (drop (i + 1) tested) (drop (i + 1) cells)) (sym w.to-is)
    ]
