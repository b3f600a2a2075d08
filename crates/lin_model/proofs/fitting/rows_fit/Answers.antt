use Rattle.std.proofs.Common.{sym, ◌∙◌, arith}
use Rattle.std.proofs.lemmas.Bool.{false≢true}
use Rattle.lin_model.proofs.Equal.{front}
use Rattle.lin_model.proofs.FitRows.{fits_more, fits_not, told_not}
use Rattle.lin_model.proofs.fitting.rows_fit.Goals as goal

pub loop-place-preserved : goal.loop-place-preserved
loop-place-preserved c =
    fits_more c.args.n c.args.rows.now c.args.sides.now c.loop-place.place c.index-rows-place.result c.index-sides-place.result
    (front c.args.rows.now c.loop-place.place c.index-rows-place.result (omega arith) c.index-rows-place.is)
    (front c.args.sides.now c.loop-place.place c.index-sides-place.result (omega arith) c.index-sides-place.is)
    (c.row_fits.ensures.0 c.if-not-row_fits.false) c.loop-place.invariant

pub returns-then-not-row_fits : goal.returns-then-not-row_fits
returns-then-not-row_fits c =
    told_not (fits_not c.args.n c.args.rows.now c.args.sides.now c.loop-place.place c.index-rows-place.result c.index-sides-place.result
    (front c.args.rows.now c.loop-place.place c.index-rows-place.result (omega arith) c.index-rows-place.is)
    (front c.args.sides.now c.loop-place.place c.index-sides-place.result (omega arith) c.index-sides-place.is)
    (λ f. absurd (false≢true (sym c.if-not-row_fits.true ∙ c.row_fits.ensures.1 f))) c.loop-place.invariant)
