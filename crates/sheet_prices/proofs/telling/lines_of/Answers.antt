use Rattle.std.proofs.Common.{◌++◌, ◌∷◌, [], ◌∙◌, ap, ap₂, get_or, map, sym, arith}
use Rattle.sensitivity.specs.declared.row_prices.Price.{Price}
use Rattle.sheet_prices.specs.Prices.{line_of}
use Rattle.sheet_prices.proofs.Looping.{zip_all, zip_more}
use Rattle.sheet_prices.proofs.telling.lines_of.Goals as goal

pub loop-place-preserved : goal.loop-place-preserved
loop-place-preserved c =
    c.in_ok-push.ensures.items ∙ ap₂ (λ l y. l ++ y ∷ []) c.loop-place.invariant (c.line_of.ensures ∙ ap (λ (p : Price). line_of (get_or c.args.numbers.now c.loop-place.place 0, p)) c.index-prices-place.is)
    ∙ sym (zip_more line_of c.args.numbers.now c.args.prices.now c.loop-place.place 0 c.index-prices-place.result c.loop-place-test.true (omega (arith, c.requires, c.loop-place-test.true)))

pub returns : goal.returns
returns c = c.loop-place.invariant ∙ ap (map line_of) (zip_all c.loop-place.place c.args.numbers.now c.args.prices.now (omega (arith, c.loop-place-test.false)))
