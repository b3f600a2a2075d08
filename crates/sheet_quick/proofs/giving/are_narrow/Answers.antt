use Rattle.std.proofs.Common.{◌≡◌, ◌+◌, ◌++◌, All, [], ◌∷◌, take, sym, ap, subst, ◌∙◌}
use Rattle.std.proofs.lemmas.List.{take_more}
use Rattle.std.proofs.lemmas.List.Elements.{All-push}
use Rattle.frac128.specs.Narrow.{IsNarrow}
use Rattle.sheet_quick.proofs.giving.are_narrow.Goals as goal

pub loop-number-preserved : goal.loop-number-preserved
loop-number-preserved c =
    let xs = c.args.numbers.now in
    let i = c.loop-number.number-index in
    let x = c.number-item.result in
    let more : take (i + 1) xs ≡ take i xs ++ x ∷ [] = take_more xs i x c.loop-number-test.true ∙ ap (λ y. take i xs ++ y ∷ []) (sym c.number-item.is) in
    subst (All IsNarrow) (sym more) (All-push IsNarrow (take i xs) x c.loop-number.invariant c.num-num.ensures.narrow)
