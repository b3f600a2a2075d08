use Rattle.std.proofs.Common.{◌≡◌, ◌∙◌, ◌+◌, ◌++◌, ◌∷◌, [], All, ap, arith, rules, subst, sym, take}
use Rattle.std.proofs.lemmas.Grind.{common_steps}
use Rattle.std.proofs.lemmas.List.{take_all, take_more}
use Rattle.std.proofs.lemmas.List.Elements.{All-push}
use Rattle.frac128.specs.Narrow.{IsNarrow}
use Rattle.certificate_texts.proofs.write.write_pairs.Goals as goal

pub loop-place-preserved : goal.loop-place-preserved
loop-place-preserved c =
    let xs = c.args.numbers.now in
    let i = c.loop-place.place in
    let x = c.index-numbers-place.result in
    let more : take (i + 1) xs ≡ take i xs ++ x ∷ [] = take_more xs i x c.loop-place-test.true ∙ ap (λ y. take i xs ++ y ∷ []) (sym c.index-numbers-place.is) in
    record {
      written = first_of (search rules, grind (arith, common_steps));
      narrow = subst (All IsNarrow) (sym more) (All-push IsNarrow (take i xs) x c.loop-place.invariant.narrow c.write_pair.ensures.narrow);
    }

pub returns-clause-narrow : goal.returns-clause-narrow
returns-clause-narrow c =
    subst (All IsNarrow) (take_all c.loop-place.place c.args.numbers.now (omega (arith, c.loop-place-test.false))) c.loop-place.invariant.narrow
