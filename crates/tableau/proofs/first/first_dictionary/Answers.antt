use Rattle.std.proofs.Common.{sym, subst, ap, ap₂, ◌∙◌, ◌+◌, length, suc, arith, refl, map, replicate, ◌∷◌}
use Rattle.std.proofs.lemmas.List.FromFn.{length-range_with_len}
use Rattle.fractions.specs.Rational.{zero_ℚ, one_ℚ, neg_ℚ}
use Rattle.dictionaries.specs.Dictionary.{IsShaped, first_row}
use Rattle.dictionaries.proofs.Keeps.{first_shaped}
use Rattle.tableau.proofs.Made.{parts_are, same_range}
use Rattle.tableau.proofs.first.first_dictionary.Goals as goal

pub of_parts-requires-clause-shaped : goal.of_parts-requires-clause-shaped
of_parts-requires-clause-shaped c =
    let n = ap length c.objective.ensures.value in
    let m = ap length c.rows.ensures.value in
    let e = parts_are c.args.of.now _
    (same_range _ _ _ (suc (length c.args.of.now.objective)) (length c.args.of.now.rows) c.in_ok-basic.ensures (omega (arith, n)) m)
    (same_range _ _ _ 0 (suc (length c.args.of.now.objective)) c.in_ok-non_basic.ensures refl (omega (arith, n)))
    (ap (λ t. t.rows) c.new.ensures ∙ c.in_ok-rows.ensures ∙ ap (map first_row) c.rows-2.ensures.value)
    (ap (λ t. t.objective) c.new.ensures ∙ c.in_ok-objective.ensures ∙ ap₂ (λ a l. a ∷ zero_ℚ ∷ l) c.constant.ensures c.objective-2.ensures.value)
    (ap (λ t. t.auxiliary) c.new.ensures ∙ c.in_ok-auxiliary.ensures ∙ ap (λ n. zero_ℚ ∷ neg_ℚ one_ℚ ∷ replicate n zero_ℚ) n) in
    subst IsShaped (sym e) (first_shaped c.args.of.now c.rows.ensures.regular)

pub of_parts-requires-clause-small : goal.of_parts-requires-clause-small
of_parts-requires-clause-small c =
    let n = ap length c.objective.ensures.value in
    omega (arith, n, ap length c.in_ok-non_basic.ensures, length-range_with_len 0 (length c.objective.result.now + 1), c.objective.ensures.width)

pub of_parts-requires-clause-high : goal.of_parts-requires-clause-high
of_parts-requires-clause-high c =
    let m = ap length c.rows.ensures.value in
    omega (arith, m, ap length c.in_ok-basic.ensures, length-range_with_len (length c.objective.result.now + 1) (length c.rows.result.now), c.rows.ensures.height)
