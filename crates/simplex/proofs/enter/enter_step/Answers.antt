use Rattle.std.proofs.Common.{◌≡◌, ◌<◌, ℕ, ◌+◌, sym, ap, ◌∙◌, subst, get_or, arith, rules}
use Rattle.std.proofs.lemmas.List.{get_or_default}
use Rattle.fractions.specs.Rational.{ℚ, zero_ℚ, ◌<ℚ◌}
use Rattle.dictionaries.specs.Bland.{Improves}
use Rattle.tableau.specs.Entries.{pair_at}
use Rattle.simplex.specs.Choices.{EntersAmong, EntersOf}
use Rattle.simplex.proofs.Entering.{improves_there, enters_first, enters_less}
use Rattle.simplex.proofs.enter.enter_step.Goals as goal

pub returns-in-None : goal.returns-in-None
returns-in-None c =
    let d = c.args.dict.now in
    let row = c.args.row.now in
    let kept = c.args.kept.now in
    let n = c.args.place in
    let first : pair_at kept n ≡ get_or kept n c.index-kept-place.result = get_or_default kept n (0, zero_ℚ) c.index-kept-place.result c.requires.place in
    let second : pair_at kept n ≡ get_or kept n c.index-kept-place-2.result = get_or_default kept n (0, zero_ℚ) c.index-kept-place-2.result c.requires.place in
    let above : zero_ℚ <ℚ (get_or kept n c.index-kept-place-2.result).1 = search rules in
    let better : Improves d row (pair_at kept n).0 =
    improves_there d row kept n _ _ c.requires.entries c.requires.place c.requires.width first second (λ e. c.if-column-eq0.false (c.column.ensures ∙ e)) above in
    let none = subst (EntersAmong d row kept n) c.in-None.is c.requires.so_far in
    subst (λ (p : ℕ × ℚ). EntersOf d row kept (n + 1) p.0) first (enters_first d row kept n better none)

pub returns-then-column : goal.returns-then-column
returns-then-column c =
    let d = c.args.dict.now in
    let row = c.args.row.now in
    let kept = c.args.kept.now in
    let n = c.args.place in
    let first : pair_at kept n ≡ get_or kept n c.index-kept-place.result = get_or_default kept n (0, zero_ℚ) c.index-kept-place.result c.requires.place in
    let second : pair_at kept n ≡ get_or kept n c.index-kept-place-2.result = get_or_default kept n (0, zero_ℚ) c.index-kept-place-2.result c.requires.place in
    let above : zero_ℚ <ℚ (get_or kept n c.index-kept-place-2.result).1 = search rules in
    let better : Improves d row (pair_at kept n).0 =
    improves_there d row kept n _ _ c.requires.entries c.requires.place c.requires.width first second (λ e. c.if-column-eq0.false (c.column.ensures ∙ e)) above in
    let least : EntersOf d row kept n c.in-Some.least = subst (EntersAmong d row kept n) c.in-Some.is c.requires.so_far in
    let own : get_or d.nonbasic (pair_at kept n).0 0 ≡ c.column-in-Some.result = ap (λ (p : ℕ × ℚ). get_or d.nonbasic p.0 0) first ∙ sym c.column-in-Some.ensures in
    let less : get_or d.nonbasic (pair_at kept n).0 0 < get_or d.nonbasic c.in-Some.least 0 = omega (arith, own, c.if-column.true, c.column-in-Some-2.ensures) in
    subst (λ (p : ℕ × ℚ). EntersOf d row kept (n + 1) p.0) first (enters_less d row kept n c.in-Some.least least better less)
