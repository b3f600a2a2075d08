use Rattle.std.proofs.Common.{◌<◌, ◌-◌, ◌≢◌, ℕ, subst, length, arith}
use Rattle.std.proofs.lemmas.Bool.{ltb-true}
use Rattle.std.proofs.lemmas.List.{get_or_default}
use Rattle.fractions.specs.Rational.{ℚ, zero_ℚ}
use Rattle.tableau.specs.Entries.{pair_at}
use Rattle.tableau.proofs.Searching.{all_earlier}
use Rattle.tableau.proofs.entries.is_behind.Goals as goal

pub returns : goal.returns
returns c = λ t i l.
    let kept = c.args.kept.now in
    let some : c.args.place ≢ 0 = c.if-place-eq0.false in
    let within : c.args.place - 1 < length kept = omega (arith, c.requires.within) in
    let less : (pair_at kept (c.args.place - 1)).0 < c.args.col =
    subst (λ (p : ℕ × ℚ). p.0 < c.args.col) (get_or_default kept (c.args.place - 1) c.index-kept-place.result (0, zero_ℚ) within) (ltb-true _ _ t) in
    all_earlier kept (c.args.place - 1) c.args.col c.requires.rising within less i (omega arith)
