use Rattle.std.proofs.Common.{◌≡◌, List, Option, Some, sym, subst}
use Rattle.fractions.specs.Rational.{ℚ}
use Rattle.fractions.specs.Whole.{whole_ℚ}
use Rattle.linear_models.specs.Box.{bound_at}
use Rattle.search_ends.proofs.Beside.{differ_is}
use Rattle.search_ends.proofs.parting.bounds_differ.Goals as goal

pub bound_there-least-requires-clause-there : goal.bound_there-least-requires-clause-there
bound_there-least-requires-clause-there c =
    let t = c.requires.bounds in (whole_ℚ t.low, subst (λ (bs : List (Option ℚ)). bound_at bs c.args.decision ≡ Some (whole_ℚ t.low)) (sym c.least.ensures) t.least)

pub bound_there-greatest-requires-clause-there : goal.bound_there-greatest-requires-clause-there
bound_there-greatest-requires-clause-there c =
    let t = c.requires.bounds in (whole_ℚ t.high, subst (λ (bs : List (Option ℚ)). bound_at bs c.args.decision ≡ Some (whole_ℚ t.high)) (sym c.greatest.ensures) t.greatest)

pub returns : goal.returns
returns c =
    differ_is c.args.within.now c.args.decision c.bound_there-least.result c.bound_there-greatest.result c.is_same.result
    (subst (λ (bs : List (Option ℚ)). bound_at bs c.args.decision ≡ Some c.bound_there-least.result) c.least.ensures c.bound_there-least.ensures.is)
    (subst (λ (bs : List (Option ℚ)). bound_at bs c.args.decision ≡ Some c.bound_there-greatest.result) c.greatest.ensures c.bound_there-greatest.ensures.is)
    c.is_same.ensures
