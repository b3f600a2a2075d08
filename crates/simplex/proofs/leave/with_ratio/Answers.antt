use Rattle.std.proofs.Common.{subst, rules, ◌<◌, get_or}
use Rattle.fractions.specs.Rational.{◌<ℚ◌}
use Rattle.simplex.specs.Leaving.{IsSought}
use Rattle.simplex.proofs.Leaving.{narrow_more}
use Rattle.simplex.proofs.Ratios.{leaves_first, leaves_less, leaves_tie}
use Rattle.simplex.proofs.leave.with_ratio.Goals as goal

pub returns-then-is_below : goal.returns-then-is_below
returns-then-is_below c =
    let s = subst (IsSought c.args.dict.now c.args.col c.args.row) c.in-Leaves.is c.requires.so_far in
    let b : c.args.own <ℚ c.in-Leaves.least = search rules in (
      narrow_more c.args.dict.now c.args.col c.args.row s.0 c.requires.narrow,
      leaves_less c.args.dict.now c.args.col c.args.row c.in-Leaves.least_row c.in-Leaves.least c.args.own s.1 c.requires.candidate c.requires.ratio b,
    )

pub returns-in-Free : goal.returns-in-Free
returns-in-Free c =
    let s = subst (IsSought c.args.dict.now c.args.col c.args.row) c.in-Free.is c.requires.so_far in (
      narrow_more c.args.dict.now c.args.col c.args.row (λ k l i. absurd (s k l i)) c.requires.narrow,
      leaves_first c.args.dict.now c.args.col c.args.row c.args.own c.requires.candidate c.requires.ratio s,
    )

pub returns-then-basic : goal.returns-then-basic
returns-then-basic c =
    let s = subst (IsSought c.args.dict.now c.args.col c.args.row) c.in-Leaves.is c.requires.so_far in
    let b : ¬ (c.args.own <ℚ c.in-Leaves.least) = search rules in
    let g : ¬ (c.in-Leaves.least <ℚ c.args.own) = search rules in
    let l : get_or c.args.dict.now.basic c.args.row 0 < get_or c.args.dict.now.basic c.in-Leaves.least_row 0 = search rules in (
      narrow_more c.args.dict.now c.args.col c.args.row s.0 c.requires.narrow,
      leaves_tie c.args.dict.now c.args.col c.args.row c.in-Leaves.least_row c.in-Leaves.least c.args.own s.1 c.requires.candidate c.requires.ratio b g l,
    )
