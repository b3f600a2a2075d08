use Rattle.std.proofs.Common.{◌-◌, ◌∙◌, sym, subst, arith, lit<, false}
use Rattle.frac128.specs.Narrow.{IsNarrow}
use Rattle.frac128.proofs.NarrowTens.{narrow-down, twice-is}
use Rattle.frac128.proofs.read.divided_twice.Goals as goal

-- a quotient by a power up to the 38th is narrow
pub returns-in_err-first : goal.returns-in_err-first
returns-in_err-first c = absurd (c.in_err-first.ensures (narrow-down c.args.negative c.args.number 38 c.requires.number (omega arith)))

pub returns-in_err-second : goal.returns-in_err-second
returns-in_err-second c = absurd (c.in_err-second.ensures (narrow-down false 1 (c.args.places - 38) (lit< tt) (omega (arith, c.requires.places.1))))

pub returns-in-Ok : goal.returns-in-Ok
returns-in-Ok c =
    let e = twice-is c.args.negative c.args.number c.args.places c.in_ok-first.first c.in_ok-second.second c.requires.places.0 c.in_ok-first.ensures.0 c.in_ok-second.ensures.0 in
    (c.in-Ok.ensures.0 ∙ e, subst IsNarrow (sym c.in-Ok.ensures.0) c.in-Ok.ensures.1)

pub returns-in-Err : goal.returns-in-Err
returns-in-Err c =
    let e = twice-is c.args.negative c.args.number c.args.places c.in_ok-first.first c.in_ok-second.second c.requires.places.0 c.in_ok-first.ensures.0 c.in_ok-second.ensures.0 in
    λ n. c.in-Err.ensures (subst IsNarrow (sym e) n)
