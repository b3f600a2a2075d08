use Rattle.std.proofs.Common.{◌≡◌, ℕ, Some, get_or, slice_get, arith}
use Rattle.std.proofs.lemmas.Bool.{le-leb, leb-true}
use Rattle.std.proofs.lemmas.Option.{slice_get-get_or}
use Rattle.column_strips.proofs.rows.meets.Goals as goal

pub returns-clause-one : goal.returns-clause-one
returns-clause-one c = λ h.
    let v : ℕ = get_or c.args.rows.now c.args.strip.top 0 in
    let at : slice_get c.args.rows.now c.args.strip.top ≡ Some v = slice_get-get_or c.args.rows.now c.args.strip.top 0 (omega (arith, c.if-top-rows.false)) in
    let s = c.requires.sought c.args.strip.top v at in
    (v, s.1, s.0, leb-true v c.args.strip.bottom h)

pub returns-clause-all : goal.returns-clause-all
returns-clause-all c = λ r s a b.
    let v : ℕ = get_or c.args.rows.now c.args.strip.top 0 in
    let at : slice_get c.args.rows.now c.args.strip.top ≡ Some v = slice_get-get_or c.args.rows.now c.args.strip.top 0 (omega (arith, c.if-top-rows.false)) in
    let f = c.requires.first c.args.strip.top v r at a s in
    le-leb v c.args.strip.bottom (omega (arith, f, b))
