use Rattle.std.proofs.Common.{sym, subst, ℤ, pos, ◌+ℤ◌}
use Rattle.frac128.specs.Narrow.{IsNarrowWhole}
use Rattle.opt_certificate.proofs.Wholes.{read_back}
use Rattle.search_ends.proofs.Floors.{floor_narrow}
use Rattle.search_ends.proofs.ends.split_at.Goals as goal

pub returns-clause-narrow : goal.returns-clause-narrow
returns-clause-narrow c =
    let k = floor_narrow c.args.number c.num-num.ensures.narrow c.requires in
    let f : IsNarrowWhole c.floor.result = subst (λ (z : ℤ). IsNarrowWhole z) (sym c.floor.ensures) k.0 in
    let a : IsNarrowWhole (c.floor.result +ℤ pos 1) = subst (λ (z : ℤ). IsNarrowWhole (z +ℤ pos 1)) (sym c.floor.ensures) k.1 in
    (subst (λ (z : ℤ). IsNarrowWhole z) (sym (read_back c.floor.result f)) f, subst (λ (z : ℤ). IsNarrowWhole (z +ℤ pos 1)) (sym (read_back c.floor.result f)) a)
