use Rattle.std.proofs.Common.{◌≡◌, ◌∷◌, [], subst, arith}
use Rattle.frac128.specs.Appends.{Appends}
use Rattle.frac128.proofs.Printing.{appends-zero, appends-more}
use Rattle.frac128.proofs.Digits.{zeros, zeros-snoc, length-zeros}
use Rattle.frac128.proofs.write.append_zeros.Goals as goal

pub loop-init : goal.loop-init
loop-init c = appends-zero c.args.to.now

pub append-requires : goal.append-requires
append-requires c = omega (arith, c.loop.invariant.len, c.loop.invariant.capacity, c.requires, length-zeros c.loop.counter)

pub loop-preserved : goal.loop-preserved
loop-preserved c =
    subst (Appends c.args.to.now c.append.new.to) (zeros-snoc c.loop.counter)
    (appends-more c.args.to.now c.loop.to c.append.new.to (zeros c.loop.counter) (48 ∷ []) c.loop.invariant c.append.ensures)

pub returns : goal.returns
returns c = let all : c.loop.counter ≡ c.args.count = omega arith in subst (λ n. Appends c.args.to.now c.loop.to (zeros n)) all c.loop.invariant
