use Rattle.std.proofs.Common.{arith, ℕ, ◌+◌, ◌<◌, List, get_or, sym, subst}
use Rattle.search_paths.specs.Walks.{IsWay}
use Rattle.search_paths.proofs.Growing.{a_root}
use Rattle.search_paths.proofs.Walking.{read_at, smaller, way_more}
use Rattle.search_paths.proofs.walk.go_up.Goals as goal

less : (a b c : ℕ) → a < b → a + c < b + c
less a b c l = omega (arith, l)

pub loop-walk-smaller-then-walk-below : goal.loop-walk-smaller-then-walk-below
loop-walk-smaller-then-walk-below c =
    let e = read_at c.args.origins.now c.loop-walk.below a_root c.loop-walk.invariant.below in
    let t = c.if-walk-below.true in
    less _ _ c.loop-walk.walk.at (smaller c.loop-walk.below _ (c.requires.placed c.loop-walk.below _ e) (omega (arith, t)))

pub loop-walk-preserved-then-walk-below : goal.loop-walk-preserved-then-walk-below
loop-walk-preserved-then-walk-below c =
    let os = c.args.origins.now in
    let k = c.loop-walk.below in
    let i = c.loop-walk.invariant in
    let l = i.below in
    let e = read_at os k a_root i.below in
    let t = c.if-walk-below.true in
    let s = smaller k _ (c.requires.placed k _ e) (omega (arith, t)) in
    record {
      at = i.at;
      below = omega (arith, s, l);
      way = subst (λ (ns : List ℕ). IsWay os ns (get_or os k a_root).parent c.args.number) (sym c.in_ok-push.ensures.items) (way_more os c.loop-walk.way.items k c.args.number _ i.way e);
      root = i.root;
    }
