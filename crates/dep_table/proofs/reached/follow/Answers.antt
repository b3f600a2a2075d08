use Rattle.std.proofs.Common.{◌∙◌, ap, arith, length, sym}
use Rattle.dep_table.specs.Edges.{edge}
use Rattle.dep_table.proofs.Spreading.{GoesOn, all_followed, all_scanned, goes_on, scanned_on}
use Rattle.dep_table.proofs.reached.follow.Goals as goal

pub loop-found-preserved : goal.loop-found-preserved
loop-found-preserved c =
    let inside = c.in-Some.ensures.place.1 in
    let next = c.loop-found.invariant.next in
    let on : GoesOn (length c.args.formulas.now) (edge c.args.formulas.now c.args.leaves.now) c.args.next c.in-Some.found.place
    c.loop-found.flags c.loop-found.reached.items c.reach.new.flags c.reach.new.reached.items =
    goes_on (length c.args.formulas.now) (edge c.args.formulas.now c.args.leaves.now) c.args.next c.loop-found.flags c.loop-found.reached.items
    c.loop-found.invariant.spreads c.in-Some.found.place (omega (arith, next)) inside c.reach.new.flags c.reach.new.reached.items c.in_ok-reach.ensures in
    let longer = on.longer in
    let less = on.less in
    let before = c.loop-found.invariant.less in
    record {
      spreads = on.spreads;
      next = omega (arith, next, longer);
      node = on.listed c.args.next next ∙ c.loop-found.invariant.node;
      place = omega (arith, inside);
      kept = λ k h. on.kept k (c.loop-found.invariant.kept k h);
      less = omega (arith, less, before);
      scanned = scanned_on c.args.formulas.now c.args.leaves.now c.index-node.result.now c.loop-found.from c.loop-found.flags c.loop-found.invariant.scanned
          c.in-Some.found c.reach.new.flags inside c.in-Some.ensures.first on.kept on.flagged;
    }

pub returns-clause-spreads : goal.returns-clause-spreads
returns-clause-spreads c =
    all_followed (length c.args.formulas.now) (edge c.args.formulas.now c.args.leaves.now) c.args.next c.loop-found.flags c.loop-found.reached.items
    c.loop-found.invariant.spreads
    (λ j e. all_scanned c.args.formulas.now c.args.leaves.now c.index-node.result.now c.loop-found.from c.loop-found.flags c.loop-found.invariant.scanned
    c.in_default.ensures.none j (ap (λ i. edge c.args.formulas.now c.args.leaves.now i j) (sym c.loop-found.invariant.node) ∙ e))
