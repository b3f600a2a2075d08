use Rattle.std.proofs.Common.{arith, length, map, refl}
use Rattle.opt_certificate.specs.Parts.{IsRight}
use Rattle.opt_certificate.specs.Trees.{node_of}
use Rattle.opt_certificate.proofs.Rights.{one_lower}
use Rattle.opt_certificate.proofs.tree.all_right.Goals as goal

pub loop-place-preserved : goal.loop-place-preserved
loop-place-preserved c = record {
  within = omega arith;
  right = one_lower (IsRight (map node_of c.args.nodes.now)) c.loop-place.place (length c.args.nodes.now) (omega arith) (c.is_right.ensures.0 c.if-not-is_right.false) c.loop-place.invariant.right;
}

pub returns : goal.returns
returns c = (λ e i h. c.loop-place.invariant.right i (omega arith) h, λ r. refl)
