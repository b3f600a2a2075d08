use Rattle.std.proofs.Common.{ap}
use Rattle.opt_certificate.specs.Trees.{node_of}
use Rattle.opt_certificate.proofs.AtLeaves.{of_best_node, of_empty_node, of_clash_node}
use Rattle.opt_certificate.proofs.node.node_proves.Goals as goal

pub returns-in-Some : goal.returns-in-Some
returns-in-Some c =
    of_best_node c.args.of.now c.args.within.now (node_of c.args.node.now) c.args.most c.in-Best.multipliers.items c.deref.result.now c.in-Some.number c.proves_best.result
    (ap node_of c.in-Best.is) c.in-Some.is c.deref.ensures.value c.proves_best.ensures

pub returns-in-Empty : goal.returns-in-Empty
returns-in-Empty c =
    of_empty_node c.args.of.now c.args.within.now (node_of c.args.node.now) c.args.most c.in-Empty.multipliers.items c.deref-in-Empty.result.now c.proves_empty.result
    (ap node_of c.in-Empty.is) c.deref-in-Empty.ensures.value c.proves_empty.ensures

pub returns-in-Clash : goal.returns-in-Clash
returns-in-Clash c =
    of_clash_node c.args.of.now c.args.within.now (node_of c.args.node.now) c.args.most c.in-Clash.one c.in-Clash.other c.is_clash.result
    (ap node_of c.in-Clash.is) (rw c.groups.ensures.groups at c.is_clash.ensures)
