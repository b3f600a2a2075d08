use Rattle.std.proofs.Common.{◌≡◌, map, take}
use Rattle.std.specs.Prelude.{All}
use Rattle.opt_certificate.specs.Certificate.{Tree}
use Rattle.opt_certificate.specs.Checks.{NodeIsNarrow, NodeProves}
use Rattle.opt_certificate.specs.Nodes.{boxed, listing}
use Rattle.opt_certificate.specs.Trees.{node_of}
use Rattle.opt_certificate.proofs.Walks.{Walk}
use Rattle.opt_certificate.proofs.walk.walk.Given as goal

-- of each tree that the nodes list: the walk so far, and what was proved
abbrev pub invariant-loop-number : goal.invariant-loop-number
invariant-loop-number l =
    (t : Tree) → map node_of l.nodes ≡ listing 0 t → record {
      walk : Walk l.of (map node_of l.nodes) (boxed l.of.bounds t) l.number l.boxes.items;
      proves : All (NodeProves l.of l.most) (take l.number (boxed l.of.bounds t));
      narrow : All (NodeIsNarrow l.of) (take l.number (boxed l.of.bounds t));
    }
