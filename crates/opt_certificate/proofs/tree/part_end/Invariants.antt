use Rattle.std.proofs.Common.{◌≡◌, ◌+◌, ◌-◌, ◌<◌, ◌≤◌, ◌++◌, List, drop, length, map}
use Rattle.opt_certificate.specs.Certificate.{Tree}
use Rattle.opt_certificate.specs.Nodes.{Node, listing, size}
use Rattle.opt_certificate.specs.Trees.{node_of}
use Rattle.opt_certificate.proofs.tree.part_end.Given as goal

abbrev pub invariant-loop-place : goal.invariant-loop-place
invariant-loop-place l = record {
  later : l.fn.start ≤ l.place;
  within : l.place < length l.nodes;
  same_end : (t : Tree) (rest : List Node) → drop l.fn.start (map node_of l.nodes) ≡ listing l.fn.start t ++ rest
      → (u : Tree) × (others : List Node) × (drop l.place (map node_of l.nodes) ≡ listing l.place u ++ others) × (l.place + size u ≡ l.fn.start + size t);
}

abbrev pub decreases-loop-place : goal.decreases-loop-place
decreases-loop-place l = length l.nodes - l.place
