use Rattle.std.proofs.Common.{◌≡◌, ◌++◌, All, drop, map, take}
use Rattle.std.specs.Prelude.{string_bytes}
use Rattle.opt_certificate.specs.Trees.{node_of}
use Rattle.certificate_lines.specs.Line.{text_of}
use Rattle.certificate_texts.specs.Fits.{NodeFits}
use Rattle.certificate_texts.specs.Nodes.{node_line}
use Rattle.certificate_texts.proofs.write.write_nodes.Given as goal

-- what is written, and the nodes that are left
abbrev pub invariant-loop-node : goal.invariant-loop-node
invariant-loop-node l = record {
  written : string_bytes l.to ++ text_of (map node_line (map node_of (drop l.node-index l.nodes))) ≡ string_bytes l.fn.to ++ text_of (map node_line (map node_of l.nodes));
  fits : All (λ node. NodeFits (node_of node)) (take l.node-index l.nodes);
}
