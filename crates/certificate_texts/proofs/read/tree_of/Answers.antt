use Rattle.std.proofs.Common.{◌≡◌, ◌∙◌, ◌≤◌, ◌^◌, ap, arith, drop, length, map, subst, sym}
use Rattle.std.specs.List.{AllByRecursion}
use Rattle.std.proofs.lemmas.List.{length-map, take_at}
use Rattle.opt_certificate.specs.Trees.{IsTree, node_of}
use Rattle.certificate_lines.specs.Line.{IsLine}
use Rattle.certificate_texts.specs.Forests.{trees_in}
use Rattle.certificate_texts.specs.Nodes.{node_line}
use Rattle.certificate_texts.proofs.Forests.{tree_made}
use Rattle.certificate_texts.proofs.read.tree_of.Goals as goal

pub unreachable-requires : goal.unreachable-requires
unreachable-requires c =
    let t = c.requires.tree in
    let placed = c.in_ok-set_places.ensures (trees_in t.0) (ap (λ xs. map node_line (map node_of xs)) c.deref_mut.ensures.value ∙ t.1) in
    let old = ap length c.deref_mut.ensures.value in
    let size : length c.set_places.new.nodes ≡ c.args.nodes.len = omega (arith, old, c.set_places.auto.nodes, c.args.nodes.ok.0) in
    let back = take_at c.set_places.new.nodes (drop (length c.set_places.new.nodes) c.args.nodes.items) c.args.nodes.len size in
    let same = length-map c.set_places.new.nodes node_of in
    let few : length (map node_of c.set_places.new.nodes) ≤ 2 ^ 32 = omega (arith, same, size, c.args.nodes.ok.0, c.requires.size) in
    c.in_default.ensures (subst (λ xs. IsTree (map node_of xs)) (sym back) (tree_made (map node_of c.set_places.new.nodes) t.0 few (subst (AllByRecursion IsLine) t.1 c.requires.lines) placed))
