use Rattle.std.proofs.Common.{◌≡◌, ◌<◌, ◌≤◌, ◌^◌, ◌∙◌, arith, length, map, sym}
use Rattle.std.proofs.lemmas.Bool.{false≢true, eqb-true, eqb-false, eq-eqb}
use Rattle.std.proofs.lemmas.List.{length-map}
use Rattle.opt_certificate.specs.Trees.{node_of}
use Rattle.opt_certificate.proofs.Rights.{tree_right, whole_tree, tree_end}
use Rattle.opt_certificate.proofs.tree.is_tree.Goals as goal

pub returns-then-not-all_right : goal.returns-then-not-all_right
returns-then-not-all_right c =
    (λ e. absurd (false≢true e), λ t. absurd (false≢true (sym c.if-not-all_right.true ∙ c.all_right.ensures.1 (λ i h. tree_right (map node_of c.args.nodes.now) t i (omega (arith, h, length-map c.args.nodes.now node_of))))))

pub returns : goal.returns
returns c =
    let ns = map node_of c.args.nodes.now in
    let m = length-map c.args.nodes.now node_of in
    let none : ¬ (length c.args.nodes.now ≡ 0) = eqb-false (length c.args.nodes.now) 0 (sym c.if-is_empty.ensures) in
    let some : 0 < length ns = omega (arith, m, none) in
    let few : length ns ≤ 2 ^ 32 = omega (arith, m) in (
      λ e. whole_tree ns c.part_end.result some few (λ i h. c.all_right.ensures.0 c.if-not-all_right.false i (omega (arith, h, m))) c.part_end.ensures (eqb-true c.part_end.result (length c.args.nodes.now) e ∙ sym m),
      λ t. eq-eqb c.part_end.result (length c.args.nodes.now) (tree_end ns c.part_end.result some t c.part_end.ensures ∙ m),
    )
