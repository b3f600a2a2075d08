use Rattle.std.specs.Prelude.{string_bytes}
use Rattle.std.proofs.Common.{◌≡◌, ◌∙◌, arith, rules, sym}
use Rattle.std.proofs.lemmas.Bool.Decides.{Decides-eqb}
use Rattle.std.proofs.lemmas.Slice.Eq.{slice_eq-Decides}
use Rattle.frac128.proofs.NarrowLaws.{same_if_equal}
use Rattle.formula_ast.specs.declared.expr.Node.TheVariants as node
use Rattle.formula_ast.proofs.Parts.{node_count-le}
use Rattle.same_trees.proofs.Nodes.{arrays, by_nodes, calls, numbers, of_lists, references, unknowns}
use Rattle.same_trees.proofs.+comparing.Goals as goal

pub are_same-is_same-requires : goal.are_same-is_same-requires
are_same-is_same-requires t c = (omega (arith, node_count-le c.args.one.now c.loop-place.place c.index-one-place.result (omega arith) c.index-one-place.is), tt)

pub is_same_node-returns-in-Number-Number : goal.is_same_node-returns-in-Number-Number
is_same_node-returns-in-Number-Number t c at =
    let i = c.in-Number-Number in
    by_nodes c.eq.result at (node.Number i.x) (node.Number i.y) i.is-0 i.is-1
    (numbers c.eq.result at i.x i.y (let h = same_if_equal i.x i.y in (λ t. h.0 (sym c.eq.ensures ∙ t), λ e. c.eq.ensures ∙ h.1 e)))

pub is_same_node-returns-in-Reference-Reference : goal.is_same_node-returns-in-Reference-Reference
is_same_node-returns-in-Reference-Reference t c at =
    let i = c.in-Reference-Reference in
    by_nodes c.are_same_areas.result at (node.Reference i.areas) (node.Reference i.others) i.is-0 i.is-1
    (references c.are_same_areas.result at i.areas.items i.others.items
    (let h = c.are_same_areas.ensures in
    let p = c.deref-in-Reference-Reference.ensures.value in
    let q = c.deref-in-Reference-Reference-2.ensures.value in
    (λ w. sym p ∙ h.0 w ∙ q, λ e. h.1 (p ∙ e ∙ sym q))))

pub is_same_node-returns-then-is_same_size : goal.is_same_node-returns-then-is_same_size
is_same_node-returns-then-is_same_size t c at =
    let i = c.in-Array-Array in
    by_nodes c.are_same.result at (node.Array i.rows i.columns i.xs) (node.Array i.other_rows i.other_columns i.ys) i.is-0 i.is-1
    (arrays c.are_same.result at (i.rows, i.columns) (i.other_rows, i.other_columns) i.xs.items i.ys.items (c.is_same_size.ensures.0 c.if-is_same_size.true)
    (of_lists c.are_same.result c.deref.ensures.value c.deref-then-is_same_size.ensures.value c.are_same.ensures))

pub is_same_node-returns-then-eq : goal.is_same_node-returns-then-eq
is_same_node-returns-then-eq t c at =
    let i = c.in-Unknown-Unknown in
    by_nodes c.are_same-then-eq.result at (node.Unknown i.s i.xs) (node.Unknown i.t i.ys) i.is-0 i.is-1
    (unknowns c.are_same-then-eq.result at (string_bytes i.s) (string_bytes i.t) i.xs.items i.ys.items
    ((slice_eq-Decides Decides-eqb _ _ _ c.eq-in-Unknown-Unknown.ensures).0 c.if-eq.true)
    (of_lists c.are_same-then-eq.result c.deref-then-eq.ensures.value c.deref-then-eq-2.ensures.value c.are_same-then-eq.ensures))

pub is_same_node-returns-then-eq-2 : goal.is_same_node-returns-then-eq-2
is_same_node-returns-then-eq-2 t c at =
    let i = c.in-Call-Call in
    by_nodes c.are_same-then-eq-2.result at (node.Call i.f i.xs) (node.Call i.g i.ys) i.is-0 i.is-1
    (calls c.are_same-then-eq-2.result at i.f i.g i.xs.items i.ys.items (let p : i.f ≡ i.g = search rules in p)
    (of_lists c.are_same-then-eq-2.result c.deref-then-eq-2-2.ensures.value c.deref-then-eq-2-3.ensures.value c.are_same-then-eq-2.ensures))
