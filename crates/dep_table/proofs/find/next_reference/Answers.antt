use Rattle.std.proofs.Common.{◌≡◌, ◌∙◌, ◌+◌, ◌*◌, Some, arith, ap, get_or, length, slice_get, sym, ℕ}
use Rattle.std.proofs.lemmas.Option.{slice_get-get_or}
use Rattle.column_strips.specs.declared.formulas.Formula.{Formula}
use Rattle.cell_refs.specs.Areas.{Area}
use Rattle.dep_table.specs.Edges.{number, reaches}
use Rattle.dep_table.proofs.Following.{none_left, stands, up_to}
use Rattle.dep_table.proofs.SlotLaws.{leaf_stays, slot_number}
use Rattle.dep_table.proofs.find.next_reference.Goals as goal

pub returns-then-leaves-node-clause-none : goal.returns-then-leaves-node-clause-none
returns-then-leaves-node-clause-none c = λ a j h. leaf_stays c.args.formulas.now c.args.leaves.now c.args.node a j c.if-leaves-node.true

pub returns-in-Some-clause-slot : goal.returns-in-Some-clause-slot
returns-in-Some-clause-slot c =
    let f : Formula = get_or c.args.formulas.now c.args.node c.index-formulas-node.result in
    let at : slice_get c.args.formulas.now c.args.node ≡ Some f = slice_get-get_or c.args.formulas.now c.args.node c.index-formulas-node.result c.requires.node in
    stands c.args.formulas.now c.args.leaves.now c.args.node f c.if-leaves-node.false at c.as_slice-areas.result.now c.as_slice-areas.ensures.value
    c.loop-area.area c.index-areas-area.result (omega (arith, c.loop-area-test.true, c.as_slice-areas.ensures.len)) c.in-Some.found
    ∙ ap (λ (x : Area). reaches x (slice_get c.args.formulas.now c.in-Some.found)) (sym c.index-areas-area.is)
    ∙ c.in-Some.ensures.reached

pub returns-in-Some-clause-place : goal.returns-in-Some-clause-place
returns-in-Some-clause-place c =
    let f : Formula = get_or c.args.formulas.now c.args.node c.index-formulas-node.result in
    let at : slice_get c.args.formulas.now c.args.node ≡ Some f = slice_get-get_or c.args.formulas.now c.args.node c.index-formulas-node.result c.requires.node in
    let len : length c.as_slice-areas.result.now ≡ length f.areas.items = ap length c.as_slice-areas.ensures.value in (
      omega (arith, c.loop-area.invariant.from, c.in-Some.ensures.place.0),
      c.in-Some.ensures.place.1,
      slot_number c.args.formulas.now c.args.leaves.now c.args.node c.loop-area.area c.in-Some.found f at (omega (arith, len, c.loop-area-test.true)) c.in-Some.ensures.place.1,
    )

pub returns-in-Some-clause-first : goal.returns-in-Some-clause-first
returns-in-Some-clause-first c =
    let f : Formula = get_or c.args.formulas.now c.args.node c.index-formulas-node.result in
    let at : slice_get c.args.formulas.now c.args.node ≡ Some f = slice_get-get_or c.args.formulas.now c.args.node c.index-formulas-node.result c.requires.node in
    up_to c.args.formulas.now c.args.leaves.now c.args.node f c.if-leaves-node.false at c.as_slice-areas.result.now c.as_slice-areas.ensures.value
    (number (length c.args.formulas.now) c.args.from) c.loop-area.area c.loop-area.place c.loop-area.invariant.past
    c.in-Some.found (omega (arith, c.in-Some.ensures.place.1))
    (λ k h l. stands c.args.formulas.now c.args.leaves.now c.args.node f c.if-leaves-node.false at c.as_slice-areas.result.now c.as_slice-areas.ensures.value
    c.loop-area.area c.index-areas-area.result (omega (arith, c.loop-area-test.true)) k
    ∙ ap (λ (x : Area). reaches x (slice_get c.args.formulas.now k)) (sym c.index-areas-area.is)
    ∙ c.in-Some.ensures.first k h l)

pub loop-area-preserved : goal.loop-area-preserved
loop-area-preserved c =
    let n : ℕ = length c.args.formulas.now in
    let f : Formula = get_or c.args.formulas.now c.args.node c.index-formulas-node.result in
    let at : slice_get c.args.formulas.now c.args.node ≡ Some f = slice_get-get_or c.args.formulas.now c.args.node c.index-formulas-node.result c.requires.node in
    let row : (c.loop-area.area + 1) * length c.args.formulas.now + 0 ≡ c.loop-area.area * length c.args.formulas.now + length c.args.formulas.now = omega arith in
    record {
      within = omega arith;
      from = omega (arith, row, c.loop-area.invariant.from, c.loop-area.invariant.within);
      past = λ b k h l. up_to c.args.formulas.now c.args.leaves.now c.args.node f c.if-leaves-node.false at c.as_slice-areas.result.now c.as_slice-areas.ensures.value
          (number (length c.args.formulas.now) c.args.from) c.loop-area.area c.loop-area.place c.loop-area.invariant.past
          n (omega arith)
          (λ k h l. stands c.args.formulas.now c.args.leaves.now c.args.node f c.if-leaves-node.false at c.as_slice-areas.result.now c.as_slice-areas.ensures.value
          c.loop-area.area c.index-areas-area.result (omega (arith, c.loop-area-test.true)) k
          ∙ ap (λ (x : Area). reaches x (slice_get c.args.formulas.now k)) (sym c.index-areas-area.is)
          ∙ c.in_default.ensures.none k h)
          b k h (omega (arith, l, row));
    }

pub returns-clause-none : goal.returns-clause-none
returns-clause-none c =
    let f : Formula = get_or c.args.formulas.now c.args.node c.index-formulas-node.result in
    let at : slice_get c.args.formulas.now c.args.node ≡ Some f = slice_get-get_or c.args.formulas.now c.args.node c.index-formulas-node.result c.requires.node in
    none_left c.args.formulas.now c.args.leaves.now c.args.node f c.if-leaves-node.false at c.as_slice-areas.result.now c.as_slice-areas.ensures.value
    (number (length c.args.formulas.now) c.args.from) c.loop-area.area c.loop-area.place c.loop-area.invariant.past
    (omega (arith, c.loop-area-test.false))
