use Rattle.std.proofs.Common.{◌≡◌, ◌∙◌, ℕ, Some, ap, arith, false, get_or, inl, inr, slice_get, sym, true}
use Rattle.std.specs.FinSet as set
use Rattle.std.proofs.lemmas.Option.{same_Some, slice_get-get_or}
use Rattle.cell_refs.specs.Cells.{cell_cmp}
use Rattle.column_strips.specs.declared.formulas.Formula.{Formula}
use Rattle.dep_table.specs.declared.tour.Mark.TheVariants.{Circular}
use Rattle.dep_table.specs.Tour.{mark_at}
use Rattle.dep_table.proofs.Places.{same_or_not}
use Rattle.dep_table.proofs.Sets.{had, has_new, has_old}
use Rattle.dep_table.proofs.deps.circular_cells.Goals as goal

pub loop-place-init : goal.loop-place-init
loop-place-init c = record {
  sound = λ a h. let e : set.contains c.new-found.result a ≡ false = ap (λ s. set.contains s a) c.new-found.ensures ∙ set.contains-empty cell_cmp a in cc;
  complete = λ i f h. absurd (omega arith);
}

pub loop-place-preserved : goal.loop-place-preserved
loop-place-preserved c =
    let f : Formula = get_or c.args.formulas.now c.loop-place.place c.index-formulas-place.result in
    let at : slice_get c.args.formulas.now c.loop-place.place ≡ Some f = slice_get-get_or c.args.formulas.now c.loop-place.place c.index-formulas-place.result c.loop-place-test.true in
    let added : c.add.new.self ≡ set.insert c.loop-place.found f.cell = c.in_ok-add.ensures.ok in
    record {
      sound = λ a h. elim (had c.loop-place.found f.cell a (ap (λ s. set.contains s a) (sym added) ∙ h))
          as (λ _. (i : ℕ) × (g : Formula) × (slice_get c.args.formulas.now i ≡ Some g) × (g.cell ≡ a) × (mark_at c.args.marks.now i ≡ Circular)) [
            | inl e ↦ (c.loop-place.place, f, at, sym e, cc c.in-Circular.is)
            | inr old ↦ c.loop-place.invariant.sound a old
          ];
      complete = λ i g l x m. ap (λ s. set.contains s g.cell) added
          ∙ elim (same_or_not i c.loop-place.place) as (λ _. set.contains (set.insert c.loop-place.found f.cell) g.cell ≡ true) [
            | inl e ↦
                let same : f ≡ g = same_Some f g (sym at ∙ ap (slice_get c.args.formulas.now) (sym e) ∙ x) in
                ap (λ (y : Formula). set.contains (set.insert c.loop-place.found f.cell) y.cell) (sym same) ∙ has_new c.loop-place.found f.cell
            | inr n ↦ has_old c.loop-place.found f.cell g.cell (c.loop-place.invariant.complete i g (omega arith) x m)
          ];
    }
