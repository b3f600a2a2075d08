use Rattle.std.proofs.Common.{◌≡◌, ◌<◌, length, List, sym, ap, subst, ◌∙◌, arith}
use Rattle.std.specs.List.{HoldsAt}
use Rattle.std.specs.List.Sorted.{IsNonDecreasingBy, IsPartitionPoint}
use Rattle.std.specs.Ordering.{ordering_index}
use Rattle.std.specs.declared.cmp.Ordering.TheVariants.{Less, Equal, Greater}
use Rattle.column_strips.specs.declared.strip.Strip.{Strip}
use Rattle.column_strips.specs.Formulas.{IsRising}
use Rattle.column_strips.specs.Strips.{has_strip, strip_cmp}
use Rattle.column_strips.proofs.Searched.{absent_has, dropped_has, dropped_rises, searchable}
use Rattle.column_strips.proofs.column.drop_strip.Goals as goal

pub returns-in_default-clause-has : goal.returns-in_default-clause-has
returns-in_default-clause-has c =
    let e = c.deref.ensures.value in
    let found : IsPartitionPoint (λ y. strip_cmp y c.args.strip ≡ Less) (λ y. strip_cmp y c.args.strip ≡ Greater) c.args.column.now.items c.in_default.field-0
    = subst (λ (xs : List Strip). IsNonDecreasingBy (λ y. ordering_index (strip_cmp y c.args.strip)) xs
    → IsPartitionPoint (λ y. strip_cmp y c.args.strip ≡ Less) (λ y. strip_cmp y c.args.strip ≡ Greater) xs c.in_default.field-0) e c.in_default.ensures.position
    (searchable c.args.column.now.items c.requires c.args.strip) in
    absent_has c.args.column.now.items c.requires c.args.strip c.in_default.field-0 found

pub returns-clause-rising : goal.returns-clause-rising
returns-clause-rising c =
    let e = c.deref.ensures.value in
    let within : c.in-Ok.place < length c.args.column.now.items = omega (arith, c.in-Ok.ensures.bound, ap length e) in
    let found = subst (λ (xs : List Strip). HoldsAt (λ y. strip_cmp y c.args.strip ≡ Equal) xs c.in-Ok.place) e c.in-Ok.ensures.position in
    subst (IsRising strip_cmp) (sym c.remove.ensures.items) (dropped_rises c.args.column.now.items c.requires c.args.strip c.in-Ok.place within found)

pub returns-clause-has : goal.returns-clause-has
returns-clause-has c = λ s.
    let e = c.deref.ensures.value in
    let within : c.in-Ok.place < length c.args.column.now.items = omega (arith, c.in-Ok.ensures.bound, ap length e) in
    let found = subst (λ (xs : List Strip). HoldsAt (λ y. strip_cmp y c.args.strip ≡ Equal) xs c.in-Ok.place) e c.in-Ok.ensures.position in
    ap (λ xs. has_strip xs s) c.remove.ensures.items ∙ dropped_has c.args.column.now.items c.requires c.args.strip c.in-Ok.place within found s
