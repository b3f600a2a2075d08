use Rattle.std.proofs.Common.{◌≡◌, ◌≤◌, cond, length, List, sym, ap, subst, ◌∙◌, arith}
use Rattle.std.specs.List.{HoldsAt, insert}
use Rattle.std.specs.List.Sorted.{IsNonDecreasingBy, IsPartitionPoint}
use Rattle.std.specs.Ordering.{eq_by_cmp, ordering_index}
use Rattle.std.specs.declared.cmp.Ordering.TheVariants.{Less, Equal, Greater}
use Rattle.column_strips.specs.declared.strip.Strip.{Strip}
use Rattle.column_strips.specs.Formulas.{IsRising}
use Rattle.column_strips.specs.Strips.{has_strip, strip_cmp}
use Rattle.column_strips.proofs.Rising.{any_insert}
use Rattle.column_strips.proofs.Searched.{added_rises, present_has, searchable}
use Rattle.column_strips.proofs.column.add_strip.Goals as goal

pub returns-in_default-clause-has : goal.returns-in_default-clause-has
returns-in_default-clause-has c =
    let e = c.deref.ensures.value in
    present_has c.args.column.now.items c.requires.rising c.args.strip c.in_default.field-0
    (omega (arith, c.in_default.ensures.bound, ap length e))
    (subst (λ (xs : List Strip). HoldsAt (λ y. strip_cmp y c.args.strip ≡ Equal) xs c.in_default.field-0) e c.in_default.ensures.position)

pub returns-clause-rising : goal.returns-clause-rising
returns-clause-rising c =
    let e = c.deref.ensures.value in
    let inserted : c.insert.new.self.items ≡ insert c.args.column.now.items c.in-Err.place c.args.strip
    = c.insert.ensures.items ∙ ap (λ b. cond b (insert c.args.column.now.items c.in-Err.place c.args.strip) c.args.column.now.items) (c.insert.ensures.succeeds c.requires.room) in
    let found : IsPartitionPoint (λ y. strip_cmp y c.args.strip ≡ Less) (λ y. strip_cmp y c.args.strip ≡ Greater) c.args.column.now.items c.in-Err.place
    = subst (λ (xs : List Strip). IsNonDecreasingBy (λ y. ordering_index (strip_cmp y c.args.strip)) xs
    → IsPartitionPoint (λ y. strip_cmp y c.args.strip ≡ Less) (λ y. strip_cmp y c.args.strip ≡ Greater) xs c.in-Err.place) e c.in-Err.ensures.position
    (searchable c.args.column.now.items c.requires.rising c.args.strip) in
    let within : c.in-Err.place ≤ length c.args.column.now.items = omega (arith, c.in-Err.ensures.bound, ap length e) in
    subst (IsRising strip_cmp) (sym inserted) (added_rises c.args.column.now.items c.requires.rising c.args.strip c.in-Err.place found within)

pub returns-clause-has : goal.returns-clause-has
returns-clause-has c = λ s.
    let e = c.deref.ensures.value in
    let inserted : c.insert.new.self.items ≡ insert c.args.column.now.items c.in-Err.place c.args.strip
    = c.insert.ensures.items ∙ ap (λ b. cond b (insert c.args.column.now.items c.in-Err.place c.args.strip) c.args.column.now.items) (c.insert.ensures.succeeds c.requires.room) in
    ap (λ xs. has_strip xs s) inserted ∙ any_insert (eq_by_cmp strip_cmp s) c.args.column.now.items c.in-Err.place c.args.strip
