use Rattle.std.proofs.Common.{◌≡◌, ◌+◌, ◌++◌, ◌∷◌, [], None, Some, length, arith, ap, sym, subst, ◌∙◌}
use Rattle.std.specs.BTreeMap.{is_at}
use Rattle.std.specs.Map.{remove_entry}
use Rattle.std.proofs.lemmas.List.{length-append}
use Rattle.cell_refs.specs.Cells.{cell_cmp}
use Rattle.recalc.specs.Rows.{looks_in, row_at}
use Rattle.recalc.specs.Walks.{IsOnItsWay}
use Rattle.recalc.proofs.Walking.{begun, ended, lookup_size, none_on, skipped, taken}
use Rattle.recalc.proofs.walk.least_wide.Goals as goal

pub loop-cell-init : goal.loop-cell-init
loop-cell-init c =
    subst (λ s. IsOnItsWay c.args.rows.entries c.args.from c.args.rows.entries s None)
    (sym (c.in_ok-push.ensures.items ∙ ap (λ s. s ++ c.args.from ∷ []) c.new-stack.ensures.items)) (begun c.args.rows.entries c.args.from)

pub loop-cell-smaller-in_default-remove : goal.loop-cell-smaller-in_default-remove
loop-cell-smaller-in_default-remove c =
    omega (arith, ap looks_in c.in_default-remove.ensures.unchanged, ap length c.in-Some.ensures.items ∙ length-append c.pop.new.self.items (c.in-Some.cell ∷ []))

pub loop-cell-preserved-in_default-remove : goal.loop-cell-preserved-in_default-remove
loop-cell-preserved-in_default-remove c =
    let way : IsOnItsWay c.args.rows.entries c.args.from c.loop-cell.waiting.entries (c.pop.new.self.items ++ c.in-Some.cell ∷ []) c.loop-cell.least =
    subst (λ s. IsOnItsWay c.args.rows.entries c.args.from c.loop-cell.waiting.entries s c.loop-cell.least) c.in-Some.ensures.items c.loop-cell.invariant in
    let own : row_at c.loop-cell.waiting.entries c.in-Some.cell ≡ None = sym c.remove.ensures.value ∙ c.in_default-remove.is in
    subst (λ w. IsOnItsWay c.args.rows.entries c.args.from w c.pop.new.self.items c.loop-cell.least) (sym c.in_default-remove.ensures.unchanged)
    (skipped c.args.rows.entries c.args.from c.loop-cell.waiting.entries c.pop.new.self.items c.in-Some.cell c.loop-cell.least way own)

pub loop-cell-smaller : goal.loop-cell-smaller
loop-cell-smaller c =
    let had : row_at c.loop-cell.waiting.entries c.in-Some.cell ≡ Some c.in-Some-remove.row = sym c.remove.ensures.value ∙ c.in-Some-remove.is in
    let popped : length c.loop-cell.stack.items ≡ length c.pop.new.self.items + 1 =
    ap length c.in-Some.ensures.items ∙ length-append c.pop.new.self.items (c.in-Some.cell ∷ []) in
    let pushed : length c.extend_from_slice.new.self.items ≡ length c.pop.new.self.items + length c.in-Some-remove.row.looks.items =
    ap length (c.in_ok-extend_from_slice.ensures.items ∙ ap (λ l. c.pop.new.self.items ++ l) c.deref.ensures.value)
    ∙ length-append c.pop.new.self.items c.in-Some-remove.row.looks.items in
    let left : looks_in c.remove.new.self.entries ≡ looks_in (remove_entry (is_at (cell_cmp c.in-Some.cell)) c.loop-cell.waiting.entries) = ap looks_in c.remove.ensures.entries in
    let size = lookup_size (is_at (cell_cmp c.in-Some.cell)) c.loop-cell.waiting.entries c.in-Some-remove.row had in
    omega (arith, popped, pushed, left, size)

pub loop-cell-preserved : goal.loop-cell-preserved
loop-cell-preserved c =
    let way : IsOnItsWay c.args.rows.entries c.args.from c.loop-cell.waiting.entries (c.pop.new.self.items ++ c.in-Some.cell ∷ []) c.loop-cell.least =
    subst (λ s. IsOnItsWay c.args.rows.entries c.args.from c.loop-cell.waiting.entries s c.loop-cell.least) c.in-Some.ensures.items c.loop-cell.invariant in
    let had : row_at c.loop-cell.waiting.entries c.in-Some.cell ≡ Some c.in-Some-remove.row = sym c.remove.ensures.value ∙ c.in-Some-remove.is in
    subst (λ s. IsOnItsWay c.args.rows.entries c.args.from c.remove.new.self.entries s c.least_of-least.result)
    (sym (c.in_ok-extend_from_slice.ensures.items ∙ ap (λ l. c.pop.new.self.items ++ l) c.deref.ensures.value))
    (taken c.args.rows.entries c.args.from c.loop-cell.waiting.entries c.pop.new.self.items c.in-Some.cell c.loop-cell.least way c.in-Some-remove.row
    c.remove.new.self.entries had c.remove.ensures.updates.0 c.remove.ensures.updates.1 c.least_of-least.result c.least_of-least.ensures)

pub returns : goal.returns
returns c =
    ended c.args.rows.entries c.args.from c.loop-cell.waiting.entries c.loop-cell.least
    (subst (λ s. IsOnItsWay c.args.rows.entries c.args.from c.loop-cell.waiting.entries s c.loop-cell.least) (none_on c.loop-cell.stack.items c.loop-cell.stack.len c.loop-cell.stack.ok.0 c.in_default.ensures.variant.1) c.loop-cell.invariant)
