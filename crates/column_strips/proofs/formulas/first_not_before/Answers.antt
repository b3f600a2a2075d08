use Rattle.std.proofs.Common.{◌≡◌, ◌≢◌, ◌∙◌, ◌+◌, Some, arith, ap, get_or, slice_get, ℕ, sym}
use Rattle.std.specs.Ordering.{is_lt}
use Rattle.std.specs.declared.cmp.Ordering.TheVariants.{Less}
use Rattle.std.proofs.lemmas.Option.{same_Some, slice_get-get_or}
use Rattle.cell_refs.specs.Cells.{cell_cmp}
use Rattle.column_strips.specs.declared.formulas.Formula.{Formula}
use Rattle.column_strips.proofs.Tests.{is_less, is_no_less}
use Rattle.column_strips.proofs.Before.{all_before}
use Rattle.column_strips.proofs.formulas.first_not_before.Goals as goal

pub loop-low-preserved-then-is_lt : goal.loop-low-preserved-then-is_lt
loop-low-preserved-then-is_lt c =
    let i : ℕ = c.loop-low.low + c.min-step.result in
    let f : Formula = get_or c.args.formulas.now i c.index-formulas-low.result in
    let at : slice_get c.args.formulas.now i ≡ Some f = slice_get-get_or c.args.formulas.now i c.index-formulas-low.result (omega (arith, c.loop-low-test.true, c.loop-low.invariant.high, c.min-step.ensures)) in
    let less : cell_cmp f.cell c.args.cell ≡ Less = is_less _ (ap is_lt (sym c.cmp.ensures) ∙ sym c.is_lt.ensures ∙ c.if-is_lt.true) in
    record {
      from = omega (arith, c.loop-low.invariant.from);
      low = omega (arith, c.loop-low-test.true, c.min-step.ensures);
      high = c.loop-low.invariant.high;
      before = λ k g h l is. all_before c.args.formulas.now c.requires.sorted i f at c.args.cell less k g (omega arith) is;
      behind = c.loop-low.invariant.behind;
    }

pub loop-low-preserved : goal.loop-low-preserved
loop-low-preserved c =
    let i : ℕ = c.loop-low.low + c.min-step.result in
    let f : Formula = get_or c.args.formulas.now i c.index-formulas-low.result in
    let at : slice_get c.args.formulas.now i ≡ Some f = slice_get-get_or c.args.formulas.now i c.index-formulas-low.result (omega (arith, c.loop-low-test.true, c.loop-low.invariant.high, c.min-step.ensures)) in
    let other : cell_cmp f.cell c.args.cell ≢ Less = is_no_less _ (ap is_lt (sym c.cmp.ensures) ∙ sym c.is_lt.ensures ∙ c.if-is_lt.false) in
    record {
      from = omega (arith, c.loop-low.invariant.from);
      low = omega (arith, c.min-step.ensures);
      high = omega (arith, c.loop-low-test.true, c.loop-low.invariant.high, c.min-step.ensures);
      before = c.loop-low.invariant.before;
      behind = λ g is e. other (ap (λ (x : Formula). cell_cmp x.cell c.args.cell) (same_Some f g (sym at ∙ is)) ∙ e);
    }
