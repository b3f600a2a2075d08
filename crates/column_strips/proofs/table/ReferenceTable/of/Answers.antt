use Rattle.std.proofs.Common.{List, ap, ◌∙◌, arith}
use Rattle.std.specs.List.{list_any}
use Rattle.column_strips.specs.declared.formulas.Formula.{Formula}
use Rattle.column_strips.specs.Kept.{makes}
use Rattle.column_strips.proofs.Finding.{as_many}
use Rattle.column_strips.proofs.table.ReferenceTable.of.Goals as goal

pub invariant_of-result : goal.invariant_of-result
invariant_of-result c = record {
  sorted = c.requires;
  few = omega (arith, as_many c.args.formulas.items c.requires, c.if-len-gt-TEXTS.false, c.len.ensures, c.args.formulas.ok.0);
  rising = c.in_ok-columns.ensures.rising;
  strips = λ sheet column s.
      c.in_ok-columns.ensures.strips sheet column s ∙ ap (λ (fs : List Formula). list_any (makes sheet column s) fs) c.deref.ensures.value;
}
