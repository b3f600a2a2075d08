use Rattle.std.proofs.Common.{◌≡◌, ◌≤◌, ◌+◌, drop, length}
use Rattle.workbook.specs.Opening.{formulas_in}
use Rattle.workbook.proofs.gather.count_formulas.Given as goal

-- with those that are left all are counted
abbrev pub invariant-loop-text : goal.invariant-loop-text
invariant-loop-text l = record {
  all : l.count + length (formulas_in (drop l.text-index l.texts)) ≡ length (formulas_in l.texts);
  few : l.count ≤ l.text-index;
}
