use Rattle.std.proofs.Common.{◌≡◌, ℕ, take}
use Rattle.std.specs.List.{list_any}
use Rattle.column_strips.specs.declared.strip.Strip.{Strip}
use Rattle.column_strips.specs.Columns.{AllRising, strips_in}
use Rattle.column_strips.specs.Kept.{makes}
use Rattle.column_strips.specs.Strips.{has_strip}
use Rattle.column_strips.proofs.table.columns_of.Given as goal

abbrev pub invariant-loop-formula : goal.invariant-loop-formula
invariant-loop-formula l = record {
  rising : AllRising l.columns.items;
  strips : (sheet column : ℕ) (s : Strip) → has_strip (strips_in l.columns.items sheet column) s ≡ list_any (makes sheet column s) (take l.formula-index l.formulas);
}
