-- Formulas that are kept with their strips.
use Rattle.std.specs.Prelude.{◌≡◌, ◌≤◌, ℕ, Bool, ◌&&◌, List}
use Rattle.std.specs.FinMap.{len}
use Rattle.std.specs.List.{list_any}
use Rattle.std.specs.Ordering.{eq_by_cmp}
use Rattle.cell_refs.specs.Cells.{cell_cmp}
use Rattle.cell_refs.specs.declared.limits.TheConstants.{TEXTS}
use Rattle.column_strips.specs.declared.formulas.Formula.{Formula}
use Rattle.column_strips.specs.declared.strip.Strip.{Strip}
use Rattle.column_strips.specs.Columns.{AllRising, Columns, strips_in}
use Rattle.column_strips.specs.Formulas.{AreSorted, references_in}
use Rattle.column_strips.specs.Strips.{has_strip, is_part}

-- whether a strip is one of a formula's
abbrev pub makes : ℕ → ℕ → Strip → Formula → Bool
makes sheet column s f = eq_by_cmp cell_cmp s.cell f.cell && list_any (λ area. is_part area sheet column s) f.areas.items

-- the columns have the strips of the formulas, of which there are no more than cells can have a text
pub record AreKept (formulas : List Formula) (columns : Columns) : Type 0 where
  pub sorted : AreSorted formulas
  pub few : len (references_in formulas) ≤ TEXTS
  pub rising : AllRising columns
  pub strips : (sheet column : ℕ) (s : Strip) → has_strip (strips_in columns sheet column) s ≡ list_any (makes sheet column s) formulas
