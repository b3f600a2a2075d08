-- A table among others, before its forms are settled and after.
use Rattle.std.specs.Prelude.{◌≡◌, ◌⊎◌, ℕ, Bool, List, Some, Contains, slice_get, slice_set}
use Rattle.recalculation.specs.Entries.{Book}
use Rattle.extract_incr.specs.FromExtract.{no_forms}
use Rattle.extract_incr.specs.Keeping.{AreKept, GrowsTo}
use Rattle.kept_tables.specs.Settled.{Parts, SheetForms, with_table}
use Rattle.kept_forms.specs.Tables.{SheetKept, all_forms, forms_in, parts_of}

-- the place of a sheet's own table for some parts: it has what was kept for them, and else no form. Whatever table of the sheet is
-- put there, that is as if it were put at once
pub record IsBegun (searching : ℕ → Bool) (sheet : ℕ) (parts : Parts) (before after : List SheetKept) (place : ℕ) : Type 0 where
  pub table : SheetKept
  pub there : slice_get after place ≡ Some table
  pub own : table.sheet ≡ sheet
  pub given : parts_of table.kept ≡ parts
  pub was : Contains (all_forms before) (forms_in table) ⊎ (table.kept.table ≡ no_forms)
  pub same : (u : SheetForms) → Contains (all_forms before) u → u.sheet ≡ sheet → u.parts ≡ parts → u ≡ forms_in table
  pub put : (t : SheetKept) → t.sheet ≡ sheet → all_forms (slice_set after place t) ≡ with_table searching (all_forms before) (forms_in t)

-- one table has more forms than before, for the same sheet and parts
pub record Goes (book : Book) (place : ℕ) (before after : List SheetKept) : Type 0 where
  pub was : SheetKept
  pub there : slice_get before place ≡ Some was
  pub now : SheetKept
  pub put : after ≡ slice_set before place now
  pub own : now.sheet ≡ was.sheet
  pub kept : AreKept book now.kept
  pub grown : GrowsTo was.kept now.kept
