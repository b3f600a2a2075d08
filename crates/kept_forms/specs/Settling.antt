-- The tables after the forms of a sheet were settled, or after memory ran out while they were made.
use Rattle.std.specs.Prelude.{◌≡◌, ◌⊎◌, ℕ, Bool, List, Option, Some, Contains, is_some}
use Rattle.recalculation.specs.Entries.{Book}
use Rattle.cell_refs.specs.declared.place.Place.{Place}
use Rattle.extract_incr.specs.FromFormExtraction.{CellForm}
use Rattle.extract_incr.specs.FromKeptMarks.{AreForms}
use Rattle.kept_tables.specs.Settled.{Parts, SheetForms, decisions_of, expressions_of, with_table}
use Rattle.kept_tables.specs.Tables.{is_for_once}
use Rattle.extract_incr.specs.Keeping.{AllAreKept, Kept}
use Rattle.kept_forms.specs.Tables.{SheetKept, all_forms, forms_in, parts_of, settled_of, sheets_in}

-- some forms of a sheet for what its names give: each is that of its place, and what was kept for the same is among them
pub record GoesOn (book : Book) (before : List SheetForms) (t : SheetForms) : Type 0 where
  pub right : AreForms book (decisions_of t.parts) (expressions_of t.parts) t.kept
  pub grown : (u : SheetForms) → Contains before u → u.sheet ≡ t.sheet → u.parts ≡ t.parts → (p : Place) (f : CellForm) → u.kept p ≡ Some f → t.kept p ≡ Some f

-- all forms of a sheet are there for what its names give: in a table that takes the place of the sheet's own or goes last, or, where
-- there is no place for one, for the command alone
pub record Settles (book : Book) (searching : ℕ → Bool) (sheet : ℕ) (parts : Parts) (before after : List SheetKept) (once : Option Kept) : Type 0 where
  pub forms : Kept
  pub found : settled_of after sheet once ≡ Some forms
  pub given : parts_of forms ≡ parts
  pub full : AllAreKept book forms
  pub grown : GoesOn book (all_forms before) (forms_in (record { sheet = sheet; kept = forms }))
  pub tables : all_forms after ≡ with_table searching (all_forms before) (forms_in (record { sheet = sheet; kept = forms }))
  pub alone : is_some once ≡ is_for_once searching (sheets_in before) sheet

-- where memory runs out nothing has changed, or the sheet has such a table with those of the forms that were made
pub record Begins (book : Book) (searching : ℕ → Bool) (sheet : ℕ) (parts : Parts) (before after : List SheetKept) : Type 0 where
  pub table : SheetForms
  pub own : table.sheet ≡ sheet
  pub given : table.parts ≡ parts
  pub grown : GoesOn book (all_forms before) table
  pub tables : all_forms after ≡ with_table searching (all_forms before) table

abbrev pub Stops : Book → (ℕ → Bool) → ℕ → Parts → List SheetKept → List SheetKept → Type 0
Stops book searching sheet parts before after = (after ≡ before) ⊎ Begins book searching sheet parts before after
