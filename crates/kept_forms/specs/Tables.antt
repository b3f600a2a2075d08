-- The forms that are kept of several sheets, and of which sheets.
use Rattle.std.specs.Prelude.{ℕ, ◌==◌, ◌≤◌, Bool, false, List, map, find, length, Option, Some, None, option_map, slice_index_or}
use Rattle.std.specs.List.{IsDistinct}
use Rattle.extract_incr.specs.FromExtract.{form_at}
use Rattle.extract_incr.specs.Keeping.{Kept}
use Rattle.kept_tables.specs.Settled.{Parts, SheetForms}
use Rattle.kept_tables.specs.Tables.{MOST_TABLES}

-- the forms that are kept of a sheet
pub record SheetKept : Type 0 where
  pub sheet : ℕ
  pub kept : Kept

-- what the names of the sheet gave
abbrev pub parts_of : Kept → Parts
parts_of k = record { decisions = k.decisions; sides = k.sides }

-- the same with the forms by their places
abbrev pub forms_in : SheetKept → SheetForms
forms_in t = record { sheet = t.sheet; parts = parts_of t.kept; kept = form_at t.kept.table }

abbrev pub all_forms : List SheetKept → List SheetForms
all_forms tables = map forms_in tables

abbrev pub sheets_in : List SheetKept → List ℕ
sheets_in tables = map (λ (t : SheetKept). t.sheet) tables

-- at most eight tables, and no two of one sheet
pub record AreTables (tables : List SheetKept) : Type 0 where
  pub few : length (sheets_in tables) ≤ MOST_TABLES
  pub one_each : IsDistinct (λ s t. s == t) (sheets_in tables)

-- what is kept of a sheet, where something is
abbrev pub kept_of : List SheetKept → ℕ → Option Kept
kept_of tables sheet = option_map (λ (t : SheetKept). t.kept) (find (λ (t : SheetKept). t.sheet == sheet) tables)

-- the forms of a sheet that were settled: those made for the command alone, or else those that are kept
abbrev pub settled_of : List SheetKept → ℕ → Option Kept → Option Kept
settled_of tables sheet (Some once) = Some once
settled_of tables sheet None = kept_of tables sheet

-- whether a sheet has an open search, by a list with a place for each sheet
abbrev pub is_searching : List Bool → ℕ → Bool
is_searching searching sheet = slice_index_or searching sheet false
