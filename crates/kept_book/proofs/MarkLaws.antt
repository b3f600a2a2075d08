-- Marks of several cells, one behind the other.
use Rattle.std.specs.Prelude.{◌||◌, if◌then◌else◌}
use Rattle.std.proofs.Common.{◌≡◌, ◌∙◌, Bool, true, false, List, [], ◌∷◌, Option, None, ap, ap₂, refl, sym}
use Rattle.cell_refs.specs.declared.cell.Cell.{Cell}
use Rattle.recalculation.specs.Entries.{Book}
use Rattle.sheet_solving.specs.FromKeptMarks.{marks, marks_all}
use Rattle.sheet_solving.specs.FromKeptTables.{SheetForms, all_marked, decisions_of, expressions_of, marked_in}

-- with no cell nothing is marked
none_in : (book : Book) (t : SheetForms) → marked_in book [] t ≡ t
none_in book t = refl

pub none_marked : (book : Book) (tables : List SheetForms) → all_marked book [] tables ≡ tables
none_marked book [] = refl
none_marked book (t ∷ tables) = ap₂ (λ u us. u ∷ us) (none_in book t) (none_marked book tables)

-- the first cell is marked, and then the others
row_one : {X : Type 0} (first later : Bool) (o : Option X) → (if first || later then None else o) ≡ (if later then None else if first || false then None else o)
row_one true true o = refl
row_one true false o = refl
row_one false true o = refl
row_one false false o = refl

row_in : (book : Book) (cell : Cell) (cells : List Cell) (t : SheetForms) → marked_in book (cell ∷ cells) t ≡ marked_in book cells (marked_in book (cell ∷ []) t)
row_in book cell cells t i = record {
  sheet = t.sheet;
  parts = t.parts;
  kept = λ p. row_one (marks book (decisions_of t.parts) (expressions_of t.parts) cell p) (marks_all book (decisions_of t.parts) (expressions_of t.parts) cells p) (t.kept p) i;
}

pub row_marked : (book : Book) (cell : Cell) (cells : List Cell) (tables : List SheetForms) → all_marked book (cell ∷ cells) tables ≡ all_marked book cells (all_marked book (cell ∷ []) tables)
row_marked book cell cells [] = refl
row_marked book cell cells (t ∷ tables) = ap₂ (λ u us. u ∷ us) (row_in book cell cells t) (row_marked book cell cells tables)

-- ---- a loop over cells
-- with the first cell marked, the others are left to mark
pub marks_step : (book : Book) (cell : Cell) (cells : List Cell) (tables after all : List SheetForms) → all_marked book (cell ∷ cells) tables ≡ all → after ≡ all_marked book (cell ∷ []) tables
    → all_marked book cells after ≡ all
marks_step book cell cells tables after all h e = ap (all_marked book cells) e ∙ sym (row_marked book cell cells tables) ∙ h
