-- What is kept stays right while cells are edited, where the touched places are dropped.
use Rattle.std.specs.Prelude.{◌≡◌, List, Contains}
use Rattle.cell_refs.specs.declared.cell.Cell.{Cell}
use Rattle.recalculation.specs.Entries.{Book}
use Rattle.cell_refs.specs.declared.place.Place.{Place}
use Rattle.needed_forms.specs.FromFormExtraction.{numbered_in}
use Rattle.kept_marks.specs.FromTouchedPlaces.{DifferAt}
use Rattle.kept_marks.specs.Marks.{marks_all, without_marked}
use Rattle.needed_forms.specs.FromExtract.{form_at}
use Rattle.needed_forms.specs.FromSheetProblems.{tree_of}
use Rattle.extract_incr.specs.Keeping.{AreKept, Kept}

-- of what was kept the forms of the marked places are gone, by the references behind the edits, and no others
pub record IsWithoutMarked (book : Book) (cells : List Cell) (before after : Kept) : Type 0 where
  pub decisions : after.decisions ≡ before.decisions
  pub sides : after.sides ≡ before.sides
  pub forms : (p : Place) → form_at after.table p ≡ without_marked (marks_all book (numbered_in before.decisions) (tree_of before.sides) cells) (form_at before.table) p

-- where edited cells are marked, what is kept is right in the workbook behind the edits
abbrev pub EditsLeaveKept : Type 0
EditsLeaveKept = (book other : Book) (cells : List Cell) (before after : Kept) → DifferAt (Contains cells) book other → AreKept book before → IsWithoutMarked other cells before after → AreKept other after
