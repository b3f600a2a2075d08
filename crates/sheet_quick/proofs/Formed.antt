-- Forms that are made for a statement with whatever decision cells, and kept in no table.
use Rattle.std.proofs.Common.{◌≡◌, List, ap, ◌∙◌}
use Rattle.cell_refs.specs.declared.cell.Cell.{Cell}
use Rattle.workbook.specs.Kinds.{book_of}
use Rattle.workbook.specs.State.{State}
use Rattle.solver_names.specs.Sides.{sides_in}
use Rattle.solver_names.specs.Statement.{Statement}
use Rattle.form_needs.specs.FromSheetProblems.{Sides}
use Rattle.open_forms.specs.FromExtractIncr.{AllAreKept, Kept}
use Rattle.open_forms.specs.FromKeptForms.{Parts, parts_of}
use Rattle.open_forms.specs.FromSheetLinearModel.{IsKeptFor}
use Rattle.open_forms.proofs.FromSheetLinearModel.{kept_for}

abbrev parts : List Cell → Sides → Parts
parts decisions sides = record { decisions = decisions; sides = sides }

pub made_for : (book : State) (s : Statement) (k : Kept) (sides : Sides) → parts_of k ≡ record { decisions = s.decisions; sides = sides } → sides ≡ sides_in book s.sheet
    → AllAreKept (book_of book) k → IsKeptFor book s k
made_for book s k sides e is all = kept_for book s k (e ∙ ap (λ (sides : Sides). parts s.decisions sides) is) all
