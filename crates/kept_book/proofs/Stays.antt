-- Cells that say what they said before an edit.
use Rattle.std.proofs.Common.{◌≡◌, ◌∙◌, cond, List, [], ◌∷◌, ℕ, map, Option, Some, None, ap, refl, sym, subst}
use Rattle.std.specs.Prelude.{Contains, option_map, zip}
use Rattle.std.specs.FinMap.{get, get-insert, insert}
use Rattle.cell_refs.specs.declared.cell.Cell.{Cell}
use Rattle.cell_refs.proofs.Order.{cells_total}
use Rattle.fractions.specs.Rational.{ℚ}
use Rattle.linear_models.specs.Model.{Model}
use Rattle.recalculation.specs.Entries.{Contents, entry}
use Rattle.workbook.specs.Edits.{after_set}
use Rattle.workbook.specs.Kinds.{book_of, says}
use Rattle.workbook.specs.Naming.{SayOtherwise}
use Rattle.workbook.specs.Several.{with_texts}
use Rattle.workbook.specs.State.{State}
use Rattle.touched_places.specs.Alike.{DifferAt}
use Rattle.touched_places.proofs.Edited.{apart, texts_differ_at_one}
use Rattle.sheet_solving.specs.FromWriteBack.{number_text, with_numbers}
use Rattle.dep_table.specs.References.{AreReferencesOf, References, areas_said}
use Rattle.solver_names.specs.Statement.{Statement}
use Rattle.sheet_solving.specs.Searches.{Opened, Task}
use Rattle.sheet_solving.specs.Solving.{Slices, Solves}
use Rattle.commands.specs.declared.answer.Answer.{Answer}
use Rattle.commands.specs.declared.answer.Answer.TheVariants as answer
use Rattle.kept_book.specs.Kept.{written_cells}
use Rattle.kept_book.specs.References.{AreKept, AreKeptBut}
use Rattle.kept_book.proofs.ReferenceLaws.{first, later}

-- each cell but these says what it said
abbrev pub Stay : List Cell → State → State → Type 0
Stay cells before after = DifferAt (Contains cells) (book_of before) (book_of after)

-- references that are kept are then those of all cells but these
pub kept_but : (old : Option References) (r : References) (before after : State) (cells : List Cell) → old ≡ Some r → AreKept old before → Stay cells before after → AreKeptBut cells after r
kept_but old r before after cells e kept stay a n =
    let right : AreReferencesOf r (book_of before) = subst (λ (o : Option References). AreKept o before) e kept in
    right a ∙ ap areas_said (stay a n)

pub all_stay : (before after : State) (cells : List Cell) → after ≡ before → Stay cells before after
all_stay before after cells e a n = sym (ap (λ (s : State). entry (book_of s) a) e)

-- ---- edits
set_one : (before : State) (cell : Cell) (text : List ℕ) (a : Cell) → ¬ (Contains (cell ∷ []) a) → entry (book_of before) a ≡ entry (book_of (after_set before cell text)) a
set_one before cell [] a n = texts_differ_at_one (book_of before) cell None a (λ e. n (first cell a [] (sym e)))
set_one before cell (b ∷ text) a n = texts_differ_at_one (book_of before) cell (Some (b ∷ text)) a (λ e. n (first cell a [] (sym e)))

pub once_set : (before after : State) (cell : Cell) (text : List ℕ) → after ≡ after_set before cell text → Stay (cell ∷ []) before after
once_set before after cell text e a n = set_one before cell text a n ∙ ap (λ (s : State). entry (book_of s) a) (sym e)

pub once_named : (before after : State) (cells : List Cell) → SayOtherwise before after cells → Stay cells before after
once_named before after cells h a n = sym (h.others a n)

-- ---- numbers that are written
untouched : (cells : List Cell) (texts : List (List ℕ)) (m : Contents) (c : Cell) → ¬ (Contains cells c) → get (with_texts m (zip cells texts)) c ≡ get m c
untouched [] texts m c n = refl
untouched (a ∷ cells) [] m c n = refl
untouched (a ∷ cells) (t ∷ texts) m c n =
    untouched cells texts (insert m a t) c (λ h. n (later a c cells h))
    ∙ get-insert cells_total m a t c
    ∙ ap (λ b. cond b (Some t) (get m c)) (apart c a (λ e. n (first a c cells (sym e))))

once_written : (before after : State) (cells : List Cell) (numbers : List ℚ) → after ≡ with_numbers before cells numbers → Stay cells before after
once_written before after cells numbers e a n =
    sym
    (ap (λ (s : State). entry (book_of s) a) e
    ∙ ap (option_map (says before.sheets before.names a)) (untouched cells (map number_text numbers) before.contents a n))

-- ---- ends of searches
module _ (task : Task) (before after : State) (s : Statement) (m : Model) where
  pub once_solved : (a : Answer) → Solves task before s m a after → Stay (written_cells a s.decisions) before after
  once_solved (answer.Optimal value) h = once_written before after s.decisions h.1 h.4.written
  once_solved answer.Infeasible h = all_stay before after [] h.3
  once_solved answer.Unbounded h = all_stay before after [] h.5
  once_solved (answer.WidePivot path basis leaves enters) h = all_stay before after [] h.2
  once_solved (answer.Budget n) h = all_stay before after [] h.4
  once_solved (answer.NoRoom cell) h = all_stay before after [] h.5
  once_solved _ h = absurd h

  pub once_sliced : (a : Answer) (search : Opened) → Slices task before s m a search after → Stay (written_cells a s.decisions) before after
  once_sliced (answer.More n) search h = all_stay before after [] h.6
  once_sliced a search h = once_solved a h
