-- The form of a place depends on what it reaches: an edit changes the forms of touched places alone.
use Rattle.std.specs.Prelude.{◌≡◌, ◌↔◌, ℕ, Bool, true, List, Option, Some, Contains}
use Rattle.cell_refs.specs.declared.cell.Cell.{Cell}
use Rattle.formula_ast.specs.Tree.{Tree}
use Rattle.recalculation.specs.Entries.{Book, Formula}
use Rattle.recalculation.specs.Walks.{refers}
use Rattle.cell_refs.specs.declared.place.Place.{Place}
use Rattle.form_extraction.specs.Places.{Decisions, form_of}
use Rattle.form_extraction.specs.Looked.{side_form}
use Rattle.touched_places.specs.Touched.{Expressions, IsTouched}
use Rattle.touched_places.specs.Tests.{touches}
use Rattle.touched_places.specs.Alike.{AreAlikeIn, ComesBy, DifferAt, DifferAtOne, HasTree, IsUntouched, OfOthers, PlaceLooks, edited, form_at}

-- ---- tests
-- the test passes exactly the touched places
abbrev pub TouchesWhatIsTouched : Type 0
TouchesWhatIsTouched = (book : Book) (sides : Expressions) (to : Cell) (p : Place) → touches book sides to p ≡ true ↔ IsTouched book sides to p

-- ---- forms
-- the form of a cell depends on the cells alone that are reached from it
abbrev pub FormDependsOnReached : Type 0
FormDependsOnReached =
    (reached : Cell → Bool) (book other : Book) (decisions : Decisions) → AreAlikeIn (λ a. reached a ≡ true) book other decisions
    → (a : Cell) → reached a ≡ true → form_of book decisions a ≡ form_of other decisions a

-- so does that of a side
abbrev pub SideDependsOnReached : Type 0
SideDependsOnReached =
    (reached : Cell → Bool) (book other : Book) (decisions : Decisions) → AreAlikeIn (λ a. reached a ≡ true) book other decisions
    → (t : Tree) → ((b : Cell) → refers (Some (Formula t)) b ≡ true → reached b ≡ true) → side_form book decisions t ≡ side_form other decisions t

-- ---- edits of one cell
-- a text that is put into a cell or taken out of it changes what that cell says alone
abbrev pub TextsDifferAtOne : Type 0
TextsDifferAtOne = (book : Book) (to : Cell) (text : Option (List ℕ)) → DifferAtOne to book (record { texts = edited book.texts to text; says = book.says })

-- where two workbooks differ at one cell alone, each place that its edit doesn't touch has the same form
abbrev pub UntouchedKeepTheirForms : Type 0
UntouchedKeepTheirForms =
    (book other : Book) (decisions : Decisions) (sides : Expressions) (to : Cell) → DifferAtOne to book other → (p : Place) → ¬ (IsTouched book sides to p)
    → form_at book decisions sides p ≡ form_at other decisions sides p

-- where that cell is a decision cell each place has: its text counts for nothing
abbrev pub DecisionsSayNothing : Type 0
DecisionsSayNothing =
    (book other : Book) (decisions : Decisions) (sides : Expressions) (to : Cell) (j : ℕ) → decisions to ≡ Some j → DifferAtOne to book other → (p : Place)
    → form_at book decisions sides p ≡ form_at other decisions sides p

-- the same places are touched, whether references are those before the edit or behind it
abbrev pub TouchedBeforeAndBehind : Type 0
TouchedBeforeAndBehind = (book other : Book) (sides : Expressions) (to : Cell) → DifferAtOne to book other → (p : Place) → IsTouched book sides to p ↔ IsTouched other sides to p

-- ---- edits of several cells at once, as an edit of a name is
-- each place that none of them touches has the same form; those of decision cells count for nothing
abbrev pub SeveralEdits : Type 0
SeveralEdits =
    (book other : Book) (decisions : Decisions) (sides : Expressions) (edited : Cell → Bool) → DifferAt (λ c. edited c ≡ true) book other
    → (p : Place) → IsUntouched book sides (OfOthers decisions (λ c. edited c ≡ true)) p → form_at book decisions sides p ≡ form_at other decisions sides p

-- and looks at the same cells
abbrev pub UntouchedLookTheSame : Type 0
UntouchedLookTheSame =
    (book other : Book) (decisions : Decisions) (sides : Expressions) (edited : Cell → Bool) → DifferAt (λ c. edited c ≡ true) book other
    → (p : Place) (t : Tree) → HasTree book decisions sides p t → IsUntouched book sides (OfOthers decisions (λ c. edited c ≡ true)) p
    → (b : Cell) → PlaceLooks book decisions p t b ↔ PlaceLooks other decisions p t b

-- a place that none of them touches is touched by none behind them
abbrev pub UntouchedBehind : Type 0
UntouchedBehind =
    (book other : Book) (sides : Expressions) (edited : Cell → Bool) → DifferAt (λ c. edited c ≡ true) book other
    → (p : Place) → IsUntouched book sides (λ c. edited c ≡ true) p → IsUntouched other sides (λ c. edited c ≡ true) p

-- ---- edits one behind the other
abbrev pub EditsInARow : Type 0
EditsInARow =
    (book other : Book) (decisions : Decisions) (sides : Expressions) (cells : List Cell) → ComesBy cells book other
    → (p : Place) → IsUntouched book sides (OfOthers decisions (Contains cells)) p → form_at book decisions sides p ≡ form_at other decisions sides p
