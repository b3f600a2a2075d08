-- Workbooks that say the same of some cells, and the forms of their places.
use Rattle.std.specs.Prelude.{◌≡◌, ℕ, true, List, [], ◌∷◌, Option, Some, None, is_some, option_map}
use Rattle.std.specs.FinMap.{insert, remove}
use Rattle.cell_refs.specs.declared.cell.Cell.{Cell}
use Rattle.formula_ast.specs.Tree.{Tree}
use Rattle.recalculation.specs.Entries.{Book, Contents, Formula, entry}
use Rattle.recalculation.specs.Walks.{is_circular, refers}
use Rattle.cell_refs.specs.declared.place.Place.{Place}
use Rattle.cell_refs.specs.declared.place.Place.TheVariants as place
use Rattle.form_extraction.specs.declared.forms.CellForm.{CellForm}
use Rattle.form_extraction.specs.Places.{Decisions, form_of}
use Rattle.form_extraction.specs.Looked.{LooksFrom, forms_of, refers_to_circle, side_form}
use Rattle.touched_places.specs.Touched.{Expressions, IsTouched}

-- the form of a cell or of a side; none where there is no such side
abbrev pub form_at : Book → Decisions → Expressions → Place → Option CellForm
form_at book decisions sides (place.Cell c) = Some (form_of book decisions c)
form_at book decisions sides (place.Side k) = option_map (side_form book decisions) (sides k)

-- a tree is that of the formula in a cell that isn't to be decided, or a side's
abbrev pub HasTree : Book → Decisions → Expressions → Place → Tree → Type 0
HasTree book decisions sides (place.Cell a) t = (decisions a ≡ None) × (entry book a ≡ Some (Formula t))
HasTree book decisions sides (place.Side k) t = sides k ≡ Some t

-- a place with this tree looks at a cell, whether that has a text or not; in a circle at each to which it refers
abbrev pub PlaceLooks : Book → Decisions → Place → Tree → Cell → Type 0
PlaceLooks book decisions (place.Cell a) t b = LooksFrom (is_circular book (λ c. is_some (decisions c)) a) (forms_of book decisions) (Some (Formula t)) b
PlaceLooks book decisions (place.Side k) t b = LooksFrom (refers_to_circle book (λ c. is_some (decisions c)) t) (forms_of book decisions) (Some (Formula t)) b

-- P holds of a cell to which one in P refers, and two workbooks say the same in P; a decision cell counts as one that says nothing
pub record AreAlikeIn (P : Cell → Type 0) (book other : Book) (decisions : Decisions) : Type 0 where
  pub leads : (a b : Cell) → P a → decisions a ≡ None → refers (entry book a) b ≡ true → P b
  pub entries : (a : Cell) → P a → decisions a ≡ None → entry book a ≡ entry other a

-- ---- edits
-- two workbooks say the same of each cell that isn't edited
abbrev pub DifferAt : (Cell → Type 0) → Book → Book → Type 0
DifferAt Edited book other = (c : Cell) → ¬ (Edited c) → entry book c ≡ entry other c

-- of each cell but one
abbrev pub DifferAtOne : Cell → Book → Book → Type 0
DifferAtOne to = DifferAt (λ c. c ≡ to)

-- the texts with one put into a cell, or taken out of it
abbrev pub edited : Contents → Cell → Option (List ℕ) → Contents
edited texts to None = remove texts to
edited texts to (Some text) = insert texts to text

-- one workbook comes from the other by edits of some cells, one behind the other
abbrev pub ComesBy : List Cell → Book → Book → Type 0
ComesBy [] book other = (c : Cell) → entry book c ≡ entry other c
ComesBy (to ∷ cells) book other = (between : Book) × DifferAtOne to book between × ComesBy cells between other

-- no edit of these cells touches a place
abbrev pub IsUntouched : Book → Expressions → (Cell → Type 0) → Place → Type 0
IsUntouched book sides Edited p = (to : Cell) → Edited to → ¬ (IsTouched book sides to p)

-- but for edits of decision cells
abbrev pub OfOthers : Decisions → (Cell → Type 0) → Cell → Type 0
OfOthers decisions Edited c = Edited c × (decisions c ≡ None)
