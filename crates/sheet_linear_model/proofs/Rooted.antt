-- The places from which a model is made: those of a whole statement are there, and where nothing is refused each has a number.
use Rattle.std.specs.Prelude.{All, Contains, flat_map, is_some, option_to_list}
use Rattle.std.proofs.Common.{◌≡◌, refl, sym, ap, subst, ◌∙◌, arith, List, [], ◌∷◌, ◌++◌, map, Option, Some, None, option_map, ℕ}
use Rattle.std.specs.List.{AllByRecursion}
use Rattle.std.proofs.lemmas.List.Elements.{All-append, All-cons, All-from_recursion, All-nil, Contains-append_right, recursion_from_All}
use Rattle.cell_refs.specs.declared.cell.Cell.{Cell}
use Rattle.workbook.specs.Kinds.{book_of}
use Rattle.workbook.specs.State.{State}
use Rattle.cell_refs.specs.declared.place.Place.{Place}
use Rattle.cell_refs.specs.declared.place.Place.TheVariants as place
use Rattle.solver_names.specs.Answers.{row_of, statement_of}
use Rattle.solver_names.specs.Sides.{sides_in}
use Rattle.solver_names.specs.Statement.{RowOf, Statement}
use Rattle.solver_names.specs.declared.statements.RowOf.{RowOf as Row}
use Rattle.solver_names.specs.declared.statements.Statement.{Statement as Declared}
use Rattle.form_needs.specs.FromSheetProblems.{Sides}
use Rattle.form_needs.specs.FirstRefusal.{AllNumbers, IsRefusal}
use Rattle.form_needs.specs.Needed.{Asked, asked_of, roots_of}
use Rattle.form_needs.specs.declared.refusal.FormRefusal.{FormRefusal}
use Rattle.form_needs.proofs.Numbers.{forms_where_none_is_refused}
use Rattle.statement_laws.specs.Laws.{IsThere, IsWhole, RowIsThere}
use Rattle.kept_forms.specs.FromNeededCells.{IsRoot}
use Rattle.kept_forms.specs.FromExtractIncr.{Kept, asked_from}
use Rattle.commands.specs.Refusals.{PlaceIsListed}
use Rattle.sheet_linear_model.specs.Inner.{HasNumber, IsKeptFor, RowHasNumbers}

abbrev pub places : RowOf → List Place
places r = place.Cell r.left ∷ r.right ∷ []

-- ---- what holds of each root
module _ (P : Place → Type 0) (R : RowOf → Type 0) (row : (r : RowOf) → R r → P (place.Cell r.left) × P r.right) where
  of_rows : (rows : List RowOf) → AllByRecursion R rows → AllByRecursion P (flat_map places rows)
  of_rows [] h = tt
  of_rows (r ∷ rows) h = ((row r h.0).0, ((row r h.0).1, of_rows rows h.1))

  of_objective : (o : Option Cell) → ((c : Cell) → o ≡ Some c → P (place.Cell c)) → All P (option_to_list (option_map (λ c. place.Cell c) o))
  of_objective None h = All-nil P
  of_objective (Some c) h = All-cons P (place.Cell c) [] (h c refl) (All-nil P)

  each_root : (s : Statement) → ((c : Cell) → s.objective ≡ Some c → P (place.Cell c)) → All R s.rows → All P (roots_of s)
  each_root s objective rows =
      All-append P (option_to_list (option_map (λ c. place.Cell c) s.objective)) (flat_map places s.rows) (of_objective s.objective objective)
      (All-from_recursion P (flat_map places s.rows) (of_rows s.rows (recursion_from_All R s.rows rows)))

there_root : (sheets : List (List ℕ)) (sides : Sides) (p : Place) → IsThere sheets sides p → IsRoot sides p
there_root sheets sides (place.Cell c) h = tt
there_root sheets sides (place.Side k) h = h

there_listed : (book : State) (sides : Sides) (p : Place) → IsThere book.sheets sides p → PlaceIsListed book.sheets p
there_listed book sides (place.Cell c) h = h
there_listed book sides (place.Side k) h = tt

-- each root of a whole statement can be one, and lies on a sheet
pub roots_are_roots : (book : State) (s : Statement) → IsWhole book s → All (IsRoot (sides_in book s.sheet)) (roots_of s)
roots_are_roots book s h =
    each_root (IsRoot (sides_in book s.sheet)) (RowIsThere book.sheets (sides_in book s.sheet)) (λ r there. (tt, there_root book.sheets (sides_in book s.sheet) r.right there.right)) s (λ c e. tt) h.rows

pub roots_are_listed : (book : State) (s : Statement) → IsWhole book s → All (PlaceIsListed book.sheets) (roots_of s)
roots_are_listed book s h =
    each_root (PlaceIsListed book.sheets) (RowIsThere book.sheets (sides_in book s.sheet)) (λ r there. (there.left, there_listed book (sides_in book s.sheet) r.right there.right)) s h.objective h.rows

-- ---- what is asked
abbrev asked : State → Sides → List Cell → List Place → Asked
asked book sides decisions roots = record { book = book_of book; sides = sides; decisions = decisions; roots = roots }

-- over what is kept for a statement it is asked of the statement
module _ (book : State) (s : Statement) (k : Kept) (roots : List Place) (h : IsKeptFor book s k) (e : roots ≡ roots_of s) where
  asked_same : asked_from (book_of book) k roots ≡ asked_of book s
  asked_same =
      ap (λ (sides : Sides). asked book sides k.decisions roots) h.sides
      ∙ ap (λ (decisions : List Cell). asked book (sides_in book s.sheet) decisions roots) h.decisions
      ∙ ap (λ (roots : List Place). asked book (sides_in book s.sheet) s.decisions roots) e

  pub refusal_for : (r : Option FormRefusal) → IsRefusal (asked_from (book_of book) k roots) r → IsRefusal (asked_of book s) r
  refusal_for r i = subst (λ (q : Asked). IsRefusal q r) asked_same i

  pub kept_roots : IsWhole book s → All (IsRoot k.sides) roots
  kept_roots w =
      subst (λ (sides : Sides). All (IsRoot sides) roots) (sym h.sides) (subst (λ (roots : List Place). All (IsRoot (sides_in book s.sheet)) roots) (sym e) (roots_are_roots book s w))

-- ---- numbers
root_number : (book : State) (s : Statement) → AllNumbers (asked_of book s) → (p : Place) → Contains (roots_of s) p → HasNumber book s p
root_number book s all p i = ap is_some (forms_where_none_is_refused (asked_of book s) all p i).1

objective_root : (o : Option Cell) (rest : List Place) (c : Cell) → o ≡ Some c → Contains (option_to_list (option_map (λ c. place.Cell c) o) ++ rest) (place.Cell c)
objective_root None rest c h = cc
objective_root (Some d) rest c h = let same : d ≡ c = cc in (0, omega arith, ap place.Cell same)

pub objective_has_number : (book : State) (s : Statement) → AllNumbers (asked_of book s) → (c : Cell) → s.objective ≡ Some c → HasNumber book s (place.Cell c)
objective_has_number book s all c e = root_number book s all (place.Cell c) (objective_root s.objective (flat_map places s.rows) c e)

module _ (book : State) (s : Statement) where
  rows_numbered : (rows : List Row) → ((p : Place) → Contains (flat_map places (map row_of rows)) p → HasNumber book s p) → AllByRecursion (λ row. RowHasNumbers book s (row_of row)) rows
  rows_numbered [] h = tt
  rows_numbered (r ∷ rows) h =
      let left : HasNumber book s (place.Cell r.left) = h (place.Cell r.left) (0, omega arith, refl) in
      let right : HasNumber book s r.right = h r.right (1, omega arith, refl) in
      (record { left = left; right = right }, rows_numbered rows (λ p i. h p (Contains-append_right (places (row_of r)) (flat_map places (map row_of rows)) p i)))

pub rows_have_numbers : (book : State) (of : Declared) → AllNumbers (asked_of book (statement_of of)) → All (λ row. RowHasNumbers book (statement_of of) (row_of row)) of.rows.items
rows_have_numbers book of all =
    let s : Statement = statement_of of in
    All-from_recursion (λ row. RowHasNumbers book s (row_of row)) of.rows.items (rows_numbered book s of.rows.items
    (λ p i. root_number book s all p (Contains-append_right (option_to_list (option_map (λ c. place.Cell c) s.objective)) (flat_map places s.rows) p i)))
