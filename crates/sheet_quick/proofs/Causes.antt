-- Why there is no quick model, step by step, and what there is where nothing stops.
use Rattle.std.proofs.Common.{◌≡◌, ℕ, List, length, Some, None, Err, sym, ap, subst, ◌∙◌}
use Rattle.std.specs.Prelude.{All}
use Rattle.std.specs.List.{AllZip}
use Rattle.fractions.specs.Rational.{zero_ℚ}
use Rattle.affine_forms.specs.Forms.{AffineForm, constant_form}
use Rattle.cell_refs.specs.declared.cell.Cell.{Cell}
use Rattle.workbook.specs.Kinds.{book_of}
use Rattle.workbook.specs.Listed.{TextsAreListed}
use Rattle.workbook.specs.State.{State}
use Rattle.cell_refs.specs.declared.place.Place.{Place}
use Rattle.cell_refs.specs.declared.place.Place.TheVariants as place
use Rattle.solver_names.specs.Sides.{sides_in}
use Rattle.solver_names.specs.Statement.{Statement}
use Rattle.form_needs.specs.FromSheetProblems.{HasForm, HasSides, conditions_of}
use Rattle.form_needs.specs.FromSheetProblems.{Sides}
use Rattle.form_needs.specs.FirstRefusal.{AllNumbers, FirstRefusal}
use Rattle.form_needs.specs.Needed.{asked_of, roots_of}
use Rattle.form_needs.specs.declared.refusal.FormRefusal.{FormRefusal}
use Rattle.open_forms.specs.FromExtractIncr.{IsRoot}
use Rattle.open_forms.specs.FromExtractIncr.{Kept}
use Rattle.commands.specs.Refusals.{PlaceIsListed}
use Rattle.open_forms.specs.FromSheetLinearModel.{IsKeptFor}
use Rattle.sheet_quick.proofs.RefusedPlaces.{refusal_is_listed, refusal_is_right}
use Rattle.parameter_laws.specs.Statements.{FitsOver}
use Rattle.parameter_problems.specs.Opened.{opened}
use Rattle.parameter_problems.proofs.Fitting.{open_forms_fit}
use Rattle.sheet_quick.specs.Inner.{FormsOr, HaveNumbers, IsQuickOf, IsStated, ParametersOr}
use Rattle.sheet_quick.specs.Opened.{SheetQuick}
use Rattle.sheet_quick.specs.Opening.{AreNamed, AreParameters, CauseIsListed, HasNoQuick, IsOpened}
use Rattle.sheet_quick.specs.Parameters.{values_in}
use Rattle.sheet_quick.specs.declared.stops.NoQuick.{NoQuick}
use Rattle.sheet_quick.specs.declared.stops.NoQuick.TheVariants as none

-- ---- causes
pub by_parameters : (book : State) (sheet : ℕ) (text : List ℕ) (s : Statement) (cells : List Cell) (e : NoQuick) → AreNamed book sheet text s cells
    → ParametersOr (book_of book) s.decisions cells (Err e) → HasNoQuick book sheet text e
by_parameters book sheet text s cells (none.NotParameter c) named h = (s, cells, named, h)
by_parameters book sheet text s cells (none.TooManyParameters n) named h = (s, cells, named, h.0, h.1, h.2)
by_parameters book sheet text s cells none.Memory named h = tt
by_parameters book sheet text s cells none.BadReference named h = absurd h
by_parameters book sheet text s cells (none.Names fault) named h = absurd h
by_parameters book sheet text s cells (none.Form r) named h = absurd h

pub by_forms : (book : State) (sheet : ℕ) (text : List ℕ) (s : Statement) (cells : List Cell) (e : NoQuick) → AreParameters book sheet text s cells
    → FormsOr book (opened s cells) (Err e) → HasNoQuick book sheet text e
by_forms book sheet text s cells (none.Form r) are h = (s, cells, are, h.0, h.1)
by_forms book sheet text s cells none.Memory are h = tt
by_forms book sheet text s cells none.BadReference are h = absurd h
by_forms book sheet text s cells (none.Names fault) are h = absurd h
by_forms book sheet text s cells (none.NotParameter c) are h = absurd h
by_forms book sheet text s cells (none.TooManyParameters n) are h = absurd h

-- ---- forms
-- the roots of a statement are those over what is kept for it
pub kept_roots : (book : State) (s : Statement) (k : Kept) (roots : List Place) → IsKeptFor book s k → roots ≡ roots_of s → All (IsRoot (sides_in book s.sheet)) (roots_of s) → All (IsRoot k.sides) roots
kept_roots book s k roots kept e there =
    subst (λ (sides : Sides). All (IsRoot sides) roots) (sym kept.sides) (subst (λ (roots : List Place). All (IsRoot (sides_in book s.sheet)) roots) (sym e) there)

-- a refusal is right, and its cells lie on the sheets
pub refused : (book : State) (s : Statement) (r : FormRefusal) → FirstRefusal (asked_of book s) r → FormsOr book s (Err (none.Form r))
refused book s r h = (h, refusal_is_right (asked_of book s) r h)

pub refused_listed : (book : State) (s : Statement) (r : FormRefusal) → All (PlaceIsListed book.sheets) (roots_of s) → TextsAreListed book → FirstRefusal (asked_of book s) r
    → CauseIsListed book.sheets (none.Form r)
refused_listed book s r roots texts h = refusal_is_listed book s roots texts r h

pub have_numbers : (book : State) (s : Statement) (objective : AffineForm) (sides : List (AffineForm × AffineForm)) → AllNumbers (asked_of book s)
    → ((c : Cell) → s.objective ≡ Some c → HasForm (book_of book) (sides_in book s.sheet) s.decisions (place.Cell c) objective) → (s.objective ≡ None → objective ≡ constant_form zero_ℚ)
    → AllZip (HasSides (book_of book) (sides_in book s.sheet) s.decisions) s.rows sides → HaveNumbers book s objective sides
have_numbers book s objective sides all form nothing rows = record { numbers = all; forms = record { objective = form; rows = rows }; none = nothing }

-- ---- the quick model
-- forms over decisions and parameters fit
pub they_fit : (book : State) (s : Statement) (parameters : List Cell) (objective : AffineForm) (sides : List (AffineForm × AffineForm)) → IsStated book s
    → HaveNumbers book (opened s parameters) objective sides → FitsOver (length parameters) (conditions_of s) objective sides
they_fit book s parameters objective sides is have = open_forms_fit book s.sheet s parameters objective sides is.stated have.forms

-- what has been opened
pub is_opened : (book : State) (sheet : ℕ) (text : List ℕ) (s : Statement) (parameters : List Cell) (objective : AffineForm) (sides : List (AffineForm × AffineForm)) (q : SheetQuick)
    → AreParameters book sheet text s parameters → HaveNumbers book (opened s parameters) objective sides → IsQuickOf book s parameters q → IsOpened book sheet text q
is_opened book sheet text s parameters objective sides q are have is = record {
  parameters = subst (λ (t : Statement). AreParameters book sheet text t q.parameters) (sym is.statement) (subst (AreParameters book sheet text s) (sym is.parameters) are);
  numbers =
      subst (λ (t : Statement). AllNumbers (asked_of book (opened t q.parameters))) (sym is.statement)
      (subst (λ (p : List Cell). AllNumbers (asked_of book (opened s p))) (sym is.parameters) have.numbers);
  forms = is.forms;
  values = is.values ∙ ap (values_in (book_of book)) (sym is.parameters);
}
