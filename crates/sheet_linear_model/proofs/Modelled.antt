-- The linear model of what is stated.
use Rattle.std.specs.Prelude.{Err}
use Rattle.std.proofs.Common.{◌≡◌, sym, subst, List, Some, None, ℕ}
use Rattle.std.specs.List.{AllZip}
use Rattle.fractions.specs.Rational.{zero_ℚ}
use Rattle.affine_forms.specs.Forms.{AffineForm, constant_form}
use Rattle.cell_refs.specs.declared.cell.Cell.{Cell}
use Rattle.linear_models.specs.Agreement.{Fits}
use Rattle.linear_models.specs.Linear.{linear}
use Rattle.linear_models.specs.Model.{Model}
use Rattle.workbook.specs.Kinds.{book_of}
use Rattle.workbook.specs.State.{State}
use Rattle.cell_refs.specs.declared.place.Place.TheVariants as place
use Rattle.solver_names.specs.Sides.{sides_in}
use Rattle.solver_names.specs.Statement.{Statement}
use Rattle.form_needs.specs.FirstRefusal.{AllNumbers}
use Rattle.form_needs.specs.Needed.{asked_of}
use Rattle.form_needs.specs.FromSheetProblems.{HasForm, HasSides, conditions_of}
use Rattle.form_needs.specs.FromSheetProblems.{ModelIsTheSheet}
use Rattle.form_needs.proofs.FromSheetProblems.{forms_fit}
use Rattle.form_needs.proofs.FromSheetProblems.{linear_model_is_the_sheet}
use Rattle.commands.specs.declared.answer.Answer.TheVariants as answer
use Rattle.sheet_linear_model.specs.Answers.{Prepares, StopIsListed}
use Rattle.sheet_linear_model.specs.Inner.{IsModelled, IsStatement}
use Rattle.sheet_linear_model.specs.Prepared.{HaveForms, rows_of}
use Rattle.sheet_linear_model.specs.declared.prepared.NoModel.{NoModel}
use Rattle.sheet_linear_model.specs.declared.prepared.NoModel.TheVariants as none

-- what is stated, with its forms
pub have_forms : (book : State) (s : Statement) (objective : AffineForm) (sides given : List (AffineForm × AffineForm)) → IsStatement book s → AllNumbers (asked_of book s)
    → ((c : Cell) → s.objective ≡ Some c → HasForm (book_of book) (sides_in book s.sheet) s.decisions (place.Cell c) objective) → (s.objective ≡ None → objective ≡ constant_form zero_ℚ)
    → AllZip (HasSides (book_of book) (sides_in book s.sheet) s.decisions) s.rows sides → given ≡ sides → HaveForms book s.sheet s objective given
have_forms book s objective sides given is all form none rows e =
    subst (λ (x : List (AffineForm × AffineForm)). HaveForms book s.sheet s objective x) (sym e)
    (record { stated = is.stated; numbers = all; forms = record { objective = form; rows = rows }; none = none })

module _ (book : State) (sheet : ℕ) (s : Statement) (objective : AffineForm) (sides : List (AffineForm × AffineForm)) (h : HaveForms book sheet s objective sides) where
  pub have_fit : Fits (conditions_of s) objective sides
  have_fit = forms_fit book sheet s objective sides h.stated h.forms

  pub model_is_the_sheet : (m : Model) → m ≡ linear (rows_of s objective sides) → ModelIsTheSheet book s m
  model_is_the_sheet m e = subst (λ (m : Model). ModelIsTheSheet book s m) (sym e) (linear_model_is_the_sheet book sheet s objective sides h.stated h.forms)

  pub stop_prepares : (e : NoModel) → IsModelled (rows_of s objective sides) (Err e) → Prepares book sheet (Err e)
  stop_prepares (none.Refused (answer.WideRow k)) m = record { statement = s; objective = objective; sides = sides; forms = h; wide = m }
  stop_prepares (none.Refused _) m = absurd m
  stop_prepares none.Memory m = tt

  pub stop_said : (e : NoModel) → IsModelled (rows_of s objective sides) (Err e) → StopIsListed book e
  stop_said (none.Refused (answer.WideRow k)) m = tt
  stop_said (none.Refused _) m = absurd m
  stop_said none.Memory m = tt
