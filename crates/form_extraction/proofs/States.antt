-- Cells whose form needs no formula.
use Rattle.std.specs.Prelude.{is_some, not, ◌&&◌}
use Rattle.std.proofs.Common.{◌≡◌, refl, sym, ap, ◌∙◌, Bool, true, true≢false, if◌then◌else◌, Option, Some, None, ℕ, length}
use Rattle.std.specs.FinMap.{keys}
use Rattle.cell_refs.specs.declared.cell.Cell.{Cell}
use Rattle.recalculation.specs.Entries.{Book, entry}
use Rattle.recalculation.specs.Walks.{has_walk, is_formula, steps_to, is_circular}
use Rattle.recalculation.proofs.Lists.{first_true, second_true}
use Rattle.form_extraction.specs.declared.forms.CellForm.TheVariants.{Circular}
use Rattle.form_extraction.specs.Laws.{DecisionIsItself, CircleIsCircular, MalformedIsMalformed}
use Rattle.form_extraction.specs.Looked.{forms_of}
use Rattle.form_extraction.specs.Places.{Decisions, entry_form, decision_or}
use Rattle.form_extraction.proofs.Agreeing.{form_is}

pub decision_is_itself : DecisionIsItself
decision_is_itself book decisions a j h =
    form_is book decisions a ∙ ap (λ d. decision_or d (if is_circular book (λ b. is_some (decisions b)) a then Circular else entry_form (forms_of book decisions) (entry book a))) h

module _ (book : Book) (decisions : Decisions) (a : Cell) where
  abbrev walks : Bool
  walks = has_walk (keys book.texts) (steps_to book (λ b. is_some (decisions b))) (length (keys book.texts)) a

  -- a circular cell isn't to be decided
  no_decision : is_circular book (λ b. is_some (decisions b)) a ≡ true → decisions a ≡ None
  no_decision h = by (decisions a) (first_true (not (is_some (decisions a))) walks (second_true (is_formula (entry book a)) (not (is_some (decisions a)) && walks) h))
    where
      by : (d : Option ℕ) → not (is_some d) ≡ true → d ≡ None
      by None h = refl
      by (Some j) h = absurd (true≢false (sym h))

pub circle_is_circular : CircleIsCircular
circle_is_circular book decisions a h =
    form_is book decisions a
    ∙ ap (λ d. decision_or d (if is_circular book (λ b. is_some (decisions b)) a then Circular else entry_form (forms_of book decisions) (entry book a))) (no_decision book decisions a h)
    ∙ ap (λ w. if w then Circular else entry_form (forms_of book decisions) (entry book a)) h

pub malformed_is_malformed : MalformedIsMalformed
malformed_is_malformed book decisions a d h =
    form_is book decisions a
    ∙ ap (λ d. decision_or d (if is_circular book (λ b. is_some (decisions b)) a then Circular else entry_form (forms_of book decisions) (entry book a))) d
    ∙ ap (λ e. if is_formula e && (not (is_some (decisions a)) && walks book decisions a) then Circular else entry_form (forms_of book decisions) e) h
