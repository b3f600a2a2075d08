-- What comes of a value that is given to a parameter.
use Rattle.std.proofs.Common.{◌≡◌, ◌<◌, ℕ, if◌then◌else◌, List, [], ◌∷◌, length, Option, Some, None, refl, sym, ap, subst, ◌∙◌}
use Rattle.std.specs.Prelude.{All, option_map}
use Rattle.fractions.specs.Rational.{ℚ}
use Rattle.frac128.specs.Narrow.{IsNarrow}
use Rattle.optimality.specs.Optimal.{Optimal, objective_at}
use Rattle.cell_refs.specs.declared.cell.Cell.{Cell}
use Rattle.recalculation.specs.Entries.{no_overriding}
use Rattle.workbook.specs.Edits.{after_set}
use Rattle.workbook.specs.Kinds.{book_of}
use Rattle.workbook.specs.State.{State}
use Rattle.cell_refs.specs.declared.place.Place.{Place}
use Rattle.cell_refs.specs.declared.place.Place.TheVariants as place
use Rattle.form_extraction.specs.Places.{numbered_in}
use Rattle.solver_names.specs.Sides.{sides_in}
use Rattle.solver_names.specs.Statement.{Statement}
use Rattle.form_needs.specs.FromSheetProblems.{ModelIsTheSheet}
use Rattle.form_needs.specs.FromSheetProblems.{put_over, tree_of, value_at}
use Rattle.form_needs.specs.FromSheetProblems.{problem_in}
use Rattle.named_cells.specs.FromStatementLaws.{IsWhole}
use Rattle.named_cells.proofs.FromStatementLaws.{statements_are_whole}
use Rattle.commands.specs.declared.answer.Answer.{Answer}
use Rattle.commands.specs.declared.answer.Answer.TheVariants as answer
use Rattle.write_back.specs.Writing.{KeepsSides, KeepsValues, with_numbers}
use Rattle.write_back.proofs.Written.{keeps_sides, keeps_values}
use Rattle.sheet_finding.specs.Finding.{Finds}
use Rattle.sheet_finding.specs.FromSheetSolving.{Task}
use Rattle.sheet_finding.specs.declared.finding.Found.{Found}
use Rattle.sheet_finding.specs.declared.finding.Found.TheVariants as found
use Rattle.sheet_quick.proofs.Fulfilled.{meets_all}
use Rattle.sheet_quick.specs.Giving.{GivesIn, IsGivenOptimum, IsGivenTo, number_given, with_value}
use Rattle.sheet_quick.specs.Inner.{Tells, TellsOther, Writes, is_accepted}
use Rattle.sheet_quick.specs.Opened.{IsOpen, SheetQuick, model_now}
use Rattle.sheet_quick.proofs.Cells.{own_item}
use Rattle.sheet_quick.proofs.Commuting.{given_either}
use Rattle.sheet_quick.proofs.OpenModels.{quick_model_is_a_model, still_stated}
use Rattle.sheet_quick.proofs.Staying.{given_open, written_open}

-- an open quick model names what is there
pub open_whole : (book : State) (q : SheetQuick) → IsOpen book q → IsWhole book q.statement
open_whole book q h =
    statements_are_whole book q.statement.sheet q.statement (subst (λ (sheets : List (List ℕ)). q.statement.sheet < length sheets) (sym h.sheets) h.forms.listed) (still_stated book q h)

module _ (before : State) (q : SheetQuick) (cell : Cell) (text : List ℕ) (k : ℕ) (x : ℚ) (h : IsOpen before q) (given : IsGivenTo q cell text k x) where
  abbrev mid : State
  mid = after_set before cell text

  abbrev given_now : SheetQuick
  given_now = with_value q k x

  abbrev s : Statement
  s = q.statement

  -- the parameter isn't to be decided
  other_cell : numbered_in s.decisions cell ≡ None
  other_cell =
      let own = own_item q.parameters cell k given.parameter in
      subst (λ (c : Cell). numbered_in s.decisions c ≡ None) own.1 (h.parameters.others k cell own.0)

  same_end : (numbers : List ℚ) → after_set (with_numbers before s.decisions numbers) cell text ≡ with_numbers mid s.decisions numbers
  same_end numbers = by text given.number
    where
      by : (t : List ℕ) → number_given t ≡ Some x → after_set (with_numbers before s.decisions numbers) cell t ≡ with_numbers (after_set before cell t) s.decisions numbers
      by [] e = cc
      by (b ∷ t) e = given_either before s.decisions numbers cell b t other_cell

  pub given_model : ModelIsTheSheet mid s (model_now given_now)
  given_model = quick_model_is_a_model mid given_now (given_open before q cell text k x h given)

  whole : IsWhole mid s
  whole = open_whole mid given_now (given_open before q cell text k x h given)

  module _ (after : State) (numbers : List ℚ) (long : length numbers ≡ length s.decisions) (narrow : All IsNarrow numbers) (same : after ≡ with_numbers mid s.decisions numbers) where
    values : KeepsValues (book_of mid) s.decisions numbers (book_of after)
    values = subst (λ (t : State). KeepsValues (book_of mid) s.decisions numbers (book_of t)) (sym same) (keeps_values mid s.decisions numbers long whole.distinct narrow)

    expressions : KeepsSides (book_of mid) s.decisions numbers (book_of after)
    expressions = subst (λ (t : State). KeepsSides (book_of mid) s.decisions numbers (book_of t)) (sym same) (keeps_sides mid s.decisions numbers long whole.distinct narrow)

    -- every cell and every right side is what it was under the numbers
    recalculated : (p : Place) → value_at (book_of after) (sides_in after s.sheet) no_overriding p ≡ value_at (book_of mid) (sides_in mid s.sheet) (put_over s.decisions numbers) p
    recalculated (place.Cell c) = ap Some (values c)
    recalculated (place.Side j) = λ i. option_map (λ t. expressions t i) (tree_of (sides_in (same i) s.sheet) j)

  optimum : (after : State) (numbers : List ℚ) (value told : Option ℚ) → Optimal (problem_in mid s) numbers → objective_at (problem_in mid s) numbers ≡ value
      → Writes before s.decisions cell text numbers value (answer.Optimal told) after → IsGivenOptimum before mid after s cell text numbers told
  optimum after numbers value told best worth w =
      let same : after ≡ with_numbers mid s.decisions numbers = w.2 ∙ same_end numbers in
      let again = recalculated after numbers best.permitted.one_each w.3 same in
      record {
        optimal = best;
        worth = worth ∙ sym w.0;
        room = w.1;
        written = w.2;
        same = same;
        recalculated = again;
        meets = meets_all mid after s numbers again whole.distinct whole.members best.permitted;
      }

  module _ (task : Task) (after : State) where
    abbrev now : Answer → SheetQuick
    now told = if is_accepted told then given_now else q

    Comes : Answer → Type 0
    Comes told = GivesIn task before mid q given_now cell text told after (now told)

    told_gives : (other told : Answer) → Finds task mid s (model_now given_now) (found.Told other) → TellsOther before cell text other told after → Comes told
    unfolding Comes
    told_gives answer.Infeasible told f w = subst Comes (sym w.0) ((f.0, f.1, f.2, w.1), refl)
    told_gives answer.Unbounded told f w = subst Comes (sym w.0) ((f.0, f.1, f.2, f.3, f.4, w.1), refl)
    told_gives (answer.WidePivot path basis leaves enters) told f w = subst Comes (sym w.0) (f, w.1, refl)
    told_gives (answer.Budget n) told f w = subst Comes (sym w.0) (f, w.1, refl)
    told_gives (answer.Optimal value) told f w = absurd f
    told_gives (answer.NoRoom c) told f w = absurd f
    told_gives _ told f w = absurd f

    written_gives : (numbers : _) (value : Option ℚ) (told : Answer) → Finds task mid s (model_now given_now) (found.Optimal numbers value)
        → Writes before s.decisions cell text numbers.items value told after → Comes told
    unfolding Comes
    written_gives numbers value (answer.Optimal told) f w = (f.0, numbers.items, f.1, f.2, optimum after numbers.items value told f.3 f.4 w, refl)
    written_gives numbers value (answer.NoRoom c) f w = (f.0, numbers.items, f.1, f.2, record { optimal = f.3; full = w.0 }, w.1, refl)
    written_gives numbers value _ f w = absurd w

    pub gives_in : (f : Found) (told : Answer) → Finds task mid s (model_now given_now) f → Tells before s.decisions cell text f told after → GivesIn task before mid q given_now cell text told after (now told)
    unfolding Comes
    gives_in (found.Optimal numbers value) told f w = written_gives numbers value told f w
    gives_in (found.Told other) told f w = told_gives other told f w

    -- it stays open
    Stays : Answer → Type 0
    Stays told = IsOpen after (now told)

    pub stays_open : (f : Found) (told : Answer) → Finds task mid s (model_now given_now) f → Tells before s.decisions cell text f told after → IsOpen after (now told)
    unfolding Stays
    stays_open (found.Optimal numbers value) (answer.Optimal told) f w =
        subst (λ (t : State). IsOpen t given_now) (sym (w.2 ∙ same_end numbers.items)) (written_open mid given_now numbers.items (given_open before q cell text k x h given))
    stays_open (found.Optimal numbers value) (answer.NoRoom c) f w = subst (λ (t : State). IsOpen t q) (sym w.1) h
    stays_open (found.Optimal numbers value) _ f w = absurd w
    stays_open (found.Told answer.Infeasible) told f w =
        subst Stays (sym w.0) (subst (λ (t : State). IsOpen t given_now) (sym w.1) (given_open before q cell text k x h given))
    stays_open (found.Told answer.Unbounded) told f w =
        subst Stays (sym w.0) (subst (λ (t : State). IsOpen t given_now) (sym w.1) (given_open before q cell text k x h given))
    stays_open (found.Told (answer.WidePivot path basis leaves enters)) told f w = subst Stays (sym w.0) (subst (λ (t : State). IsOpen t q) (sym w.1) h)
    stays_open (found.Told (answer.Budget n)) told f w = subst Stays (sym w.0) (subst (λ (t : State). IsOpen t q) (sym w.1) h)
    stays_open (found.Told _) told f w = absurd f
