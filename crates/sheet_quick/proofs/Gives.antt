-- The steps of giving a parameter a value.
use Rattle.std.proofs.Common.{◌≡◌, ◌≤◌, ℕ, false, if◌then◌else◌, List, [], ◌∷◌, length, Some, None, Result, Ok, Err, refl, sym, ap, subst, ◌∙◌, inl, inr, nat_lt}
use Rattle.std.specs.Prelude.{◌==◌, IsErrAnd, slice_set}
use Rattle.std.proofs.lemmas.Bool.{le-ltb}
use Rattle.std.proofs.lemmas.List.Elements.{All-get_or}
use Rattle.std.proofs.lemmas.List.FromFn.{length-map-range_with_len}
use Rattle.fractions.specs.Rational.{ℚ}
use Rattle.affine_forms.specs.Assigned.{assigned}
use Rattle.cell_refs.specs.declared.cell.Cell.{Cell}
use Rattle.cell_refs.specs.declared.limits.TheConstants.{TEXT_BYTES}
use Rattle.linear_models.specs.Bounds.{is_marked}
use Rattle.linear_models.specs.Conditions.{Conditions}
use Rattle.linear_models.specs.Linear.{linear, wide_row}
use Rattle.linear_models.specs.Model.{Model}
use Rattle.workbook.specs.Edits.{after_set}
use Rattle.cell_refs.specs.Listed.{IsListed}
use Rattle.workbook.specs.State.{State}
use Rattle.form_extraction.specs.Places.{numbered_in}
use Rattle.sheet_funcs.specs.Numerals.{number_spelled}
use Rattle.solver_names.specs.Statement.{Statement}
use Rattle.form_needs.specs.FromSheetProblems.{ModelIsTheSheet}
use Rattle.commands.specs.declared.answer.Answer.{Answer}
use Rattle.quick_solve.specs.Quick.{stated_at, wide_set_at}
use Rattle.sheet_finding.specs.Finding.{Finds}
use Rattle.sheet_finding.specs.declared.finding.Found.{Found}
use Rattle.sheet_finding.specs.declared.finding.Found.TheVariants as found
use Rattle.sheet_finding.specs.FromSheetSolving.{Task}
use Rattle.sheet_quick.specs.Giving.{Gives, IsGivenTo, IsNarrowWith, number_given, with_value}
use Rattle.sheet_quick.specs.Inner.{CanBeWritten, IsPartly, ModelOr, Tells, is_accepted, with_values}
use Rattle.sheet_quick.specs.Opened.{IsOpen, SheetQuick, model_now}
use Rattle.sheet_quick.specs.declared.stops.NoGiven.{NoGiven}
use Rattle.sheet_quick.specs.declared.stops.NoGiven.TheVariants as stop
use Rattle.sheet_quick.proofs.Cells.{own_item}
use Rattle.sheet_quick.proofs.GivenValues.{given_model, gives_in, stays_open}
use Rattle.sheet_quick.proofs.Staying.{given_open, written_open}

-- ---- numerals
-- a text that has a first byte and isn't too long is given as it is spelled
pub given_short : (text : List ℕ) → false ≡ (length text == 0) → length text ≤ TEXT_BYTES → number_given text ≡ number_spelled text
given_short [] some short = cc
given_short (b ∷ text) some short =
    let fits : nat_lt TEXT_BYTES (length (b ∷ text)) ≡ false = le-ltb TEXT_BYTES (length (b ∷ text)) short in
    ap (λ t. if t then None else number_spelled (b ∷ text)) fits

-- ---- a parameter
-- it lies on one of the sheets
pub cell_there : (before : State) (q : SheetQuick) → IsOpen before q → (cell : Cell) (k : ℕ) → numbered_in q.parameters cell ≡ Some k → IsListed before.sheets cell
cell_there before q h cell k parameter =
    let own = own_item q.parameters cell k parameter in
    subst (IsListed before.sheets) own.1 (All-get_or (IsListed before.sheets) q.parameters k cell own.0 h.parameters.listed)

-- the model has the decisions of the sheet
pub decisions_are : (book : State) (q : SheetQuick) → IsOpen book q → length (model_now q).whole ≡ length q.statement.decisions
decisions_are book q h =
    length-map-range_with_len (is_marked (stated_at q.model (assigned q.values))) 0 q.model.conditions.decisions ∙ ap (λ (c : Conditions). c.decisions) h.forms.conditions

-- ---- the model with the value
module _ (before : State) (q : SheetQuick) (cell : Cell) (text : List ℕ) (k : ℕ) (x : ℚ) (h : IsOpen before q) (given : IsGivenTo q cell text k x) (values : List ℚ) (put : values ≡ slice_set q.values k x) where
  abbrev mid : State
  mid = after_set before cell text

  abbrev given_now : SheetQuick
  given_now = with_value q k x

  -- why there is none
  pub stopped : (task : Task) (e : NoGiven) → ModelOr q.model (assigned values) (Err e) → Gives task before q cell text (Err e) before q
  stopped task (stop.WideSet n) w = (k, x, given, subst (λ (v : List ℚ). wide_set_at q.model (assigned v) ≡ Some n) put w, refl, refl)
  stopped task (stop.WideRow n) w =
      (k, x, given, subst (λ (v : List ℚ). wide_set_at q.model (assigned v) ≡ None) put w.0, subst (λ (v : List ℚ). wide_row (stated_at q.model (assigned v)) ≡ Some n) put w.1, refl, refl)
  stopped task stop.Memory w = tt
  stopped task stop.NotParameter w = absurd w
  stopped task stop.BadNumeral w = absurd w

  -- where it is handed on
  pub not_given : (task : Task) (e : NoGiven) (r : Result Answer NoGiven) → IsErrAnd r (λ s. s ≡ e) → ModelOr q.model (assigned values) (Err e) → Gives task before q cell text r before q
  not_given task e (Ok told) is w = absurd is
  not_given task e (Err s) is w = subst (λ (s : NoGiven). Gives task before q cell text (Err s) before q) (sym is) (stopped task e w)

  module _ (m : Model) (w : ModelOr q.model (assigned values) (Ok m)) where
    narrow_with : IsNarrowWith given_now
    narrow_with = record {
      set = subst (λ (v : List ℚ). wide_set_at q.model (assigned v) ≡ None) put w.1;
      rows = subst (λ (v : List ℚ). wide_row (stated_at q.model (assigned v)) ≡ None) put w.2;
    }

    model_is : m ≡ model_now given_now
    model_is = w.0 ∙ ap (λ (v : List ℚ). linear (stated_at q.model (assigned v))) put

    pub decisions_there : length m.whole ≡ length q.statement.decisions
    decisions_there = ap (λ (m : Model). length m.whole) model_is ∙ decisions_are mid given_now (given_open before q cell text k x h given)

    module _ (task : Task) (f : Found) where
      -- what is found of it is true of the sheet with the text
      pub found_in : ((book : State) → ModelIsTheSheet book q.statement m → Finds task book q.statement m f) → Finds task mid q.statement (model_now given_now) f
      found_in finds =
          subst (λ (m : Model). Finds task mid q.statement m f) model_is
          (finds mid (subst (λ (m : Model). ModelIsTheSheet mid q.statement m) (sym model_is) (given_model before q cell text k x h given)))

      module _ (finds : Finds task mid q.statement (model_now given_now) f) (told : Answer) (after : State) (tells : Tells before q.statement.decisions cell text f told after) (now : SheetQuick)
          (kept : now ≡ (if is_accepted told then with_values q values else q)) where
        is : now ≡ (if is_accepted told then given_now else q)
        is = kept ∙ ap (λ (v : List ℚ). if is_accepted told then with_values q v else q) put

        pub gives : Gives task before q cell text (Ok told) after now
        gives =
            subst (λ (now : SheetQuick). Gives task before q cell text (Ok told) after now) (sym is)
            (k, x, given, narrow_with, gives_in before q cell text k x h given task after f told finds tells)

        pub stays : IsOpen after now
        stays = subst (IsOpen after) (sym is) (stays_open before q cell text k x h given task after f told finds tells)

-- an optimum has a number for each decision cell
pub can_be_written : (task : Task) (book : State) (s : Statement) (m : Model) (f : Found) → Finds task book s m f → CanBeWritten (length s.decisions) f
can_be_written task book s m (found.Optimal numbers value) f = f.3.permitted.one_each
can_be_written task book s m (found.Told told) f = tt

-- ---- want of memory
pub partly_open : (before : State) (q : SheetQuick) (after : State) → IsOpen before q → IsPartly before q.statement.decisions after → IsOpen after q
partly_open before q after h (inl e) = subst (λ (t : State). IsOpen t q) (sym e) h
partly_open before q after h (inr (numbers, e)) = subst (λ (t : State). IsOpen t q) (sym e) (written_open before q numbers h)

-- ---- values that are kept
pub kept_as : (q now : SheetQuick) (told : Answer) (items seen : List ℚ) → items ≡ seen → now ≡ (if is_accepted told then with_values q items else q) → now ≡ (if is_accepted told then with_values q seen else q)
kept_as q now told items seen e h = h ∙ ap (λ (v : List ℚ). if is_accepted told then with_values q v else q) e
