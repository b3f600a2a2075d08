-- What an open quick model is of the workbook as it is.
use Rattle.std.proofs.Common.{◌≡◌, sym, ap, subst, ◌∙◌, List, Result, Ok}
use Rattle.std.specs.Option.{option_map}
use Rattle.affine_forms.specs.Assigned.{assigned}
use Rattle.affine_forms.specs.Forms.{AffineForm}
use Rattle.cell_refs.specs.declared.cell.Cell.{Cell}
use Rattle.linear_models.specs.Conditions.{Conditions, statement_of}
use Rattle.linear_models.specs.Linear.{linear}
use Rattle.linear_models.specs.Statement as rows
use Rattle.workbook.specs.Kinds.{book_of}
use Rattle.workbook.specs.State.{State}
use Rattle.cell_refs.specs.declared.place.Place.TheVariants as place
use Rattle.solver_names.specs.Sides.{sides_in}
use Rattle.solver_names.specs.Statement.{Statement}
use Rattle.solver_names.specs.Stated.{statement_in}
use Rattle.form_needs.specs.FromSheetProblems.{HasForms, conditions_of}
use Rattle.form_needs.specs.FromSheetProblems.{Sides, worth_at}
use Rattle.form_needs.specs.FromSheetProblems.{problem_in}
use Rattle.open_forms.specs.FromSheetLinearModel.{IsPrepared, Prepared, rows_of}
use Rattle.parameter_laws.specs.Laws.{IsTheProblem}
use Rattle.parameter_laws.specs.Statements.{statement_at}
use Rattle.parameter_problems.proofs.Fitting.{quick_model_is_the_sheets_problem}
use Rattle.parameter_problems.proofs.SameModel.{quick_model_is_the_linear_model}
use Rattle.quick_solve.specs.Quick.{stated_at}
use Rattle.sheet_quick.specs.Laws.{QuickModelIsAModel, QuickModelIsTheLinearModel, QuickModelIsTheSheet, SameStatement}
use Rattle.sheet_quick.specs.Opened.{IsOpen, SheetQuick, model_now}

ok_is : {A E : Type 0} {x y : A} → ◌≡◌ {A = Result A E} (Ok x) (Ok y) → x ≡ y
ok_is e = cc

module _ (book : State) (q : SheetQuick) (h : IsOpen book q) where
  abbrev s : Statement
  s = q.statement

  -- names and sheets are as they were, so the names state the same, and their sides are the same
  same_sides : sides_in book s.sheet ≡ sides_in h.first s.sheet
  same_sides = λ i. sides_in (record { sheets = h.sheets i; contents = book.contents; names = h.names i }) s.sheet

  pub still_stated : statement_in book s.sheet ≡ Ok s
  still_stated = (λ i. statement_in (record { sheets = h.sheets i; contents = book.contents; names = h.names i }) s.sheet) ∙ h.forms.stated

  over_conditions : stated_at q.model (assigned q.values) ≡ statement_at (conditions_of s) (assigned q.values) q.model.objective q.model.sides
  over_conditions = ap (λ (c : Conditions). statement_at c (assigned q.values) q.model.objective q.model.sides) h.forms.conditions

  pub is_the_sheet : IsTheProblem (problem_in book s) (model_now q)
  is_the_sheet =
      subst (λ (t : rows.Statement). IsTheProblem (problem_in book s) (linear t)) (sym over_conditions)
      (quick_model_is_the_sheets_problem h.first book s.sheet s q.parameters (assigned q.values) q.model.objective q.model.sides h.forms.stated same_sides h.forms.forms h.holds)

  same_statement : (objective : AffineForm) (sides : List (AffineForm × AffineForm)) → HasForms (book_of book) (sides_in book s.sheet) s objective sides
      → statement_of (conditions_of s) objective sides ≡ stated_at q.model (assigned q.values)
  same_statement objective sides own =
      quick_model_is_the_linear_model (book_of h.first) (book_of book) (sides_in h.first s.sheet) s q.parameters (assigned q.values) q.model.objective objective q.model.sides sides
      h.forms.forms h.holds (subst (λ (given : Sides). HasForms (book_of book) given s objective sides) same_sides own)
      ∙ sym over_conditions

  -- the names state one thing
  prepared_is : (p : Prepared) → IsPrepared book s.sheet p → p.statement ≡ s
  prepared_is p prepared = ok_is (sym prepared.forms.stated ∙ still_stated)

  is_the_linear_model : (p : Prepared) → IsPrepared book s.sheet p → p.model ≡ model_now q
  is_the_linear_model p prepared =
      let own : HasForms (book_of book) (sides_in book s.sheet) s p.objective p.sides =
      subst (λ (t : Statement). HasForms (book_of book) (sides_in book t.sheet) t p.objective p.sides) (prepared_is p prepared) prepared.forms.forms in
      prepared.model ∙ ap (λ (t : Statement). linear (rows_of t p.objective p.sides)) (prepared_is p prepared) ∙ ap linear (same_statement p.objective p.sides own)

pub quick_model_is_the_sheet : QuickModelIsTheSheet
quick_model_is_the_sheet book q h = is_the_sheet book q h

pub quick_model_is_a_model : QuickModelIsAModel
quick_model_is_a_model book q h =
    let p = is_the_sheet book q h in
    record {
      permitted = p.permitted;
      answers = p.answers;
      objective = λ c e. p.objective (worth_at (book_of book) (sides_in book q.statement.sheet) q.statement.decisions (place.Cell c))
          (ap (option_map (λ (c : Cell). worth_at (book_of book) (sides_in book q.statement.sheet) q.statement.decisions (place.Cell c))) e);
    }

pub quick_states_the_same : SameStatement
quick_states_the_same book q objective sides h own = same_statement book q h objective sides own

pub quick_model_is_linear : QuickModelIsTheLinearModel
quick_model_is_linear book q p h prepared = is_the_linear_model book q h p prepared
