-- The steps of opening a quick model.
use Rattle.std.proofs.Common.{◌≡◌, ◌<◌, ◌≤◌, ◌+◌, ◌++◌, inr, ℕ, Bool, true, false, cond, List, [], ◌∷◌, length, Some, None, Result, Ok, Err, refl, sym, subst}
use Rattle.std.specs.Prelude.{IfErr, IsErrAnd, find, not}
use Rattle.std.specs.List.{AllByRecursion}
use Rattle.std.proofs.lemmas.List.Elements.{All-from_recursion}
use Rattle.affine_forms.specs.Forms.{AffineForm}
use Rattle.linear_models.specs.Conditions.{Conditions}
use Rattle.cell_refs.specs.declared.cell.Cell.{Cell}
use Rattle.workbook.specs.Kinds.{book_of}
use Rattle.cell_refs.specs.Listed.{IsListed}
use Rattle.workbook.specs.State.{State}
use Rattle.form_extraction.specs.Places.{numbered_in}
use Rattle.solver_names.specs.Answers.{Answers}
use Rattle.solver_names.specs.Sides.{sides_in}
use Rattle.solver_names.specs.Statement.{Statement}
use Rattle.solver_names.specs.Stated.{statement_in}
use Rattle.solver_names.specs.declared.fault.NamesFault.{NamesFault}
use Rattle.solver_names.specs.declared.fault.NamesFault.TheVariants as told
use Rattle.named_cells.proofs.FromStatementLaws.{faults_are_listed}
use Rattle.open_forms.specs.FromSheetLinearModel.{IsStatement}
use Rattle.form_needs.specs.FromSheetProblems.{conditions_of}
use Rattle.open_forms.specs.FromExtractIncr.{count_to_make, no_forms}
use Rattle.parameter_laws.specs.Statements.{FitsOver}
use Rattle.parameter_problems.specs.Opened.{opened}
use Rattle.sheet_quick.specs.Inner.{FormsOr, HaveNumbers, IsQuickOf, IsStated, NamesOr, ParametersOr, StandApart, cause_of}
use Rattle.sheet_quick.specs.Opened.{IsOpen, SheetQuick}
use Rattle.sheet_quick.specs.Opening.{AreParameters, CauseIsListed, HasNoQuick, IsOpened, MakesFew, Opens}
use Rattle.sheet_quick.specs.Parameters.{can_be_parameter, cells_named, other_cell}
use Rattle.sheet_quick.specs.declared.quick.SheetQuick.{SheetQuick as Declared}
use Rattle.sheet_quick.specs.declared.stops.NoQuick.{NoQuick}
use Rattle.sheet_quick.specs.declared.stops.NoQuick.TheVariants as none
use Rattle.sheet_quick.proofs.Causes.{by_forms, by_parameters, is_opened, they_fit}
use Rattle.sheet_quick.proofs.Chosen.{all_can}
use Rattle.sheet_quick.proofs.FirstValues.{named_chosen, none_decided, opened_is_open}

-- ---- names
pub cause_is : (e : NamesFault) → (e ≡ told.Memory → ⊥) → none.Names e ≡ cause_of e
cause_is told.Memory other = absurd (other refl)
cause_is told.NoNames other = refl
cause_is (told.BadReference text) other = refl
cause_is (told.MissingPart k) other = refl
cause_is (told.BadRelation k text) other = refl
cause_is (told.SizeMismatch k left right) other = refl
cause_is (told.NotDecision k c) other = refl
cause_is (told.BadOption text) other = refl
cause_is (told.TooManyDecisions count) other = refl
cause_is (told.TooManyRows count) other = refl

pub fault_is : (book : State) (sheet : ℕ) (e : NamesFault) → Answers book sheet (Err e) → NamesOr book sheet (Err (cause_of e))
fault_is book sheet told.Memory h = tt
fault_is book sheet told.NoNames h = h
fault_is book sheet (told.BadReference text) h = h
fault_is book sheet (told.MissingPart k) h = h
fault_is book sheet (told.BadRelation k text) h = h
fault_is book sheet (told.SizeMismatch k left right) h = h
fault_is book sheet (told.NotDecision k c) h = h
fault_is book sheet (told.BadOption text) h = h
fault_is book sheet (told.TooManyDecisions count) h = h
fault_is book sheet (told.TooManyRows count) h = h

pub fault_listed : (book : State) (sheet : ℕ) (e : NamesFault) → sheet < length book.sheets → Answers book sheet (Err e) → CauseIsListed book.sheets (cause_of e)
fault_listed book sheet told.Memory there h = tt
fault_listed book sheet told.NoNames there h = tt
fault_listed book sheet (told.BadReference text) there h = tt
fault_listed book sheet (told.MissingPart k) there h = tt
fault_listed book sheet (told.BadRelation k text) there h = tt
fault_listed book sheet (told.SizeMismatch k left right) there h = tt
fault_listed book sheet (told.NotDecision k c) there h = faults_are_listed book sheet k c there h
fault_listed book sheet (told.BadOption text) there h = tt
fault_listed book sheet (told.TooManyDecisions count) there h = tt
fault_listed book sheet (told.TooManyRows count) there h = tt

pub stated_by : {book : State} {s : Statement} → IsStatement book s → IsStated book s
stated_by h = record { listed = h.listed; stated = h.stated; few = h.few; whole = h.whole }

-- ---- parameters
found_of : (P : Cell → Type 0) (p : Cell → Bool) (cells : List Cell) (c : Cell) → find p cells ≡ Some c → AllByRecursion P cells → P c
found_of P p [] c e h = absurd cc
found_of P p (a ∷ cells) c e h = by (λ e. found_of P p cells c e h.1) (p a) e
  where
    by : (find p cells ≡ Some c → P c) → (b : Bool) → cond b (Some a) (find p cells) ≡ Some c → P c
    by later true e = let same : a ≡ c = cc in subst P same h.0
    by later false e = later e

module _ (book : State) (sheet : ℕ) (text : List ℕ) (cells : List Cell) (there : sheet < length book.sheets) (named : cells_named book sheet text ≡ Some cells) where
  -- why cells can't be parameters names one of them
  pub cause_listed : (decisions : List Cell) (e : NoQuick) → ParametersOr (book_of book) decisions cells (Err e) → CauseIsListed book.sheets e
  cause_listed decisions (none.NotParameter c) h =
      found_of (IsListed book.sheets) (λ c. not (can_be_parameter (book_of book) decisions c)) cells c h (named_chosen book sheet text cells there named).listed
  cause_listed decisions (none.TooManyParameters n) h = tt
  cause_listed decisions none.Memory h = tt
  cause_listed decisions none.BadReference h = absurd h
  cause_listed decisions (none.Names fault) h = absurd h
  cause_listed decisions (none.Form r) h = absurd h

  -- parameters stand each once, and none of them is to be decided
  pub stand_apart : (decisions : List Cell) → other_cell (book_of book) decisions cells ≡ None → StandApart decisions cells
  stand_apart decisions e = (
    (named_chosen book sheet text cells there named).distinct,
    All-from_recursion (λ c. numbered_in decisions c ≡ None) cells (none_decided (book_of book) decisions cells (all_can (book_of book) decisions cells e)),
  )

  -- they are parameters of what is stated
  pub are_parameters : (s : Statement) (parameters : List Cell) → statement_in book sheet ≡ Ok s → ParametersOr (book_of book) s.decisions cells (Ok parameters) → AreParameters book sheet text s parameters
  are_parameters s parameters e h =
      subst (AreParameters book sheet text s) (sym h.0) (record { named = record { cells = named; stated = e }; all = h.1; few = h.2 })

-- ---- forms
abbrev pub with_decisions : Statement → List Cell → Statement
with_decisions s decisions = record {
  sheet = s.sheet;
  decisions = decisions;
  objective = s.objective;
  goal = s.goal;
  rows = s.rows;
  whole = s.whole;
  binary = s.binary;
  explicit = s.explicit;
  different = s.different;
  not_negative = s.not_negative;
}

pub formed : (book : State) (s : Statement) (parameters all : List Cell) (r : Result (AffineForm × List (AffineForm × AffineForm)) NoQuick) → all ≡ s.decisions ++ parameters → FormsOr book (with_decisions s all) r
    → FormsOr book (opened s parameters) r
formed book s parameters all r e h = subst (λ (all : List Cell). FormsOr book (with_decisions s all) r) e h

-- ---- the quick model
module _ (book : State) (s : Statement) (parameters : List Cell) (objective : AffineForm) (sides : List (AffineForm × AffineForm)) (is : IsStated book s) (have : HaveNumbers book (opened s parameters) objective sides)
    (conditions : Conditions) (count : ℕ) (c : conditions ≡ conditions_of s) (n : count ≡ length parameters) where
  pub fit : FitsOver count conditions objective sides
  fit =
      subst (λ (k : ℕ). FitsOver k conditions objective sides) (sym n)
      (subst (λ (c : Conditions). FitsOver (length parameters) c objective sides) (sym c) (they_fit book s parameters objective sides is have))

-- ---- steps
-- parameters of what is stated, and how many forms are made for them
pub few_made : (book : State) (sheet : ℕ) (text : List ℕ) (s : Statement) (parameters : List Cell) (before after : ℕ) → AreParameters book sheet text s parameters → s.sheet ≡ sheet
    → after ≤ before + count_to_make (book_of book) (record { decisions = s.decisions ++ parameters; sides = sides_in book s.sheet; table = no_forms }) → MakesFew book sheet text before after
few_made book sheet text s parameters before after are same l =
    inr (
      s,
      parameters,
      are,
      subst (λ (n : ℕ). after ≤ before + count_to_make (book_of book) (record { decisions = s.decisions ++ parameters; sides = sides_in book n; table = no_forms })) same l,
    )

-- ---- all steps
-- a cause that is handed on
pub opens_not : (book : State) (sheet : ℕ) (text : List ℕ) (e : NoQuick) (r : Result Declared NoQuick) → IsErrAnd r (λ s. s ≡ e) → HasNoQuick book sheet text e → Opens book sheet text r
opens_not book sheet text e (Ok q) is h = absurd is
opens_not book sheet text e (Err s) is h = subst (HasNoQuick book sheet text) (sym is) h

pub said_not : (sheets : List (List ℕ)) (e : NoQuick) (r : Result Declared NoQuick) → IsErrAnd r (λ s. s ≡ e) → CauseIsListed sheets e → IfErr r (CauseIsListed sheets)
said_not sheets e (Ok q) is h = tt
said_not sheets e (Err s) is h = subst (CauseIsListed sheets) (sym is) h

module _ (book : State) (sheet : ℕ) (text : List ℕ) (cells : List Cell) (s : Statement) (there : sheet < length book.sheets) (named : cells_named book sheet text ≡ Some cells) (is : IsStated book s)
    (same : s.sheet ≡ sheet) where
  stated_there : statement_in book sheet ≡ Ok s
  stated_there = subst (λ (n : ℕ). statement_in book n ≡ Ok s) same is.stated

  pub not_parameters : (e : NoQuick) → ParametersOr (book_of book) s.decisions cells (Err e) → HasNoQuick book sheet text e
  not_parameters e h = by_parameters book sheet text s cells e (record { cells = named; stated = stated_there }) h

  module _ (parameters : List Cell) (can : ParametersOr (book_of book) s.decisions cells (Ok parameters)) where
    pub all_parameters : AreParameters book sheet text s parameters
    all_parameters = are_parameters book sheet text cells there named s parameters stated_there can

    pub all_apart : StandApart s.decisions parameters
    all_apart = subst (λ (p : List Cell). StandApart s.decisions p) (sym can.0) (stand_apart book sheet text cells there named s.decisions can.1)

    pub not_forms : (e : NoQuick) → FormsOr book (opened s parameters) (Err e) → HasNoQuick book sheet text e
    not_forms e h = by_forms book sheet text s parameters e all_parameters h

    pub all_few : (before after : ℕ) → after ≤ before + count_to_make (book_of book) (record { decisions = s.decisions ++ parameters; sides = sides_in book s.sheet; table = no_forms })
        → MakesFew book sheet text before after
    all_few before after l = few_made book sheet text s parameters before after all_parameters same l

    module _ (objective : AffineForm) (sides : List (AffineForm × AffineForm)) (q : SheetQuick) (have : HaveNumbers book (opened s parameters) objective sides) (made : IsQuickOf book s parameters q) where
      pub all_opened : IsOpened book sheet text q
      all_opened = is_opened book sheet text s parameters objective sides q all_parameters have made

      pub all_open : IsOpen book q
      all_open = opened_is_open book sheet text q there all_opened
