-- Forms that were settled for what the names of a sheet give.
use Rattle.std.specs.Prelude.{Err, Ok, Result}
use Rattle.std.proofs.Common.{◌≡◌, ◌-◌, ◌≤◌, inl, inr, ℕ, Bool, List, Option, Some, None, ap, arith, refl, subst, sym}
use Rattle.cell_refs.specs.declared.cell.SheetId.{SheetId}
use Rattle.workbook.specs.Kinds.{book_of}
use Rattle.workbook.specs.State.{State}
use Rattle.solver_names.specs.Answers.{Answers, statement_of}
use Rattle.solver_names.specs.Statement.{Statement}
use Rattle.solver_names.specs.declared.fault.NamesFault.{NamesFault}
use Rattle.solver_names.specs.declared.fault.NamesFault.TheVariants as told
use Rattle.solver_names.specs.declared.statements.Statement.{Statement as Declared}
use Rattle.kept_forms.specs.FromKeptTables.{Parts}
use Rattle.kept_forms.specs.FromKeptTables.{MakesFew}
use Rattle.kept_forms.specs.FromExtractIncr.{AllAreKept, Kept}
use Rattle.kept_forms.specs.Settling.{Settles, Stops}
use Rattle.kept_forms.specs.Tables.{SheetKept, all_forms, forms_in, parts_of, settled_of}
use Rattle.sheet_linear_model.specs.Answers.{AreSettled, CountsFew, MayStop, SettlesForms, parts_in, parts_or, parts_stated}
use Rattle.sheet_linear_model.specs.Inner.{GivesNone, IsKeptFor, IsStatement, stop_of}
use Rattle.sheet_linear_model.specs.declared.prepared.NoModel.{NoModel}
use Rattle.sheet_linear_model.specs.declared.prepared.NoModel.TheVariants as none
use Rattle.sheet_linear_model.specs.declared.prepared.Prepared.{Prepared as OfSheet}

-- ---- what names give
pub statement_gives : (book : State) (sheet : SheetId) (s : Declared) → IsStatement book (statement_of s) → s.sheet ≡ sheet → parts_in book sheet.0 ≡ Some (parts_stated book sheet.0 (statement_of s))
statement_gives book sheet s is same =
    subst (λ (x : SheetId). parts_in book x.0 ≡ Some (parts_stated book x.0 (statement_of s))) same (ap (parts_or book s.sheet.0) is.stated)

pub fault_gives_none : (book : State) (sheet : ℕ) (e : NamesFault) → Answers book sheet (Err e) → GivesNone book sheet (stop_of e)
fault_gives_none book sheet told.Memory h = tt
fault_gives_none book sheet told.NoNames h = ap (parts_or book sheet) h.1.0
fault_gives_none book sheet (told.BadReference text) h = ap (parts_or book sheet) h.1.0
fault_gives_none book sheet (told.MissingPart k) h = ap (parts_or book sheet) h.1.0
fault_gives_none book sheet (told.BadRelation k text) h = ap (parts_or book sheet) h.1.0
fault_gives_none book sheet (told.SizeMismatch k left right) h = ap (parts_or book sheet) h.1.0
fault_gives_none book sheet (told.NotDecision k c) h = ap (parts_or book sheet) h.1.0
fault_gives_none book sheet (told.BadOption text) h = ap (parts_or book sheet) h.1.0
fault_gives_none book sheet (told.TooManyDecisions count) h = ap (parts_or book sheet) h.1.0
fault_gives_none book sheet (told.TooManyRows count) h = ap (parts_or book sheet) h.1.0

-- ---- forms
pub kept_for : (book : State) (s : Statement) (k : Kept) → parts_of k ≡ parts_stated book s.sheet s → AllAreKept (book_of book) k → IsKeptFor book s k
kept_for book s k e h = record {
  decisions = ap (λ (p : Parts). p.decisions) e;
  sides = ap (λ (p : Parts). p.sides) e;
  settled = h;
}

some_is : {A : Type 0} (o : Option A) (x y : A) → o ≡ Some x → o ≡ Some y → x ≡ y
some_is o x y e f = cc

-- the forms that are found after they were settled are those of the statement
pub found_for : (book : State) (searching : ℕ → Bool) (s : Statement) (before after : List SheetKept) (once : Option Kept) (k : Kept)
    → Settles (book_of book) searching s.sheet (parts_stated book s.sheet s) before after once → settled_of after s.sheet once ≡ Some k → IsKeptFor book s k
found_for book searching s before after once k h e =
    let same : h.forms ≡ k = some_is (settled_of after s.sheet once) h.forms k h.found e in
    kept_for book s k (subst (λ (x : Kept). parts_of x ≡ parts_stated book s.sheet s) same h.given) (subst (AllAreKept (book_of book)) same h.full)

-- and some are found
pub never_none : (book : State) (searching : ℕ → Bool) (sheet : ℕ) (parts : Parts) (before after : List SheetKept) (once : Option Kept)
    → Settles (book_of book) searching sheet parts before after once → settled_of after sheet once ≡ None → ⊥
never_none book searching sheet parts before after once h e = let f : settled_of after sheet once ≡ Some h.forms = h.found in cc

-- forms that are all made are among those that may be made before memory runs out
settled_stops : (book : State) (searching : ℕ → Bool) (sheet : ℕ) (parts : Parts) (before after : List SheetKept) (once : Option Kept)
    → Settles (book_of book) searching sheet parts before after once → Stops (book_of book) searching sheet parts before after
settled_stops book searching sheet parts before after once h =
    inr (record {
      table = forms_in (record { sheet = sheet; kept = h.forms });
      own = refl;
      given = h.given;
      grown = h.grown;
      tables = h.tables;
    })

-- memory runs out while the forms of what is stated are made
pub stopped_for : (book : State) (searching : ℕ → Bool) (sheet : SheetId) (s : Declared) (before after : List SheetKept) → IsStatement book (statement_of s) → s.sheet ≡ sheet
    → Stops (book_of book) searching s.sheet.0 (parts_stated book s.sheet.0 (statement_of s)) before after → SettlesForms book searching sheet.0 (Err none.Memory) before after
stopped_for book searching sheet s before after is same h =
    subst (λ (o : Option Parts). MayStop book searching sheet.0 o before after) (sym (statement_gives book sheet s is same))
    (subst (λ (x : SheetId). Stops (book_of book) searching x.0 (parts_stated book x.0 (statement_of s)) before after) same h)

pub are_settled : (book : State) (searching : ℕ → Bool) (sheet : SheetId) (s : Declared) (before after : List SheetKept) (once : Option Kept) (r : Result OfSheet NoModel)
    → IsStatement book (statement_of s) → s.sheet ≡ sheet → Settles (book_of book) searching s.sheet.0 (parts_stated book s.sheet.0 (statement_of s)) before after once
    → SettlesForms book searching sheet.0 r before after
are_settled book searching sheet s before after once r is same h = told_of r
  where
    there : AreSettled book searching sheet.0 (parts_in book sheet.0) before after
    there =
        subst (λ (o : Option Parts). AreSettled book searching sheet.0 o before after) (sym (statement_gives book sheet s is same))
        (once, subst (λ (x : SheetId). Settles (book_of book) searching x.0 (parts_stated book x.0 (statement_of s)) before after once) same h)

    told_of : (r : Result OfSheet NoModel) → SettlesForms book searching sheet.0 r before after
    told_of (Ok p) = there
    told_of (Err (none.Refused a)) = there
    told_of (Err none.Memory) = stopped_for book searching sheet s before after is same (settled_stops book searching s.sheet.0 (parts_stated book s.sheet.0 (statement_of s)) before after once h)

-- where the names have a fault nothing has changed
pub none_settled : (book : State) (searching : ℕ → Bool) (sheet : ℕ) (e : NoModel) (tables : List SheetKept) → GivesNone book sheet e → SettlesForms book searching sheet (Err e) tables tables
none_settled book searching sheet none.Memory tables h = unchanged (parts_in book sheet)
  where
    unchanged : (o : Option Parts) → MayStop book searching sheet o tables tables
    unchanged (Some parts) = inl refl
    unchanged None = refl
none_settled book searching sheet (none.Refused a) tables h = subst (λ (o : Option Parts). AreSettled book searching sheet o tables tables) (sym h) refl

-- ---- steps
none_left : (n : ℕ) → n - n ≡ 0
none_left n = omega arith

no_less : (n : ℕ) → 0 ≤ n
no_less n = omega arith

few_by : (book : State) (tables : List SheetKept) (sheet : ℕ) (o : Option Parts) → CountsFew book tables sheet o 0
few_by book tables sheet (Some parts) = record { anew = no_less _; kept = λ t h own given. no_less _ }
few_by book tables sheet None = refl

-- none is counted before anything is stated
pub none_counted : (book : State) (tables : List SheetKept) (sheet n : ℕ) → CountsFew book tables sheet (parts_in book sheet) (n - n)
none_counted book tables sheet n = subst (CountsFew book tables sheet (parts_in book sheet)) (sym (none_left n)) (few_by book tables sheet (parts_in book sheet))

-- and few for what is stated
pub few_counted : (book : State) (tables : List SheetKept) (sheet : SheetId) (s : Declared) (n : ℕ) → IsStatement book (statement_of s) → s.sheet ≡ sheet
    → MakesFew (book_of book) (all_forms tables) s.sheet.0 (parts_stated book s.sheet.0 (statement_of s)) n → CountsFew book tables sheet.0 (parts_in book sheet.0) n
few_counted book tables sheet s n is same few =
    subst (λ (o : Option Parts). CountsFew book tables sheet.0 o n) (sym (statement_gives book sheet s is same))
    (subst (λ (x : SheetId). MakesFew (book_of book) (all_forms tables) x.0 (parts_stated book x.0 (statement_of s)) n) same few)
