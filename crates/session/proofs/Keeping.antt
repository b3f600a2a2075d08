-- Forms that a session keeps, by what follows a command.
use Rattle.std.specs.Prelude.{◌-◌, Contains, Err, IfOk, Ok, Result, IsSome, is_some, option_map, slice_index_or}
use Rattle.std.proofs.Common.{◌≡◌, ◌∙◌, ℕ, zero, suc, Bool, false, List, [], ◌∷◌, map, Option, Some, None, ap, arith, refl, subst, sym}
use Rattle.cell_refs.specs.declared.cell.Cell.{Cell}
use Rattle.recalculation.specs.Entries.{Book, entry}
use Rattle.workbook.specs.Kinds.{book_of}
use Rattle.workbook.specs.State.{State}
use Rattle.cell_refs.specs.declared.place.Place.{Place}
use Rattle.cell_refs.specs.declared.place.Place.TheVariants as place
use Rattle.kept_book.specs.FromTouchedPlaces.{DifferAt}
use Rattle.kept_tables.specs.Commands as kept
use Rattle.kept_tables.specs.FromKeptMarks.{AreForms}
use Rattle.kept_tables.specs.Settled.{AreRight, CanHaveForm, IsFull, Parts, SheetForms, all_marked, decisions_of, expressions_of, with_table}
use Rattle.kept_tables.proofs.Places.{marked_edits_keep}
use Rattle.kept_tables.proofs.Solved.{write_backs_keep}
use Rattle.sheet_linear_model.specs.FromExtract.{form_at}
use Rattle.sheet_linear_model.specs.FromExtractIncr.{AllAreKept, Kept}
use Rattle.sheet_linear_model.specs.FromKeptForms.{all_forms, forms_in, is_searching, parts_of}
use Rattle.commands.specs.Commands.{Spoken}
use Rattle.commands.specs.declared.answer.Answer.{Answer}
use Rattle.sheet_linear_model.specs.Answers.{AreSettled, SettlesForms, parts_in}
use Rattle.sheet_linear_model.specs.declared.prepared.NoModel.{NoModel}
use Rattle.sheet_linear_model.specs.declared.prepared.NoModel.TheVariants as none
use Rattle.sheet_linear_model.specs.declared.prepared.Prepared.{Prepared as OfSheet}
use Rattle.kept_book.specs.FromSheetSolving.{Opened}
use Rattle.kept_book.proofs.MarkLaws.{none_marked}
use Rattle.session.specs.Inner.{Follows, FollowsCommand, FollowsModel, HasFollowed, UnlessMemory}
use Rattle.session.specs.Kept.{KeepsForms, is_searched, kept_of, sheet_needed}
use Rattle.session.specs.States.{Session, SessionState}

-- ---- what follows a command keeps what it should
keeps_by : (before after : Session) (needed : Option ℕ) (cells : List Cell) → AreRight (book_of before.state.book) (all_forms before.tables) → Follows needed cells before after
    → kept.Keeps (kept_of before) (record { edited = cells; needed = needed }) (kept_of after)
keeps_by before after None cells right h = marked_edits_keep (kept_of before) (kept_of after) cells h.differ right h.marked
keeps_by before after (Some sheet) cells right h =
    subst (λ (n : ℕ). kept.Keeps (kept_of before) (record { edited = cells; needed = Some n }) (kept_of after)) h.own
    (write_backs_keep (kept_of before) (kept_of after) h.table cells (subst (λ (n : ℕ). parts_in before.state.book n ≡ Some h.table.parts) (sym h.own) h.given) right h.full h.decisions
    (subst (λ (n : ℕ). parts_in after.state.book n ≡ Some h.table.parts) (sym h.own) h.still) h.followed.differ h.followed.marked)

pub keeps : (before after : Session) (command : Spoken) (a : Answer) → AreRight (book_of before.state.book) (all_forms before.tables) → FollowsCommand before command a after
    → KeepsForms before command a after
keeps before after command a right h = (h.0, h.1, keeps_by before after (sheet_needed before.state command) h.0 right h.2)

-- ---- where nothing is edited
pub nothing_differs : (before after : State) → after ≡ before → (c : Cell) → ¬ (Contains [] c) → entry (book_of before) c ≡ entry (book_of after) c
nothing_differs before after e c n = ap (λ (s : State). entry (book_of s) c) (sym e)

pub has_followed : (before after : Session) (tables : List SheetForms) → after.state.book ≡ before.state.book → all_forms after.tables ≡ tables → HasFollowed [] tables before after
has_followed before after tables e t = record {
  differ = nothing_differs before.state.book after.state.book e;
  marked = t ∙ sym (none_marked (book_of after.state.book) tables);
}

pub follows_nothing : (before after : Session) → after.state.book ≡ before.state.book → after.tables ≡ before.tables → Follows None [] before after
follows_nothing before after e t = has_followed before after (all_forms before.tables) e (ap all_forms t)

-- ---- which sheets have an open search
searched_at : (searches : List (Option Opened)) (i : ℕ) → slice_index_or (map is_some searches) i false ≡ is_some (slice_index_or searches i None)
searched_at [] i = refl
searched_at (s ∷ searches) zero = refl
searched_at (s ∷ searches) (suc i) = searched_at searches i

pub searching_is : (s : SessionState) (searching : List Bool) → searching ≡ map is_some s.searches → is_searching searching ≡ is_searched s
searching_is s searching e = ap is_searching e ∙ (λ i. λ (sheet : ℕ). searched_at s.searches sheet i)

-- ---- the forms of a sheet are settled
pub never : (c : Cell) → ¬ (Contains [] c)
never c h = omega (arith, h.1)

full_table : (book : Book) (sheet : ℕ) (k : Kept) → AllAreKept book k → IsFull book (forms_in (record { sheet = sheet; kept = k }))
full_table book sheet k h = record { right = right; all = all }
  where
    right : AreForms book (decisions_of (parts_of k)) (expressions_of (parts_of k)) (form_at k.table)
    right (place.Cell a) f at = h.forms (place.Cell a) f at
    right (place.Side n) f at = h.forms (place.Side n) f at

    all : (p : Place) → CanHaveForm book (parts_of k) p → IsSome (form_at k.table p)
    all (place.Cell a) can = h.all (place.Cell a) can
    all (place.Side n) can = h.all (place.Side n) can

module _ (before after : Session) (searching : ℕ → Bool) (same : searching ≡ is_searched before.state) (book : after.state.book ≡ before.state.book) where
  put_by : (sheet : ℕ) (parts : Option Parts) → parts_in before.state.book sheet ≡ parts → AreSettled before.state.book searching sheet parts before.tables after.tables
      → Follows (option_map (λ (p : Parts). sheet) parts) [] before after
  put_by sheet None given h = follows_nothing before after book h
  put_by sheet (Some parts) given h = record {
    table = forms_in (record { sheet = sheet; kept = h.1.forms });
    own = refl;
    given = given ∙ ap Some (sym h.1.given);
    still = ap (λ (s : State). parts_in s sheet) book ∙ given ∙ ap Some (sym h.1.given);
    full = full_table (book_of before.state.book) sheet h.1.forms h.1.full;
    decisions = λ c i. absurd (never c i);
    followed =
        has_followed before after (with_table (is_searched before.state) (all_forms before.tables) (forms_in (record { sheet = sheet; kept = h.1.forms }))) book
        (h.1.tables ∙ ap (λ (s : ℕ → Bool). with_table s (all_forms before.tables) (forms_in (record { sheet = sheet; kept = h.1.forms }))) same);
  }

  follows_settled : (sheet : ℕ) → AreSettled before.state.book searching sheet (parts_in before.state.book sheet) before.tables after.tables → FollowsModel before sheet after
  follows_settled sheet h = put_by sheet (parts_in before.state.book sheet) refl h

  pub follows_prepared : (sheet : ℕ) (r : Result OfSheet NoModel) → SettlesForms before.state.book searching sheet r before.tables after.tables → UnlessMemory r (FollowsModel before sheet after)
  follows_prepared sheet (Ok p) h = follows_settled sheet h
  follows_prepared sheet (Err (none.Refused a)) h = follows_settled sheet h
  follows_prepared sheet (Err none.Memory) h = tt

-- ---- the same with an answer
-- where the sheet has no model
pub refused_follows : {E : Type 0} (P : Type 0) (stop : NoModel) (r : Result Answer E) → IfOk r (λ a. stop ≡ none.Refused a) → UnlessMemory {A = OfSheet} (Err stop) P → IfOk r (λ a. P)
refused_follows P (none.Refused a) (Ok b) told h = h
refused_follows P none.Memory (Ok b) told h = absurd (wanted b told)
  where
    wanted : (b : Answer) → none.Memory ≡ none.Refused b → ⊥
    wanted b e = cc
refused_follows P stop (Err e) told h = told

-- what is done behind it changes neither the workbook nor the tables
pub carried : (n : Option ℕ) (cells : List Cell) (before middle after : Session) → after.state.book ≡ middle.state.book → after.tables ≡ middle.tables → Follows n cells before middle → Follows n cells before after
carried n cells before middle after book tables h = by_parts n h
  where
    followed : (forms : List SheetForms) → HasFollowed cells forms before middle → HasFollowed cells forms before after
    followed forms h = record {
      differ = subst (λ (s : State). DifferAt (Contains cells) (book_of before.state.book) (book_of s)) (sym book) h.differ;
      marked = ap all_forms tables ∙ h.marked ∙ ap (λ (s : State). all_marked (book_of s) cells forms) (sym book);
    }

    by_parts : (n : Option ℕ) → Follows n cells before middle → Follows n cells before after
    by_parts None h = followed (all_forms before.tables) h
    by_parts (Some sheet) h = record {
      table = h.table;
      own = h.own;
      given = h.given;
      still = ap (λ (s : State). parts_in s sheet) book ∙ h.still;
      full = h.full;
      decisions = h.decisions;
      followed = followed (with_table (is_searched before.state) (all_forms before.tables) h.table) h.followed;
    }
