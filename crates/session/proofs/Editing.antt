-- What is kept behind edits of cells and of names.
use Rattle.std.specs.Prelude.{Contains, Err, IfOk, Ok, OnErr, OnOk, Result, if◌then◌else◌}
use Rattle.std.proofs.Common.{◌≡◌, ◌∙◌, ℕ, Bool, true, false, List, [], ◌∷◌, Option, Some, None, ap, refl, subst, sym}
use Rattle.cell_refs.specs.Names.{place_in}
use Rattle.cell_refs.specs.declared.cell.Cell.{Cell}
use Rattle.commands.specs.Addresses.{Address, marked_address}
use Rattle.commands.specs.Commands.{Clear, Name, Set, Unname}
use Rattle.commands.specs.Locating.{cell_at, cell_named, cell_on, is_inside}
use Rattle.commands.specs.declared.answer.Answer.{Answer}
use Rattle.commands.specs.declared.answer.Answer.TheVariants as answer
use Rattle.workbook.specs.Edits.{Sets, after_set}
use Rattle.workbook.specs.Naming.{SayOtherwise}
use Rattle.workbook.specs.State.{State}
use Rattle.workbook.specs.declared.fault.EditFault.{EditFault}
use Rattle.workbook.specs.declared.fault.EditFault.TheVariants as fault
use Rattle.sheet_linear_model.specs.FromKeptForms.{SheetKept, all_forms}
use Rattle.kept_book.specs.Kept.{AreMarked, IsFollowed, KeptState}
use Rattle.kept_book.proofs.Stays.{once_named, once_set}
use Rattle.session.specs.Edits.{refused}
use Rattle.session.specs.Inner.{FollowsCommand, FollowsEdit, HasFollowed}
use Rattle.session.specs.States.{Session}
use Rattle.session.proofs.Keeping.{follows_nothing, has_followed}
use Rattle.session.proofs.Said.{if_ok_map}

-- the workbook of a session, and its tables
abbrev pub kept_state : Session → KeptState
kept_state s = record { book = s.state.book; tables = s.tables }

-- ---- where nothing is edited
-- an answer that isn't that of an edit that is done
abbrev pub IsOther : Answer → Type 0
IsOther answer.Done = ⊥
IsOther a = Unit {0}

abbrev OtherIfErr : {A : Type 0} → Result A Answer → Type 0
OtherIfErr (Ok x) = Unit {0}
OtherIfErr (Err a) = IsOther a

inside_other : (b : Bool) (c : Cell) → OtherIfErr (if b then Ok c else Err answer.OutOfSheet)
inside_other true c = tt
inside_other false c = tt

on_other : (a : Address) (o : Option ℕ) → OtherIfErr (cell_on a o)
on_other a None = tt
on_other a (Some sheet) = inside_other (is_inside a) _

at_other : (sheets : List (List ℕ)) (o : Option Address) → OtherIfErr (cell_at sheets o)
at_other sheets None = tt
at_other sheets (Some a) = on_other a (place_in sheets a.name)

pub named_other : (sheets : List (List ℕ)) (text : List ℕ) (a : Answer) → Err a ≡ cell_named sheets text → IsOther a
named_other sheets text a e = subst (λ (r : Result Cell Answer). OtherIfErr r) (sym e) (at_other sheets (marked_address text))

pub refused_other : (f : EditFault) → IsOther (refused f)
refused_other fault.OutOfSheet = tt
refused_other fault.FieldTooLong = tt
refused_other fault.TooManyCells = tt
refused_other fault.TooManyFormulas = tt
refused_other fault.BadName = tt
refused_other fault.TooManyNames = tt
refused_other fault.Memory = tt

module _ (before after : Session) (book : after.state.book ≡ before.state.book) (tables : after.tables ≡ before.tables) where
  pub other_set : (address text : List ℕ) (a : Answer) → IsOther a → FollowsCommand before (Set address text) a after
  other_set address text answer.Done other = absurd other
  other_set address text a other = ([], refl, follows_nothing before after book tables)

  pub other_clear : (address : List ℕ) (a : Answer) → IsOther a → FollowsCommand before (Clear address) a after
  other_clear address answer.Done other = absurd other
  other_clear address a other = ([], refl, follows_nothing before after book tables)

  pub other_name : (sheet name text : List ℕ) (a : Answer) → IsOther a → FollowsCommand before (Name sheet name text) a after
  other_name sheet name text answer.Done other = absurd other
  other_name sheet name text a other = ([], refl, follows_nothing before after book tables)

  pub other_unname : (sheet name : List ℕ) (a : Answer) → IsOther a → FollowsCommand before (Unname sheet name) a after
  other_unname sheet name answer.Done other = absurd other
  other_unname sheet name a other = ([], refl, follows_nothing before after book tables)

  other_edit : (cell : Cell) (a : Answer) → IsOther a → FollowsEdit cell a before after
  other_edit cell answer.Done other = absurd other
  other_edit cell a other = has_followed before after (all_forms before.tables) book (ap all_forms tables)

  -- by a fault of the workbook
  pub edit_refused : {E : Type 0} (cell : Cell) (f : EditFault) (r : Result Answer E) → IfOk r (λ a. a ≡ refused f) → IfOk r (λ a. FollowsEdit cell a before after)
  edit_refused cell f r told =
      if_ok_map r (λ (a : Answer). a ≡ refused f) (λ (a : Answer). FollowsEdit cell a before after)
      (λ a e. subst (λ (a : Answer). FollowsEdit cell a before after) (sym e) (other_edit cell (refused f) (refused_other f))) told

  pub name_refused : {E : Type 0} (sheet name text : List ℕ) (f : EditFault) (r : Result Answer E) → IfOk r (λ a. a ≡ refused f) → IfOk r (λ a. FollowsCommand before (Name sheet name text) a after)
  name_refused sheet name text f r told =
      if_ok_map r (λ (a : Answer). a ≡ refused f) (λ (a : Answer). FollowsCommand before (Name sheet name text) a after)
      (λ a e. subst (λ (a : Answer). FollowsCommand before (Name sheet name text) a after) (sym e) (other_name sheet name text (refused f) (refused_other f))) told

  pub unname_refused : {E : Type 0} (sheet name : List ℕ) (f : EditFault) (r : Result Answer E) → IfOk r (λ a. a ≡ refused f) → IfOk r (λ a. FollowsCommand before (Unname sheet name) a after)
  unname_refused sheet name f r told =
      if_ok_map r (λ (a : Answer). a ≡ refused f) (λ (a : Answer). FollowsCommand before (Unname sheet name) a after)
      (λ a e. subst (λ (a : Answer). FollowsCommand before (Unname sheet name) a after) (sym e) (other_unname sheet name (refused f) (refused_other f))) told

-- ---- where it is done
pub once_put : (before after : Session) (cell : Cell) (text : List ℕ) → after.state.book ≡ after_set before.state.book cell text → AreMarked (cell ∷ []) (kept_state before) (kept_state after)
    → HasFollowed (cell ∷ []) (all_forms before.tables) before after
once_put before after cell text book marked = record { differ = once_set before.state.book after.state.book cell text book; marked = marked }

pub set_follows : (before after : Session) (address text : List ℕ) (cell : Cell) (a : Answer) → cell_named before.state.book.sheets address ≡ Ok cell → FollowsEdit cell a before after
    → FollowsCommand before (Set address text) a after
set_follows before after address text cell answer.Done named h = (cell ∷ [], (cell, named, refl), h)
set_follows before after address text cell a named h = ([], refl, h)

pub clear_follows : (before after : Session) (address : List ℕ) (cell : Cell) → cell_named before.state.book.sheets address ≡ Ok cell → HasFollowed (cell ∷ []) (all_forms before.tables) before after
    → FollowsCommand before (Clear address) answer.Done after
clear_follows before after address cell named h = (cell ∷ [], (cell, named, refl), h)

pub once_told : (before after : Session) (cells : List Cell) → SayOtherwise before.state.book after.state.book cells → AreMarked cells (kept_state before) (kept_state after)
    → HasFollowed cells (all_forms before.tables) before after
once_told before after cells say marked = record { differ = once_named before.state.book after.state.book cells say; marked = marked }

pub name_follows : (before after : Session) (sheet name text : List ℕ) (cells : List Cell) → SayOtherwise before.state.book after.state.book cells → AreMarked cells (kept_state before) (kept_state after)
    → FollowsCommand before (Name sheet name text) answer.Done after
name_follows before after sheet name text cells say marked = (cells, say, once_told before after cells say marked)

pub unname_follows : (before after : Session) (sheet name : List ℕ) (cells : List Cell) → SayOtherwise before.state.book after.state.book cells → AreMarked cells (kept_state before) (kept_state after)
    → FollowsCommand before (Unname sheet name) answer.Done after
unname_follows before after sheet name cells say marked = (cells, say, once_told before after cells say marked)
